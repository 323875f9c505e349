-- How many of the places seen are of the present level and below a bound.
use Rattle.std.proofs.Common.{◌≡◌, ◌∙◌, ℕ, ◌+◌, ◌<◌, ◌≤◌, List, [], ◌∷◌, cond, Bool, true, false, refl, ap, subst, sym, inl, inr, arith, true≢false}
use Rattle.std.specs.Prelude.{Contains, ◌⊎◌, ◌==◌, ◌&&◌, nat_lt}
use Rattle.std.proofs.lemmas.Bool.{cases_lt, lt-ltb, le-ltb, eq-eqb}
use Rattle.sat_base.proofs.Members.{Contains-cases}
use Rattle.trail_core.specs.Trail.{Entry}
use Rattle.analyze.specs.Graph.{level_at}
use Rattle.analyze.specs.Seen.{open_at, open_below}

-- a greater bound counts no less
open_at_grows : (entries : List Entry) (level low high place : ℕ) → low ≤ high → open_at entries level low place ≤ open_at entries level high place
open_at_grows entries level low high place le = by_place (cases_lt place low)
  where
    right : (b : Bool) → cond (b && (level_at entries place == level)) 1 0 ≤ cond (level_at entries place == level) 1 0
    right true = omega arith
    right false = any (level_at entries place == level)
      where
        any : (c : Bool) → 0 ≤ cond c 1 0
        any c = omega arith

    by_place : (place < low) ⊎ (low ≤ place) → open_at entries level low place ≤ open_at entries level high place
    by_place (inl lt) = subst (λ b. open_at entries level low place ≤ cond (b && (level_at entries place == level)) 1 0) (sym (lt-ltb place high (omega arith))) (right (nat_lt place low))
    by_place (inr ge) = subst (λ b. cond (b && (level_at entries place == level)) 1 0 ≤ open_at entries level high place) (sym (le-ltb place low ge)) (omega arith)

pub open_grows : (entries : List Entry) (level low high : ℕ) (places : List ℕ) → low ≤ high → open_below entries level low places ≤ open_below entries level high places
open_grows entries level low high [] le = omega arith
open_grows entries level low high (place ∷ places) le = let h = open_grows entries level low high places le in omega (arith, open_at_grows entries level low high place le)

counts_one : (entries : List Entry) (level bound place : ℕ) → place < bound → level_at entries place ≡ level → open_at entries level bound place ≡ 1
counts_one entries level bound place lt is = both (nat_lt place bound) (level_at entries place == level) 1 0 (lt-ltb place bound lt) (eq-eqb (level_at entries place) level is)
  where
    both : (b c : Bool) (x y : ℕ) → b ≡ true → c ≡ true → cond (b && c) x y ≡ x
    both true true x y p q = refl
    both true false x y p q = absurd (true≢false (sym q))
    both false c x y p q = absurd (true≢false (sym p))

counts_none : (entries : List Entry) (level bound place : ℕ) → bound ≤ place → open_at entries level bound place ≡ 0
counts_none entries level bound place le = ap (λ b. cond (b && (level_at entries place == level)) 1 0) (le-ltb place bound le)

-- a place of the level is counted at the next bound, and not at its own
pub open_next : (entries : List Entry) (level place : ℕ) (places : List ℕ) → Contains places place → level_at entries place ≡ level → open_below entries level place places + 1 ≤ open_below entries level (place + 1) places
open_next entries level place [] has is = absurd (omega (arith, has.1))
open_next entries level place (first ∷ places) has is = by_place (Contains-cases first place places has) (λ later. open_next entries level place places later is)
  where
    by_place : (first ≡ place) ⊎ Contains places place → (Contains places place → open_below entries level place places + 1 ≤ open_below entries level (place + 1) places)
        → open_at entries level place first + open_below entries level place places + 1 ≤ open_at entries level (place + 1) first + open_below entries level (place + 1) places
    by_place (inl same) rest =
        let none : open_at entries level place first ≡ 0 = counts_none entries level place first (omega arith) in
        let one : open_at entries level (place + 1) first ≡ 1 = counts_one entries level (place + 1) first (omega arith) (ap (level_at entries) same ∙ is) in
        omega (arith, open_grows entries level place (place + 1) places (omega arith))
    by_place (inr later) rest = omega (arith, rest later, open_at_grows entries level place (place + 1) first (omega arith))

pub open_one : (entries : List Entry) (level bound place : ℕ) (places : List ℕ) → Contains places place → place < bound → level_at entries place ≡ level → 1 ≤ open_below entries level bound places
open_one entries level bound place places has lt is = omega (arith, open_next entries level place places has is, open_grows entries level (place + 1) bound places (omega arith))
