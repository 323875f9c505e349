-- Literals of a trail, and whether a literal is one of them.
use Rattle.std.proofs.Common.{◌≡◌, ◌∙◌, ℕ, ◌+◌, ◌-◌, ◌*◌, ◌/◌, ◌%◌, ◌<◌, ◌≤◌, List, [], ◌∷◌, length, ap, subst, sym, inl, inr, arith, get_or}
use Rattle.std.specs.Prelude.{◌⊎◌, Contains}
use Rattle.std.proofs.lemmas.Bool.{cases_eq, cases_lt}
use Rattle.std.proofs.lemmas.List.{get_or-map, length-map, get_or_default}
use Rattle.std.proofs.lemmas.List.Elements.{Contains-get_or}
use Rattle.sat_base.specs.Lit.{opposite}
use Rattle.clause_arena.specs.Arena.{ArenaClause, clause_at}
use Rattle.trail_core.specs.Trail.{Entry, TrailView, IsTrail, no_entry, entry_at, lits_of}
use Rattle.trail_core.specs.UnderTrail.{IsTrueLit, IsFalseLit}
use Rattle.watch_ring.proofs.Lists.{here, there, split}
use Rattle.propagate.specs.Pairing.{IsTrueUpTo, watched, other_side}
use Rattle.propagate.specs.Places.{AreFalseBetween}

pub member : (xs : List ℕ) (x : ℕ) → Contains xs x ⊎ (Contains xs x → ⊥)
member [] x = inr (λ c. absurd (omega (arith, c.1)))
member (y ∷ xs) x = at (cases_eq y x) (member xs x)
  where
    none : (y ≡ x → ⊥) → (Contains xs x → ⊥) → (y ≡ x) ⊎ Contains xs x → ⊥
    none n m (inl e) = n e
    none n m (inr c) = m c

    at : (y ≡ x) ⊎ (y ≡ x → ⊥) → Contains xs x ⊎ (Contains xs x → ⊥) → Contains (y ∷ xs) x ⊎ (Contains (y ∷ xs) x → ⊥)
    at (inl e) _ = inl (subst (Contains (y ∷ xs)) e (here y xs))
    at (inr n) (inl c) = inl (there y x xs c)
    at (inr n) (inr m) = inr (λ c. none n m (split y x xs c))

-- the entry of a true literal
pub record IsEntryOf (entries : List Entry) (lit : ℕ) : Type 0 where
  pub place : ℕ
  pub within : place < length entries
  pub is : (entry_at entries place).lit ≡ lit

pub entry_of : (entries : List Entry) (lit : ℕ) → Contains (lits_of entries) lit → IsEntryOf entries lit
entry_of entries lit c =
    let lit_in : Entry → ℕ = λ e. e.lit in
    let within : c.0 < length entries = omega (arith, c.1, length-map entries lit_in) in
    record {
      place = c.0;
      within = within;
      is = sym (get_or-map lit_in entries c.0 no_entry 0 within) ∙ get_or_default (lits_of entries) c.0 0 lit c.1 ∙ c.2;
    }

pub entry_in : (entries : List Entry) (place : ℕ) → place < length entries → Contains (lits_of entries) (entry_at entries place).lit
entry_in entries place lt =
    let lit_in : Entry → ℕ = λ e. e.lit in
    subst (Contains (lits_of entries)) (get_or-map lit_in entries place no_entry 0 lt)
    (Contains-get_or (lits_of entries) place 0 (omega (arith, lt, length-map entries lit_in)))

pub false_at : (entries : List Entry) (place lit : ℕ) → place < length entries → (entry_at entries place).lit ≡ opposite lit → IsFalseLit (lits_of entries) lit
false_at entries place lit lt is = record { stands = subst (Contains (lits_of entries)) is (entry_in entries place lt) }

pub true_up : (trail : TrailView) (lit : ℕ) → IsTrail trail → IsTrueLit (lits_of trail.entries) lit → IsTrueUpTo trail.entries lit trail.depth
true_up trail lit t is_true =
    let e = entry_of trail.entries lit is_true.stands in
    record { place = e.place; within = e.within; is = e.is; no_later = t.below e.place no_entry e.within }

pub up_true : (entries : List Entry) (lit level : ℕ) → IsTrueUpTo entries lit level → IsTrueLit (lits_of entries) lit
up_true entries lit level t = record { stands = subst (Contains (lits_of entries)) t.is (entry_in entries t.place t.within) }

-- the watched literals of a clause
pub watched_is : (clauses : List ArenaClause) (id side : ℕ) → side < 2 → watched clauses (2 * id + side) ≡ get_or (clause_at clauses id).lits side 0
watched_is clauses id side lt =
    let i : (2 * id + side) / 2 ≡ id = omega arith in
    let s : (2 * id + side) % 2 ≡ side = omega arith in
    ap (λ n. get_or (clause_at clauses n).lits ((2 * id + side) % 2) 0) i
    ∙ ap (λ n. get_or (clause_at clauses id).lits n 0) s

pub other_is : (id side : ℕ) → side < 2 → other_side (2 * id + side) ≡ 2 * id + (1 - side)
other_is id side lt = omega arith

pub watched_other : (clauses : List ArenaClause) (id side : ℕ) → side < 2 → watched clauses (other_side (2 * id + side)) ≡ get_or (clause_at clauses id).lits (1 - side) 0
watched_other clauses id side lt = ap (watched clauses) (other_is id side lt) ∙ watched_is clauses id (1 - side) (omega arith)

-- one more literal that is false
pub false_more : (trues lits : List ℕ) (from to : ℕ) → AreFalseBetween trues lits from to → IsFalseLit trues (get_or lits to 0) → AreFalseBetween trues lits from (to + 1)
false_more trues lits from to old new = record { each = λ k ge lt. at k ge lt (cases_lt k to) }
  where
    at : (k : ℕ) → from ≤ k → k < to + 1 → (k < to) ⊎ (to ≤ k) → IsFalseLit trues (get_or lits k 0)
    at k ge lt (inl l) = old.each k ge l
    at k ge lt (inr g) = let e : to ≡ k = omega arith in subst (λ n. IsFalseLit trues (get_or lits n 0)) e new
