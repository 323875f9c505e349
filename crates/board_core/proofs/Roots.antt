-- The root of a tree whose matches are all won has the first entrant.
use Rattle.std.proofs.Common.{◌≡◌, ◌∙◌, ℕ, zero, suc, ◌+◌, ◌-◌, ◌*◌, ◌/◌, ◌<◌, ◌≤◌, List, length, Option, None, Some, All, Bool, refl, ap, subst, sym, inl, inr, arith, get_or, true, false}
use Rattle.std.specs.Prelude.{◌⊎◌, Contains}
use Rattle.std.proofs.lemmas.Bool.{cases_lt, cases_eq}
use Rattle.std.proofs.lemmas.Bool.Decides.{nat_tests}
use Rattle.std.proofs.lemmas.List.Elements.{Contains-get_or, All-get_or, All-from_get_or, All-contains}
use Rattle.std.proofs.Math.ListN.{get_or-eq_default}
use Rattle.tournament.specs.declared.rank.Rank.{Rank}
use Rattle.tournament.specs.Rank.{earlier_of, goes_before, IsFirst}
use Rattle.tournament.specs.Tree.{standing_at, AreWonBut, IsPlayed}
use Rattle.tournament.proofs.Matches.{leaf}

-- the other doesn't go before the first
abbrev pub IsNotBeaten : Option Rank → Option Rank → Type 0
IsNotBeaten first None = Unit {0}
IsNotBeaten None (Some rival) = ⊥
IsNotBeaten (Some rank) (Some rival) = goes_before rival rank ≡ false

itself : (x : Option Rank) → IsNotBeaten x x
itself None = tt
itself (Some r) = grind (arith, nat_tests)

through : (x y z : Option Rank) → IsNotBeaten x y → IsNotBeaten y z → IsNotBeaten x z
through x y None a b = tt
through x None (Some t) a b = absurd b
through None (Some s) (Some t) a b = absurd a
through (Some r) (Some s) (Some t) a b = grind (arith, nat_tests)

beats_left : (x y : Option Rank) → IsNotBeaten (earlier_of x y) x
beats_left None y = tt
beats_left (Some r) None = itself (Some r)
beats_left (Some r) (Some s) = at (goes_before s r) refl
  where
    at : (b : Bool) → goes_before s r ≡ b → IsNotBeaten (earlier_of (Some r) (Some s)) (Some r)
    at true e = grind (arith, nat_tests)
    at false e = grind (arith, nat_tests)

beats_right : (x y : Option Rank) → IsNotBeaten (earlier_of x y) y
beats_right None y = itself y
beats_right (Some r) None = tt
beats_right (Some r) (Some s) = at (goes_before s r) refl
  where
    at : (b : Bool) → goes_before s r ≡ b → IsNotBeaten (earlier_of (Some r) (Some s)) (Some s)
    at true e = grind (arith, nat_tests)
    at false e = grind (arith, nat_tests)

one_of : (x y : Option Rank) (r : Rank) → earlier_of x y ≡ Some r → (x ≡ Some r) ⊎ (y ≡ Some r)
one_of None y r e = inr e
one_of (Some s) None r e = inl e
one_of (Some s) (Some t) r e = at (goes_before t s) refl
  where
    at : (b : Bool) → goes_before t s ≡ b → (Some s ≡ Some r) ⊎ (Some t ≡ Some r)
    at true is = inr (grind (arith, is, e))
    at false is = inl (grind (arith, is, e))

step_left : (es ws : List (Option Rank)) (node : ℕ) → AreWonBut es ws 1 0 → 1 ≤ node → node < length ws → IsNotBeaten (standing_at es ws node) (standing_at es ws (2 * node))
step_left es ws node won pos lt =
    subst (λ x. IsNotBeaten x (standing_at es ws (2 * node))) (sym (won.won node pos lt (λ e. omega (arith, pos, e))))
    (beats_left (standing_at es ws (2 * node)) (standing_at es ws (2 * node + 1)))

step_right : (es ws : List (Option Rank)) (node : ℕ) → AreWonBut es ws 1 0 → 1 ≤ node → node < length ws → IsNotBeaten (standing_at es ws node) (standing_at es ws (2 * node + 1))
step_right es ws node won pos lt =
    subst (λ x. IsNotBeaten x (standing_at es ws (2 * node + 1))) (sym (won.won node pos lt (λ e. omega (arith, pos, e))))
    (beats_right (standing_at es ws (2 * node)) (standing_at es ws (2 * node + 1)))

-- up from a child: it is the left or the right one
step_up : (es ws : List (Option Rank)) (node : ℕ) → AreWonBut es ws 1 0 → 2 ≤ node → node < 2 * length ws → IsNotBeaten (standing_at es ws (node / 2)) (standing_at es ws node)
step_up es ws node won low high = at (cases_eq node (2 * (node / 2)))
  where
    at : (node ≡ 2 * (node / 2)) ⊎ (node ≡ 2 * (node / 2) → ⊥) → IsNotBeaten (standing_at es ws (node / 2)) (standing_at es ws node)
    at (inl e) = subst (λ n. IsNotBeaten (standing_at es ws (node / 2)) (standing_at es ws n)) (sym e) (step_left es ws (node / 2) won (omega (arith, low)) (omega (arith, high)))
    at (inr n) =
        let e : node ≡ 2 * (node / 2) + 1 = omega (arith, n) in
        subst (λ n. IsNotBeaten (standing_at es ws (node / 2)) (standing_at es ws n)) (sym e) (step_right es ws (node / 2) won (omega (arith, low)) (omega (arith, high)))

root_unbeaten : (es ws : List (Option Rank)) → AreWonBut es ws 1 0 → (fuel node : ℕ) → node ≤ fuel → 1 ≤ node → node < 2 * length ws → IsNotBeaten (standing_at es ws 1) (standing_at es ws node)
root_unbeaten es ws won zero node within low high = absurd (omega (arith, within, low))
root_unbeaten es ws won (suc fuel) node within low high = at (cases_eq node 1) (root_unbeaten es ws won fuel (node / 2) (omega (arith, within, low)))
  where
    at : (node ≡ 1) ⊎ (node ≡ 1 → ⊥) → (1 ≤ node / 2 → node / 2 < 2 * length ws → IsNotBeaten (standing_at es ws 1) (standing_at es ws (node / 2))) → IsNotBeaten (standing_at es ws 1) (standing_at es ws node)
    at (inl e) _ = subst (λ n. IsNotBeaten (standing_at es ws 1) (standing_at es ws n)) (sym e) (itself (standing_at es ws 1))
    at (inr n) above =
        through (standing_at es ws 1) (standing_at es ws (node / 2)) (standing_at es ws node)
        (above (omega (arith, low, n)) (omega (arith, high)))
        (step_up es ws node won (omega (arith, low, n)) high)

-- a leaf with a rank is one of the entrants
entered_leaf : (es : List (Option Rank)) (place : ℕ) (rank : Rank) → get_or es place None ≡ Some rank → Contains es (Some rank)
entered_leaf es place rank is = at (cases_lt place (length es))
  where
    at : (place < length es) ⊎ (length es ≤ place) → Contains es (Some rank)
    at (inl lt) = subst (Contains es) is (Contains-get_or es place None lt)
    at (inr le) = let never : None ≡ Some rank = sym (get_or-eq_default es None le) ∙ is in absurd (grind (arith, never))

-- what stands at a node is one of the entrants
entered : (es ws : List (Option Rank)) → AreWonBut es ws 1 0 → (fuel node : ℕ) (rank : Rank) → length ws ≤ fuel + node → 1 ≤ node → standing_at es ws node ≡ Some rank → Contains es (Some rank)
entered es ws won zero node rank within low is = entered_leaf es (node - length ws) rank (sym (leaf es ws node (omega (arith, within))) ∙ is)
entered es ws won (suc fuel) node rank within low is =
    at (cases_lt node (length ws)) (λ child. entered es ws won fuel child rank)
  where
    at : (node < length ws) ⊎ (length ws ≤ node) → ((child : ℕ) → length ws ≤ fuel + child → 1 ≤ child → standing_at es ws child ≡ Some rank → Contains es (Some rank)) → Contains es (Some rank)
    at (inr le) _ = entered_leaf es (node - length ws) rank (sym (leaf es ws node le) ∙ is)
    at (inl lt) below = elim (one_of (standing_at es ws (2 * node)) (standing_at es ws (2 * node + 1)) rank (sym (won.won node low lt (λ e. omega (arith, low, e))) ∙ is)) [
      | inl e ↦ below (2 * node) (omega (arith, within, low)) (omega (arith, low)) e
      | inr e ↦ below (2 * node + 1) (omega (arith, within, low)) (omega (arith, low)) e
    ]

pub first_of_all : (es ws : List (Option Rank)) → IsPlayed es ws → (first : Option Rank) → first ≡ standing_at es ws 1 → IsFirst es first
first_of_all es ws played first is = at first is
  where
    unbeaten : All (λ entrant. IsNotBeaten (standing_at es ws 1) entrant) es
    unbeaten = All-from_get_or (λ entrant. IsNotBeaten (standing_at es ws 1) entrant) es None (λ place within.
        let node = length ws + place in
        let is_leaf : standing_at es ws node ≡ get_or es place None = leaf es ws node (omega arith) ∙ ap (λ n. get_or es n None) (omega arith) in
        subst (IsNotBeaten (standing_at es ws 1)) is_leaf (root_unbeaten es ws played.won node node (omega arith) (omega (arith, within, played.room)) (omega (arith, within, played.room))))

    none_waits : (x : Option Rank) → IsNotBeaten None x → x ≡ None
    none_waits None _ = refl
    none_waits (Some rival) never = absurd never

    at : (first : Option Rank) → first ≡ standing_at es ws 1 → IsFirst es first
    at None is = All-from_get_or (λ entrant. entrant ≡ None) es None (λ place within.
        none_waits (get_or es place None) (subst (λ x. IsNotBeaten x (get_or es place None)) (sym is) (All-get_or (λ entrant. IsNotBeaten (standing_at es ws 1) entrant) es place None within unbeaten)))
    at (Some rank) is = record {
      entered = entered es ws played.won (length ws) 1 rank (omega arith) (omega arith) (sym is);
      before = λ rival has. subst (λ x. IsNotBeaten x (Some rival)) (sym is) (All-contains (λ entrant. IsNotBeaten (standing_at es ws 1) entrant) es (Some rival) unbeaten has);
    }
