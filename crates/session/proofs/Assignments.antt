-- Values from a trail, variable by variable.
use Rattle.std.proofs.Common.{◌≡◌, ◌≢◌, ℕ, ◌+◌, ◌-◌, ◌*◌, ◌%◌, ◌<◌, ◌≤◌, List, [], ◌∷◌, ◌++◌}
use Rattle.std.proofs.Common.{length, Bool, true, false, refl, sym, subst, inl, inr, arith}
use Rattle.std.specs.Prelude.{◌⊎◌, not, Contains, IsTrue, MatchBool, cond}
use Rattle.std.proofs.lemmas.Bool.{cases_lt, cases_eq}
use Rattle.std.proofs.lemmas.Bool.Decides.{nat_tests}
use Rattle.std.proofs.lemmas.List.{length_push, get_or_push, get_or_append_left}
use Rattle.sat_base.specs.Lit.{IsLit, variable, is_negative}
use Rattle.sat_base.specs.Truth.{value_of, lit_true}
use Rattle.trail_core.specs.Trail.{TrailView, IsTrail, lits_of}
use Rattle.trail_core.specs.UnderTrail.{IsTrueLit}
use Rattle.session.specs.Models.{IsAssignmentOf}

-- each of the first variables has a value that its true literal doesn't contradict
pub record AreGiven (trues : List ℕ) (values : List Bool) (next : ℕ) : Type 0 where
  pub size : length values + 1 ≡ next
  pub each : (var : ℕ) → 1 ≤ var → var < next → MatchBool (value_of values var)
      (Contains trues (2 * var + 1) → ⊥) (Contains trues (2 * var) → ⊥)

pub none_given : (trues : List ℕ) → AreGiven trues [] 1
none_given trues = record { size = refl; each = λ var low lt. absurd (omega (arith, low, lt)) }

pub one_given : (trail : TrailView) (values : List Bool) (next lit : ℕ) (value : Bool)
    → IsTrail trail → AreGiven (lits_of trail.entries) values next → lit ≡ 2 * next
    → MatchBool value (IsTrueLit (lits_of trail.entries) lit)
    (IsTrueLit (lits_of trail.entries) lit → ⊥)
    → AreGiven (lits_of trail.entries) (values ++ value ∷ []) (next + 1)
one_given trail values next lit value is given lit_is has = record {
  size = omega (arith, given.size, length_push values value);
  each = λ var low lt. at var low lt (cases_lt var next);
}
  where
    trues : List ℕ
    trues = lits_of trail.entries

    here : (v : Bool) → MatchBool v (IsTrueLit trues lit) (IsTrueLit trues lit → ⊥)
        → MatchBool v (Contains trues (2 * next + 1) → ⊥) (Contains trues (2 * next) → ⊥)
    here true h = λ other. is.consistent lit h.stands
        (subst (Contains trues) (omega (arith, lit_is)) other)
    here false h = λ same. h (record { stands = subst (Contains trues) (sym lit_is) same })

    at : (var : ℕ) → 1 ≤ var → var < next + 1 → (var < next) ⊎ (next ≤ var)
        → MatchBool (value_of (values ++ value ∷ []) var) (Contains trues (2 * var + 1) → ⊥)
        (Contains trues (2 * var) → ⊥)
    at var low lt (inl before) =
        subst (λ v. MatchBool v (Contains trues (2 * var + 1) → ⊥) (Contains trues (2 * var) → ⊥))
        (sym (get_or_append_left values (value ∷ []) false (var - 1)
        (omega (arith, low, before, given.size)))) (given.each var low before)
    at var low lt (inr last) =
        let same : next ≡ var = omega (arith, lt, last) in
        subst (λ n. MatchBool (value_of (values ++ value ∷ []) n) (Contains trues (2 * n + 1) → ⊥)
        (Contains trues (2 * n) → ⊥)) same
        (subst (λ v. MatchBool v (Contains trues (2 * next + 1) → ⊥)
        (Contains trues (2 * next) → ⊥)) (sym (get_or_push values value false (next - 1)
        (omega (arith, given.size)))) (here value has))

pub all_given : (trues : List ℕ) (values : List Bool) (next vars : ℕ) → AreGiven trues values next
    → vars + 1 ≡ next → IsAssignmentOf trues vars values
all_given trues values next vars given all = record {
  size = omega (arith, given.size, all);
  agrees = λ lit is within has. at lit is within has (cases_eq (lit % 2) 1);
}
  where
    by_value : (lit : ℕ) (v : Bool) → MatchBool v (Contains trues (2 * variable lit + 1) → ⊥)
        (Contains trues (2 * variable lit) → ⊥) → (negative : Bool)
        → (negative ≡ true → lit ≡ 2 * variable lit + 1)
        → (negative ≡ false → lit ≡ 2 * variable lit) → Contains trues lit
        → IsTrue (cond negative (not v) v)
    by_value lit true h true odd even has = absurd (h (subst (Contains trues) (odd refl) has))
    by_value lit true h false odd even has = refl
    by_value lit false h true odd even has = refl
    by_value lit false h false odd even has = absurd (h (subst (Contains trues) (even refl) has))

    at : (lit : ℕ) → IsLit lit → variable lit ≤ vars → Contains trues lit
        → (lit % 2 ≡ 1) ⊎ (lit % 2 ≡ 1 → ⊥) → IsTrue (lit_true values lit)
    at lit is within has _ =
        by_value lit (value_of values (variable lit))
        (given.each (variable lit) (omega (arith, is.not_zero)) (omega (arith, within, all)))
        (is_negative lit)
        (λ e. (let odd : lit % 2 ≡ 1 = grind (arith, nat_tests, e) in omega (arith, odd)))
        (λ e. (let even : lit % 2 ≢ 1 = λ one. (grind (arith, nat_tests, e, one)) in omega
        (arith, even))) has
