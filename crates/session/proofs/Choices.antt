-- Which literal comes next.
use Rattle.std.proofs.Common.{◌≡◌, ◌∙◌, ℕ, ◌+◌, ◌<◌, ◌≤◌, List, length, take, Bool, true, false}
use Rattle.std.proofs.Common.{Option, None, Some, refl, ap, sym, subst, inl, inr, arith, get_or}
use Rattle.std.specs.Prelude.{◌⊎◌, All, Contains, MatchBool, is_some}
use Rattle.std.proofs.lemmas.Bool.{cases_lt, cases_eq}
use Rattle.std.proofs.lemmas.List.Elements.{All-contains, All-more}
use Rattle.std.proofs.lemmas.List.{take_all}
use Rattle.sat_base.specs.Lit.{IsLit, variable, opposite}
use Rattle.sat_base.proofs.Opposite.{opposite-opposite}
use Rattle.trail_core.specs.Trail.{TrailView, IsTrail, lits_of}
use Rattle.trail_core.specs.UnderTrail.{IsTrueLit, IsUnassigned}
use Rattle.trail_core.specs.Truth.{HasTruth, truth_of}
use Rattle.session.specs.OnTrail.{IsCubeTrue}

-- a truth value decides
pub value_decides : (trail : TrailView) (lit : ℕ) (value : Bool) → IsTrail trail
    → HasTruth (lits_of trail.entries) lit (truth_of (Some value))
    → MatchBool value (IsTrueLit (lits_of trail.entries) lit)
    (IsTrueLit (lits_of trail.entries) lit → ⊥)
value_decides trail lit true is has = has
value_decides trail lit false is has = λ holds. is.consistent lit holds.stands has.stands

pub free_decides : (trues : List ℕ) (lit : ℕ) (value : Option Bool) → value ≡ None
    → HasTruth trues lit (truth_of value) → IsUnassigned trues lit
free_decides trues lit None is has = has
free_decides trues lit (Some v) is has = absurd (cc)

pub more_true : (trues lits : List ℕ) (i lit : ℕ) → i < length lits → lit ≡ get_or lits i lit
    → All (Contains trues) (take i lits) → IsTrueLit trues lit
    → All (Contains trues) (take (i + 1) lits)
more_true trues lits i lit lt is all one = All-more (Contains trues) lits i lit lt all
    (subst (Contains trues) is one.stands)

pub cube_true_from : (trues read cube : List ℕ) (i : ℕ) → read ≡ cube → length read ≤ i
    → All (Contains trues) (take i read) → IsCubeTrue trues cube
cube_true_from trues read cube i is le all lit has =
    All-contains (Contains trues) read lit (subst (λ (xs : List ℕ). All (Contains trues) xs)
    (take_all i read le) all) (subst (λ (xs : List ℕ). Contains xs lit) (sym is) has)

-- both literals of a variable are assigned, or none is
pub same_variable : (trues : List ℕ) (lit other : ℕ) → variable lit ≡ variable other
    → IsUnassigned trues lit → IsUnassigned trues other
same_variable trues lit other same free = at (cases_eq lit other)
  where
    at : (lit ≡ other) ⊎ (lit ≡ other → ⊥) → IsUnassigned trues other
    at (inl is) = subst (IsUnassigned trues) is free
    at (inr differs) =
        let flip : opposite lit ≡ other = omega (arith, same, differs) in
        let back : opposite other ≡ lit = ap opposite (sym flip) ∙ opposite-opposite lit in
        record {
          not_true = λ holds. free.not_false (record {
            stands = subst (Contains trues)
                (sym flip) holds.stands;
          });
          not_false = λ fails. free.not_true (record {
            stands = subst
                (Contains trues) back fails.stands;
          });
        }

pub assigned_by : (trues : List ℕ) (lit : ℕ) (value : Option Bool) → (value ≡ None → ⊥)
    → HasTruth trues lit (truth_of value) → IsUnassigned trues lit → ⊥
assigned_by trues lit None some has free = some refl
assigned_by trues lit (Some true) some has free = free.not_true has
assigned_by trues lit (Some false) some has free = free.not_false has

-- one more variable is assigned
pub assigned_more : (trues : List ℕ) (first var lit : ℕ) (value : Option Bool)
    → ((other : ℕ) → IsLit other → first ≤ variable other → variable other < var
    → IsUnassigned trues other → ⊥) → variable lit ≡ var → (value ≡ None → ⊥)
    → HasTruth trues lit (truth_of value)
    → (other : ℕ) → IsLit other → first ≤ variable other → variable other < var + 1
    → IsUnassigned trues other → ⊥
assigned_more trues first var lit value below is some has other other_is low lt free = at
    (cases_lt (variable other) var)
  where
    at : (variable other < var) ⊎ (var ≤ variable other) → ⊥
    at (inl less) = below other other_is low less free
    at (inr here) = assigned_by trues lit value some has
        (same_variable trues other lit (omega (arith, here, lt, is)) free)

pub some_value : (value : Option Bool) → is_some value ≡ true → value ≡ None → ⊥
some_value None some is = absurd (cc)
some_value (Some v) some is = absurd (cc)

pub assigned_more_lits : (trues lits : List ℕ) (i lit : ℕ) (value : Option Bool) → i < length lits
    → lit ≡ get_or lits i lit → All (λ x. IsUnassigned trues x → ⊥) (take i lits)
    → (value ≡ None → ⊥) → HasTruth trues lit (truth_of value)
    → All (λ x. IsUnassigned trues x → ⊥) (take (i + 1) lits)
assigned_more_lits trues lits i lit value lt is all some has = All-more
    (λ x. IsUnassigned trues x → ⊥) lits i lit lt all
    (subst (λ x. IsUnassigned trues x → ⊥) is (assigned_by trues lit value some has))

pub all_assigned : (trues read lits : List ℕ) (i : ℕ) → read ≡ lits → length read ≤ i
    → All (λ x. IsUnassigned trues x → ⊥) (take i read) → (lit : ℕ) → Contains lits lit
    → IsUnassigned trues lit → ⊥
all_assigned trues read lits i is le all lit has =
    All-contains (λ x. IsUnassigned trues x → ⊥) read lit
    (subst (λ (xs : List ℕ). All (λ x. IsUnassigned trues x → ⊥) xs) (take_all i read le) all)
    (subst (λ (xs : List ℕ). Contains xs lit) (sym is) has)
