-- What the literals of a clause say of it.
use Rattle.std.proofs.Common.{◌≡◌, ◌∙◌, ℕ, ◌<◌, List, length, subst, sym, inl, inr, arith, get_or}
use Rattle.std.specs.Prelude.{◌⊎◌, Contains}
use Rattle.std.proofs.lemmas.Bool.{cases_eq}
use Rattle.std.proofs.lemmas.List.Elements.{All-contains, Contains-get_or}
use Rattle.sat_base.specs.Lit.{opposite}
use Rattle.clause_arena.specs.Arena.{HasNoRepeat}
use Rattle.trail_core.specs.UnderTrail.{IsTrueLit, IsFalseLit, IsUnassigned, IsUnitClause, IsOpenClause}

-- no literal is true and false
abbrev pub IsConsistent : List ℕ → Type 0
IsConsistent trues = (lit : ℕ) → Contains trues lit → Contains trues (opposite lit) → ⊥

pub open_by_true : (trues lits : List ℕ) (lit : ℕ) → IsConsistent trues → Contains lits lit → IsTrueLit trues lit → IsOpenClause trues lits
open_by_true trues lits lit consistent stands is_true = record {
  not_false = λ all. never (All-contains (IsFalseLit trues) lits lit all.each stands);
  not_unit = λ unit_lit unit. at unit_lit unit (cases_eq lit unit_lit);
}
  where
    never : IsFalseLit trues lit → ⊥
    never f = consistent lit is_true.stands f.stands

    at : (m : ℕ) → IsUnitClause trues lits m → (lit ≡ m) ⊎ (lit ≡ m → ⊥) → ⊥
    at m unit (inl e) = unit.free.not_true (subst (IsTrueLit trues) e is_true)
    at m unit (inr n) = never (unit.rest.others lit stands n)

pub open_by_two : (trues lits : List ℕ) (p q : ℕ) → HasNoRepeat lits → p < q → q < length lits → IsUnassigned trues (get_or lits p 0) → IsUnassigned trues (get_or lits q 0) → IsOpenClause trues lits
open_by_two trues lits p q distinct before within first second = record {
  not_false = λ all. first.not_false (all.each p 0 (omega arith));
  not_unit = λ m unit. at m unit (cases_eq (get_or lits p 0) m);
}
  where
    differ : get_or lits p 0 ≡ get_or lits q 0 → ⊥
    differ e = let same : p ≡ q = distinct.each p q (omega arith) within e in omega arith

    at : (m : ℕ) → IsUnitClause trues lits m → (get_or lits p 0 ≡ m) ⊎ (get_or lits p 0 ≡ m → ⊥) → ⊥
    at m unit (inl e) = second.not_false (unit.rest.others (get_or lits q 0) (Contains-get_or lits q 0 within) (λ f. differ (e ∙ sym f)))
    at m unit (inr n) = first.not_false (unit.rest.others (get_or lits p 0) (Contains-get_or lits p 0 (omega arith)) n)
