-- A scan decides whether a clause is unit under the literals that hold.
use Rattle.std.proofs.Common.{◌≡◌, ◌∙◌, ℕ, ◌<◌, List, [], ◌∷◌, ◌++◌, length, set, Bool, true, false, refl, ap, subst, sym, inl, inr}
use Rattle.std.specs.Prelude.{IsTrue, Contains, ◌⊎◌, ◌↔◌, MatchBool}
use Rattle.std.proofs.lemmas.Bool.{both_ways, cases_eq}
use Rattle.std.proofs.lemmas.List.Elements.{Contains-push, Contains-push_cases, Contains-append_left}
use Rattle.sat_base.specs.Lit.{opposite}
use Rattle.trace_core.specs.Propagation.{IsUnit}
use Rattle.trace_core.specs.Marking.{holds, is_held_mark, Agree, IsFound}
use Rattle.trace_core.proofs.MarkLemmas.{mark_written, mark_other}
use Rattle.trace_core.specs.declared.marks.Mark.{Mark}
use Rattle.trace_core.specs.declared.marks.Found.{Found}
use Rattle.trace_core.specs.declared.marks.Found.TheVariants.{Nothing, One, More}

pub agree_kept : (marks marks' : List Mark) (lits : List ℕ) → Agree marks lits → ((lit : ℕ) → holds marks' lit ≡ holds marks lit) → Agree marks' lits
agree_kept marks marks' lits agree same = λ lit. (λ h. (agree lit).0 (sym (same lit) ∙ h), λ h. same lit ∙ (agree lit).1 h)

-- one more literal holds
pub agree_added : (marks : List Mark) (lits : List ℕ) (lit : ℕ) (mark : Mark) → Agree marks lits → lit < length marks → IsTrue (is_held_mark mark) → Agree (set marks lit mark) (lits ++ lit ∷ [])
agree_added marks lits lit mark agree lt held = λ other. by_literal other (cases_eq other lit)
  where
    by_literal : (other : ℕ) → (other ≡ lit) ⊎ (other ≡ lit → ⊥) → IsTrue (holds (set marks lit mark) other) ↔ Contains (lits ++ lit ∷ []) other
    by_literal other (inl same) = (
      λ _. subst (Contains (lits ++ lit ∷ [])) (sym same) (Contains-push lits lit),
      λ _. ap (holds (set marks lit mark)) same ∙ ap is_held_mark (mark_written marks lit mark lt) ∙ held,
    )
    by_literal other (inr differs) = (
      λ h. Contains-append_left lits (lit ∷ []) other ((agree other).0 (sym (ap is_held_mark (mark_other marks lit other mark differs)) ∙ h)),
      λ h. ap is_held_mark (mark_other marks lit other mark differs) ∙ (agree other).1 (before other differs (Contains-push_cases lits lit other h)),
    )
      where
        before : (other : ℕ) → (other ≡ lit → ⊥) → Contains lits other ⊎ (lit ≡ other) → Contains lits other
        before other differs (inl h) = h
        before other differs (inr same) = absurd (differs (sym same))

-- a literal that isn't false is the one of a unit clause
only_one : (marks : List Mark) (lits clause : List ℕ) (lit z : ℕ) → Agree marks lits → IsUnit lits clause z → Contains clause lit → holds marks (opposite lit) ≡ false → lit ≡ z
only_one marks lits clause lit z agree unit stands free = either (cases_eq lit z)
  where
    either : (lit ≡ z) ⊎ (lit ≡ z → ⊥) → lit ≡ z
    either (inl same) = same
    either (inr differs) = absurd (both_ways (holds marks (opposite lit)) free ((agree (opposite lit)).1 (unit.others_false lit stands differs)))

-- a clause isn't unit where not exactly one of its literals isn't false
pub no_unit : (marks : List Mark) (lits clause : List ℕ) (found : Found) → ((lit : ℕ) → found ≡ One lit → ⊥) → IsFound marks clause found → Agree marks lits → (z : ℕ) → IsUnit lits clause z → ⊥
no_unit marks lits clause Nothing not_one is agree z unit = unit.not_false ((agree (opposite z)).0 (is z unit.stands))
no_unit marks lits clause (One lit) not_one is agree z unit = not_one lit refl
no_unit marks lits clause More not_one is agree z unit =
    is.2 (only_one marks lits clause is.1 z agree unit is.4 is.6 ∙ sym (only_one marks lits clause is.0 z agree unit is.3 is.5))

-- nor where that literal holds already
pub no_unit_held : (marks : List Mark) (lits clause : List ℕ) (lit : ℕ) → IsFound marks clause (One lit) → IsTrue (holds marks lit) → Agree marks lits → (z : ℕ) → IsUnit lits clause z → ⊥
no_unit_held marks lits clause lit is held agree z unit =
    unit.not_true (subst (Contains lits) (only_one marks lits clause lit z agree unit is.0 is.1) ((agree lit).0 held))

pub is_unit : (marks : List Mark) (lits clause : List ℕ) (lit : ℕ) → IsFound marks clause (One lit) → holds marks lit ≡ false → Agree marks lits → IsUnit lits clause lit
is_unit marks lits clause lit is free agree = record {
  stands = is.0;
  not_false = λ has. both_ways (holds marks (opposite lit)) is.1 ((agree (opposite lit)).1 has);
  not_true = λ has. both_ways (holds marks lit) free ((agree lit).1 has);
  others_false = λ other has differs. (agree (opposite other)).0 (is.2 other has differs);
}

-- The one literal that isn't false was added, where it didn't hold: exactly then the clause is unit.
pub unit_added : (before marks : List Mark) (lits lits' clause : List ℕ) (lit : ℕ) (b : Bool) → IsFound before clause (One lit) → Agree before lits → ((other : ℕ) → holds marks other ≡ holds before other)
    → MatchBool b ((holds marks lit ≡ false) × (lits' ≡ lits ++ lit ∷ [])) (IsTrue (holds marks lit)) → MatchBool b ((z : ℕ) × IsUnit lits clause z × (lits' ≡ lits ++ z ∷ [])) ((z : ℕ) → IsUnit lits clause z → ⊥)
unit_added before marks lits lits' clause lit true is agree same added = (lit, is_unit before lits clause lit is (sym (same lit) ∙ added.0) agree, added.1)
unit_added before marks lits lits' clause lit false is agree same held = no_unit_held before lits clause lit is (sym (same lit) ∙ held) agree
