-- Truth of literals, clauses and cubes, and what follows for entailment.
use Rattle.std.proofs.Common.{◌≡◌, ◌∙◌, ℕ, List, [], ◌∷◌, ◌++◌, map, Bool, true, false, not, cond, ◌||◌, ◌&&◌, refl, ap, sym, inl, inr}
use Rattle.std.specs.Prelude.{IsTrue, Contains, ◌⊎◌, ◌==◌}
use Rattle.std.specs.List.{filter}
use Rattle.std.proofs.lemmas.Bool.{both_ways, and_parts, cases_Bool, ne_eqb, not_from_false}
use Rattle.std.proofs.lemmas.List.Elements.{All-contains, Contains-append_left, Contains-append_right}
use Rattle.sat_base.specs.Lit.{variable, is_negative, opposite}
use Rattle.sat_base.specs.Truth.{lit_true, value_of, clause_true, cube_true}
use Rattle.sat_base.specs.Law.{EntailmentGrows, ResolutionIsSound, CubeContradictsItsNegation, TruthSeesMembers, OneAnswer}
use Rattle.sat_base.proofs.Opposite.{variable-opposite, is_negative-opposite}
use Rattle.sat_base.proofs.Members.{any_member, any_from_member, all_member, all_from_members, Contains-filter}

flipped : (sign value : Bool) → cond (not sign) (not value) value ≡ not (cond sign (not value) value)
flipped true true = refl
flipped true false = refl
flipped false true = refl
flipped false false = refl

-- a literal is true where its opposite is false
pub lit_true-opposite : (values : List Bool) (lit : ℕ) → lit_true values (opposite lit) ≡ not (lit_true values lit)
lit_true-opposite values lit =
    ap (λ v. cond (is_negative (opposite lit)) (not (value_of values v)) (value_of values v)) (variable-opposite lit)
    ∙ ap (λ sign. cond sign (not (value_of values (variable lit))) (value_of values (variable lit))) (is_negative-opposite lit)
    ∙ flipped (is_negative lit) (value_of values (variable lit))

one_false : (a b c d : Bool) → c ≡ not a → d ≡ not b → (c || d) ≡ not (a && b)
one_false true b c d h k = ap (λ z. z || d) h ∙ k
one_false false b c d h k = ap (λ z. z || d) h

pub cube_contradicts : CubeContradictsItsNegation
cube_contradicts values [] = refl
cube_contradicts values (lit ∷ cube) =
    one_false (lit_true values lit) (cube_true values cube) _ _ (lit_true-opposite values lit) (cube_contradicts values cube)

pub grows : EntailmentGrows
grows clauses more clause all follows values h =
    follows values (all_from_members (clause_true values) clauses (λ x c.
    all_member (clause_true values) more x h (All-contains (Contains more) clauses x all c)))

pub sees_members : TruthSeesMembers
sees_members values clause other all h =
    let m = any_member (lit_true values) clause h in
    any_from_member (lit_true values) other m.0 (All-contains (Contains other) clause m.0 all m.1) m.2

pub one : OneAnswer
one clauses cube values part model refuted =
    let holds : IsTrue (cube_true values part) = all_from_members (lit_true values) part (λ x c.
    all_member (lit_true values) cube x model.cube_holds (All-contains (Contains cube) part x refuted.within c)) in
    both_ways (clause_true values (map opposite part))
    (cube_contradicts values part ∙ ap not holds)
    (refuted.refuted values model.clauses_hold)

-- the literal that makes a clause true is kept by the resolvent, where it isn't the one resolved on
kept : (values : List Bool) (lit : ℕ) (clause : List ℕ) → IsTrue (clause_true values clause) → lit_true values lit ≡ false → IsTrue (clause_true values (filter (λ other. not (other == lit)) clause))
kept values lit clause h is_false =
    let m = any_member (lit_true values) clause h in
    any_from_member (lit_true values) (filter (λ other. not (other == lit)) clause) m.0
    (Contains-filter (λ other. not (other == lit)) clause m.0 m.1
    (not_from_false (m.0 == lit) (ne_eqb m.0 lit (λ same. both_ways (lit_true values lit) is_false (ap (lit_true values) (sym same) ∙ m.2)))))
    m.2

in_either : (values : List Bool) (left right : List ℕ) → IsTrue (clause_true values left) ⊎ IsTrue (clause_true values right) → IsTrue (clause_true values (left ++ right))
in_either values left right (inl h) =
    let m = any_member (lit_true values) left h in
    any_from_member (lit_true values) (left ++ right) m.0 (Contains-append_left left right m.0 m.1) m.2
in_either values left right (inr h) =
    let m = any_member (lit_true values) right h in
    any_from_member (lit_true values) (left ++ right) m.0 (Contains-append_right left right m.0 m.1) m.2

-- whatever the literal's truth, one side keeps the literal that makes it true
one_side : (values : List Bool) (lit : ℕ) (left right : List ℕ) → IsTrue (clause_true values left) → IsTrue (clause_true values right) → (lit_true values lit ≡ true) ⊎ (lit_true values lit ≡ false) → IsTrue (clause_true values (filter (λ other. not (other == lit)) left)) ⊎ IsTrue (clause_true values (filter (λ other. not (other == opposite lit)) right))
one_side values lit left right l r (inl holds) = inr (kept values (opposite lit) right r (lit_true-opposite values lit ∙ ap not holds))
one_side values lit left right l r (inr fails) = inl (kept values lit left l fails)

pub resolution : ResolutionIsSound
resolution lit left right values h =
    let l : IsTrue (clause_true values left) = (and_parts _ _ h).0 in
    let r : IsTrue (clause_true values right) = (and_parts _ _ (and_parts _ _ h).1).0 in
    in_either values (filter (λ other. not (other == lit)) left) (filter (λ other. not (other == opposite lit)) right)
    (one_side values lit left right l r (cases_Bool (lit_true values lit)))
