-- The literal of the other sign.
use Rattle.std.proofs.Common.{◌≡◌, ◌∙◌, ℕ, List, map, not, ap, subst, sym, arith}
use Rattle.std.specs.Prelude.{◌↔◌, Contains}
use Rattle.std.proofs.lemmas.Bool.Decides.{nat_tests}
use Rattle.sat_base.specs.Lit.{variable, is_negative, opposite, IsLit}
use Rattle.sat_base.proofs.Members.{Contains-map, Contains-from_map}

pub variable-opposite : (lit : ℕ) → variable (opposite lit) ≡ variable lit
variable-opposite lit = omega arith

pub opposite-opposite : (lit : ℕ) → opposite (opposite lit) ≡ lit
opposite-opposite lit = omega arith

pub is_negative-opposite : (lit : ℕ) → is_negative (opposite lit) ≡ not (is_negative lit)
is_negative-opposite lit = grind (arith, nat_tests)

pub opposite-injective : (lit other : ℕ) → opposite lit ≡ opposite other → lit ≡ other
opposite-injective lit other h = omega arith

pub opposite-differs : (lit : ℕ) → opposite lit ≡ lit → ⊥
opposite-differs lit h = omega arith

pub IsLit-opposite : (lit : ℕ) → IsLit lit → IsLit (opposite lit)
IsLit-opposite lit h = record { not_zero = omega (arith, h.not_zero); within = omega (arith, h.within) }

-- the negations have a literal where the list has its opposite
pub Contains-negations : (lits negated : List ℕ) → negated ≡ map opposite lits → (lit : ℕ) → Contains negated lit ↔ Contains lits (opposite lit)
Contains-negations lits negated is lit = (
  λ has. let m = Contains-from_map opposite lits lit (subst (λ (xs : List ℕ). Contains xs lit) is has) in
      subst (Contains lits) (sym (opposite-opposite m.0) ∙ ap opposite m.2) m.1,
  λ has. subst (λ (xs : List ℕ). Contains xs lit) (sym is)
      (subst (Contains (map opposite lits)) (opposite-opposite lit) (Contains-map opposite lits (opposite lit) has)),
)
