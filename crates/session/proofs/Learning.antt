-- Clauses that were learnt.
use Rattle.std.proofs.Common.{◌≡◌, ℕ, ◌<◌, List, [], ◌∷◌, length, map, Some, sym, subst, arith}
use Rattle.std.specs.Prelude.{All, Contains}
use Rattle.std.proofs.lemmas.List.{map-append, get_or-map, length-map}
use Rattle.std.proofs.lemmas.List.Elements.{All-contains, All-from_get_or}
use Rattle.sat_base.proofs.Members.{All-from_members}
use Rattle.trace_core.specs.Known.{Known, item_at}
use Rattle.trace_core.specs.Trace.{known_of}
use Rattle.trace_core.specs.declared.derivation.Step.{Step}
use Rattle.clause_arena.specs.Arena.{ArenaClause, clause_at, no_clause}
use Rattle.analyze.specs.Learnt.{IsNew}
use Rattle.session.specs.Solver.{held_of, known_clause, IsStep}
use Rattle.session.specs.Fronts.{IsFront}
use Rattle.session.specs.Rounds.{ContainsNone, AreNamed}
use Rattle.trace_core.proofs.Items.{item_at-append}
use Rattle.sat_base.proofs.InOrder.{in_order-has}

-- named steps stay where more come
step_stays : (old new : List Step) (number : ℕ) (one : Known) → IsFront old new
    → IsStep old number one → IsStep new number one
step_stays old new number one front is =
    subst (λ (steps : List Step). IsStep steps number one) (sym front.is)
    (subst (λ knowns. item_at knowns number ≡ Some one) (sym (map-append known_of old front.more))
    (item_at-append (map known_of old) (map known_of front.more) number one is))

pub named_stay : (old new : List Step) (numbers : List ℕ) (more : List Known) → IsFront old new
    → AreNamed old numbers more → AreNamed new numbers more
named_stay old new [] [] front named = tt
named_stay old new [] (one ∷ more) front named = absurd named
named_stay old new (number ∷ numbers) [] front named = absurd named
named_stay old new (number ∷ numbers) (one ∷ more) front named =
    (step_stays old new number one front named.0, named_stay old new numbers more front named.1)

-- a clause within which no clause of the arena is
pub contains_none : (clauses : List ArenaClause) (step : Step) → IsNew clauses step.clause
    → ContainsNone (held_of clauses) (known_of step)
contains_none clauses step new = All-from_get_or
    (λ (other : Known). All (Contains step.clause) other.clause → ⊥) (held_of clauses)
    (known_clause no_clause) (λ id lt inside.
    let id_in : id < length clauses = omega (arith, lt, length-map clauses known_clause) in
    let is = get_or-map known_clause clauses id no_clause (known_clause no_clause) id_in in
    new id id_in (All-from_members (Contains step.clause) (clause_at clauses id).lits (λ lit has.
    All-contains (Contains step.clause) (known_clause (clause_at clauses id)).clause lit
    (subst (λ (other : Known). All (Contains step.clause) other.clause) is inside)
    ((in_order-has (clause_at clauses id).lits lit).1 has))))
