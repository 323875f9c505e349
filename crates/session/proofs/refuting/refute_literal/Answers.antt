use Rattle.std.proofs.Common.{ℕ, List, Option, ap, subst}
use Rattle.sat_base.specs.declared.origins.Ref.{Ref}
use Rattle.trace_core.specs.Known.{Known}
use Rattle.trace_core.specs.declared.derivation.Step.{Step}
use Rattle.clause_arena.specs.Arena.{ArenaClause}
use Rattle.trail_core.specs.Trail.{Entry}
use Rattle.propagate.specs.Store.{StoreView}
use Rattle.analyze.specs.Table.{KnowsArena, KnowsUnits}
use Rattle.analyze.specs.Refuted.{IsRefutedBy}
use Rattle.session.specs.declared.search.Search.{Search}
use Rattle.session.specs.Solver.{inputs_of}
use Rattle.session.specs.Searching.{table_of}
use Rattle.session.specs.Refutations.{IsRefutation}
use Rattle.session.proofs.Learnings.{knows_arena}
use Rattle.session.proofs.Refuted.{part_within, refutation_from}
use Rattle.session.proofs.Steps.{pushed_steps}
use Rattle.session.proofs.refuting.refute_literal.Goals as goal

abbrev Derives : List Entry → Step → List ArenaClause → List Ref → List ℕ → Type 0
Derives entries step clauses units tags = (table : Ref → Option Known) → KnowsArena table clauses
    → KnowsUnits table entries units tags → IsRefutedBy table step

pub push_step-requires-clause-ok : goal.push_step-requires-clause-ok
push_step-requires-clause-ok c =
    let s = c.args.search.now in
    let step = c.in_ok-part.step in
    let derived = subst (λ clauses. Derives s.trail.entries step clauses s.units.items s.tags.items) c.arena.ensures.value
    (subst (λ units. Derives s.trail.entries step c.arena.result.now units s.tags.items) c.deref.ensures.value
    (subst (λ tags. Derives s.trail.entries step c.arena.result.now c.deref.result.now tags) c.deref-2.ensures.value c.in_ok-part.ensures.derived)) in
    (derived (table_of s) (knows_arena s c.requires.kept) c.requires.units).ok

pub returns-clause-last : goal.returns-clause-last
returns-clause-last c = pushed_steps c.args.search.now.steps c.push_step.new.search.steps c.in_ok-part.step c.in_ok-number.number c.in_ok-number.ensures.pushed c.in_ok-number.ensures.number

pub returns-clause-answer : goal.returns-clause-answer
returns-clause-answer c = λ cube for_cube stands.
    let s = c.args.search.now in
    let new = c.push_step.new.search in
    subst (λ (store : StoreView). IsRefutation
    (inputs_of store.clauses) new.steps cube c.in_ok-part.part c.in_ok-number.number)
    (ap (λ (x : Search). x.store) c.in_ok-number.ensures.parts)
    (refutation_from new cube c.in_ok-part.part c.in_ok-number.number c.in_ok-part.step c.in_ok-number.ensures.kept c.in_ok-number.ensures.name
    (part_within s.trail cube c.in_ok-part.part c.args.lit c.requires.kept.trail for_cube c.in_ok-part.ensures.part stands c.requires.refuted)
    c.in_ok-part.ensures.negation)
