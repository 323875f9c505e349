use Rattle.std.proofs.Common.{◌≡◌, ◌∙◌, ◌<◌, [], ◌∷◌, ℕ, List, Option, None, length, ap, sym, subst}
use Rattle.std.proofs.Common.{arith}
use Rattle.std.specs.Prelude.{All, Contains}
use Rattle.sat_base.specs.Lit.{opposite}
use Rattle.sat_base.specs.declared.origins.Ref.{Ref}
use Rattle.trace_core.specs.Known.{Known}
use Rattle.trace_core.specs.Trace.{IsOkStep}
use Rattle.trace_core.specs.declared.derivation.Step.{Step}
use Rattle.clause_arena.specs.Arena.{ArenaClause, clause_at}
use Rattle.trail_core.specs.Trail.{TrailView, lits_of}
use Rattle.trail_core.specs.UnderTrail.{IsFalseClause}
use Rattle.propagate.specs.Store.{StoreView}
use Rattle.analyze.specs.Table.{IsNameOf}
use Rattle.session.specs.declared.search.Search.{Search}
use Rattle.session.specs.Solver.{inputs_of}
use Rattle.session.specs.Units.{KnowsOpposites}
use Rattle.session.specs.Searching.{table_of}
use Rattle.session.specs.Refutations.{IsRefutation}
use Rattle.session.proofs.Learnings.{false_proper}
use Rattle.session.proofs.Searches.{name_of_clause}
use Rattle.session.proofs.Refuted.{zero_opposites, refutation_from, nothing_negated}
use Rattle.session.proofs.Steps.{units_steps, pushed_steps, steps_then}
use Rattle.session.proofs.refuting.refute_all.Goals as goal

abbrev Derives : ℕ → Step → List ArenaClause → List Ref → List ℕ → Type 0
Derives id step clauses units tags = (table : Ref → Option Known)
    → IsNameOf table (clause_at clauses id).origin (clause_at clauses id).lits
    (clause_at clauses id).tag
    → KnowsOpposites table units tags None (clause_at clauses id).lits → IsOkStep table step

pub unit_step-requires-clause-proper : goal.unit_step-requires-clause-proper
unit_step-requires-clause-proper c =
    let old = c.args.search.now in
    let store_is : c.arena.result.now ≡ old.store.clauses = c.arena.ensures.value
    ∙ ap (λ (x : Search). x.store.clauses) c.in_ok-name_units.ensures.parts in
    subst (λ (xs : List ArenaClause). (lit : ℕ) → Contains (clause_at xs c.args.conflict).lits lit
    → Contains (clause_at xs c.args.conflict).lits (opposite lit) → ⊥) (sym store_is)
    (λ lit has both. false_proper old.trail
    (clause_at old.store.clauses c.args.conflict).lits c.requires.kept.trail c.requires.refuted
    (record { lit = lit; has = has; has_opposite = both }))

pub push_step-requires-clause-ok : goal.push_step-requires-clause-ok
push_step-requires-clause-ok c =
    let old = c.args.search.now in
    let s = c.name_units.new.search in
    let e = c.in_ok-name_units.ensures in
    let step = c.in_ok-step.step in
    let trail_is : s.trail ≡ old.trail = ap (λ (x : Search). x.trail) e.parts in
    let store_is : s.store ≡ old.store = ap (λ (x : Search). x.store) e.parts in
    let derived = subst (λ clauses. Derives c.args.conflict step clauses s.units.items s.tags.items) c.arena.ensures.value
    (subst (λ units. Derives c.args.conflict step c.arena.result.now units s.tags.items) c.deref.ensures.value
    (subst (λ tags. Derives c.args.conflict step c.arena.result.now c.deref.result.now tags) c.deref-2.ensures.value c.in_ok-step.ensures.derived)) in
    derived (table_of s) (name_of_clause s c.args.conflict e.kept
    (subst (λ (x : StoreView). c.args.conflict < length x.clauses)
    (sym store_is) c.requires.known))
    (zero_opposites s (clause_at s.store.clauses c.args.conflict).lits e.kept
    (ap (λ (t : TrailView). t.depth) trail_is ∙ c.requires.zero)
    (e.all ∙ ap (λ (t : TrailView). length t.entries) (sym trail_is))
    (subst (λ (x : StoreView). IsFalseClause (lits_of s.trail.entries)
    (clause_at x.clauses c.args.conflict).lits) (sym store_is)
    (subst (λ (t : TrailView). IsFalseClause (lits_of t.entries)
    (clause_at old.store.clauses c.args.conflict).lits) (sym trail_is) c.requires.refuted)))

pub returns-clause-last : goal.returns-clause-last
returns-clause-last c =
    let old = c.args.search.now.steps in
    let mid = c.name_units.new.search.steps in
    let new = c.push_step.new.search.steps in
    let number = c.in_ok-number.number in
    steps_then old mid new [] (number ∷ []) (units_steps old mid c.in_ok-name_units.ensures.steps)
    (pushed_steps mid new c.in_ok-step.step number c.in_ok-number.ensures.pushed c.in_ok-number.ensures.number)

pub returns-clause-answer : goal.returns-clause-answer
returns-clause-answer c = λ cube.
    let new = c.push_step.new.search in
    let part_is : c.of_ascending.result ≡ [] = c.of_ascending.ensures ∙ c.new.ensures.items in
    subst (λ (store : StoreView). IsRefutation
    (inputs_of store.clauses) new.steps cube c.of_ascending.result c.in_ok-number.number)
    (ap (λ (x : Search). x.store) c.in_ok-number.ensures.parts
    ∙ ap (λ (x : Search). x.store) c.in_ok-name_units.ensures.parts)
    (refutation_from new cube c.of_ascending.result c.in_ok-number.number c.in_ok-step.step c.in_ok-number.ensures.kept c.in_ok-number.ensures.name
    (subst (λ (part : List ℕ). All (Contains cube) part) (sym part_is)
    (λ k d lt. absurd (omega (arith, lt))))
    (nothing_negated c.in_ok-step.step.clause c.of_ascending.result c.in_ok-step.ensures.clause part_is))
