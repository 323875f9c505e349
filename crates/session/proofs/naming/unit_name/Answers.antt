use Rattle.std.proofs.Common.{◌≡◌, ◌∙◌, ◌∷◌, [], ℕ, List, Option, Some, ap, sym, subst, length}
use Rattle.sat_base.specs.Lit.{opposite}
use Rattle.std.specs.Prelude.{Contains}
use Rattle.clause_arena.specs.Arena.{ArenaClause, clause_at}
use Rattle.sat_base.specs.declared.origins.Ref.{Ref}
use Rattle.trace_core.specs.Known.{Known}
use Rattle.trace_core.specs.Trace.{IsOkStep}
use Rattle.session.specs.Units.{KnowsOpposites}
use Rattle.trace_core.specs.declared.derivation.Step.{Step}
use Rattle.analyze.specs.Table.{IsNameOf}
use Rattle.session.specs.Searching.{table_of}
use Rattle.session.proofs.Reasons.{proper_reason, name_of_reason}
use Rattle.session.proofs.Searches.{next_reason, name_of_clause, unit_step_holds}
use Rattle.session.proofs.naming.unit_name.Goals as goal

pub returns-then-lits-eq1-clause-name : goal.returns-then-lits-eq1-clause-name
returns-then-lits-eq1-clause-name c =
    let s = c.args.search.now in
    let reason = next_reason s c.args.id c.requires.kept c.requires.some c.requires.zero c.requires.forced in
    let size : length (clause_at s.store.clauses c.args.id).lits
    ≡ 1 = sym (ap length (c.lits.ensures.value
    ∙ ap (λ (xs : List ArenaClause).
    (clause_at xs c.args.id).lits) c.arena-arena.ensures.value)) ∙ c.if-lits-eq1.true in
    let here = name_of_reason
    (table_of s) s.store.clauses s.trail.entries s.named c.args.id c.args.lit c.requires.next reason (name_of_clause s c.args.id c.requires.kept reason.known) size in
    subst (λ tag. IsNameOf (table_of s) c.origin.result (c.args.lit ∷ []) tag)
    (sym (c.tag.ensures ∙ ap (λ (xs : List ArenaClause).
    (clause_at xs c.args.id).tag) c.arena-arena.ensures.value))
    (subst (λ name. IsNameOf (table_of s) name (c.args.lit ∷ [])
    (clause_at s.store.clauses c.args.id).tag)
    (sym (c.origin.ensures ∙ ap (λ (xs : List ArenaClause).
    (clause_at xs c.args.id).origin) c.arena-arena.ensures.value)) here)

pub unit_step-requires-clause-proper : goal.unit_step-requires-clause-proper
unit_step-requires-clause-proper c =
    let s = c.args.search.now in
    let reason = next_reason s c.args.id c.requires.kept c.requires.some c.requires.zero c.requires.forced in
    subst (λ (xs : List ArenaClause). (lit : ℕ) → Contains (clause_at xs c.args.id).lits lit
    → Contains (clause_at xs c.args.id).lits (opposite lit) → ⊥)
    (sym c.arena-arena.ensures.value)
    (proper_reason s.store.clauses s.trail s.named c.args.id c.requires.kept.trail c.requires.some reason)

abbrev Derives : ℕ → ℕ → Step → List ArenaClause → List Ref → List ℕ → Type 0
Derives id lit step clauses units tags = (table : Ref → Option Known)
    → IsNameOf table (clause_at clauses id).origin (clause_at clauses id).lits
    (clause_at clauses id).tag
    → KnowsOpposites table units tags (Some lit) (clause_at clauses id).lits → IsOkStep table step

pub push_step-requires-clause-ok : goal.push_step-requires-clause-ok
push_step-requires-clause-ok c =
    let s = c.args.search.now in
    let step = c.in_ok-step.step in
    let reason = next_reason s c.args.id c.requires.kept c.requires.some c.requires.zero c.requires.forced in
    unit_step_holds s c.args.id c.args.lit step c.requires.kept c.requires.some c.requires.next reason
    (subst (λ clauses. Derives c.args.id c.args.lit step clauses s.units.items s.tags.items) c.arena-arena.ensures.value
    (subst (λ units. Derives c.args.id c.args.lit step c.arena-arena.result.now units s.tags.items) c.deref.ensures.value
    (subst (λ tags. Derives c.args.id c.args.lit step c.arena-arena.result.now c.deref.result.now tags) c.deref-2.ensures.value c.in_ok-step.ensures.derived)))
