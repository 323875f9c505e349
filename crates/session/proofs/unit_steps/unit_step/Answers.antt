use Rattle.std.proofs.Common.{◌≡◌, ◌∙◌, ◌++◌, ◌∷◌, [], ℕ, List, ap, sym, subst, take, max}
use Rattle.sat_base.specs.Lit.{variable}
use Rattle.sat_base.specs.declared.origins.Ref.{Ref}
use Rattle.trace_core.specs.Trace.{greatest}
use Rattle.clause_arena.specs.Arena.{HasNoRepeat, clause_at}
use Rattle.analyze.specs.Table.{unit_of, tag_of_unit}
use Rattle.trace_core.proofs.TagLemmas.{greatest_push}
use Rattle.session.proofs.UnitSteps.{other_more, kept_more, names_of, tags_of, unit_step_ok}
use Rattle.session.proofs.UnitSteps.{all_taken}
use Rattle.session.proofs.unit_steps.unit_step.Goals.{then-not-is_kept+in_ok-push, else-not-is_kept}
use Rattle.session.proofs.unit_steps.unit_step.Goals as goal

pub loop-lit-preserved : goal.loop-lit-preserved
loop-lit-preserved c = elim c.if-not-is_kept.branch [
  | then-not-is_kept+in_ok-push w ↦ (
    ap (λ hints. hints.items) w.hints-is ∙ w.in_ok-push.ensures.items
        ∙ ap (λ name. c.loop-lit.hints.items ++ name ∷ []) w.unit_of.ensures
        ∙ ap (λ (names : List Ref). names ++ unit_of c.args.units.now
        (variable c.lit-item.result) ∷ []) c.loop-lit.invariant.0
        ∙ sym (other_more (λ lit. unit_of c.args.units.now
        (variable lit)) c.args.kept c.lits-lit-items.result.now c.loop-lit.lit-index c.lit-item.result c.loop-lit-test.true c.lit-item.is (sym c.is_kept.ensures ∙ w.if-not-is_kept.true)),
    w.tag-is ∙ w.max-tag.ensures
        ∙ ap (max c.loop-lit.tag) w.tag_of_unit.ensures
        ∙ ap (λ (n : ℕ). max n (tag_of_unit c.args.tags.now
        (variable c.lit-item.result))) c.loop-lit.invariant.1
        ∙ sym (greatest_push (tags_of c.args.tags.now c.args.kept
        (take c.loop-lit.lit-index c.lits-lit-items.result.now))
        (tag_of_unit c.args.tags.now (variable c.lit-item.result)))
        ∙ ap greatest (sym (other_more (λ lit. tag_of_unit c.args.tags.now
        (variable lit)) c.args.kept c.lits-lit-items.result.now c.loop-lit.lit-index c.lit-item.result c.loop-lit-test.true c.lit-item.is (sym c.is_kept.ensures ∙ w.if-not-is_kept.true))),
  )
  | else-not-is_kept w ↦ (
    ap (λ hints. hints.items) w.hints-is ∙ c.loop-lit.invariant.0
        ∙ sym (kept_more (λ lit. unit_of c.args.units.now
        (variable lit)) c.args.kept c.lits-lit-items.result.now c.loop-lit.lit-index c.lit-item.result c.loop-lit-test.true c.lit-item.is (sym c.is_kept.ensures ∙ w.if-not-is_kept.false)),
    w.tag-is ∙ c.loop-lit.invariant.1
        ∙ ap greatest (sym (kept_more (λ lit. tag_of_unit c.args.tags.now
        (variable lit)) c.args.kept c.lits-lit-items.result.now c.loop-lit.lit-index c.lit-item.result c.loop-lit-test.true c.lit-item.is (sym c.is_kept.ensures ∙ w.if-not-is_kept.false))),
  )
]

pub returns-clause-derived : goal.returns-clause-derived
returns-clause-derived c = λ table named opposites.
    let lits : List ℕ = (clause_at c.args.arena.now c.args.id).lits in
    let whole : take c.loop-lit.lit-index c.lits-lit-items.result.now
    ≡ lits = all_taken c.lits-lit-items.result.now lits c.loop-lit.lit-index c.lits-lit-items.ensures.value c.loop-lit-test.false in
    unit_step_ok table c.args.units.now c.args.tags.now c.args.kept lits
    (clause_at c.args.arena.now c.args.id).origin (clause_at c.args.arena.now c.args.id).tag _
    (subst HasNoRepeat c.lits-lit-items.ensures.value c.lits-lit-items.ensures.distinct) c.requires.proper c.requires.kept
    c.in_ok-kept_clause.ensures
    (c.of.ensures ∙ c.in_ok-push-2.ensures.items
    ∙ ap (λ name. c.loop-lit.hints.items ++ name ∷ []) c.origin.ensures
    ∙ ap (λ (names : List Ref). names ++ (clause_at c.args.arena.now c.args.id).origin ∷ [])
    (c.loop-lit.invariant.0 ∙ ap (names_of c.args.units.now c.args.kept) whole))
    (c.max.ensures ∙ ap (max c.loop-lit.tag) c.tag.ensures
    ∙ ap (λ (n : ℕ). max n (clause_at c.args.arena.now c.args.id).tag)
    (c.loop-lit.invariant.1 ∙ ap (λ xs. greatest
    (tags_of c.args.tags.now c.args.kept xs)) whole))
    named opposites
