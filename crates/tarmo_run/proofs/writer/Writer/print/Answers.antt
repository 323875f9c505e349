use Rattle.std.proofs.Common.{◌∙◌, ◌+◌, ℕ, List, length, ap, arith, subst, sym}
use Rattle.sat_base.specs.Lit.{IsLitSet}
use Rattle.entry_core.specs.declared.segments.Segment.{Segment}
use Rattle.verdict_text.specs.Block.{IsBlock, IsPrintable, shown_of}
use Rattle.tarmo_run.specs.Variables.{AreWithinVariables}
use Rattle.tarmo_run.proofs.Blocks.{due_counted, due_few, due_printable, due_right}
use Rattle.tarmo_run.proofs.writer.Writer.print.Goals as goal

pub overflow_add-inputs : goal.overflow_add-inputs
overflow_add-inputs c =
    let same = c.items-clauses.ensures ∙ ap (λ (s : Segment). s.clauses) c.deref.ensures in
    let few = due_few c.args.self.now c.requires.due.0 c.args.due.now c.requires.due.1 in
    omega (arith, few, ap length same)

pub block-requires-clause-inputs : goal.block-requires-clause-inputs
block-requires-clause-inputs c =
    let same = c.items-clauses.ensures ∙ ap (λ (s : Segment). s.clauses) c.deref.ensures in
    let few = due_few c.args.self.now c.requires.due.0 c.args.due.now c.requires.due.1 in
    omega (arith, few, ap length same)

pub block-requires-clause-printable : goal.block-requires-clause-printable
block-requires-clause-printable c =
    let same = c.items-clauses.ensures ∙ ap (λ (s : Segment). s.clauses) c.deref.ensures in
    subst (λ (list : List (List ℕ)). IsPrintable (c.args.self.now.inputs + length list)
    (shown_of c.args.trace c.args.due.now.verdict)) (sym same)
    (due_printable c.args.trace c.args.self.now c.requires.due.0 c.args.due.now
    c.verdicts_have_causes.ensures c.requires.due.1
    (subst AreWithinVariables same c.look_at_each.ensures)
    (subst (λ (s : Segment). IsLitSet s.cube) c.deref-2.ensures c.lits.ensures.set))

pub returns-clause-inputs : goal.returns-clause-inputs
returns-clause-inputs c = λ board is.
    let same = c.items-clauses.ensures ∙ ap (λ (s : Segment). s.clauses) c.deref.ensures in
    ap (λ (list : List (List ℕ)). c.args.self.now.inputs + length list) same
    ∙ due_counted c.args.self.now board c.args.due.now is

pub returns-clause-text : goal.returns-clause-text
returns-clause-text c = λ board is.
    let same = c.items-clauses.ensures ∙ ap (λ (s : Segment). s.clauses) c.deref.ensures in
    due_right c.args.trace c.args.self.now board c.args.due.now c.in_ok-text.text.items is
    (subst (λ (list : List (List ℕ)). IsBlock (c.args.self.now.inputs + length list)
    (record {
      job = c.args.due.now.job;
      shown = shown_of c.args.trace c.args.due.now.verdict;
    }) c.in_ok-text.text.items) same c.in_ok-text.ensures)
