use Rattle.std.proofs.Common.{◌≡◌, ◌∙◌, ap, sym, subst}
use Rattle.std.specs.Arc.{arc_value}
use Rattle.entry_core.specs.declared.rules.Rules.{Rules}
use Rattle.entry_core.specs.Journal.{cube_of}
use Rattle.entry_core.specs.Right.{IsRightAnswer}
use Rattle.board_core.specs.Replies.{job_at}
use Rattle.service.specs.Worked.{both_literals, contradiction}
use Rattle.service.proofs.Decided.{is_right}
use Rattle.service.proofs.tests.end.Goals as goal

pub decide-requires-clause-right : goal.decide-requires-clause-right
decide-requires-clause-right c =
    let board = c.args.board.now in
    let same : arc_value c.in-Ok.copy ≡ contradiction = c.in-Ok.ensures.cases ∙ c.requires.answer in
    let cube : cube_of board.journal c.args.job ≡ both_literals = c.is_contradictory.ensures c.if-not-is_contradictory.false in
    subst (IsRightAnswer board.rules.traces board.journal (job_at board c.args.attempt)) (sym same)
    (subst (λ job. IsRightAnswer board.rules.traces board.journal job contradiction) (sym c.requires.at)
    (subst (λ traces. IsRightAnswer traces board.journal c.args.job contradiction) (sym c.if-not-rules.false ∙ ap (λ (r : Rules). r.traces) c.rules.ensures.value) (is_right board.journal c.args.job cube)))
