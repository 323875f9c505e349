use Rattle.std.proofs.Common.{◌≡◌, ◌∙◌, ◌⊎◌}
use Rattle.std.proofs.lemmas.Result.{IfOk-weaker, on_err_weaker}
use Rattle.run_io.specs.Bytes.{appended}
use Rattle.run_io.proofs.Always.{after_err}
use Rattle.tarmo_run.specs.declared.endings.Ending.TheVariants as endings
use Rattle.tarmo_run.specs.Output.{last_line_of}
use Rattle.tarmo_run.proofs.Boards.{no_job_none}
use Rattle.tarmo_run.proofs.Finishing.{finished, finished_in_blocks, finished_in_line}
use Rattle.tarmo_run.proofs.Finishing.{reads_in_part, reads_told}
use Rattle.tarmo_run.proofs.Results.{on_ok_always}
use Rattle.tarmo_run.proofs.Uncut.{told_twice}
use Rattle.tarmo_run.proofs.closing.finish_text.Goals as goal

pub returns-in_err-ending-clause-front : goal.returns-in_err-ending-clause-front
returns-in_err-ending-clause-front g c =
    after_err c.from_residual.result _
    (λ before left_before left_after ended failed reads took.
    finished_in_blocks _ left_before left_after ended failed _ before _
    (reads_in_part c.args.ending left_before left_after ended failed _ reads)
    (c.in_err-ending.ensures.breaks before took))

pub returns-clause-finished : goal.returns-clause-finished
returns-clause-finished g c =
    IfOk-weaker c.close.result
    (λ told. ((told ≡ c.in_ok-ending.ending) ⊎ (told ≡ endings.Exhausted))
    × (g.O.Sink.taken c.close.new.out
    ≡ appended (g.O.Sink.taken c.write_rest.new.out) (last_line_of told)))
    _
    (λ told h. λ before left_before left_after ended failed reads took uncancelled.
    finished _ c.in_ok-ending.ending told left_before left_after ended failed
    c.write_rest.new.writer c.args.board.now c.close_input.new.board before _ _
    (reads_told c.args.ending c.in_ok-ending.ending left_before left_after ended failed _
    c.in_ok-ending.ensures.which reads)
    c.in_ok-ending.ensures.answered (c.in_ok-ending.ensures.writes before took)
    c.write_rest.ensures.counted.few c.close_input.ensures.more
    (c.close_input.ensures.cancelled ∙ uncancelled) h.0 h.1)
    c.close.ensures.told

pub returns-clause-front : goal.returns-clause-front
returns-clause-front g c =
    on_err_weaker c.close.result
    (λ front. λ before left_before left_after ended failed reads took.
    finished_in_line _ c.in_ok-ending.ending left_before left_after ended failed
    c.write_rest.new.writer c.args.board.now c.close_input.new.board before _ _
    (reads_told c.args.ending c.in_ok-ending.ending left_before left_after ended failed _
    c.in_ok-ending.ensures.which reads)
    c.in_ok-ending.ensures.answered (c.in_ok-ending.ensures.writes before took)
    c.write_rest.ensures.counted.few c.close_input.ensures.more front)
    c.close.ensures.front

pub returns-clause-closed : goal.returns-clause-closed
returns-clause-closed g c = on_ok_always c.close.result c.close_input.ensures.closed

pub returns-in_err-ending-clause-resting : goal.returns-in_err-ending-clause-resting
returns-in_err-ending-clause-resting g c = λ caller rests. rests

pub returns-clause-resting : goal.returns-clause-resting
returns-clause-resting g c = c.close_input.ensures.resting

pub returns-clause-which : goal.returns-clause-which
returns-clause-which g c =
    IfOk-weaker c.close.result
    (λ told. ((told ≡ c.in_ok-ending.ending) ⊎ (told ≡ endings.Exhausted))
    × (g.O.Sink.taken c.close.new.out
    ≡ appended (g.O.Sink.taken c.write_rest.new.out) (last_line_of told)))
    _
    (λ told h. told_twice c.args.ending c.in_ok-ending.ending told c.in_ok-ending.ensures.which h.0)
    c.close.ensures.told
