use Rattle.std.proofs.Common.{◌≡◌, ◌∙◌, ◌⊎◌}
use Rattle.std.proofs.lemmas.Result.{IfOk-weaker, on_err_weaker}
use Rattle.run_io.specs.Bytes.{appended}
use Rattle.run_io.proofs.Always.{after_err}
use Rattle.tarmo_run.specs.declared.endings.Ending.TheVariants as endings
use Rattle.tarmo_run.specs.Output.{last_line_of}
use Rattle.tarmo_run.proofs.Finishing.{finished, finished_in_blocks, finished_in_line, none_written}
use Rattle.tarmo_run.proofs.Results.{on_ok_always}
use Rattle.tarmo_run.proofs.Uncut.{told_uncut}
use Rattle.tarmo_run.proofs.alone.solve.Goals as goal

pub returns-in_err-ending-clause-front : goal.returns-in_err-ending-clause-front
returns-in_err-ending-clause-front g c =
    after_err c.from_residual.result _
    (finished_in_blocks _ _ _ _ _ _ _ _ c.in_err-ending.ensures.in_part
    (c.in_err-ending.ensures.breaks _ (none_written _ _ _ c.requires.fresh)))

pub returns-clause-finished : goal.returns-clause-finished
returns-clause-finished g c =
    IfOk-weaker c.close.result
    (λ told. ((told ≡ c.in_ok-ending.ending) ⊎ (told ≡ endings.Exhausted))
    × (g.O.Sink.taken c.close.new.out
    ≡ appended (g.O.Sink.taken c.show_blocks.new.out) (last_line_of told)))
    _
    (λ told h. finished _ c.in_ok-ending.ending told _ _ _ _ c.show_blocks.new.desk.writer
    c.show_blocks.new.desk.board c.close_input.new.board _ _ _ c.in_ok-ending.ensures.through
    c.in_ok-ending.ensures.answered
    (c.in_ok-ending.ensures.writes _ (none_written _ _ _ c.requires.fresh))
    c.show_blocks.ensures.between.counted.few c.close_input.ensures.more
    (c.close_input.ensures.cancelled ∙ c.show_blocks.ensures.between.none_cancelled) h.0 h.1)
    c.close.ensures.told

pub returns-clause-front : goal.returns-clause-front
returns-clause-front g c =
    on_err_weaker c.close.result
    (finished_in_line _ c.in_ok-ending.ending _ _ _ _ c.show_blocks.new.desk.writer
    c.show_blocks.new.desk.board c.close_input.new.board _ _ _ c.in_ok-ending.ensures.through
    c.in_ok-ending.ensures.answered
    (c.in_ok-ending.ensures.writes _ (none_written _ _ _ c.requires.fresh))
    c.show_blocks.ensures.between.counted.few c.close_input.ensures.more)
    c.close.ensures.front

pub returns-clause-closed : goal.returns-clause-closed
returns-clause-closed g c = on_ok_always c.close.result c.close_input.ensures.closed

pub returns-in_err-ending-clause-resting : goal.returns-in_err-ending-clause-resting
returns-in_err-ending-clause-resting g c = c.show_blocks.ensures.between.resting

pub returns-clause-resting : goal.returns-clause-resting
returns-clause-resting g c =
    c.close_input.ensures.resting 2 c.show_blocks.ensures.between.resting

pub returns-clause-opened : goal.returns-clause-opened
returns-clause-opened g c =
    IfOk-weaker c.close.result
    (λ told. ((told ≡ c.in_ok-ending.ending) ⊎ (told ≡ endings.Exhausted))
    × (g.O.Sink.taken c.close.new.out
    ≡ appended (g.O.Sink.taken c.show_blocks.new.out) (last_line_of told)))
    _
    (λ told h. told_uncut c.in_ok-ending.ending told _ h.0 c.in_ok-ending.ensures.opened)
    c.close.ensures.told
