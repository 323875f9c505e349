use Rattle.std.proofs.Common.{◌≡◌, ◌∙◌, ◌⊎◌}
use Rattle.std.proofs.lemmas.Result.{IfOk-weaker, on_err_weaker}
use Rattle.run_io.specs.Bytes.{appended}
use Rattle.run_io.proofs.Always.{after_err}
use Rattle.tarmo_run.specs.declared.endings.Ending.TheVariants as endings
use Rattle.tarmo_run.specs.Output.{last_line_of}
use Rattle.tarmo_run.proofs.Sums.{ok_by, took_all, took_front_behind, took_front_of_line}
use Rattle.tarmo_run.proofs.Sums.{took_front_of_lines}
use Rattle.tarmo_run.proofs.sum.show_sum.Goals as goal

pub returns-then-is_err-clause-front : goal.returns-then-is_err-clause-front
returns-then-is_err-clause-front g c =
    on_err_weaker c.close_without_memory.result (took_front_of_line _ _ _ _ _)
    c.close_without_memory.ensures.front

pub returns-in_err-write_all-in-Ok-clause-front : goal.returns-in_err-write_all-in-Ok-clause-front
returns-in_err-write_all-in-Ok-clause-front g c =
    after_err c.from_residual.result _
    (took_front_of_lines _ c.args.settled _ c.deref.result.now _ _
    (ok_by c.args.settled c.is_err.result c.is_err.ensures.value c.if-is_err.false)
    (c.deref.ensures.value ∙ c.in-Ok.ensures) c.in_err-write_all-in-Ok.ensures.front)

pub returns-in_ok-write_all-in-Ok-clause-took : goal.returns-in_ok-write_all-in-Ok-clause-took
returns-in_ok-write_all-in-Ok-clause-took g c =
    IfOk-weaker c.close.result
    (λ told. ((told ≡ endings.Complete c.jobs.result) ⊎ (told ≡ endings.Exhausted))
    × (g.O.Sink.taken c.close.new.out
    ≡ appended (g.O.Sink.taken c.write_all.new.out) (last_line_of told)))
    _
    (λ told h. took_all _ told _ c.deref.result.now _ _ _ (c.deref.ensures.value ∙ c.in-Ok.ensures)
    c.in_ok-write_all-in-Ok.ensures.whole h.1)
    c.close.ensures.told

pub returns-in_ok-write_all-in-Ok-clause-front : goal.returns-in_ok-write_all-in-Ok-clause-front
returns-in_ok-write_all-in-Ok-clause-front g c =
    on_err_weaker c.close.result
    (took_front_behind _ c.args.settled _ c.deref.result.now c.jobs.result _ _ _
    (ok_by c.args.settled c.is_err.result c.is_err.ensures.value c.if-is_err.false)
    (c.deref.ensures.value ∙ c.in-Ok.ensures) c.jobs.ensures c.in_ok-write_all-in-Ok.ensures.whole)
    c.close.ensures.front
