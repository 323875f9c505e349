use Rattle.std.proofs.Common.{◌∙◌, length, ap, sym}
use Rattle.std.proofs.Math.Seq.{take-length}
use Rattle.run_io.specs.Bytes.{appended}
use Rattle.run_io.proofs.Always.{after_err}
use Rattle.audit_run.proofs.telling.write_line.Goals as goal

pub returns-clause-front : goal.returns-clause-front
returns-clause-front g c = after_err c.flush.result _ (length c.args.line.now, c.flush.ensures.bytes ∙ c.in_ok-write_all.ensures.whole ∙ ap (appended (g.O.Sink.taken c.args.out.now)) (sym (take-length c.args.line.now)))
