use Rattle.std.proofs.Common.{◌≡◌, ◌∙◌, ℕ, ap, sym, length, take}
use Rattle.std.proofs.Math.Seq.{take-length}
use Rattle.run_io.specs.Bytes.{appended}
use Rattle.run_io.proofs.Always.{after_err}
use Rattle.tarmo_run.proofs.endings.write_last.Goals as goal

pub returns-clause-front : goal.returns-clause-front
returns-clause-front g c =
    let front : (size : ℕ) × (g.O.Sink.taken c.flush.new.self
    ≡ appended (g.O.Sink.taken c.args.out.now) (take size c.args.line.now)) = (
      length c.args.line.now,
      c.flush.ensures.bytes ∙ c.in_ok-write_all.ensures.whole
          ∙ ap (appended (g.O.Sink.taken c.args.out.now)) (sym (take-length c.args.line.now)),
    ) in
    after_err _ _ front
