use Rattle.std.proofs.Common.{◌∷◌, [], ◌++◌}
use Rattle.service.proofs.Keeping.{keeps_then}
use Rattle.service.proofs.Waiting.{missing_at_first, looked_again}
use Rattle.service.proofs.service.Service.wait_result.Goals as goal

pub returns-in-Err-NoSuchJob-clause-looked : goal.returns-in-Err-NoSuchJob-clause-looked
returns-in-Err-NoSuchJob-clause-looked g c =
    missing_at_first c.args.self.now.lock c.args.job _ c.args.pass.now c.loop.invariant.waits.0 c.loop.pass c.outcome.new.pass
    c.loop.invariant.waits.1 c.outcome.ensures.looked (rw c.in-Err-NoSuchJob.field-0-is at c.in-Err-NoSuchJob.ensures.refused)

pub loop-preserved : goal.loop-preserved
loop-preserved g c = record {
  can = tt;
  ends = tt;
  keeps = keeps_then c.args.self.now.lock c.args.pass.now c.loop.pass c.outcome.new.pass c.loop.invariant.keeps c.outcome.ensures.keeps;
  waits = (
    c.loop.invariant.waits.0 ++ c.outcome.new.pass ∷ [],
    looked_again c.args.self.now.lock c.args.job c.args.pass.now c.loop.invariant.waits.0 c.loop.pass c.outcome.new.pass
        c.loop.invariant.waits.1 c.outcome.ensures.looked (rw c.in-Err-NotYet.field-0-is at c.in-Err-NotYet.ensures.refused),
  );
}
