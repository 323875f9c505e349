use Rattle.trace_core.proofs.Soundness.{tautology_holds}
use Rattle.trace_core.proofs.laws.tautology_holds.Goals as goal

pub returns : goal.returns
returns c = tautology_holds
