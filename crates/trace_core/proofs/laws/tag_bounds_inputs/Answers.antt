use Rattle.trace_core.proofs.Soundness.{tag_bounds_inputs}
use Rattle.trace_core.proofs.laws.tag_bounds_inputs.Goals as goal

pub returns : goal.returns
returns c = tag_bounds_inputs
