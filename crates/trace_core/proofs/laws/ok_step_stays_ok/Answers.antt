use Rattle.trace_core.proofs.Soundness.{stays_ok_up_to_tag}
use Rattle.trace_core.proofs.laws.ok_step_stays_ok.Goals as goal

pub returns : goal.returns
returns c = stays_ok_up_to_tag
