use Rattle.trace_core.proofs.Soundness.{step_is_sound}
use Rattle.trace_core.proofs.laws.step_is_sound.Goals as goal

pub returns : goal.returns
returns c = step_is_sound
