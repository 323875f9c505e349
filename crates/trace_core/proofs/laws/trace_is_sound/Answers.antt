use Rattle.trace_core.proofs.Soundness.{trace_is_sound}
use Rattle.trace_core.proofs.laws.trace_is_sound.Goals as goal

pub returns : goal.returns
returns c = trace_is_sound
