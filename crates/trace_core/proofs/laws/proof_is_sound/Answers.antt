use Rattle.trace_core.proofs.Soundness.{proof_is_sound}
use Rattle.trace_core.proofs.laws.proof_is_sound.Goals as goal

pub returns : goal.returns
returns c = proof_is_sound
