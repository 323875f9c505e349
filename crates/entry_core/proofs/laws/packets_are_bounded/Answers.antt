use Rattle.entry_core.proofs.SharedPackets.{packets_are_bounded}
use Rattle.entry_core.proofs.laws.packets_are_bounded.Goals as goal

pub returns : goal.returns
returns c = packets_are_bounded
