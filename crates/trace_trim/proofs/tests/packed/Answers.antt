use Rattle.std.proofs.Common.{arith}
use Rattle.trace_core.proofs.Items.{item_at-there}
use Rattle.trace_trim.proofs.tests.packed.Goals as goal

pub pack-requires-clause-last : goal.pack-requires-clause-last
pack-requires-clause-last c = item_at-there c.in_ok-own.own c.args.last c.requires.0 (omega (arith, c.requires.1, c.in_ok-own.ensures.three))
