use Rattle.std.proofs.Common.{arith}
use Rattle.session.proofs.levels.go_back.Goals as goal

pub backjump-requires-clause-nothing_new : goal.backjump-requires-clause-nothing_new
backjump-requires-clause-nothing_new c = λ deep. absurd (omega (arith, deep))
