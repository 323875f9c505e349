use Rattle.std.proofs.Common.{length, ap, arith}
use Rattle.session.specs.Session.{SessionView}
use Rattle.session.proofs.session.Session.load.Goals as goal

pub load-requires-clause-few : goal.load-requires-clause-few
load-requires-clause-few c =
    let count = c.self.invariant.kept.counted.inputs_are in
    omega (
      arith,
      c.requires.clauses,
      count,
      ap (λ
          (view : SessionView). length view.solver.inputs) c.self.view_is,
    )
