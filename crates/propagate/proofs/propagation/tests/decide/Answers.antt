use Rattle.std.specs.Prelude.{None}
use Rattle.propagate.proofs.Rounds.{fit_decided}
use Rattle.propagate.proofs.propagation.tests.decide.Goals as goal

pub propagate-requires-clause-paired : goal.propagate-requires-clause-paired
propagate-requires-clause-paired g c =
    (fit_decided c.args.store.now c.args.trail.now c.open_level.new.self c.assign.new.self c.literal-lit.result None c.requires.settled
    c.open_level.ensures.entries c.open_level.ensures.looked c.assign.ensures.entries c.assign.ensures.depth c.assign.ensures.looked).paired
