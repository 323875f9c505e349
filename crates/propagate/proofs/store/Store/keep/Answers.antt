use Rattle.std.proofs.Common.{subst, sym}
use Rattle.trail_core.specs.Trail.{TrailView}
use Rattle.propagate.specs.Pairing.{AreFit}
use Rattle.propagate.specs.Lists.{new_from}
use Rattle.propagate.proofs.Fresh.{in_new}
use Rattle.propagate.proofs.Renewed.{renewed, fits}
use Rattle.propagate.proofs.store.Store.keep.Goals as goal

pub invariant_of-self : goal.invariant_of-self
invariant_of-self c =
    renewed c.self.inside.arena c.keep.new.self c.args.keep.now c.self.inside.ring c.clear.new.self c.self.inside.watched c.self.inside.vars c.self.invariant c.keep.ensures c.clear.ensures.lists c.clear.ensures.vars c.clear.ensures.clauses

pub returns-clause-fresh : goal.returns-clause-fresh
returns-clause-fresh c = λ id ge lt. in_new 0 c.keep.new.self id ge lt

pub returns-clause-fit : goal.returns-clause-fit
returns-clause-fit c =
    subst (λ (t : TrailView). AreFit (record { clauses = c.keep.new.self; fresh = new_from 0 c.keep.new.self; vars = c.self.inside.vars }) t) (sym c.mark.ensures)
    (fits c.keep.new.self c.self.inside.vars c.args.trail.now c.depth.ensures.trail c.requires.depth)
