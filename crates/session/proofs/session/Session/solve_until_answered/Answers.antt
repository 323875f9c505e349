use Rattle.session.specs.Searching.{solver_of}
use Rattle.session.proofs.Names.{names_fit_more, same_packets_keep}
use Rattle.session.proofs.session.Session.solve_until_answered.Goals as goal

pub invariant_of-self : goal.invariant_of-self
invariant_of-self c =
    let old = solver_of c.self.inside.search in
    let new = solver_of c.solve_until_answered.new.search in
    let keeps = c.solve_until_answered.ensures.keeps in
    record {
      kept = c.solve_until_answered.ensures.kept;
      zero = c.solve_until_answered.ensures.zero;
      names = names_fit_more old new c.self.inside.names.items keeps.steps
          (same_packets_keep old.packets new.packets keeps.packets) c.self.invariant.names;
    }
