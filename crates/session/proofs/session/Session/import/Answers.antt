use Rattle.std.proofs.Common.{◌∙◌, ap}
use Rattle.std.specs.Arc.{arc_value}
use Rattle.session.specs.Solver.{packet_at}
use Rattle.session.specs.Searching.{solver_of}
use Rattle.session.specs.Session.{SessionView}
use Rattle.session.proofs.Names.{names_fit_taken}
use Rattle.session.proofs.session.Session.import.Goals as goal

pub invariant_of-self : goal.invariant_of-self
invariant_of-self c =
    let e = c.take_in.ensures in
    record {
      kept = e.kept;
      zero = e.zero;
      names = names_fit_taken c.take_in.result (solver_of c.self.inside.search)
          (solver_of c.take_in.new.search) c.self.inside.names.items c.args.place
          (arc_value c.args.packet.now) e.ok e.err
          (ap (λ (view : SessionView). packet_at view.solver.packets c.args.place) c.self.view_is
          ∙ c.requires.unknown) c.self.invariant.names;
    }
