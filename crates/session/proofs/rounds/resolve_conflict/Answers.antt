use Rattle.std.proofs.Common.{ap}
use Rattle.session.specs.Searching.{solver_of}
use Rattle.session.proofs.Keeping.{refuted_concludes}
use Rattle.session.proofs.rounds.resolve_conflict.Goals as goal

pub returns-clause-ends : goal.returns-clause-ends
returns-clause-ends c = λ cube.
    let e = c.in_ok-part.ensures in
    refuted_concludes (solver_of c.args.search.now)
    (solver_of c.refute_all.new.search) cube c.in_ok-part.part c.in_ok-part.number
    (ap solver_of e.parts) e.last (e.answer cube)
