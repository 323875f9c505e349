use Rattle.std.proofs.Common.{◌∙◌, [], refl, subst}
use Rattle.std.specs.Prelude.{IfNone}
use Rattle.session.specs.Searching.{solver_of}
use Rattle.session.specs.Solving.{Learns}
use Rattle.session.proofs.Keeping.{descent_behind}
use Rattle.session.proofs.Repeats.{learns_none, learns_then}
use Rattle.session.proofs.rounds.descend.Goals as goal

pub loop-end-init : goal.loop-end-init
loop-end-init c = (c.requires.round, learns_none (solver_of c.args.search.now), refl)

pub returns-in-Some-clause-descends : goal.returns-in-Some-clause-descends
returns-in-Some-clause-descends c =
    descent_behind c.args.search.now c.loop-end.search c.propagate_and_decide.new.search c.args.cube.now c.in_ok-end.field-0 c.in-Some.end c.loop-end.invariant.1 c.in-Some.is c.in_ok-end.ensures.ends

pub loop-end-preserved : goal.loop-end-preserved
loop-end-preserved c =
    let mid = solver_of c.loop-end.search in
    let new = solver_of c.propagate_and_decide.new.search in (
      c.propagate_and_decide.ensures.round,
      learns_then (solver_of c.args.search.now) mid new [] [] [] c.loop-end.invariant.1
          (subst (λ end. IfNone end
          (Learns mid new [] [])) c.in-None.is c.in_ok-end.ensures.learns),
      c.propagate_and_decide.ensures.vars ∙ c.loop-end.invariant.2,
    )
