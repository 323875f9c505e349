use Rattle.std.proofs.Common.{◌∷◌, [], ◌++◌, refl, arith}
use Rattle.std.proofs.lemmas.List.{length_push}
use Rattle.session.specs.Searching.{solver_of}
use Rattle.session.proofs.Keeping.{keeps_twice, learns_keeps, learns_next, solves_now}
use Rattle.session.proofs.Repeats.{learns_none}
use Rattle.session.proofs.rounds.run_round.Goals as goal

pub loop-count-init : goal.loop-count-init
loop-count-init c = (
  c.requires.round,
  (
    [],
    learns_none
        (solver_of c.args.search.now),
    refl,
    omega arith,
  ),
)

pub returns-in_err-round-clause-keeps : goal.returns-in_err-round-clause-keeps
returns-in_err-round-clause-keeps c =
    let (more, learnt, size, le) = c.loop-count.invariant.1 in
    let old = solver_of c.args.search.now in
    let mid = solver_of c.loop-count.search in
    keeps_twice old mid (solver_of c.learn_or_answer.new.search)
    (learns_keeps old mid more [] learnt) c.learn_or_answer.ensures.keeps

pub returns-in-Some-clause-round : goal.returns-in-Some-clause-round
returns-in-Some-clause-round c =
    let (more, learnt, size, le) = c.loop-count.invariant.1 in
    solves_now (solver_of c.args.search.now) (solver_of c.loop-count.search)
    (solver_of c.learn_or_answer.new.search) c.args.cube.now c.args.limit c.loop-count.count more c.in_ok-round.field-0 c.in-Some.round
    learnt size (omega (arith, c.loop-count-test.true)) c.in-Some.is c.in_ok-round.ensures.ends

pub loop-count-preserved : goal.loop-count-preserved
loop-count-preserved c =
    let (more, learnt, size, le) = c.loop-count.invariant.1 in
    let next = learns_next (solver_of c.args.search.now) (solver_of c.loop-count.search) (solver_of c.learn_or_answer.new.search) more c.in_ok-round.field-0 learnt c.in-None.is c.in_ok-round.ensures.learns in (
      c.learn_or_answer.ensures.round,
      (
        more ++ next.0 ∷ [],
        next.1,
        omega (arith, size, length_push more next.0),
        omega
            (arith, c.loop-count-test.true),
      ),
    )
