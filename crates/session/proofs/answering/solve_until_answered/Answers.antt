use Rattle.std.proofs.Common.{[]}
use Rattle.session.specs.Searching.{solver_of}
use Rattle.session.proofs.Repeats.{learns_none}
use Rattle.session.proofs.Answered.{model_answers, refuted_answers, paused_learns, less_is_left}
use Rattle.session.proofs.answering.solve_until_answered.Goals as goal

pub loop-model-init : goal.loop-model-init
loop-model-init c = (
  c.requires.kept,
  c.requires.zero,
  record {
    more = [];
    learns = learns_none (solver_of c.args.search.now);
  },
)

pub solve-requires-clause-kept : goal.solve-requires-clause-kept
solve-requires-clause-kept c = c.loop-model.invariant.0

pub solve-requires-clause-zero : goal.solve-requires-clause-zero
solve-requires-clause-zero c = c.loop-model.invariant.1

pub returns-in-Model-clause-answer : goal.returns-in-Model-clause-answer
returns-in-Model-clause-answer c =
    model_answers (solver_of c.args.search.now) (solver_of c.loop-model.search)
    (solver_of c.solve.new.search) c.args.cube.now c.args.limit c.in_ok-model.field-0 c.in-Model.model c.loop-model.invariant.2 c.in_ok-model.ensures.round c.in-Model.is

pub returns-in-Refuted-clause-answer : goal.returns-in-Refuted-clause-answer
returns-in-Refuted-clause-answer c =
    refuted_answers (solver_of c.args.search.now) (solver_of c.loop-model.search)
    (solver_of c.solve.new.search) c.args.cube.now c.args.limit c.in_ok-model.field-0 c.in-Refuted.part c.in-Refuted.number c.loop-model.invariant.2 c.in_ok-model.ensures.round c.in-Refuted.is

pub loop-model-smaller : goal.loop-model-smaller
loop-model-smaller c =
    less_is_left c.args.search.now c.loop-model.search c.solve.new.search c.args.cube.now c.args.limit c.in_ok-model.field-0 c.in_ok-model.ensures.kept c.loop-model.invariant.2 c.in_ok-model.ensures.round c.in-Paused.is c.requires.some

pub loop-model-preserved : goal.loop-model-preserved
loop-model-preserved c = (
  c.in_ok-model.ensures.kept,
  c.in_ok-model.ensures.zero,
  paused_learns (solver_of c.args.search.now) (solver_of c.loop-model.search)
      (solver_of c.solve.new.search) c.args.cube.now c.args.limit c.in_ok-model.field-0 c.loop-model.invariant.2 c.in_ok-model.ensures.round c.in-Paused.is,
)
