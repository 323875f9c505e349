use Rattle.std.proofs.Common.{◌∙◌, ap}
use Rattle.worker_loop.specs.declared.bench.Bench.{Bench}
use Rattle.worker_loop.proofs.InRounds.{attempt_fits, few_after, learnt_on, less_left}
use Rattle.worker_loop.proofs.Keeping.{keeps_twice}
use Rattle.worker_loop.proofs.attempts.pursue.Goals as goal

pub end_of-requires-clause-learnt : goal.end_of-requires-clause-learnt
end_of-requires-clause-learnt c = c.in_ok-round.ensures.learnt c.rounds.invariant.rules

pub end_of-requires-clause-few : goal.end_of-requires-clause-few
end_of-requires-clause-few c =
    few_after c.rounds.bench.session.solver c.make_round.new.bench.session.solver c.rounds.attempt c.make_round.new.attempt c.args.budget c.in_ok-round.round
    c.rounds.invariant.left c.in_ok-round.ensures.round

pub returns-in_err-end-clause-keeps : goal.returns-in_err-end-clause-keeps
returns-in_err-end-clause-keeps c = keeps_twice c.args.bench.now.session.solver c.rounds.bench.session.solver c.make_round.new.bench.session.solver c.rounds.invariant.learnt.keeps c.make_round.ensures.keeps

pub returns-in-Some-clause-learnt : goal.returns-in-Some-clause-learnt
returns-in-Some-clause-learnt c =
    learnt_on c.args.bench.now.session.solver c.rounds.bench.session.solver c.make_round.new.bench.session.solver c.args.attempt.now c.rounds.attempt c.make_round.new.attempt c.args.budget c.in_ok-round.round
    c.rounds.invariant.learnt c.rounds.invariant.left c.make_round.ensures.keeps c.in_ok-round.ensures.round

pub returns-in-Some-clause-fits : goal.returns-in-Some-clause-fits
returns-in-Some-clause-fits c =
    let all = learnt_on c.args.bench.now.session.solver c.rounds.bench.session.solver c.make_round.new.bench.session.solver c.args.attempt.now c.rounds.attempt c.make_round.new.attempt c.args.budget c.in_ok-round.round
    c.rounds.invariant.learnt c.rounds.invariant.left c.make_round.ensures.keeps c.in_ok-round.ensures.round in
    λ journal fits. attempt_fits c.args.bench.now c.make_round.new.bench c.args.attempt.now c.make_round.new.attempt journal all.keeps
    (c.make_round.ensures.bench ∙ ap (λ (b : Bench). record b { session = c.make_round.new.bench.session }) c.rounds.invariant.bench) all.same (c.in_ok-round.ensures.learnt c.rounds.invariant.rules) fits

pub returns-in-Some-clause-keeps : goal.returns-in-Some-clause-keeps
returns-in-Some-clause-keeps c = keeps_twice c.args.bench.now.session.solver c.rounds.bench.session.solver c.make_round.new.bench.session.solver c.rounds.invariant.learnt.keeps c.make_round.ensures.keeps

pub rounds-smaller : goal.rounds-smaller
rounds-smaller c =
    less_left c.rounds.bench.session.solver c.make_round.new.bench.session.solver c.rounds.attempt c.make_round.new.attempt c.args.budget c.in_ok-round.round
    c.in_ok-round.ensures.round (c.in_ok-end.ensures.paused c.in-None.is) c.rounds.invariant.left

pub rounds-preserved : goal.rounds-preserved
rounds-preserved c = record {
  left = c.in_ok-end.ensures.goes_on c.in-None.is;
  learnt = learnt_on c.args.bench.now.session.solver c.rounds.bench.session.solver c.make_round.new.bench.session.solver c.args.attempt.now c.rounds.attempt c.make_round.new.attempt c.args.budget c.in_ok-round.round
      c.rounds.invariant.learnt c.rounds.invariant.left c.make_round.ensures.keeps c.in_ok-round.ensures.round;
  bench = c.make_round.ensures.bench ∙ ap (λ (b : Bench). record b { session = c.make_round.new.bench.session }) c.rounds.invariant.bench;
  rules = c.in_ok-round.ensures.learnt c.rounds.invariant.rules;
}
