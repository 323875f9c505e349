use Rattle.std.proofs.Common.{◌≡◌, ◌-◌, min, length, ap, refl, subst, rules}
use Rattle.std.specs.Prelude.{All}
use Rattle.entry_core.specs.Right.{AreLiterals}
use Rattle.worker_loop.specs.Asked.{clauses_at}
use Rattle.worker_loop.specs.Rounds.{MakesRound}
use Rattle.worker_loop.proofs.InRounds.{learnt_behind, learnt_round, round_made}
use Rattle.worker_loop.proofs.rounds.make_round.Goals as goal

pub returns-clause-round : goal.returns-clause-round
returns-clause-round c =
    let limit : c.min-limit.result ≡ min 256 (c.args.budget - length c.args.attempt.now.learnt.items) = search rules in
    round_made c.args.bench.now.session.solver c.solve.new.self.solver c.args.attempt.now _ c.args.budget c.min-limit.result (length c.learnt-before.result.now) c.in_ok-round.round
    c.in_ok-round.ensures.round limit (ap length c.learnt-before.ensures) refl c.in_ok-list_learnt.ensures.listed

pub returns-clause-learnt : goal.returns-clause-learnt
returns-clause-learnt c =
    let limit : c.min-limit.result ≡ min 256 (c.args.budget - length c.args.attempt.now.learnt.items) = search rules in
    let made : MakesRound c.args.bench.now.session.solver c.solve.new.self.solver c.args.attempt.now (record c.args.attempt.now { learnt = c.list_learnt.new.learnt }) c.args.budget c.in_ok-round.round =
    round_made c.args.bench.now.session.solver c.solve.new.self.solver c.args.attempt.now _ c.args.budget c.min-limit.result (length c.learnt-before.result.now) c.in_ok-round.round
    c.in_ok-round.ensures.round limit (ap length c.learnt-before.ensures) refl c.in_ok-list_learnt.ensures.listed in
    let behind = learnt_behind c.args.bench.now.session.solver c.solve.new.self.solver c.args.attempt.now.cube (min 256 (c.args.budget - length c.args.attempt.now.learnt.items)) (length c.learnt-before.result.now) c.in_ok-round.round made.solves (ap length c.learnt-before.ensures) in
    learnt_round c.args.bench.now.session.solver c.solve.new.self.solver c.args.attempt.now (record c.args.attempt.now { learnt = c.list_learnt.new.learnt }) c.args.budget c.in_ok-round.round
    c.steps.ensures.sound c.steps-2.ensures.sound made (subst (λ names. All AreLiterals (clauses_at c.solve.new.self.solver.steps names)) behind c.in_ok-list_learnt.ensures.literals)
