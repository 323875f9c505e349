-- The attempts of all rounds, and what one worker leaves.
use Rattle.std.proofs.Common.{◌∙◌, ℕ, ap, sym, subst, rules}
use Rattle.entry_core.specs.declared.rules.Rules.{Rules}
use Rattle.entry_core.specs.Legal.{IsWorker}
use Rattle.entry_core.specs.Schedule.{IsWaiting}
use Rattle.worker_loop.proofs.Kept.{both_more, nothing_more}
use Rattle.worker_loop.proofs.OneWorker.{all_kept, on_itself}
use Rattle.worker_loop.proofs.Finished.{all_settled}
use Rattle.worker_loop.proofs.working.work_alone.Goals as goal

pub attempts-init : goal.attempts-init
attempts-init c = record {
  works = nothing_more c.args.board.now c.args.caller;
  resting = c.requires.resting;
  fits = c.requires.fits;
  kept = λ alone before. on_itself c.args.board.now c.args.bench.now before;
}

pub attempts-preserved : goal.attempts-preserved
attempts-preserved c = record {
  works = both_more c.args.board.now c.attempts.board c.work_once.new.board c.args.caller c.attempts.invariant.works c.work_once.ensures.works;
  resting = c.work_once.ensures.resting;
  fits = c.work_once.ensures.fits;
  kept = all_kept c.args.board.now c.attempts.board c.work_once.new.board c.args.caller c.args.bench.now c.attempts.bench c.work_once.new.bench
      c.attempts.invariant.works c.work_once.ensures.works c.attempts.invariant.kept c.work_once.ensures.kept;
}

pub returns-clause-kept : goal.returns-clause-kept
returns-clause-kept c =
    all_kept c.args.board.now c.attempts.board c.work_once.new.board c.args.caller c.args.bench.now c.attempts.bench c.work_once.new.bench
    c.attempts.invariant.works c.work_once.ensures.works c.attempts.invariant.kept c.work_once.ensures.kept

pub returns-in_err-work_once-clause-kept : goal.returns-in_err-work_once-clause-kept
returns-in_err-work_once-clause-kept c =
    all_kept c.args.board.now c.attempts.board c.work_once.new.board c.args.caller c.args.bench.now c.attempts.bench c.work_once.new.bench
    c.attempts.invariant.works c.work_once.ensures.works c.attempts.invariant.kept c.work_once.ensures.kept

pub returns-clause-works : goal.returns-clause-works
returns-clause-works c = both_more c.args.board.now c.attempts.board c.work_once.new.board c.args.caller c.attempts.invariant.works c.work_once.ensures.works

pub returns-clause-settled : goal.returns-clause-settled
returns-clause-settled c =
    let all = both_more c.args.board.now c.attempts.board c.work_once.new.board c.args.caller c.attempts.invariant.works c.work_once.ensures.works in
    let worker : IsWorker c.work_once.new.board.rules c.args.caller = subst (λ (r : Rules). IsWorker r c.args.caller) (sym all.rules) c.requires.worker in
    let idle : (job : ℕ) → IsWaiting c.work_once.new.board.rules c.work_once.new.board.journal job → ⊥ = search rules in
    λ alone. all_settled c.work_once.new.board c.args.caller c.rules.ensures.limits c.journal.ensures.legal worker c.work_once.ensures.resting idle
    (ap (λ (r : Rules). r.workers) all.rules ∙ alone)
