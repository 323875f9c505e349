-- One attempt, or the rest.
use Rattle.std.proofs.Common.{◌≡◌, ℕ, sym, subst, rules}
use Rattle.entry_core.specs.Schedule.{IsWaiting}
use Rattle.board_core.specs.State.{State}
use Rattle.board_core.specs.Replies.{IsBegun, IsTask}
use Rattle.worker_loop.specs.Fits.{Fits}
use Rattle.worker_loop.specs.Working.{EndsEachOnce, IsResting, HasAttemptsMore}
use Rattle.worker_loop.proofs.Rested.{begun_at, rested}
use Rattle.worker_loop.proofs.Left.{left_fewer}
use Rattle.worker_loop.proofs.Kept.{fits_entered, nothing_more}
use Rattle.worker_loop.specs.Attempts.{KeepsOn}
use Rattle.worker_loop.proofs.OneWorker.{on_itself, once_kept, once_more}
use Rattle.worker_loop.proofs.Finished.{no_task}
use Rattle.worker_loop.proofs.EndedOnce.{ended_once}
use Rattle.worker_loop.proofs.working.work_once.Goals as goal

pub returns-in_err-job-clause-resting : goal.returns-in_err-job-clause-resting
returns-in_err-job-clause-resting c =
    let same : c.take.new.self ≡ c.args.board.now = search rules in
    subst (λ (b : State). IsResting b c.args.caller) (sym same) c.requires.resting

pub make_attempt-requires-clause-at : goal.make_attempt-requires-clause-at
make_attempt-requires-clause-at c =
    let begun : IsBegun c.args.board.now c.take.new.self c.args.caller c.in-Job.job c.in-Job.attempt =
    subst (IsTask c.args.board.now c.take.new.self c.args.caller) c.in-Job.is c.in_ok-job.ensures.task in
    begun_at c.args.board.now c.take.new.self c.args.caller c.in-Job.job c.in-Job.attempt begun

pub make_attempt-requires-clause-fits : goal.make_attempt-requires-clause-fits
make_attempt-requires-clause-fits c =
    let begun : IsBegun c.args.board.now c.take.new.self c.args.caller c.in-Job.job c.in-Job.attempt =
    subst (IsTask c.args.board.now c.take.new.self c.args.caller) c.in-Job.is c.in_ok-job.ensures.task in
    fits_entered c.args.bench.now c.args.board.now c.take.new.self c.args.caller _ begun.adds c.requires.fits

pub returns-in-Job-clause-works : goal.returns-in-Job-clause-works
returns-in-Job-clause-works c =
    let begun : IsBegun c.args.board.now c.take.new.self c.args.caller c.in-Job.job c.in-Job.attempt =
    subst (IsTask c.args.board.now c.take.new.self c.args.caller) c.in-Job.is c.in_ok-job.ensures.task in
    once_more c.args.board.now c.take.new.self c.make_attempt.new.board c.args.caller c.in-Job.job c.in-Job.attempt c.args.bench.now c.make_attempt.new.bench
    c.journal.ensures.legal begun c.make_attempt.ensures.made

pub returns-in-Job-clause-resting : goal.returns-in-Job-clause-resting
returns-in-Job-clause-resting c =
    let begun : IsBegun c.args.board.now c.take.new.self c.args.caller c.in-Job.job c.in-Job.attempt =
    subst (IsTask c.args.board.now c.take.new.self c.args.caller) c.in-Job.is c.in_ok-job.ensures.task in
    rested c.args.board.now c.take.new.self c.make_attempt.new.board c.args.caller c.in-Job.job c.in-Job.attempt c.requires.resting begun c.make_attempt.ensures.ended

pub returns-in-Job-clause-fewer : goal.returns-in-Job-clause-fewer
returns-in-Job-clause-fewer c =
    let begun : IsBegun c.args.board.now c.take.new.self c.args.caller c.in-Job.job c.in-Job.attempt =
    subst (IsTask c.args.board.now c.take.new.self c.args.caller) c.in-Job.is c.in_ok-job.ensures.task in
    λ made. left_fewer c.args.board.now c.take.new.self c.make_attempt.new.board c.args.caller c.in-Job.job c.in-Job.attempt begun c.make_attempt.ensures.ended

pub returns-in_err-job-clause-kept : goal.returns-in_err-job-clause-kept
returns-in_err-job-clause-kept c =
    let same : c.take.new.self ≡ c.args.board.now = search rules in
    λ alone before. subst (λ (b : State). KeepsOn c.args.board.now b c.args.bench.now c.args.bench.now) (sym same) (on_itself c.args.board.now c.args.bench.now before)

pub returns-in-Job-clause-kept : goal.returns-in-Job-clause-kept
returns-in-Job-clause-kept c =
    let begun : IsBegun c.args.board.now c.take.new.self c.args.caller c.in-Job.job c.in-Job.attempt =
    subst (IsTask c.args.board.now c.take.new.self c.args.caller) c.in-Job.is c.in_ok-job.ensures.task in
    λ alone before. once_kept c.args.board.now c.take.new.self c.make_attempt.new.board c.args.caller c.in-Job.job c.in-Job.attempt c.args.bench.now c.make_attempt.new.bench
    c.journal.ensures.legal c.requires.worker c.requires.resting alone begun c.make_attempt.ensures.ended c.make_attempt.ensures.made before

pub returns-in-Done : goal.returns-in-Done
returns-in-Done c =
    let rest = no_task c.args.board.now c.take.new.self c.args.caller c.in_ok-job.field-0 c.in-Done.is c.in_ok-job.ensures.task in
    let same : c.args.board.now ≡ c.take.new.self = sym rest.0 in
    record {
      works = subst (λ (b : State). HasAttemptsMore c.args.board.now b c.args.caller) same (nothing_more c.args.board.now c.args.caller);
      resting = subst (λ (b : State). IsResting b c.args.caller) same c.requires.resting;
      fits = subst (λ (b : State). Fits c.args.bench.now b.journal) same c.requires.fits;
      ended = subst (λ (b : State). EndsEachOnce b c.args.caller) same (ended_once c.args.board.now c.args.caller c.journal.ensures.legal c.requires.resting);
      kept = λ alone before. subst (λ (b : State). KeepsOn c.args.board.now b c.args.bench.now c.args.bench.now) same (on_itself c.args.board.now c.args.bench.now before);
      wanted = tt;
      fewer = λ made. absurd (cc);
      idle = λ made. subst (λ (b : State). (job : ℕ) → IsWaiting b.rules b.journal job → ⊥) same rest.1;
    }

pub returns-in_err-job-clause-ended : goal.returns-in_err-job-clause-ended
returns-in_err-job-clause-ended c =
    let same : c.take.new.self ≡ c.args.board.now = search rules in
    subst (λ (b : State). EndsEachOnce b c.args.caller) (sym same) (ended_once c.args.board.now c.args.caller c.journal.ensures.legal c.requires.resting)

pub returns-in-Job-clause-ended : goal.returns-in-Job-clause-ended
returns-in-Job-clause-ended c =
    let begun : IsBegun c.args.board.now c.take.new.self c.args.caller c.in-Job.job c.in-Job.attempt =
    subst (IsTask c.args.board.now c.take.new.self c.args.caller) c.in-Job.is c.in_ok-job.ensures.task in
    ended_once c.make_attempt.new.board c.args.caller c.journal-in-Job.ensures.legal
    (rested c.args.board.now c.take.new.self c.make_attempt.new.board c.args.caller c.in-Job.job c.in-Job.attempt c.requires.resting begun c.make_attempt.ensures.ended)
