use Rattle.std.proofs.Common.{get_or, subst, sym, take}
use Rattle.std.proofs.lemmas.List.{take_more}
use Rattle.entry_core.specs.declared.rules.Rules.{Rules}
use Rattle.entry_core.specs.Legal.{IsWorker}
use Rattle.worker_loop.specs.Shared.{HasShared}
use Rattle.worker_loop.proofs.Fitting.{few_packets}
use Rattle.worker_loop.proofs.Sharings.{lessons_stay, nothing_shared, shared_none, shared_on, shared_twice}
use Rattle.worker_loop.proofs.sharing.share_all.Goals as goal

pub loop-number-init : goal.loop-number-init
loop-number-init c = record { more = shared_none c.args.board.now c.args.caller; shared = nothing_shared c.args.board.now c.args.bench.now c.requires.fits c.requires.read }

pub share_one-requires-clause-worker : goal.share_one-requires-clause-worker
share_one-requires-clause-worker c = subst (λ (r : Rules). IsWorker r c.args.caller) (sym c.loop-number.invariant.more.rules) c.requires.worker

pub share_one-requires-clause-fits : goal.share_one-requires-clause-fits
share_one-requires-clause-fits c = c.loop-number.invariant.shared.fits

pub share_one-requires-clause-read : goal.share_one-requires-clause-read
share_one-requires-clause-read c = c.loop-number.invariant.shared.read

pub share_one-requires-clause-lesson : goal.share_one-requires-clause-lesson
share_one-requires-clause-lesson c =
    lessons_stay c.args.bench.now.session.solver c.loop-number.bench.session.solver (get_or c.args.learnt.now c.loop-number.number-index 0) c.loop-number.invariant.shared.session
    (c.requires.lessons c.loop-number.number-index 0 c.loop-number-test.true)

pub returns-in_err-share_one-clause-more : goal.returns-in_err-share_one-clause-more
returns-in_err-share_one-clause-more c = shared_twice c.args.board.now c.loop-number.board c.share_one.new.board c.args.caller c.loop-number.invariant.more c.share_one.ensures.more

pub loop-number-preserved : goal.loop-number-preserved
loop-number-preserved c = record {
  more = shared_twice c.args.board.now c.loop-number.board c.share_one.new.board c.args.caller c.loop-number.invariant.more c.share_one.ensures.more;
  shared = subst (HasShared c.share_one.new.board c.args.bench.now c.share_one.new.bench) (sym (take_more c.args.learnt.now c.loop-number.number-index 0 c.loop-number-test.true))
      (shared_on c.loop-number.board c.share_one.new.board c.args.caller c.args.bench.now c.loop-number.bench c.share_one.new.bench (take c.loop-number.number-index c.args.learnt.now)
      (get_or c.args.learnt.now c.loop-number.number-index 0) c.share_one.ensures.more (few_packets c.share_one.new.board.rules c.share_one.new.board.journal c.journal.ensures.legal)
      c.loop-number.invariant.shared c.in_ok-share_one.ensures.shared);
}
