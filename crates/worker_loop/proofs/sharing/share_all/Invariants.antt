use Rattle.std.proofs.Common.{take}
use Rattle.worker_loop.specs.Shared.{HasShared, HasSharedMore}
use Rattle.worker_loop.proofs.sharing.share_all.Given as goal

abbrev pub invariant-loop-number : goal.invariant-loop-number
invariant-loop-number l = record {
  more : HasSharedMore l.fn.board l.board l.caller;
  shared : HasShared l.board l.fn.bench l.bench (take l.number-index l.learnt);
}
