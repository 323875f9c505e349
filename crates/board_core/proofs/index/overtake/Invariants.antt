use Rattle.std.proofs.Common.{suc, ◌-◌}
use Rattle.board_core.proofs.Overtaken.{IsWalked}
use Rattle.board_core.proofs.index.overtake.Given as goal

abbrev pub invariant-loop-job : goal.invariant-loop-job
invariant-loop-job l = IsWalked l.most l.by l.last l.fn.jobs.items l.jobs.items l.waiting l.job l.more

abbrev pub decreases-loop-job : goal.decreases-loop-job
decreases-loop-job l = suc l.last - l.job
