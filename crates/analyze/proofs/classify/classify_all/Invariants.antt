use Rattle.std.proofs.Common.{◌-◌, length}
use Rattle.analyze.proofs.Classified.{Parting}
use Rattle.analyze.proofs.classify.classify_all.Given as goal

abbrev pub invariant-loop-next : goal.invariant-loop-next
invariant-loop-next l =
    Parting l.arena l.trail.entries l.trail.depth l.rule l.fn.analyzed.items l.seen l.analyzed.items
    l.kept.items l.resolved.items l.next

-- how many places may be left to handle
abbrev pub decreases-loop-next : goal.decreases-loop-next
decreases-loop-next l = length l.seen - l.next
