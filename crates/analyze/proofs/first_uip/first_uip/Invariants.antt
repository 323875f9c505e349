use Rattle.std.proofs.Common.{◌≤◌, length}
use Rattle.clause_arena.specs.Arena.{clause_at}
use Rattle.analyze.specs.Seen.{Agree, AreDistinct}
use Rattle.analyze.specs.FirstUip.{IsResolvedFrom, IsUnderWay}
use Rattle.analyze.proofs.first_uip.first_uip.Given as goal

abbrev pub invariant-loop-seen : goal.invariant-loop-seen
invariant-loop-seen l = record {
  agree : Agree l.seen l.analyzed.items;
  distinct : AreDistinct l.analyzed.items;
  within : l.place ≤ length l.trail.entries;
  resolved_from : IsResolvedFrom l.arena l.trail.entries l.trail.depth
      (clause_at l.arena l.conflict).lits l.place l.analyzed.items;
  under_way : IsUnderWay l.trail.entries l.trail.depth l.place l.left l.analyzed.items;
}

abbrev pub decreases-loop-seen : goal.decreases-loop-seen
decreases-loop-seen l = l.place
