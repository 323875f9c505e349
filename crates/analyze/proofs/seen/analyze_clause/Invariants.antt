use Rattle.std.proofs.Common.{◌≤◌, take}
use Rattle.analyze.specs.Graph.{IsPlaceOf}
use Rattle.analyze.specs.Seen.{Agree, AreDistinct, AreAllSeen, HasGrown}
use Rattle.analyze.proofs.seen.analyze_clause.Given as goal

abbrev pub invariant-loop-lit : goal.invariant-loop-lit
invariant-loop-lit l = record {
  agree : Agree l.seen l.analyzed.items;
  distinct : AreDistinct l.analyzed.items;
  few : l.count ≤ l.lit-index;
  all_seen : AreAllSeen l.trail.entries l.analyzed.items (take l.lit-index l.clause);
  grown : HasGrown l.trail.entries l.trail.depth (IsPlaceOf l.trail.entries l.clause)
      l.fn.analyzed.items l.analyzed.items l.count;
}
