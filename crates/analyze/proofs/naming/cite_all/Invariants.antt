use Rattle.std.proofs.Common.{◌≡◌, take, drop, map, max}
use Rattle.trace_core.specs.Trace.{greatest}
use Rattle.analyze.specs.Naming.{name_for, tag_for}
use Rattle.analyze.proofs.naming.cite_all.Given as goal

abbrev pub invariant-loop-place : goal.invariant-loop-place
invariant-loop-place l = record {
  names : l.names.items ≡ map (name_for l.arena l.trail.entries l.units) (take l.place-index l.places);
  tag : max l.tag (greatest (map (tag_for l.arena l.trail.entries l.tags) (drop l.place-index l.places))) ≡ greatest (map (tag_for l.arena l.trail.entries l.tags) l.places);
}
