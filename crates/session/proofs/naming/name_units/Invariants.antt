use Rattle.std.proofs.Common.{◌≡◌, ◌≤◌, ◌-◌, length}
use Rattle.session.specs.Searching.{IsSearching, HasUnitsMore}
use Rattle.session.proofs.naming.name_units.Given as goal

abbrev pub invariant-loop-search : goal.invariant-loop-search
invariant-loop-search l =
    IsSearching l.search
    × (l.search ≡ record l.fn.search {
      units = l.search.units;
      tags = l.search.tags;
      named = l.search.named;
      steps = l.search.steps;
    })
    × HasUnitsMore l.fn.search.steps l.search.steps
    × (l.search.named ≤ length l.fn.search.trail.entries)

abbrev pub decreases-loop-search : goal.decreases-loop-search
decreases-loop-search l = length l.fn.search.trail.entries - l.search.named
