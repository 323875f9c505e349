-- How the queue and the phases are kept.
use Rattle.std.specs.Prelude.{◌≡◌, ℕ, ◌+◌, ◌≤◌, ◌==◌, if◌then◌else◌, List, [], ◌∷◌, ◌++◌, length}
use Rattle.pick_core.specs.declared.links.Links.{Links}
use Rattle.pick_core.specs.declared.queue.Queue.TheInside.{Inside}
use Rattle.pick_core.specs.declared.phases.Phases.TheInside as phases
use Rattle.pick_core.specs.Queue.{QueueView}
use Rattle.pick_core.specs.Phases.{PhasesView}
use Rattle.pick_core.specs.Links.{farther_at, first_of, walk, IsOrder}

-- what stands before the variable, all where it isn't there
abbrev pub front_to : ℕ → List ℕ → List ℕ
front_to at [] = []
front_to at (var ∷ vars) = if var == at then [] else var ∷ front_to at vars

abbrev pub order_of : List Links → List ℕ
order_of links = walk links (length links) (farther_at links 0)

abbrev pub seen : List Links → ℕ → ℕ → QueueView
seen links cursor vars = record {
  order = order_of links;
  skipped = front_to cursor (order_of links);
  vars = vars;
}

abbrev pub queue_of : Inside → QueueView
queue_of a = seen a.links.items a.cursor a.vars

-- the circle has these variables, and the cursor is the first one that isn't skipped, or 0
pub record IsLaid (links : List Links) (cursor vars : ℕ) (skipped rest : List ℕ) : Type 0 where
  pub order : IsOrder links (skipped ++ rest)
  pub cursor_is : cursor ≡ first_of rest
  pub vars_is : vars ≡ length (skipped ++ rest)
  pub tight : length links ≤ vars + 1

pub record IsKeptIn (links : List Links) (cursor vars : ℕ) : Type 0 where
  pub skipped : List ℕ
  pub rest : List ℕ
  pub laid : IsLaid links cursor vars skipped rest

abbrev pub IsKept : Inside → Type 0
IsKept a = IsKeptIn a.links.items a.cursor a.vars

abbrev pub phases_of : phases.Inside → PhasesView
phases_of a = record {
  phases = a.phases.items;
  first = a.first;
  vars = length a.phases.items;
}
