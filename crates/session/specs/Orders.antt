-- What an order of decisions keeps.
use Rattle.std.specs.Prelude.{◌≡◌, ℕ, ◌≤◌, List}
use Rattle.trail_core.specs.Trail.{Entry, TrailView}
use Rattle.pick_core.specs.Assigned.{AreAssigned}
use Rattle.pick_core.specs.Scores.{FreeWait}
use Rattle.session.specs.declared.ranking.Ranking.{Ranking}
use Rattle.session.specs.declared.ranking.Ranking.TheVariants.{Scores, Queue}
use Rattle.session.specs.declared.order.Order.{Order}

-- how many variables were entered: 1 to that number
abbrev pub entered_in : Ranking → ℕ
entered_in (Scores scores) = scores.vars
entered_in (Queue queue stamps) = queue.vars

-- A search for a free variable finds each: it waits in the heap, or the queue doesn't skip it.
abbrev pub OffersFree : List Entry → Ranking → Type 0
OffersFree entries (Scores scores) = FreeWait entries scores
OffersFree entries (Queue queue stamps) = AreAssigned entries queue.skipped

-- So many variables are ranked, and have phases.
pub record IsOrder (order : Order) : Type 0 where
  pub ranked : entered_in order.ranking ≡ order.vars
  pub phased : order.vars ≤ order.phases.vars
  pub few : order.vars ≤ 8388607

-- The variables of the inputs are in the order, those of it are reserved, and free ones are found.
pub record IsOrderOf (greatest : ℕ) (trail : TrailView) (order : Order) : Type 0 where
  pub is : IsOrder order
  pub has_inputs : greatest ≤ order.vars
  pub reserved : order.vars ≤ trail.vars
  pub offers : OffersFree trail.entries order.ranking
