-- Jobs of a journal, taken from it in order.
use Rattle.std.specs.Prelude.{◌≡◌, ℕ, ◌+◌, List, Some}
use Rattle.trace_core.specs.Known.{item_at}
use Rattle.entry_core.specs.declared.entries.Entry.{Entry}
use Rattle.entry_core.specs.declared.rules.Rules.{Rules}
use Rattle.entry_core.specs.declared.segments.Segment.{Segment}
use Rattle.entry_core.specs.Journal.{segments}
use Rattle.entry_core.specs.Legal.{IsLegal}
use Rattle.worker_loop.specs.declared.bench.Bench.{Bench}
use Rattle.worker_loop.specs.Fits.{Fits}

-- the first segments behind those of the first so many jobs
abbrev pub AreSegments : List Entry → ℕ → List Segment → Type 0
AreSegments journal from found = (k : ℕ) (segment : Segment) → item_at found k ≡ Some segment
    → item_at (segments journal) (from + k) ≡ Some segment

-- The journal that was seen is legal, the bench fits it, and these are the segments behind those
-- that are loaded.
pub record FitsBefore (bench : Bench) (found : List Segment) : Type 0 where
  pub rules : Rules
  pub journal : List Entry
  pub legal : IsLegal rules journal
  pub fits : Fits bench journal
  pub next : AreSegments journal bench.session.solver.bound found
