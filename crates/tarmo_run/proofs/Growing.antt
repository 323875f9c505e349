-- A job more on the board.
use Rattle.std.proofs.Common.{◌≡◌, ◌∙◌, [], ◌∷◌, ◌++◌, refl, ap, sym, subst}
use Rattle.std.specs.Arc.{arc_value}
use Rattle.std.specs.declared.sync.Arc.{Arc}
use Rattle.std.specs.declared.alloc.Global.{Global}
use Rattle.entry_core.specs.declared.entries.Entry.{Entry}
use Rattle.entry_core.specs.declared.entries.Event.TheVariants as event
use Rattle.entry_core.specs.declared.segments.Segment.{Segment}
use Rattle.entry_core.specs.Journal.{segment_of, segments}
use Rattle.entry_core.specs.Settled.{cancelled, cancelled_by}
use Rattle.board_core.specs.State.{State, entered}
use Rattle.board_core.proofs.Readings.{unread, read_on}
use Rattle.worker_loop.proofs.Rested.{rests_still}
use Rattle.tarmo_run.specs.Growth.{HasJobsMore, IsLonger}

-- the entry that adds a job
abbrev adding : Arc Segment Global → Entry
adding segment = record { caller = 1; event = event.Added segment }

longer_by : (old new : State) (segment : Arc Segment Global) →
    new ≡ entered old 1 (event.Added segment) → IsLonger old new
longer_by old new segment is =
    subst (IsLonger old) (sym is) (record { rules = refl; more = adding segment ∷ []; is = refl })

pub one_segment_more : (old new : State) (segment : Arc Segment Global) (value : Segment) →
    new ≡ entered old 1 (event.Added segment) → arc_value segment ≡ value →
    segments new.journal ≡ segments old.journal ++ value ∷ []
one_segment_more old new segment value is same =
    ap (λ (b : State). segments b.journal) is
    ∙ read_on (λ (e : Entry). segment_of e.event) old.journal (adding segment)
    (arc_value segment) refl
    ∙ ap (λ (s : Segment). segments old.journal ++ s ∷ []) same

pub jobs_by : (old new : State) (segment : Arc Segment Global) →
    new ≡ entered old 1 (event.Added segment) → HasJobsMore old new
jobs_by old new segment is = record {
  longer = longer_by old new segment is;
  none_cancelled = ap (λ (b : State). cancelled b.journal) is
      ∙ unread (λ (e : Entry). cancelled_by e.event) old.journal (adding segment) refl;
  resting = λ caller resting.
      rests_still old new caller 1 (event.Added segment) refl refl is resting;
}
