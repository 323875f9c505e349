-- Boards whose jobs have no clauses: their models are empty.
use Rattle.std.proofs.Common.{◌≡◌, ◌∙◌, ℕ, suc, ◌-◌, Bool, Option, Some, None, List, [], ◌∷◌, ◌++◌, map, refl, ap, sym, subst}
use Rattle.std.specs.Prelude.{All, Result, Ok, Err, IfOk, OnErr}
use Rattle.std.specs.Arc.{arc_value}
use Rattle.std.specs.declared.sync.Arc.{Arc}
use Rattle.std.specs.declared.alloc.Global.{Global}
use Rattle.std.proofs.lemmas.List.Elements.{All-push, All-head, All-tail}
use Rattle.std.proofs.lemmas.Option.{slice_get_within, get_or_from_slice_get}
use Rattle.sat_base.specs.Truth.{IsModelOf}
use Rattle.trace_core.specs.Known.{item_at}
use Rattle.trace_core.specs.Law.{clauses_up_to}
use Rattle.entry_core.specs.declared.answers.Answer.TheVariants as answer
use Rattle.entry_core.specs.declared.entries.Entry.{Entry}
use Rattle.entry_core.specs.declared.entries.Event.{Event}
use Rattle.entry_core.specs.declared.entries.Event.TheVariants as event
use Rattle.entry_core.specs.declared.segments.Segment.{Segment}
use Rattle.entry_core.specs.Journal.{segment_of, segments, tagged_from, cube_in, cube_of}
use Rattle.entry_core.specs.Right.{IsRightAnswer}
use Rattle.entry_core.proofs.Inputs.{item_found}
use Rattle.board_core.specs.declared.task.Task.{Task}
use Rattle.board_core.specs.declared.task.Task.TheVariants as task
use Rattle.board_core.specs.State.{State, entered}
use Rattle.board_core.specs.Replies.{IsTask}
use Rattle.board_core.specs.Worked.{empty_job, AreEmpty}
use Rattle.board_core.proofs.Readings.{unread, read_on}

none_tagged : (job : ℕ) (added : List Segment) → All (λ segment. segment ≡ empty_job) added → tagged_from job added ≡ []
none_tagged job [] all = refl
none_tagged job (segment ∷ rest) all =
    ap (λ (s : Segment). map (λ clause. record { clause = clause; tag = job }) s.clauses ++ tagged_from (suc job) rest) (All-head (λ (s : Segment). s ≡ empty_job) segment rest all)
    ∙ none_tagged (suc job) rest (All-tail (λ (s : Segment). s ≡ empty_job) segment rest all)

no_cube : (added : List Segment) (job : ℕ) → All (λ segment. segment ≡ empty_job) added → cube_in (item_at added job) ≡ []
no_cube added job all = by_item (item_at added job) refl
  where
    by_item : (o : Option Segment) → item_at added job ≡ o → cube_in o ≡ []
    by_item None is = refl
    by_item (Some segment) is =
        let at = item_found added job segment is in
        let here = get_or_from_slice_get added (job - 1) segment empty_job at.1 in
        ap (λ (s : Segment). s.cube) (sym here ∙ all (job - 1) empty_job (slice_get_within added (job - 1) segment at.1))

empty_model : IsModelOf [] [] []
empty_model = record { size = refl; clauses_hold = refl; cube_holds = refl }

-- the empty model is right for each job
pub empty_right : (traces : Bool) (journal : List Entry) (job : ℕ) → AreEmpty journal → IsRightAnswer traces journal job (answer.Model [])
empty_right traces journal job all =
    subst (λ known. IsModelOf (clauses_up_to known job) (cube_of journal job) []) (sym (none_tagged 1 (segments journal) all))
    (subst (λ cube. IsModelOf [] cube []) (sym (no_cube (segments journal) job all)) empty_model)

-- an entry that adds no job
pub still_empty : (board : State) (caller : ℕ) (happened : Event) → segment_of happened ≡ None → AreEmpty board.journal → AreEmpty (entered board caller happened).journal
still_empty board caller happened none all =
    subst (All (λ segment. segment ≡ empty_job)) (sym (unread (λ (e : Entry). segment_of e.event) board.journal (record { caller = caller; event = happened }) none)) all

-- an entry that adds a job without clauses
pub one_more_empty : (board : State) (caller : ℕ) (segment : Arc Segment Global) → arc_value segment ≡ empty_job → AreEmpty board.journal → AreEmpty (entered board caller (event.Added segment)).journal
one_more_empty board caller segment is all =
    subst (All (λ segment. segment ≡ empty_job)) (sym (read_on (λ (e : Entry). segment_of e.event) board.journal (record { caller = caller; event = event.Added segment }) (arc_value segment) refl))
    (All-push (λ (s : Segment). s ≡ empty_job) (segments board.journal) (arc_value segment) all is)

-- after a worker was told what to do
pub empty_told : (old new : State) (caller : ℕ) (given : Task) → IsTask old new caller given → AreEmpty old.journal → AreEmpty new.journal
empty_told old new caller (task.Job job number) told all =
    subst (λ (board : State). AreEmpty board.journal) (sym told.adds) (still_empty old caller (event.Began job number) refl all)
empty_told old new caller task.Done told all = subst (λ (board : State). AreEmpty board.journal) (sym told.0) all
empty_told old new caller task.Idle told all = subst (λ (board : State). AreEmpty board.journal) (sym told.0) all

pub empty_after : {E : Type 0} (result : Result Task E) (old new : State) (caller : ℕ) → IfOk result (IsTask old new caller) → OnErr result (new ≡ old) → AreEmpty old.journal → AreEmpty new.journal
empty_after (Ok given) old new caller told err all = empty_told old new caller given told all
empty_after (Err e) old new caller told err all = subst (λ (board : State). AreEmpty board.journal) (sym err) all
