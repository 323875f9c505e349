-- What the passes of a run's clients have added and seen.
use Rattle.std.proofs.Common.{◌≡◌, ◌∙◌, ℕ, suc, ◌+◌, ◌<◌, ◌≤◌, Bool, true, false, List, [], ◌∷◌}
use Rattle.std.proofs.Common.{◌++◌}
use Rattle.std.proofs.Common.{length, refl, ap, sym, subst, arith, append-nil, cond, Option, None}
use Rattle.std.proofs.Common.{Some}
use Rattle.std.specs.Prelude.{◌==◌, Result, Ok, Err, OnOk, OnErr, IfOk, IfErr, filter, filter_map}
use Rattle.std.specs.List.{cons_option}
use Rattle.std.specs.Arc.{arc_value}
use Rattle.std.proofs.lemmas.List.{length-append}
use Rattle.entry_core.specs.declared.entries.Entry.{Entry}
use Rattle.entry_core.specs.declared.entries.Event.{Event}
use Rattle.entry_core.specs.declared.entries.Event.TheVariants as event
use Rattle.entry_core.specs.declared.segments.Segment.{Segment}
use Rattle.entry_core.specs.Journal.{jobs, segment_of, segments}
use Rattle.entry_core.specs.Settled.{cancelled, cancelled_by}
use Rattle.board_core.specs.State.{State}
use Rattle.board_core.specs.declared.faults.AddFault.{AddFault}
use Rattle.board_core.specs.declared.faults.CancelFault.{CancelFault}
use Rattle.board_core.proofs.Readings.{unread, read_on}
use Rattle.service.specs.Holds.{Looked, MadeEntry}
use Rattle.service.specs.Passes.{BoardLock, BoardPass, IsClientPass, IsReady, Keeps, board_of}
use Rattle.service.specs.Passes.{caller_of}
use Rattle.service.specs.Replies.{HasAdded, HasCancelled, HasClosed}
use Rattle.turn_lock.specs.Entries.{entries_of}
use Rattle.tarmo_run.specs.declared.adder.Adder.{Adder}
use Rattle.tarmo_run.specs.declared.printer.Printer.{Printer}
use Rattle.tarmo_run.specs.Growth.{HasNoJobMore, IsLonger}
use Rattle.entry_core.specs.Legal.{IsClient, IsLegal}
use Rattle.board_core.specs.Replies.{HasVerdict}
use Rattle.trace_core.specs.Known.{item_at}
use Rattle.turn_lock.specs.declared.view.Look.{Look}
use Rattle.service.proofs.Keeping.{keeps_none, keeps_then}
use Rattle.tarmo_run.specs.declared.writer.Writer.{Writer}
use Rattle.tarmo_run.specs.Sides.{HasPrinted, IsAdder, IsPrinter, Moves, Prints, own_of, seen_by}
use Rattle.tarmo_run.specs.Writer.{Breaks, HasCounted, IsDue, TookBlocks, TookFront, Writes}
use Rattle.tarmo_run.specs.declared.writer.Due.{Due}
use Rattle.tarmo_run.proofs.Boards.{blocks_stay, more_jobs, no_job_none, no_job_one}
use Rattle.tarmo_run.proofs.Desks.{counted_longer}
use Rattle.tarmo_run.proofs.Reached.{written_still}

-- a front of the blocks is one of a longer board's too
pub front_still : (trace : Bool) (old new : State) (before now : Option (List ℕ)) →
    IsLonger old new → TookFront trace old before now → TookFront trace new before now
front_still trace old new before now longer front = record {
  count = front.count;
  few = (let more = more_jobs old new longer in omega (arith, front.few, more));
  blocks = front.blocks;
  right = blocks_stay trace old new front.count front.blocks longer front.few front.right;
  size = front.size;
  within = front.within;
  taken = front.taken;
}

abbrev entry_by : ℕ → Event → Entry
entry_by caller happened = record { caller = caller; event = happened }

-- ---- a pass's own entries after a hold

made_own : (lock : BoardLock) (old new : BoardPass) (shown : List Entry) (happened : Event) →
    MadeEntry lock old new shown happened →
    new.own ≡ old.own ++ entry_by old.number happened ∷ []
made_own lock old new shown happened made = ap (λ (p : BoardPass). p.own) made.hold.left

looked_own : (lock : BoardLock) (old new : BoardPass) → Looked lock old new → new.own ≡ old.own
looked_own lock old new looked =
    ap (λ (p : BoardPass). p.own) looked.hold.left ∙ append-nil old.own

-- an entry that a reading doesn't see
unread_own : {X : Type 0} (read : Event → Option X) (lock : BoardLock) (old new : BoardPass)
    (shown : List Entry) (happened : Event) → read happened ≡ None →
    MadeEntry lock old new shown happened →
    filter_map (λ (e : Entry). read e.event) new.own
    ≡ filter_map (λ (e : Entry). read e.event) old.own
unread_own read lock old new shown happened none made =
    ap (filter_map (λ (e : Entry). read e.event)) (made_own lock old new shown happened made)
    ∙ unread (λ (e : Entry). read e.event) old.own (entry_by old.number happened) none

-- ---- the adder

-- the jobs that a pass has added are no more than there are
fewer : {X : Type 0} (read : Entry → Option X) (p : Entry → Bool) (list : List Entry) →
    length (filter_map read (filter p list)) ≤ length (filter_map read list)
fewer read p [] = omega arith
fewer {X} read p (entry ∷ list) = by (p entry) (fewer read p list)
  where
    with_found : (found : Option X) (few all : List X) → length few ≤ length all →
        length (cons_option found few) ≤ length (cons_option found all)
    with_found None few all le = le
    with_found (Some x) few all le = omega (arith, le)

    without : (found : Option X) (few all : List X) → length few ≤ length all →
        length few ≤ length (cons_option found all)
    without None few all le = le
    without (Some x) few all le = omega (arith, le)

    by : (b : Bool) → length (filter_map read (filter p list)) ≤ length (filter_map read list) →
        length (filter_map read (cond b (entry ∷ filter p list) (filter p list)))
        ≤ length (cons_option (read entry) (filter_map read list))
    by true le = with_found (read entry) (filter_map read (filter p list)) (filter_map read list) le
    by false le = without (read entry) (filter_map read (filter p list)) (filter_map read list) le

pub added_few : (lock : BoardLock) (old new : BoardPass) (segment : Segment) (job : ℕ) →
    HasAdded lock old new segment job → jobs old.own < 1048576
added_few lock old new segment job added =
    let all = fewer (λ (e : Entry). segment_of e.event)
    (λ (e : Entry). caller_of e == old.number) added.shown in
    let own = ap jobs added.entry.hold.known.own in
    omega (arith, all, own, added.room.clauses.job.few_jobs)

pub added_segment : (lock : BoardLock) (old new : BoardPass) (segment : Segment) (job : ℕ) →
    HasAdded lock old new segment job → segments new.own ≡ segments old.own ++ segment ∷ []
added_segment lock old new segment job added =
    ap segments (made_own lock old new added.shown (event.Added added.given) added.entry)
    ∙ read_on (λ (e : Entry). segment_of e.event) old.own
    (entry_by old.number (event.Added added.given)) (arc_value added.given) refl
    ∙ ap (λ (s : Segment). segments old.own ++ s ∷ []) added.is

-- the adder after a job was added
pub adder_added : (lock : BoardLock) (old new : Adder) (segment : Segment) (job : ℕ) →
    IsAdder lock old → Keeps lock old.pass new.pass →
    HasAdded lock old.pass new.pass segment job → new.added ≡ old.added + 1 → IsAdder lock new
adder_added lock old new segment job is keeps added more = record {
  ready = keeps.ready;
  client = subst (λ n. IsClient lock.basis n) (sym keeps.number) is.client;
  number = keeps.number ∙ is.number;
  counted = let one = ap length (added_segment lock old.pass new.pass segment job added) in
      let sum = length-append (segments old.pass.own) (segment ∷ []) in
      omega (arith, more, is.counted, one, sum);
  none_cancelled = unread_own cancelled_by lock old.pass new.pass added.shown
      (event.Added added.given) refl added.entry ∙ is.none_cancelled;
}

-- and after a hold that added none
adder_by : (lock : BoardLock) (old new : Adder) → IsAdder lock old →
    Keeps lock old.pass new.pass → segments new.pass.own ≡ segments old.pass.own →
    cancelled new.pass.own ≡ cancelled old.pass.own → new.added ≡ old.added → IsAdder lock new
adder_by lock old new is keeps same uncancelled added = record {
  ready = keeps.ready;
  client = subst (λ n. IsClient lock.basis n) (sym keeps.number) is.client;
  number = keeps.number ∙ is.number;
  counted = added ∙ is.counted ∙ ap length (sym same);
  none_cancelled = uncancelled ∙ is.none_cancelled;
}

pub adder_looked : (lock : BoardLock) (old new : Adder) → IsAdder lock old →
    Keeps lock old.pass new.pass → Looked lock old.pass new.pass → new.added ≡ old.added →
    IsAdder lock new
adder_looked lock old new is keeps looked added =
    let same = looked_own lock old.pass new.pass looked in
    adder_by lock old new is keeps (ap segments same) (ap cancelled same) added

pub looked_same : (lock : BoardLock) (old new : BoardPass) → Looked lock old new →
    new.own ≡ old.own
looked_same = looked_own

-- the adder after the input was closed, or was closed before
pub adder_closed : (lock : BoardLock) (result : Result Unit ℕ) (old new : Adder) →
    IsAdder lock old → Keeps lock old.pass new.pass →
    OnOk result (HasClosed lock old.pass new.pass) →
    OnErr result (Looked lock old.pass new.pass) → new.added ≡ old.added → IsAdder lock new
adder_closed lock (Ok done) old new is keeps closed looked added =
    adder_by lock old new is keeps
    (unread_own segment_of lock old.pass new.pass closed.shown event.Closed refl closed.entry)
    (unread_own cancelled_by lock old.pass new.pass closed.shown event.Closed refl closed.entry)
    added
adder_closed lock (Err place) old new is keeps closed looked added =
    adder_looked lock old new is keeps looked added

pub own_closed : (lock : BoardLock) (result : Result Unit ℕ) (old new : BoardPass) →
    OnOk result (HasClosed lock old new) → OnErr result (Looked lock old new) →
    HasNoJobMore (own_of lock old) (own_of lock new)
own_closed lock (Ok done) old new closed looked =
    subst (λ (own : List Entry). HasNoJobMore (own_of lock old) (board_of lock own))
    (sym (made_own lock old new closed.shown event.Closed closed.entry))
    (no_job_one (own_of lock old) old.number event.Closed refl)
own_closed lock (Err place) old new closed looked =
    subst (λ (own : List Entry). HasNoJobMore (own_of lock old) (board_of lock own))
    (sym (looked_own lock old new looked)) (no_job_none (own_of lock old))

-- ---- the printer

seen_longer : (lock : BoardLock) (old new : BoardPass) → Keeps lock old new →
    IsLonger (seen_by lock old) (seen_by lock new)
seen_longer lock old new keeps =
    record { rules = refl; more = keeps.later.0; is = keeps.later.1 }

pub stays : (lock : BoardLock) (printer : Printer) → IsPrinter lock printer →
    Moves lock printer printer
stays lock printer is = record {
  keeps = keeps_none lock printer.pass is.ready;
  own = refl;
  writer = refl;
}

pub moves_on : (lock : BoardLock) (old mid new : Printer) → Moves lock old mid →
    Moves lock mid new → Moves lock old new
moves_on lock old mid new one two = record {
  keeps = keeps_then lock old.pass mid.pass new.pass one.keeps two.keeps;
  own = two.own ∙ one.own;
  writer = two.writer ∙ one.writer;
}

-- the printer once its pass has seen more
pub printer_moved : (lock : BoardLock) (old new : Printer) → IsPrinter lock old →
    Moves lock old new → (new.failed ≡ false → cancelled new.pass.own ≡ []) → IsPrinter lock new
printer_moved lock old new is moves uncancelled = record {
  ready = moves.keeps.ready;
  client = subst (λ n. IsClient lock.basis n) (sym moves.keeps.number) is.client;
  number = moves.keeps.number ∙ is.number;
  none_added = moves.own ∙ is.none_added;
  counted = subst (λ (w : Writer). HasCounted w (seen_by lock new.pass)) (sym moves.writer)
      (counted_longer old.writer (seen_by lock old.pass) (seen_by lock new.pass)
      (seen_longer lock old.pass new.pass moves.keeps) is.counted);
  none_cancelled = uncancelled;
}

pub looked_moves : (lock : BoardLock) (old new : Printer) → Keeps lock old.pass new.pass →
    Looked lock old.pass new.pass → new.writer ≡ old.writer → Moves lock old new
looked_moves lock old new keeps looked writer = record {
  keeps = keeps;
  own = ap segments (looked_own lock old.pass new.pass looked);
  writer = writer;
}

pub printer_looked : (lock : BoardLock) (old new : Printer) → IsPrinter lock old →
    Keeps lock old.pass new.pass → Looked lock old.pass new.pass → new.writer ≡ old.writer →
    new.failed ≡ old.failed → IsPrinter lock new
printer_looked lock old new is keeps looked writer failed =
    printer_moved lock old new is (looked_moves lock old new keeps looked writer)
    (λ well. ap cancelled (looked_own lock old.pass new.pass looked)
    ∙ is.none_cancelled (sym failed ∙ well))

-- a look at the count of settled jobs
pub count_moves : (lock : BoardLock) (old new : Printer) (floor : ℕ) (looks : List Look) →
    IsReady lock old.pass → new.pass ≡ record old.pass { floor = floor; looks = looks } →
    new.writer ≡ old.writer → Moves lock old new
count_moves lock old new floor looks ready is writer = record {
  keeps = record {
    ready = subst (IsReady lock) (sym is)
        (record { of_lock = ready.of_lock; idle = ready.idle });
    number = ap (λ (p : BoardPass). p.number) is;
    later = ([], ap (λ (p : BoardPass). p.seen) is ∙ sym (append-nil old.pass.seen));
  };
  own = ap (λ (p : BoardPass). segments p.own) is;
  writer = writer;
}

pub printer_counted : (lock : BoardLock) (old new : Printer) (floor : ℕ) (looks : List Look) →
    IsPrinter lock old → new.pass ≡ record old.pass { floor = floor; looks = looks } →
    new.writer ≡ old.writer → new.failed ≡ old.failed → IsPrinter lock new
printer_counted lock old new floor looks is pass writer failed =
    printer_moved lock old new is (count_moves lock old new floor looks is.ready pass writer)
    (λ well. ap (λ (p : BoardPass). cancelled p.own) pass ∙ is.none_cancelled (sym failed ∙ well))

-- what was looked up is due
pub due_seen : (lock : BoardLock) (old : BoardPass) (new : Printer) (due : Due) →
    IsPrinter lock new → Looked lock old new.pass → due.job ≡ new.writer.written + 1 →
    item_at (segments new.pass.seen) due.job ≡ Some (arc_value due.segment) →
    HasVerdict (seen_by lock new.pass) due.job due.verdict →
    IsDue new.writer (seen_by lock new.pass) due
due_seen lock old new due is looked next added verdict = record {
  legal = subst (IsLegal lock.basis) (append-nil new.pass.seen) looked.hold.legal;
  counted = is.counted;
  next = next;
  added = added;
  verdict = verdict;
}

-- a block more
pub printer_wrote : (lock : BoardLock) (old new : Printer) → IsPrinter lock old →
    new.pass ≡ old.pass → new.failed ≡ old.failed →
    HasCounted new.writer (seen_by lock old.pass) → IsPrinter lock new
printer_wrote lock old new is pass failed counted = record {
  ready = subst (IsReady lock) (sym pass) is.ready;
  client = subst (IsClientPass lock) (sym pass) is.client;
  number = ap (λ (p : BoardPass). p.number) pass ∙ is.number;
  none_added = ap (λ (p : BoardPass). segments p.own) pass ∙ is.none_added;
  counted = subst (λ (p : BoardPass). HasCounted new.writer (seen_by lock p)) (sym pass) counted;
  none_cancelled = λ well. ap (λ (p : BoardPass). cancelled p.own) pass
      ∙ is.none_cancelled (sym failed ∙ well);
}

-- a hold that cancelled a job, or none
pub cancel_moves : (lock : BoardLock) (result : Result Unit CancelFault) (old new : Printer)
    (job : ℕ) → Keeps lock old.pass new.pass →
    OnOk result (HasCancelled lock old.pass new.pass job) →
    OnErr result (Looked lock old.pass new.pass) → new.writer ≡ old.writer → Moves lock old new
cancel_moves lock (Ok done) old new job keeps made looked writer = record {
  keeps = keeps;
  own = unread_own segment_of lock old.pass new.pass made.shown (event.Cancelled job) refl
      made.entry;
  writer = writer;
}
cancel_moves lock (Err fault) old new job keeps made looked writer =
    looked_moves lock old new keeps looked writer

-- and what the printer is then, once its sink has failed
pub cancelled_on : (lock : BoardLock) (start old new : Printer) (result : Result Unit CancelFault)
    (job : ℕ) → IsPrinter lock old → Moves lock start old → old.failed ≡ true →
    Keeps lock old.pass new.pass → OnOk result (HasCancelled lock old.pass new.pass job) →
    OnErr result (Looked lock old.pass new.pass) → new.writer ≡ old.writer →
    new.failed ≡ old.failed → IsPrinter lock new × Moves lock start new
cancelled_on lock start old new result job is before failed keeps made looked writer same =
    let moves = cancel_moves lock result old new job keeps made looked writer in (
      printer_moved lock old new is moves (λ well. absurd (neither (sym failed ∙ sym same ∙ well))),
      moves_on lock start old new before moves,
    )
  where
    neither : true ≡ false → ⊥
    neither both = cc

-- a hold that closed the input, or found it closed
pub close_moves : (lock : BoardLock) (result : Result Unit ℕ) (old new : Printer) →
    Keeps lock old.pass new.pass → OnOk result (HasClosed lock old.pass new.pass) →
    OnErr result (Looked lock old.pass new.pass) → new.writer ≡ old.writer → Moves lock old new
close_moves lock (Ok done) old new keeps closed looked writer = record {
  keeps = keeps;
  own = unread_own segment_of lock old.pass new.pass closed.shown event.Closed refl closed.entry;
  writer = writer;
}
close_moves lock (Err place) old new keeps closed looked writer =
    looked_moves lock old new keeps looked writer

-- what was printed stays printed
printed_by : (trace : Bool) (lock : BoardLock) (old new : Printer) (flag : Bool)
    (before now : Option (List ℕ)) → IsPrinter lock old → Moves lock old new →
    HasPrinted trace lock old flag before now → HasPrinted trace lock new flag before now
printed_by trace lock old new false before now is moves printed =
    written_still trace old.writer new.writer (seen_by lock old.pass) (seen_by lock new.pass)
    before now (seen_longer lock old.pass new.pass moves.keeps) moves.writer is.counted.few printed
printed_by trace lock old new true before now is moves printed =
    front_still trace (seen_by lock old.pass) (seen_by lock new.pass) before now
    (seen_longer lock old.pass new.pass moves.keeps) printed

pub prints_still : (trace : Bool) (lock : BoardLock) (old new : Printer)
    (now : Option (List ℕ)) → IsPrinter lock old → Moves lock old new →
    new.failed ≡ old.failed → Prints trace lock old new now now
prints_still trace lock old new now is moves failed before printed =
    subst (λ b. HasPrinted trace lock new b before now) (sym failed)
    (printed_by trace lock old new old.failed before now is moves printed)

pub prints_none : (trace : Bool) (lock : BoardLock) (printer : Printer) (now : Option (List ℕ)) →
    Prints trace lock printer printer now now
prints_none trace lock printer now before printed = printed

pub prints_on : (trace : Bool) (lock : BoardLock) (old mid new : Printer)
    (first second third : Option (List ℕ)) → Prints trace lock old mid first second →
    Prints trace lock mid new second third → Prints trace lock old new first third
prints_on trace lock old mid new first second third one two before printed =
    two before (one before printed)

-- blocks more, while the sink takes them
pub prints_wrote : (trace : Bool) (lock : BoardLock) (old new : Printer)
    (now after : Option (List ℕ)) → old.failed ≡ false → new.failed ≡ false →
    new.pass ≡ old.pass →
    Writes trace (seen_by lock old.pass) old.writer new.writer now after →
    Prints trace lock old new now after
prints_wrote trace lock old new now after well still pass writes before printed =
    subst (λ b. HasPrinted trace lock new b before after) (sym still)
    (subst (λ (p : BoardPass). TookBlocks trace (seen_by lock p) new.writer.written before after)
    (sym pass)
    (writes before (subst (λ b. HasPrinted trace lock old b before now) well printed)))

-- the sink failed
pub prints_broke : (trace : Bool) (lock : BoardLock) (old new : Printer)
    (now after : Option (List ℕ)) → old.failed ≡ false → new.failed ≡ true →
    Keeps lock old.pass new.pass →
    Breaks trace (seen_by lock old.pass) old.writer now after →
    Prints trace lock old new now after
prints_broke trace lock old new now after well failed keeps breaks before printed =
    subst (λ b. HasPrinted trace lock new b before after) (sym failed)
    (front_still trace (seen_by lock old.pass) (seen_by lock new.pass) before after
    (seen_longer lock old.pass new.pass keeps)
    (breaks before (subst (λ b. HasPrinted trace lock old b before now) well printed)))

-- the adder once its clauses changed
pub adder_same : (lock : BoardLock) (old new : Adder) → IsAdder lock old →
    new.pass ≡ old.pass → new.added ≡ old.added → IsAdder lock new
adder_same lock old new is pass added = record {
  ready = subst (IsReady lock) (sym pass) is.ready;
  client = subst (IsClientPass lock) (sym pass) is.client;
  number = ap (λ (p : BoardPass). p.number) pass ∙ is.number;
  counted = added ∙ is.counted ∙ ap (λ (p : BoardPass). jobs p.own) (sym pass);
  none_cancelled = ap (λ (p : BoardPass). cancelled p.own) pass ∙ is.none_cancelled;
}
