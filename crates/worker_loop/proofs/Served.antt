-- A worker on a service, from one hold to the next.
use Rattle.std.proofs.Common.{◌≡◌, ◌∙◌, inl, inr, ℕ, ◌+◌, ◌≤◌, ◌==◌, ◌||◌, Bool, true, false, not, List, [], ◌∷◌, ◌++◌, length, Option, Some, Result, Ok, Err, refl, ap, sym, subst, arith, append-nil}
use Rattle.std.specs.Prelude.{All, Contains, IfOk, IfSome, IsSome, OnErr, nat_le}
use Rattle.std.specs.List.{list_any}
use Rattle.std.proofs.lemmas.Bool.Decides.{nat_tests}
use Rattle.std.proofs.lemmas.List.{length_push}
use Rattle.std.proofs.lemmas.List.Elements.{All-nil, All-cons}
use Rattle.std.proofs.lemmas.List.Folds.{list_any-append}
use Rattle.trace_core.specs.Known.{item_at}
use Rattle.trace_core.proofs.Items.{item_at-kept as item_kept}
use Rattle.entry_core.specs.declared.entries.Entry.{Entry}
use Rattle.entry_core.specs.declared.entries.Event.{Event}
use Rattle.entry_core.specs.declared.entries.Event.TheVariants as event
use Rattle.entry_core.specs.declared.rules.Rules.{Rules}
use Rattle.entry_core.specs.Attempts.{Attempt, begun_by, attempts, ended_by, ended}
use Rattle.entry_core.specs.Legal.{IsLegal}
use Rattle.entry_core.specs.Schedule.{IsNext}
use Rattle.entry_core.specs.Settled.{settled}
use Rattle.turn_lock.specs.Entries.{AddsOwn}
use Rattle.board_core.specs.State.{State, entered}
use Rattle.board_core.specs.Replies.{IsBegun, IsDone, IsOwn, IsTask, job_at}
use Rattle.board_core.specs.declared.task.Task.{Task}
use Rattle.board_core.specs.declared.task.Task.TheVariants as task
use Rattle.board_core.proofs.Readings.{unread, read_on}
use Rattle.board_core.proofs.Verdicts.{entry_by}
use Rattle.board_core.proofs.Looked.{item_place}
use Rattle.service.specs.Holds.{Looked, MadeHold}
use Rattle.service.specs.Passes.{BoardLock, BoardPass, IsReady, Keeps, Knows, board_of, caller_of}
use Rattle.service.proofs.Made.{TookTurn, leaving, made_entry}
use Rattle.worker_loop.specs.declared.ends.End.{End}
use Rattle.worker_loop.specs.Attempts.{EndsBy, HasEnded, IsAt, event_of}
use Rattle.worker_loop.specs.Ends.{IsEnd}
use Rattle.worker_loop.specs.Slices.{HasOpen, IsAtWork}
use Rattle.worker_loop.specs.Work.{EndsInHold, HasOnly, HasTaken, MayEnd, MayEndWith, Rests, TakesInHold}
use Rattle.worker_loop.specs.Working.{IsResting}
use Rattle.worker_loop.proofs.Ended.{has_ended}
use Rattle.worker_loop.proofs.Events.{ends_one}
use Rattle.worker_loop.proofs.Holding.{at_work_after, later_by, made_hold, seen_is}
use Rattle.worker_loop.proofs.Passes.{at_besides, its_number, legal_front, none_of_others, others_more, owned_before, resting_besides}
use Rattle.worker_loop.proofs.Rested.{begun_at}
use Rattle.worker_loop.proofs.Slicing.{end_kept, some_weaker}

-- Entries of the caller came behind, and nothing else.
pub record HasOwnMore (old new : State) (caller : ℕ) : Type 0 where
  pub rules : new.rules ≡ old.rules
  pub more : List Entry
  pub is : new.journal ≡ old.journal ++ more
  pub own : All (λ (e : Entry). caller_of e ≡ caller) more

own_none : (board : State) (caller : ℕ) → HasOwnMore board board caller
own_none board caller = record { rules = refl; more = []; is = sym (append-nil board.journal); own = All-nil (λ (e : Entry). caller_of e ≡ caller) }

own_entry : (old new : State) (caller : ℕ) (happened : Event) → new ≡ entered old caller happened → HasOwnMore old new caller
own_entry old new caller happened is = record {
  rules = ap (λ (b : State). b.rules) is;
  more = entry_by caller happened ∷ [];
  is = ap (λ (b : State). b.journal) is;
  own = All-cons (λ (e : Entry). caller_of e ≡ caller) (entry_by caller happened) [] refl (All-nil (λ (e : Entry). caller_of e ≡ caller));
}

by_task : (old new : State) (caller : ℕ) (told : Task) → IsTask old new caller told → HasOwnMore old new caller
by_task old new caller (task.Job job number) begun = own_entry old new caller (event.Began job number) begun.adds
by_task old new caller task.Done is = subst (λ (b : State). HasOwnMore old b caller) (sym is.0) (own_none old caller)
by_task old new caller task.Idle is = subst (λ (b : State). HasOwnMore old b caller) (sym is.0) (own_none old caller)

pub took_own : {E : Type 0} (old new : State) (caller : ℕ) (r : Result Task E) → IfOk r (IsTask old new caller) → OnErr r (new ≡ old) → HasOwnMore old new caller
took_own old new caller (Ok told) ok err = by_task old new caller told ok
took_own old new caller (Err e) ok err = subst (λ (b : State). HasOwnMore old b caller) (sym err) (own_none old caller)

pub ended_own : (old new : State) (caller number job : ℕ) → HasEnded old new caller number job → HasOwnMore old new caller
ended_own old new caller number job ended = own_entry old new caller ended.happened ended.is

pub adds_own : (old new : State) (caller number : ℕ) (seen : List Entry) → HasOwnMore old new caller → caller ≡ number → seen ≡ old.journal → AddsOwn caller_of number seen new.journal
adds_own old new caller number seen more same at =
    (more.more, more.is ∙ ap (λ (entries : List Entry). entries ++ more.more) (sym at), subst (λ n. All (λ (e : Entry). caller_of e ≡ n) more.more) same more.own)

-- The next attempt is the only one.
only_begun : (old new : State) (caller job number : ℕ) → IsResting old caller → IsBegun old new caller job number → (other : ℕ) → IsOwn new caller other → other ≡ number
only_begun old new caller job number resting begun other own = by_place (nat_le other (length (attempts old.journal))) refl
  where
    this : Attempt
    this = record { number = number; worker = caller; job = job }

    more : attempts new.journal ≡ attempts old.journal ++ this ∷ []
    more = ap (λ (b : State). attempts b.journal) begun.adds ∙ read_on (λ (e : Entry). begun_by e.caller e.event) old.journal (entry_by caller (event.Began job number)) this refl

    same : ended new.journal ≡ ended old.journal
    same = ap (λ (b : State). ended b.journal) begun.adds ∙ unread (λ (e : Entry). ended_by e.event) old.journal (entry_by caller (event.Began job number)) refl

    found : item_at (attempts old.journal ++ this ∷ []) other ≡ Some own.begun
    found = ap (λ all. item_at all other) (sym more) ∙ own.running.found

    by_place : (b : Bool) → nat_le other (length (attempts old.journal)) ≡ b → other ≡ number
    by_place true is = absurd (resting other (record {
      begun = own.begun;
      running = record {
        found = sym (item_kept (attempts old.journal) (this ∷ []) other (let le : other ≤ length (attempts old.journal) = grind (arith, nat_tests) in le)) ∙ found;
        own = own.running.own;
        open_yet = ap (λ all. not (list_any (λ n. n == own.begun.number) all)) (sym same) ∙ own.running.open_yet;
      };
    }))
    by_place false is =
        let place = item_place (attempts old.journal ++ this ∷ []) other own.begun found in
        let top = length_push (attempts old.journal) this in
        let to = place.1 in
        let last : other ≡ length (attempts old.journal) + 1 = grind (arith, nat_tests) in
        last ∙ sym begun.numbered

-- What is true of the board and the caller is true of what the pass has seen, and of the pass.
at_pass : (P : State → ℕ → Type 0) (lock : BoardLock) (mid new : BoardPass) (after : State) (caller : ℕ) → after.rules ≡ lock.basis → caller ≡ mid.number → new ≡ leaving mid after → P after caller → P (board_of lock new.seen) new.number
at_pass P lock mid new after caller rules by left is =
    subst (P (board_of lock new.seen)) (by ∙ sym (ap (λ (p : BoardPass). p.number) left)) (subst (λ (b : State). P b caller) (sym (seen_is lock mid new after rules left)) is)

rested_before : (lock : BoardLock) (old mid : BoardPass) (before : State) (caller : ℕ) → IsAtWork lock old → Rests lock old → Knows old before → TookTurn old mid before.journal → caller ≡ mid.number → IsResting before caller
rested_before lock old mid before caller work rests known took by =
    subst (IsResting before) (sym (by ∙ ap (λ (p : BoardPass). p.number) took.2)) (resting_besides lock old before work.own known rests)

pub has_taken : {E : Type 0} (lock : BoardLock) (old mid new : BoardPass) (before after : State) (caller : ℕ) (r : Result Task E) → IsAtWork lock old → Rests lock old → before.rules ≡ lock.basis → Knows old before
    → TookTurn old mid before.journal → caller ≡ mid.number → IfOk r (IsTask before after caller) → OnErr r (after ≡ before) → new ≡ leaving mid after → IfOk r (HasTaken lock new)
has_taken lock old mid new before after caller (Err e) work rests at known took by ok err left = tt
has_taken lock old mid new before after caller (Ok (task.Job job number)) work rests at known took by ok err left =
    let rules : after.rules ≡ lock.basis = ap (λ (b : State). b.rules) ok.adds ∙ at in
    record {
      at = at_pass (λ board n. IsAt board n number job) lock mid new after caller rules by left (begun_at before after caller job number ok);
      only = at_pass (λ board n. (other : ℕ) → IsOwn board n other → other ≡ number) lock mid new after caller rules by left
          (only_begun before after caller job number (rested_before lock old mid before caller work rests known took by) ok);
    }
has_taken lock old mid new before after caller (Ok task.Done) work rests at known took by ok err left =
    let rules : after.rules ≡ lock.basis = ap (λ (b : State). b.rules) ok.0 ∙ at in (
      at_pass IsResting lock mid new after caller rules by left (subst (λ (b : State). IsResting b caller) (sym ok.0) (rested_before lock old mid before caller work rests known took by)),
      at_pass (λ board n. IsDone board) lock mid new after caller rules by left (subst IsDone (sym ok.0) ok.1),
    )
has_taken lock old mid new before after caller (Ok task.Idle) work rests at known took by ok err left =
    let rules : after.rules ≡ lock.basis = ap (λ (b : State). b.rules) ok.0 ∙ at in
    at_pass IsResting lock mid new after caller rules by left (subst (λ (b : State). IsResting b caller) (sym ok.0) (rested_before lock old mid before caller work rests known took by))

pub rests_on : {E : Type 0} (lock : BoardLock) (old mid new : BoardPass) (before after : State) (caller : ℕ) (r : Result Task E) → IsAtWork lock old → Rests lock old → before.rules ≡ lock.basis → Knows old before
    → TookTurn old mid before.journal → caller ≡ mid.number → OnErr r (after ≡ before) → new ≡ leaving mid after → OnErr r (Rests lock new)
rests_on lock old mid new before after caller (Ok told) work rests at known took by err left = tt
rests_on lock old mid new before after caller (Err e) work rests at known took by err left =
    let rules : after.rules ≡ lock.basis = ap (λ (b : State). b.rules) err ∙ at in
    at_pass IsResting lock mid new after caller rules by left (subst (λ (b : State). IsResting b caller) (sym err) (rested_before lock old mid before caller work rests known took by))

-- A job is to take where taking one failed.
pub wanted_on : {E : Type 0} (lock : BoardLock) (mid new : BoardPass) (before after : State) (r : Result Task E) → before.rules ≡ lock.basis
    → OnErr r ((job : ℕ) × IsNext before.rules before.journal job) → OnErr r (after ≡ before) → new ≡ leaving mid after → OnErr r ((job : ℕ) × IsNext lock.basis new.seen job)
wanted_on lock mid new before after (Ok told) at wanted err left = tt
wanted_on lock mid new before after (Err e) at wanted err left =
    let rules : after.rules ≡ lock.basis = ap (λ (b : State). b.rules) err ∙ at in
    subst (λ (b : State). (job : ℕ) × IsNext b.rules b.journal job) (sym err ∙ sym (seen_is lock mid new after rules left)) wanted

-- A hold that left the board as it was added nothing.
looked_by : (lock : BoardLock) (old mid new : BoardPass) (before after : State) → IsAtWork lock old → before.rules ≡ lock.basis → Knows old before → TookTurn old mid before.journal
    → after ≡ before → IsLegal after.rules after.journal → new ≡ leaving mid after → Looked lock old new
looked_by lock old mid new before after work at known took same legal left =
    let none : All (λ (e : Entry). caller_of e ≡ old.number) [] = All-nil (λ (e : Entry). caller_of e ≡ old.number) in
    let made : MadeHold lock old new before.journal [] =
    made_hold lock old mid new before after [] work.ready at known took (ap (λ (b : State). b.rules) same ∙ at) (ap (λ (b : State). b.journal) same ∙ sym (append-nil before.journal)) none legal left in
    subst (λ (shown : List Entry). MadeHold lock old new shown []) (sym (ap (λ (p : BoardPass). p.seen) left ∙ ap (λ (b : State). b.journal) same)) made

pub takes_in_hold : {E : Type 0} (lock : BoardLock) (old mid new : BoardPass) (before after : State) (caller : ℕ) (r : Result Task E) → IsAtWork lock old → before.rules ≡ lock.basis → Knows old before
    → TookTurn old mid before.journal → caller ≡ mid.number → IfOk r (IsTask before after caller) → IsLegal after.rules after.journal → new ≡ leaving mid after → IfOk r (TakesInHold lock old new)
takes_in_hold lock old mid new before after caller (Err e) work at known took by ok legal left = tt
takes_in_hold lock old mid new before after caller (Ok (task.Job job number)) work at known took by ok legal left = (
  before.journal,
  made_entry lock old mid new before after caller (event.Began job number) work.ready at known took ok.adds by legal left,
  subst (λ (r : Rules). IsNext r before.journal job) at ok.next,
)
takes_in_hold lock old mid new before after caller (Ok task.Done) work at known took by ok legal left = looked_by lock old mid new before after work at known took ok.0 legal left
takes_in_hold lock old mid new before after caller (Ok task.Idle) work at known took by ok legal left = looked_by lock old mid new before after work at known took ok.0 legal left

-- The hold in which taking a job failed added nothing.
pub looked_on : {E : Type 0} (lock : BoardLock) (old mid new : BoardPass) (before after : State) (r : Result Task E) → IsAtWork lock old → before.rules ≡ lock.basis → Knows old before
    → TookTurn old mid before.journal → OnErr r (after ≡ before) → IsLegal after.rules after.journal → new ≡ leaving mid after → OnErr r (Looked lock old new)
looked_on lock old mid new before after (Ok told) work at known took err legal left = tt
looked_on lock old mid new before after (Err e) work at known took err legal left = looked_by lock old mid new before after work at known took err legal left

-- An attempt may end at the board.
pub open_before : (lock : BoardLock) (old mid : BoardPass) (before : State) (caller number job : ℕ) → IsAtWork lock old → before.rules ≡ lock.basis → Knows old before → TookTurn old mid before.journal → caller ≡ mid.number
    → IsLegal lock.basis before.journal → HasOpen lock old number job → IsAt before caller number job
open_before lock old mid before caller number job work at known took by legal open_yet =
    subst (λ n. IsAt before n number job) (sym (by ∙ ap (λ (p : BoardPass). p.number) took.2)) (at_besides lock old before number job work.legal legal work.own known open_yet)

pub right_before : (lock : BoardLock) (old : BoardPass) (before : State) (number job : ℕ) (given : Option End) → before.rules ≡ lock.basis → Knows old before → HasOpen lock old number job → job_at before number ≡ job
    → IfSome given (IsEnd lock.basis old.seen job) → IfSome given (IsEnd before.rules before.journal (job_at before number))
right_before lock old before number job given at known open_yet here right =
    some_weaker (IsEnd lock.basis old.seen job) (IsEnd before.rules before.journal (job_at before number)) given
    (λ one is. subst (λ n. IsEnd before.rules before.journal n one) (sym here)
    (subst (λ (r : Rules). IsEnd r before.journal job one) (sym at)
    (end_kept lock.basis old.seen known.seen.0 before.journal job one known.seen.1 open_yet.there.added is))) right

-- an attempt that was ended isn't open
not_open : (b : Bool) → not (b || (true || false)) ≡ true → ⊥
not_open true is = cc
not_open false is = cc

ended_now : (old new : State) (caller number job : ℕ) → IsLegal new.rules new.journal → HasEnded old new caller number job → IsOwn new caller number → ⊥
ended_now old new caller number job legal ends own =
    let itself : own.begun.number ≡ number = its_number new.rules new.journal number own.begun legal own.running.found in
    let test : (number == own.begun.number) ≡ true = grind (arith, nat_tests) in
    not_open (list_any (λ n. n == own.begun.number) (ended old.journal))
    (sym (ap (λ b. not (list_any (λ n. n == own.begun.number) (ended old.journal) || (b || false))) test)
    ∙ sym (ap not (list_any-append (λ n. n == own.begun.number) (ended old.journal) (number ∷ [])))
    ∙ sym (ap (λ all. not (list_any (λ n. n == own.begun.number) all))
    (ap (λ (b : State). ended b.journal) ends.is ∙ read_on (λ (e : Entry). ended_by e.event) old.journal (entry_by caller ends.happened) number ends.ends))
    ∙ own.running.open_yet)

none_by_ending : (caller number : ℕ) (happened : Event) → ended_by happened ≡ Some number → (begun : Attempt) → Contains (attempts (entry_by caller happened ∷ [])) begun → begun.worker ≡ caller → ⊥
none_by_ending caller number happened ends begun has own =
    let none : attempts (entry_by caller happened ∷ []) ≡ [] = unread (λ (e : Entry). begun_by e.caller e.event) [] (entry_by caller happened) (ends_one caller number happened ends).begins in
    absurd (let lt = (subst (λ (all : List Attempt). Contains all begun) none has).1 in omega (arith, lt))

pub rests_after : (lock : BoardLock) (old mid new : BoardPass) (before after : State) (caller number job : ℕ) → IsAtWork lock old → before.rules ≡ lock.basis → Knows old before → TookTurn old mid before.journal → caller ≡ mid.number
    → HasOnly lock old number job → HasEnded before after caller number job → IsLegal after.rules after.journal → new ≡ leaving mid after → Rests lock new
rests_after lock old mid new before after caller number job work at known took by open_yet ends legal left =
    at_pass IsResting lock mid new after caller (ap (λ (b : State). b.rules) ends.is ∙ at) by left (λ other own. (
    let others = others_more lock old before work.own known in
    let same : caller ≡ old.number = by ∙ ap (λ (p : BoardPass). p.number) took.2 in
    let own_then : IsOwn before caller other =
    owned_before before after (entry_by caller ends.happened ∷ []) caller other (ap (λ (b : State). b.journal) ends.is) (none_by_ending caller number ends.happened ends.ends) own in
    let own_first : IsOwn (board_of lock old.seen) old.number other =
    owned_before (board_of lock old.seen) before others.0 old.number other others.1 (none_of_others others.0 old.number others.2) (subst (λ n. IsOwn before n other) same own_then) in
    ended_now before after caller number job legal ends (subst (IsOwn after caller) (open_yet.only other own_first) own)))

-- A pass that left after entries of its own.
pub work_on : (lock : BoardLock) (old mid new : BoardPass) (before after : State) (caller : ℕ) → IsAtWork lock old → before.rules ≡ lock.basis → TookTurn old mid before.journal → HasOwnMore before after caller
    → IsLegal after.rules after.journal → Keeps lock mid new → new ≡ leaving mid after → IsAtWork lock new
work_on lock old mid new before after caller work at took more legal keeps left =
    at_work_after lock old mid new after work (ap (λ (p : BoardPass). p.number) took.2) (more.rules ∙ at) legal keeps.ready left

pub keeps_on : (lock : BoardLock) (old mid new : BoardPass) (before after : State) (caller : ℕ) → Knows old before → TookTurn old mid before.journal → HasOwnMore before after caller → Keeps lock mid new → new ≡ leaving mid after → Keeps lock old new
keeps_on lock old mid new before after caller known took more keeps left = later_by lock old mid new before after more.more known took more.is keeps left

-- One entry ends an attempt.
pub ends_more : (old new : State) (caller number : ℕ) (happened : Event) → EndsBy old new caller number happened → HasOwnMore old new caller
ends_more old new caller number happened (inl is) = own_entry old new caller happened is
ends_more old new caller number happened (inr late) = own_entry old new caller (event.Dropped number) late.1

pub legal_before : (old new : State) (caller : ℕ) → HasOwnMore old new caller → IsLegal new.rules new.journal → IsLegal old.rules old.journal
legal_before old new caller more legal =
    subst (λ (r : Rules). IsLegal r old.journal) more.rules (legal_front new.rules [] old.journal more.more (subst (IsLegal new.rules) more.is legal))

pub may_end : (lock : BoardLock) (old mid : BoardPass) (before : State) (caller number : ℕ) (given : Option End) → IsAtWork lock old → before.rules ≡ lock.basis → Knows old before → TookTurn old mid before.journal → caller ≡ mid.number
    → MayEndWith lock old number given → IsLegal before.rules before.journal → MayEnd before caller number given
may_end lock old mid before caller number given work at known took by may legal =
    let here = open_before lock old mid before caller number may.job work at known took by (subst (λ (r : Rules). IsLegal r before.journal) at legal) may.only.at in
    record { own = here.own; right = right_before lock old before number may.job given at known may.only.at here.at_job may.right }

pub rests_when_ended : (lock : BoardLock) (old mid new : BoardPass) (before after : State) (caller number : ℕ) (given : Option End) → IsAtWork lock old → before.rules ≡ lock.basis → Knows old before → TookTurn old mid before.journal → caller ≡ mid.number
    → MayEndWith lock old number given → EndsBy before after caller number (event_of number given) → IsLegal after.rules after.journal → new ≡ leaving mid after → Rests lock new
rests_when_ended lock old mid new before after caller number given work at known took by may ends legal left =
    let was = legal_before before after caller (ends_more before after caller number (event_of number given) ends) legal in
    let here = open_before lock old mid before caller number may.job work at known took by (subst (λ (r : Rules). IsLegal r before.journal) at was) may.only.at in
    rests_after lock old mid new before after caller number may.job work at known took by may.only (has_ended before after caller number may.job given here ends) legal left

-- The hold in which an attempt ended.
pub ends_in_hold : (lock : BoardLock) (old mid new : BoardPass) (before after : State) (caller number : ℕ) (happened : Event) → IsReady lock old → before.rules ≡ lock.basis → Knows old before
    → TookTurn old mid before.journal → caller ≡ mid.number → EndsBy before after caller number happened → IsLegal after.rules after.journal → new ≡ leaving mid after → EndsInHold lock old new number happened
ends_in_hold lock old mid new before after caller number happened ready at known took by (inl is) legal left =
    record { shown = before.journal; ended = inl (made_entry lock old mid new before after caller happened ready at known took is by legal left) }
ends_in_hold lock old mid new before after caller number happened ready at known took by (inr late) legal left = record {
  shown = before.journal;
  ended = inr (
    subst (λ (r : Rules). IsSome (settled r before.journal (job_at before number))) at late.0,
    made_entry lock old mid new before after caller (event.Dropped number) ready at known took late.1 by legal left,
  );
}
