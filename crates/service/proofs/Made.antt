-- What a hold was, by what the lock and the board say of it.
use Rattle.std.proofs.Common.{◌≡◌, ◌∙◌, ℕ, ◌+◌, ◌<◌, Bool, true, false, List, [], ◌∷◌, ◌++◌, map, All, Result, Ok, Err, OnOk, OnErr, IfOk, refl, sym, ap, subst, append-nil, append_assoc}
use Rattle.std.proofs.lemmas.List.Elements.{All-nil, All-cons}
use Rattle.std.specs.Arc.{arc_value}
use Rattle.std.specs.declared.sync.Arc.{Arc}
use Rattle.std.specs.declared.alloc.Global.{Global}
use Rattle.entry_core.specs.declared.entries.Entry.{Entry}
use Rattle.entry_core.specs.declared.entries.Event.{Event}
use Rattle.entry_core.specs.declared.entries.Event.TheVariants as event
use Rattle.entry_core.specs.declared.rules.Rules.{Rules}
use Rattle.entry_core.specs.declared.segments.Segment.{Segment}
use Rattle.entry_core.specs.Journal.{jobs}
use Rattle.entry_core.specs.Settled.{settled_jobs}
use Rattle.entry_core.specs.Legal.{IsLegal, IsLegalAfter, IsAllowed}
use Rattle.turn_lock.specs.declared.view.Look.TheVariants.{Turn}
use Rattle.turn_lock.specs.Entries.{AddsOwn, entries_of}
use Rattle.turn_lock.proofs.Entries.{of_more}
use Rattle.board_core.specs.State.{State, entered}
use Rattle.board_core.specs.Replies.{IsUnsettled, HasRoomFor}
use Rattle.service.specs.Passes.{BoardLock, BoardPass, IsReady, Knows, caller_of}
use Rattle.service.specs.Holds.{MadeEntry}
use Rattle.service.specs.Replies.{HasAdded, HasClosed, HasCancelled}

-- a pass that got the turn, and a pass that left
abbrev pub holding : BoardPass → List ℕ → List Entry → BoardPass
holding pass taken shown = record pass {
  seen = shown;
  idle = false;
  looks = pass.looks ++ map Turn taken ++ Turn 0 ∷ [];
}

abbrev pub leaving : BoardPass → State → BoardPass
leaving pass board = record pass {
  seen = board.journal;
  own = entries_of caller_of pass.number board.journal;
  floor = settled_jobs board.rules board.journal;
  idle = true;
}

abbrev pub entry_by : ℕ → Event → Entry
entry_by caller happened = record { caller = caller; event = happened }

pub all_own : (number : ℕ) (happened : Event) → All (λ e. caller_of e ≡ number) (entry_by number happened ∷ [])
all_own number happened = All-cons (λ e. caller_of e ≡ number) (entry_by number happened) [] refl (All-nil (λ e. caller_of e ≡ number))

-- a hold that changes nothing
pub adds_none : (number : ℕ) (seen journal : List Entry) → seen ≡ journal → AddsOwn caller_of number seen journal
adds_none number seen journal same = ([], sym same ∙ sym (append-nil seen), All-nil (λ e. caller_of e ≡ number))

-- a call of the board adds its one entry, or none
pub adds_own : {X Y : Type 0} (r : Result X Y) (before after : State) (caller number : ℕ) (seen : List Entry) (happened : Event)
    → OnOk r (after ≡ entered before caller happened) → OnErr r (after ≡ before) → seen ≡ before.journal → caller ≡ number
    → AddsOwn caller_of number seen after.journal
adds_own (Ok x) before after caller number seen happened ok err at same =
    let e : entry_by caller happened ≡ entry_by number happened = ap (λ n. entry_by n happened) same in (
      entry_by number happened ∷ [],
      ap (λ b. b.journal) ok ∙ ap (λ l. l ++ entry_by caller happened ∷ []) (sym at) ∙ ap (λ x. seen ++ x ∷ []) e,
      all_own number happened,
    )
adds_own (Err y) before after caller number seen happened ok err at same =
    ([], ap (λ b. b.journal) err ∙ sym at ∙ sym (append-nil seen), All-nil (λ e. caller_of e ≡ number))

abbrev pub TookTurn : BoardPass → BoardPass → List Entry → Type 0
TookTurn old mid shown = (taken : List ℕ) × All (λ word. 0 < word) taken × (mid ≡ holding old taken shown)

-- a pass after its hold
abbrev after_hold : BoardPass → List ℕ → List Entry → List Entry → Rules → Bool → BoardPass
after_hold old taken journal own rules idle = record old {
  seen = journal;
  own = own;
  floor = settled_jobs rules journal;
  idle = idle;
  looks = old.looks ++ map Turn taken ++ Turn 0 ∷ [];
}

pub made_entry : (lock : BoardLock) (old mid new : BoardPass) (before after : State) (caller : ℕ) (happened : Event)
    → IsReady lock old → before.rules ≡ lock.basis → Knows old before → TookTurn old mid before.journal
    → after ≡ entered before caller happened → caller ≡ mid.number
    → IsLegal after.rules after.journal → new ≡ leaving mid after
    → MadeEntry lock old new before.journal happened
made_entry lock old mid new before after caller happened ready at known (taken, busy, took) is same legal left =
    let shown : List Entry = before.journal in
    let number : caller ≡ old.number = same ∙ ap (λ p. p.number) took in
    let is_own : after ≡ entered before old.number happened = is ∙ ap (λ n. entered before n happened) number in
    let journal : List Entry = shown ++ entry_by old.number happened ∷ [] in
    let own : entries_of caller_of old.number journal ≡ old.own ++ entry_by old.number happened ∷ [] =
    of_more caller_of old.number shown (entry_by old.number happened ∷ []) (all_own old.number happened)
    ∙ ap (λ l. l ++ entry_by old.number happened ∷ []) known.own in
    record {
      taken = taken;
      busy = busy;
      hold = record {
        known = subst (λ rules. Knows old (record { rules = rules; journal = shown })) at known;
        legal = subst (λ rules. IsLegal rules journal) at (subst (λ b. IsLegal b.rules b.journal) is_own legal);
        left = left ∙ ap (λ m. leaving m after) took ∙ ap (λ b. leaving (holding old taken shown) b) is_own
            ∙ ap (λ entries. after_hold old taken journal entries before.rules true) own
            ∙ ap (λ rules. after_hold old taken journal (old.own ++ entry_by old.number happened ∷ []) rules true) at
            ∙ ap (λ idle. after_hold old taken journal (old.own ++ entry_by old.number happened ∷ []) lock.basis idle) (sym ready.idle);
      };
    }

pub has_added : {Y : Type 0} (r : Result ℕ Y) (lock : BoardLock) (old mid new : BoardPass) (before after : State) (caller : ℕ)
    (given : Arc Segment Global) (segment : Segment)
    → OnOk r (after ≡ entered before caller (event.Added given)) → IfOk r (λ job. job ≡ jobs before.journal + 1)
    → OnOk r (HasRoomFor before (arc_value given)) → arc_value given ≡ segment
    → IsReady lock old → before.rules ≡ lock.basis → Knows old before → TookTurn old mid before.journal
    → caller ≡ mid.number → IsLegal after.rules after.journal → new ≡ leaving mid after
    → IfOk r (HasAdded lock old new segment)
has_added (Err y) lock old mid new before after caller given segment ok number room is ready at known took same legal left = tt
has_added (Ok job) lock old mid new before after caller given segment ok number room is ready at known took same legal left = record {
  shown = before.journal;
  given = given;
  is = is;
  entry = made_entry lock old mid new before after caller (event.Added given) ready at known took ok same legal left;
  number = number;
  room = subst (λ rules. HasRoomFor (record { rules = rules; journal = before.journal }) segment) at (subst (HasRoomFor before) is room);
}

-- the last entry of a legal journal was allowed
last_allowed : (rules : Rules) (before journal : List Entry) (entry : Entry) → IsLegalAfter rules before (journal ++ entry ∷ [])
    → IsAllowed rules (before ++ journal) entry.caller entry.event
last_allowed rules before [] entry legal = subst (λ l. IsAllowed rules l entry.caller entry.event) (sym (append-nil before)) legal.0
last_allowed rules before (first ∷ rest) entry legal =
    subst (λ l. IsAllowed rules l entry.caller entry.event) (append_assoc before (first ∷ []) rest)
    (last_allowed rules (before ++ first ∷ []) rest entry legal.1)

pub has_closed : {X Y : Type 0} (r : Result X Y) (lock : BoardLock) (old mid new : BoardPass) (before after : State) (caller : ℕ)
    → OnOk r (after ≡ entered before caller event.Closed)
    → IsReady lock old → before.rules ≡ lock.basis → Knows old before → TookTurn old mid before.journal
    → caller ≡ mid.number → IsLegal after.rules after.journal → new ≡ leaving mid after
    → OnOk r (HasClosed lock old new)
has_closed (Err y) lock old mid new before after caller ok ready at known took same legal left = tt
has_closed (Ok x) lock old mid new before after caller ok ready at known took same legal left =
    let made : MadeEntry lock old new before.journal event.Closed = made_entry lock old mid new before after caller event.Closed ready at known took ok same legal left in
    record {
      shown = before.journal;
      entry = made;
      open_yet = (last_allowed lock.basis [] before.journal (entry_by old.number event.Closed) made.hold.legal).not_closed;
    }

pub has_cancelled : {X Y : Type 0} (r : Result X Y) (lock : BoardLock) (old mid new : BoardPass) (before after : State) (caller job : ℕ)
    → OnOk r (after ≡ entered before caller (event.Cancelled job)) → OnOk r (IsUnsettled before job)
    → IsReady lock old → before.rules ≡ lock.basis → Knows old before → TookTurn old mid before.journal
    → caller ≡ mid.number → IsLegal after.rules after.journal → new ≡ leaving mid after
    → OnOk r (HasCancelled lock old new job)
has_cancelled (Err y) lock old mid new before after caller job ok unsettled ready at known took same legal left = tt
has_cancelled (Ok x) lock old mid new before after caller job ok unsettled ready at known took same legal left = record {
  shown = before.journal;
  entry = made_entry lock old mid new before after caller (event.Cancelled job) ready at known took ok same legal left;
  unsettled = subst (λ rules. IsUnsettled (record { rules = rules; journal = before.journal }) job) at unsettled;
}
