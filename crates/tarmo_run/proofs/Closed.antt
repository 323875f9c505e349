-- The board once no more jobs come.
use Rattle.std.proofs.Common.{◌≡◌, ◌∙◌, ◌||◌, ℕ, suc, Bool, true, List, Option, Some, None}
use Rattle.std.proofs.Common.{refl, ap, sym, subst}
use Rattle.std.specs.Prelude.{Result, Ok, Err, OnOk, OnErr, IfErr, position, option_map}
use Rattle.std.specs.List.{list_any}
use Rattle.std.proofs.lemmas.List.Folds.{list_any-append, list_any_at}
use Rattle.std.proofs.lemmas.List.Quantifiers.{position-Some}
use Rattle.entry_core.specs.declared.entries.Entry.{Entry}
use Rattle.entry_core.specs.declared.entries.Event.TheVariants as event
use Rattle.entry_core.specs.Journal.{closing_place, is_closed, is_closing}
use Rattle.entry_core.specs.Settled.{cancelled, cancelled_by}
use Rattle.board_core.specs.State.{State, entered}
use Rattle.board_core.proofs.Readings.{closed_now, unread}
use Rattle.tarmo_run.specs.Growth.{HasNoJobMore, IsLonger}
use Rattle.tarmo_run.proofs.Boards.{no_job_none, no_job_one}

pub closed_more : (old new : State) (result : Result Unit ℕ) →
    OnOk result (new ≡ entered old 1 event.Closed) → OnErr result (new ≡ old) → HasNoJobMore old new
closed_more old new (Ok done) is same =
    subst (HasNoJobMore old) (sym is) (no_job_one old 1 event.Closed refl)
closed_more old new (Err place) is same = subst (HasNoJobMore old) (sym same) (no_job_none old)

pub closed_cancels_none : (old new : State) (result : Result Unit ℕ) →
    OnOk result (new ≡ entered old 1 event.Closed) → OnErr result (new ≡ old) →
    cancelled new.journal ≡ cancelled old.journal
closed_cancels_none old new (Ok done) is same =
    ap (λ (b : State). cancelled b.journal) is
    ∙ unread (λ (e : Entry). cancelled_by e.event) old.journal
    (record { caller = 1; event = event.Closed }) refl
closed_cancels_none old new (Err place) is same = ap (λ (b : State). cancelled b.journal) same

abbrev closes : Entry → Bool
closes entry = is_closing entry.event

-- where an entry that closes has its place, the journal is closed
found_closes : (journal : List Entry) (found : Option ℕ) (place : ℕ) →
    position closes journal ≡ found → option_map suc found ≡ Some place → is_closed journal ≡ true
found_closes journal None place is at = absurd (cc)
found_closes journal (Some index) place is at =
    let closing : Entry = record { caller = 1; event = event.Closed } in
    let first = position-Some closes journal index closing is in
    list_any_at closes journal index closing first.0 first.1

pub closed_then : (old new : State) (result : Result Unit ℕ) →
    OnOk result (new ≡ entered old 1 event.Closed) →
    IfErr result (λ place. closing_place old.journal ≡ Some place) → OnErr result (new ≡ old) →
    is_closed new.journal ≡ true
closed_then old new (Ok done) is found same =
    ap (λ (b : State). is_closed b.journal) is
    ∙ closed_now old.journal (record { caller = 1; event = event.Closed }) refl
closed_then old new (Err place) is found same =
    ap (λ (b : State). is_closed b.journal) same
    ∙ found_closes old.journal (position closes old.journal) place refl found

pub closed_stays : (old new : State) → IsLonger old new → is_closed old.journal ≡ true →
    is_closed new.journal ≡ true
closed_stays old new longer closed =
    ap is_closed longer.is ∙ list_any-append closes old.journal longer.more
    ∙ ap (λ b. b || list_any closes longer.more) closed
