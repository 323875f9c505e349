-- Who rests after an attempt.
use Rattle.std.proofs.Common.{◌≡◌, ◌∙◌, ℕ, ◌+◌, ◌≤◌, Bool, true, false, not, Some, None, List, [], ◌∷◌, ◌++◌, length, refl, ap, sym, arith, ◌==◌, ◌||◌}
use Rattle.std.specs.Prelude.{nat_le}
use Rattle.std.specs.List.{list_any}
use Rattle.std.proofs.lemmas.Bool.Decides.{nat_tests}
use Rattle.std.proofs.lemmas.List.{length_push}
use Rattle.std.proofs.lemmas.List.Folds.{list_any-append}
use Rattle.std.proofs.lemmas.Option.{same_Some}
use Rattle.trace_core.specs.Known.{item_at}
use Rattle.entry_core.specs.declared.entries.Entry.{Entry}
use Rattle.entry_core.specs.declared.entries.Event.{Event}
use Rattle.entry_core.specs.declared.entries.Event.TheVariants as event
use Rattle.entry_core.specs.Attempts.{Attempt, begun_by, attempts, ended_by, ended}
use Rattle.entry_core.specs.Journal.{jobs}
use Rattle.entry_core.specs.Legal.{IsRunning}
use Rattle.trace_core.proofs.Items.{item_at-last}
use Rattle.entry_core.proofs.LegalEntries.{or_yes}
use Rattle.trace_core.proofs.Items.{item_at-kept as item_kept}
use Rattle.board_core.specs.State.{State, entered}
use Rattle.board_core.specs.Replies.{IsBegun, job_in, job_at}
use Rattle.board_core.proofs.Readings.{unread, read_on}
use Rattle.board_core.proofs.Verdicts.{entry_by}
use Rattle.board_core.proofs.Changes.{same_segments}
use Rattle.board_core.proofs.Looked.{item_place}
use Rattle.worker_loop.specs.Working.{IsResting}
use Rattle.worker_loop.specs.Attempts.{IsAt, HasEnded}
use Rattle.worker_loop.proofs.Events.{ends_one}

-- the attempt that was begun is at the job to take
pub begun_at : (old new : State) (caller job number : ℕ) → IsBegun old new caller job number → IsAt new caller number job
begun_at old new caller job number begun = record {
  own = begun.own;
  at_job = ap (λ (b : State). job_at b number) begun.adds ∙ ap (λ all. job_in (item_at all number)) more
      ∙ ap job_in (item_at-last (attempts old.journal) this number begun.numbered);
  there = record { from_one = begun.next.waiting.from_one; added = there };
}
  where
    this : Attempt
    this = record { number = number; worker = caller; job = job }

    there : job ≤ jobs new.journal
    there =
        let same : jobs new.journal ≡ jobs old.journal = ap (λ (b : State). jobs b.journal) begun.adds ∙ ap length (same_segments old.journal (entry_by caller (event.Began job number)) refl) in
        let le = begun.next.waiting.added in omega arith

    more : attempts (old.journal ++ entry_by caller (event.Began job number) ∷ []) ≡ attempts old.journal ++ record { number = number; worker = caller; job = job } ∷ []
    more = read_on (λ (e : Entry). begun_by e.caller e.event) old.journal (entry_by caller (event.Began job number)) (record { number = number; worker = caller; job = job }) refl

not_over : (b c : Bool) → not (b || (c || false)) ≡ true → not b ≡ true
not_over true c is = absurd (cc)
not_over false c is = refl

-- An attempt that is open after one began and ended was open before.
open_before : (journal longer : List Entry) (caller number job k : ℕ) (begun : Attempt) → number ≡ length (attempts journal) + 1
    → attempts longer ≡ attempts journal ++ record { number = number; worker = caller; job = job } ∷ [] → ended longer ≡ ended journal ++ number ∷ []
    → IsRunning longer caller k begun → IsRunning journal caller k begun
open_before journal longer caller number job k begun numbered more ends running = by_place (nat_le k (length (attempts journal))) refl
  where
    this : Attempt
    this = record { number = number; worker = caller; job = job }

    found : item_at (attempts journal ++ record { number = number; worker = caller; job = job } ∷ []) k ≡ Some begun
    found = ap (λ all. item_at all k) (sym more) ∙ running.found

    opened : not (list_any (λ n. n == begun.number) (ended journal) || ((number == begun.number) || false)) ≡ true
    opened =
        ap not (sym (list_any-append (λ n. n == begun.number) (ended journal) (number ∷ [])))
        ∙ ap (λ all. not (list_any (λ n. n == begun.number) all)) (sym ends) ∙ running.open_yet

    by_place : (b : Bool) → nat_le k (length (attempts journal)) ≡ b → IsRunning journal caller k begun
    by_place true is =
        let le : k ≤ length (attempts journal) = grind (arith, nat_tests) in
        record {
          found = sym (item_kept (attempts journal) (record { number = number; worker = caller; job = job } ∷ []) k le) ∙ found;
          own = running.own;
          open_yet = not_over (list_any (λ n. n == begun.number) (ended journal)) (number == begun.number) opened;
        }
    by_place false is =
        let place = item_place (attempts journal ++ record { number = number; worker = caller; job = job } ∷ []) k begun found in
        let top = length_push (attempts journal) (record { number = number; worker = caller; job = job }) in
        let to = place.1 in
        let last : k ≡ length (attempts journal) + 1 = grind (arith, nat_tests) in
        let itself : record { number = number; worker = caller; job = job } ≡ begun =
        same_Some (record { number = number; worker = caller; job = job }) begun (sym (item_at-last (attempts journal) (record { number = number; worker = caller; job = job }) k last) ∙ found) in
        let here : number ≡ begun.number = ap (λ (a : Attempt). a.number) itself in
        let test : (number == begun.number) ≡ true = grind (arith, nat_tests) in
        let closed : false ≡ true =
        sym (or_yes (list_any (λ n. n == begun.number) (ended journal))) ∙ ap (λ b. not (list_any (λ n. n == begun.number) (ended journal) || (b || false))) (sym test) ∙ opened in
        absurd (cc)

-- who rested before an attempt rests after it
pub rested : (old mid new : State) (caller job number : ℕ) → IsResting old caller → IsBegun old mid caller job number → HasEnded mid new caller number job → IsResting new caller
rested old mid new caller job number resting begun end k own =
    let first : Entry = entry_by caller (event.Began job number) in
    let last : Entry = entry_by caller end.happened in
    let this : Attempt = record { number = number; worker = caller; job = job } in
    let more : attempts new.journal ≡ attempts old.journal ++ this ∷ [] =
    ap (λ (b : State). attempts b.journal) end.is ∙ unread (λ (e : Entry). begun_by e.caller e.event) mid.journal last (ends_one caller number end.happened end.ends).begins
    ∙ ap (λ (b : State). attempts b.journal) begun.adds ∙ read_on (λ (e : Entry). begun_by e.caller e.event) old.journal first this refl in
    let ends : ended new.journal ≡ ended old.journal ++ number ∷ [] =
    ap (λ (b : State). ended b.journal) end.is ∙ read_on (λ (e : Entry). ended_by e.event) mid.journal last number end.ends
    ∙ ap (λ (b : State). ended b.journal ++ number ∷ []) begun.adds ∙ ap (λ all. all ++ number ∷ []) (unread (λ (e : Entry). ended_by e.event) old.journal first refl) in
    resting k (record { begun = own.begun; running = open_before old.journal new.journal caller number job k own.begun begun.numbered more ends own.running })

-- who rested rests after an entry that neither begins nor ends an attempt
pub rests_still : (old new : State) (caller by : ℕ) (happened : Event) → begun_by by happened ≡ None → ended_by happened ≡ None → new ≡ entered old by happened → IsResting old caller → IsResting new caller
rests_still old new caller by happened begins ends is resting number own =
    let entry : Entry = entry_by by happened in
    let same : attempts new.journal ≡ attempts old.journal = ap (λ (b : State). attempts b.journal) is ∙ unread (λ (e : Entry). begun_by e.caller e.event) old.journal entry begins in
    let same_ends : ended new.journal ≡ ended old.journal = ap (λ (b : State). ended b.journal) is ∙ unread (λ (e : Entry). ended_by e.event) old.journal entry ends in
    resting number (record {
      begun = own.begun;
      running = record {
        found = ap (λ all. item_at all number) (sym same) ∙ own.running.found;
        own = own.running.own;
        open_yet = ap (λ all. not (list_any (λ n. n == own.begun.number) all)) (sym same_ends) ∙ own.running.open_yet;
      };
    })
