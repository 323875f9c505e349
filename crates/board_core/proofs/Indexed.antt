-- The index after one more entry: what all kinds of entries share.
use Rattle.std.proofs.Common.{◌≡◌, ◌∙◌, ℕ, zero, suc, ◌+◌, ◌<◌, ◌≤◌, Option, Some, None, List, [], ◌∷◌, ◌++◌, length, refl, ap, sym, subst, arith}
use Rattle.std.specs.Prelude.{filter_map, count_by, IsSome, is_some, slice_get, slice_index_or, option_and_then}
use Rattle.std.proofs.lemmas.Option.{slice_get_within, same_Some}
use Rattle.std.proofs.lemmas.List.{length_push}
use Rattle.trace_core.specs.Known.{item_at}
use Rattle.entry_core.specs.declared.answers.Verdict.{Verdict}
use Rattle.entry_core.specs.declared.entries.Entry.{Entry}
use Rattle.entry_core.specs.declared.entries.Event.{Event}
use Rattle.entry_core.specs.declared.entries.Event.TheVariants as event
use Rattle.entry_core.specs.Attempts.{Attempt, begun_by, attempts, is_at, is_attempt_at, ended_by, spent_by, spent_attempts}
use Rattle.entry_core.specs.Settled.{Decision, decision_of, starved_by}
use Rattle.board_core.specs.declared.index.Ending.{Ending}
use Rattle.board_core.specs.declared.index.Ending.TheVariants as ending
use Rattle.board_core.specs.Index.{answered_by, verdict_in, IsEndingOf, AreNumberedFrom, IsOrderly}
use Rattle.board_core.proofs.Readings.{unread, read_on}
use Rattle.board_core.proofs.Verdicts.{count_same, attempt_kept}
use Rattle.entry_core.proofs.OpenAttempts.{numbered_push}
use Rattle.entry_core.proofs.Readings.{bounded}
pub use Rattle.entry_core.proofs.Readings.{spent_same, spent_more, within}

get_in_front : {X : Type 0} (xs ys : List X) (i : ℕ) → i < length xs → slice_get (xs ++ ys) i ≡ slice_get xs i
get_in_front [] ys i lt = absurd (omega arith)
get_in_front (x ∷ xs) ys zero lt = refl
get_in_front (x ∷ xs) ys (suc i) lt = get_in_front xs ys i (omega arith)

none_is : (given : Option Verdict) → IsSome given → None ≡ given → ⊥
none_is None some same = absurd (cc)
none_is (Some found) some same = absurd (cc)

-- how a job was settled doesn't change
verdict_stays : (journal more : List Entry) (how : Ending) (given : Option Verdict) → IsSome given → verdict_in journal how ≡ given → verdict_in (journal ++ more) how ≡ given
verdict_stays journal more (ending.Answered place) given some is = by_entry (slice_get journal place) refl is
  where
    by_entry : (o : Option Entry) → slice_get journal place ≡ o → option_and_then (λ (entry : Entry). answered_by entry.event) o ≡ given
        → option_and_then (λ (entry : Entry). answered_by entry.event) (slice_get (journal ++ more) place) ≡ given
    by_entry None at h = absurd (none_is given some h)
    by_entry (Some entry) at h =
        ap (option_and_then (λ (e : Entry). answered_by e.event)) (get_in_front journal more place (slice_get_within journal place entry at) ∙ at) ∙ h
verdict_stays journal more (ending.Cancelled by) given some is = is
verdict_stays journal more ending.Spent given some is = is
verdict_stays journal more ending.Starved given some is = is

pub ending_stays : (journal more : List Entry) (how : Option Ending) (given : Option Verdict) → IsEndingOf journal how given → IsEndingOf (journal ++ more) how given
ending_stays journal more None given is = is
ending_stays journal more (Some how) given is = (is.0, verdict_stays journal more how given is.0 is.1)

-- whether it is settled
pub ending_some : (journal : List Entry) (how : Option Ending) (given : Option Verdict) → IsEndingOf journal how given → is_some how ≡ is_some given
ending_some journal None None is = refl
ending_some journal None (Some found) is = absurd (cc)
ending_some journal (Some how) None is = absurd (none_is None is.0 refl)
ending_some journal (Some how) (Some found) is = refl

-- what a reading of ends gives is the attempt that ends
pub spent_ends : (happened : Event) (n : ℕ) → spent_by happened ≡ Some n → ended_by happened ≡ Some n
spent_ends (event.Spent number learnt) n is = is
spent_ends (event.Added segment) n is = absurd (cc)
spent_ends event.Closed n is = absurd (cc)
spent_ends (event.Cancelled job) n is = absurd (cc)
spent_ends (event.Began job number) n is = absurd (cc)
spent_ends (event.Shared packet) n is = absurd (cc)
spent_ends (event.Dropped number) n is = absurd (cc)
spent_ends (event.Decided number given) n is = absurd (cc)
spent_ends (event.Starved number) n is = absurd (cc)

pub starved_ends : (happened : Event) (n : ℕ) → starved_by happened ≡ Some n → ended_by happened ≡ Some n
starved_ends (event.Starved number) n is = is
starved_ends (event.Added segment) n is = absurd (cc)
starved_ends event.Closed n is = absurd (cc)
starved_ends (event.Cancelled job) n is = absurd (cc)
starved_ends (event.Began job number) n is = absurd (cc)
starved_ends (event.Shared packet) n is = absurd (cc)
starved_ends (event.Dropped number) n is = absurd (cc)
starved_ends (event.Decided number given) n is = absurd (cc)
starved_ends (event.Spent number learnt) n is = absurd (cc)

pub decided_ends : (happened : Event) (d : Decision) → decision_of happened ≡ Some d → ended_by happened ≡ Some d.number
decided_ends (event.Decided number given) d is = ap Some (ap (λ (x : Decision). x.number) (same_Some (record { number = number; given = given }) d is))
decided_ends (event.Starved number) d is = absurd (cc)
decided_ends (event.Added segment) d is = absurd (cc)
decided_ends event.Closed d is = absurd (cc)
decided_ends (event.Cancelled job) d is = absurd (cc)
decided_ends (event.Began job number) d is = absurd (cc)
decided_ends (event.Shared packet) d is = absurd (cc)
decided_ends (event.Dropped number) d is = absurd (cc)
decided_ends (event.Spent number learnt) d is = absurd (cc)

-- after an entry that begins no attempt, and ends only one that was begun
pub orderly_on : (journal : List Entry) (entry : Entry) → IsOrderly journal → begun_by entry.caller entry.event ≡ None
    → ((number : ℕ) → ended_by entry.event ≡ Some number → number ≤ length (attempts journal)) → IsOrderly (journal ++ entry ∷ [])
orderly_on journal entry orderly none ends =
    let same : attempts (journal ++ entry ∷ []) ≡ attempts journal = unread (λ (e : Entry). begun_by e.caller e.event) journal entry none in
    let le : length (attempts journal) ≤ length (attempts (journal ++ entry ∷ [])) = let e = ap length same in omega arith in
    record {
      numbered = subst (AreNumberedFrom 1) (sym same) orderly.numbered;
      ended = bounded (λ (e : Entry). ended_by e.event) (λ n. n) journal entry _ _ le orderly.ended (λ n is. let k = ends n is in omega arith);
      spents = bounded (λ (e : Entry). spent_by e.event) (λ n. n) journal entry _ _ le orderly.spents (λ n is. let k = ends n (spent_ends entry.event n is) in omega arith);
      decided = bounded (λ (e : Entry). decision_of e.event) (λ (d : Decision). d.number) journal entry _ _ le orderly.decided (λ d is. let k = ends d.number (decided_ends entry.event d is) in omega arith);
      starved = bounded (λ (e : Entry). starved_by e.event) (λ n. n) journal entry _ _ le orderly.starved (λ n is. let k = ends n (starved_ends entry.event n is) in omega arith);
    }

-- after an entry that begins the next attempt
pub orderly_begun : (journal : List Entry) (caller job number : ℕ) → IsOrderly journal → number ≡ length (attempts journal) + 1
    → IsOrderly (journal ++ record { caller = caller; event = event.Began job number } ∷ [])
orderly_begun journal caller job number orderly next =
    let entry : Entry = record { caller = caller; event = event.Began job number } in
    let new : Attempt = record { number = number; worker = caller; job = job } in
    let more : attempts (journal ++ entry ∷ []) ≡ attempts journal ++ new ∷ [] = read_on (λ (e : Entry). begun_by e.caller e.event) journal entry new refl in
    let le : length (attempts journal) ≤ length (attempts (journal ++ entry ∷ [])) = let e = ap length more ∙ length_push (attempts journal) new in omega arith in
    record {
      numbered = subst (AreNumberedFrom 1) (sym more) (numbered_push (attempts journal) new 1 orderly.numbered (next ∙ omega arith));
      ended = bounded (λ (e : Entry). ended_by e.event) (λ n. n) journal entry _ _ le orderly.ended (λ n is. absurd (cc));
      spents = bounded (λ (e : Entry). spent_by e.event) (λ n. n) journal entry _ _ le orderly.spents (λ n is. absurd (cc));
      decided = bounded (λ (e : Entry). decision_of e.event) (λ (d : Decision). d.number) journal entry _ _ le orderly.decided (λ d is. absurd (cc));
      starved = bounded (λ (e : Entry). starved_by e.event) (λ n. n) journal entry _ _ le orderly.starved (λ n is. absurd (cc));
    }

pub spent_begun : (journal : List Entry) (entry : Entry) (new : Attempt) (job : ℕ) → IsOrderly journal → begun_by entry.caller entry.event ≡ Some new → spent_by entry.event ≡ None
    → spent_attempts (journal ++ entry ∷ []) job ≡ spent_attempts journal job
spent_begun journal entry new job orderly begins spends =
    let spents : List ℕ = filter_map (λ (e : Entry). spent_by e.event) journal in
    ap (λ all. count_by (λ n. is_at job (item_at all n)) (filter_map (λ (e : Entry). spent_by e.event) (journal ++ entry ∷ []))) (read_on (λ (e : Entry). begun_by e.caller e.event) journal entry new begins)
    ∙ ap (count_by (λ n. is_at job (item_at (attempts journal ++ new ∷ []) n))) (unread (λ (e : Entry). spent_by e.event) journal entry spends)
    ∙ count_same (λ n. is_at job (item_at (attempts journal ++ new ∷ []) n)) (is_attempt_at journal job) spents
    (λ k d lt. attempt_kept (attempts journal) new job (slice_index_or spents k d) (orderly.spents k d lt))
