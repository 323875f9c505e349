-- What a worker is told.
use Rattle.std.proofs.Common.{length, not, cond, ◌-◌, ◌==◌, ◌≡◌, ◌∙◌, ◌≢◌, ℕ, zero, suc, ◌+◌, ◌≤◌, Bool, true, false, Option, Some, None, List, [], ◌∷◌, ◌++◌, refl, ap, sym, subst, arith, vec_len}
use Rattle.std.specs.Prelude.{slice_get, is_some, IsSome, if◌then◌else◌}
use Rattle.std.specs.List.{list_any}
use Rattle.std.proofs.lemmas.Bool.Decides.{nat_tests}
use Rattle.trace_core.specs.Known.{item_at}
use Rattle.board_core.specs.declared.rank.Rank.{Rank}
use Rattle.board_core.specs.Rank.{IsFirst}
use Rattle.entry_core.specs.declared.answers.Verdict.{Verdict}
use Rattle.entry_core.specs.declared.entries.Entry.{Entry}
use Rattle.entry_core.specs.declared.entries.Event.{Event}
use Rattle.entry_core.specs.declared.entries.Event.TheVariants as event
use Rattle.entry_core.specs.declared.rules.Rules.{Rules}
use Rattle.entry_core.specs.Journal.{jobs}
use Rattle.entry_core.specs.Attempts.{Attempt, begun_by, attempts, attempt, ended_by, ended}
use Rattle.entry_core.specs.Settled.{settled, settled_up_to}
use Rattle.entry_core.specs.Schedule.{IsWaiting, IsNext}
use Rattle.board_core.specs.declared.board.Board.TheInside.{Inside}
use Rattle.board_core.specs.State.{State, entered}
use Rattle.board_core.specs.Index.{IsOrderly}
use Rattle.board_core.specs.Kept.{state_of, IsKept}
use Rattle.board_core.specs.Replies.{IsJob, IsOwn, IsDone, IsIdle}
use Rattle.board_core.proofs.Firsts.{first_is_next, nobody_waits}
use Rattle.board_core.proofs.Readings.{read_on, unread}
use Rattle.entry_core.proofs.OpenAttempts.{none_equal}
use Rattle.board_core.proofs.Endings.{get_last}
use Rattle.board_core.proofs.Tallies.{tally_lt}

tally_all : (rules : Rules) (journal : List Entry) (most : ℕ) → ((job : ℕ) → 1 ≤ job → job ≤ most → IsSome (settled rules journal job)) → settled_up_to rules journal most ≡ most
tally_all rules journal zero all = refl
tally_all rules journal (suc most) all =
    let rest = tally_all rules journal most (λ job from to. all job from (omega arith)) in
    counted (is_some (settled rules journal (suc most))) (settled_up_to rules journal most) most (all (suc most) (omega arith) (omega arith)) rest
  where
    counted : (b : Bool) (tally most : ℕ) → b ≡ true → tally ≡ most → tally + (if b then 1 else 0) ≡ suc most
    counted true tally most is e = omega arith
    counted false tally most is e = absurd (cc)

pub done : (a : Inside) → IsKept a → is_some a.index.closed ≡ true → a.index.settled ≡ vec_len a.index.jobs → IsDone (state_of a)
done a kept closed all = record {
  closed = sym kept.index.closed ∙ closed;
  settled_all = λ job there. by_verdict job there (settled a.rules a.journal.items job) refl;
}
  where
    by_verdict : (job : ℕ) → IsJob (state_of a) job → (o : Option Verdict) → settled a.rules a.journal.items job ≡ o → IsSome (settled a.rules a.journal.items job)
    by_verdict job there (Some given) is = ap is_some is
    by_verdict job there None is = absurd (
        let lt = tally_lt a.rules a.journal.items (jobs a.journal.items) job there.from_one there.added is in
        let e = kept.index.settled in let n = kept.index.jobs in let size = a.index.jobs.ok.0 in omega arith)

still_open : (a : Inside) → IsKept a → is_some a.index.closed ≡ false → ¬ IsDone (state_of a)
still_open a kept open_yet is_done = absurd (let shut = sym kept.index.closed ∙ open_yet in let closed = is_done.closed in cc)

still_unsettled : (a : Inside) → IsKept a → a.index.settled ≢ vec_len a.index.jobs → ¬ IsDone (state_of a)
still_unsettled a kept fewer is_done =
    let all = tally_all a.rules a.journal.items (jobs a.journal.items) (λ job from to. is_done.settled_all job (record { from_one = from; added = to })) in
    let e = kept.index.settled in let n = kept.index.jobs in let size = a.index.jobs.ok.0 in
    fewer (omega arith)

pub idle_open : (a : Inside) → IsKept a → is_some a.index.closed ≡ false → ((job : ℕ) → ¬ IsWaiting a.rules a.journal.items job) → IsIdle (state_of a)
idle_open a kept open_yet nobody = record { nobody = nobody; undone = still_open a kept open_yet }

pub idle_unsettled : (a : Inside) → IsKept a → a.index.settled ≢ vec_len a.index.jobs → ((job : ℕ) → ¬ IsWaiting a.rules a.journal.items job) → IsIdle (state_of a)
idle_unsettled a kept fewer nobody = record { nobody = nobody; undone = still_unsettled a kept fewer }

pub first_taken : (a : Inside) (rank : Rank) (found : Option Rank) → IsKept a → IsFirst a.index.waiting found → found ≡ Some rank → IsNext a.rules a.journal.items rank.job
first_taken a rank found kept first is =
    first_is_next a.rules a.journal.items a.index rank kept.index (subst (λ all. IsFirst all (Some rank)) kept.waiting (subst (IsFirst a.index.waiting) is first))

pub none_taken : (a : Inside) (found : Option Rank) (job : ℕ) → IsKept a → IsFirst a.index.waiting found → found ≡ None → ¬ IsWaiting a.rules a.journal.items job
none_taken a found job kept first is =
    nobody_waits a.rules a.journal.items a.index job kept.index (subst (λ all. IsFirst all None) kept.waiting (subst (IsFirst a.index.waiting) is first))

-- the fields with one entry more are the board with that entry more
pub entered_is : (a : Inside) (board : State) (caller : ℕ) (happened : Event) (items : List Entry) → state_of a ≡ board → items ≡ a.journal.items ++ record { caller = caller; event = happened } ∷ []
    → record { rules = a.rules; journal = items } ≡ entered board caller happened
entered_is a board caller happened items view more =
    ap the_state more ∙ ap (λ (b : State). entered b caller happened) view
  where
    the_state : List Entry → State
    the_state journal = record { rules = a.rules; journal = journal }

-- an attempt that was just begun is its caller's, and open
own_begun : (rules : Rules) (journal : List Entry) (caller job number : ℕ) → IsOrderly journal → number ≡ length (attempts journal) + 1
    → IsOwn (record { rules = rules; journal = journal ++ record { caller = caller; event = event.Began job number } ∷ [] }) caller number
own_begun rules journal caller job number orderly next =
    let entry : Entry = record { caller = caller; event = event.Began job number } in
    let new : Attempt = record { number = number; worker = caller; job = job } in
    let some : (number == 0) ≡ false = grind (arith, nat_tests) in
    let place : number - 1 ≡ length (attempts journal) = omega arith in
    let found : attempt (journal ++ entry ∷ []) number ≡ Some new =
    ap (λ all. item_at all number) (read_on (λ (e : Entry). begun_by e.caller e.event) journal entry new refl)
    ∙ ap (λ b. cond b None (slice_get (attempts journal ++ new ∷ []) (number - 1))) some
    ∙ ap (slice_get (attempts journal ++ new ∷ [])) place ∙ get_last (attempts journal) new in
    let none : list_any (λ n. n == number) (ended (journal ++ entry ∷ [])) ≡ false =
    ap (list_any (λ n. n == number)) (unread (λ (e : Entry). ended_by e.event) journal entry refl)
    ∙ none_equal number (ended journal) (λ k d lt. let le = orderly.ended k d lt in omega arith) in
    record { begun = new; running = record { found = found; own = refl; open_yet = ap not none } }

pub begun_is_own : (a : Inside) (board new : State) (caller job number : ℕ) → IsKept a → state_of a ≡ board → number ≡ length (attempts board.journal) + 1 → new ≡ entered board caller (event.Began job number) → IsOwn new caller number
begun_is_own a board new caller job number kept view next adds =
    subst (λ (b : State). IsOwn b caller number) (sym adds)
    (own_begun board.rules board.journal caller job number (subst (λ (b : State). IsOrderly b.journal) view kept.orderly) next)
