-- What a board keeps when attempts begin and end.
use Rattle.std.proofs.Common.{◌≡◌, ◌∙◌, ℕ, ◌+◌, ◌-◌, ◌<◌, ◌≤◌, Bool, true, false, cond, Option, Some, None, List, [], ◌∷◌, ◌++◌, length, refl, ap, sym, subst, arith, ◌==◌, Vec, vec_len, vec_capacity}
use Rattle.std.specs.Prelude.{is_some, if◌then◌else◌, option_map, slice_get, slice_index, slice_set}
use Rattle.std.specs.declared.alloc.Global.{Global}
use Rattle.std.proofs.lemmas.Bool.Decides.{nat_tests}
use Rattle.std.proofs.lemmas.List.{length_push, length-set, length-map}
use Rattle.std.proofs.lemmas.Option.{slice_get-map, slice_get_within, get_or_from_slice_get, same_Some}
use Rattle.trace_core.specs.Known.{item_at}
use Rattle.board_core.specs.declared.rank.Rank.{Rank}
use Rattle.entry_core.specs.declared.entries.Entry.{Entry}
use Rattle.entry_core.specs.declared.entries.Event.{Event}
use Rattle.entry_core.specs.declared.entries.Event.TheVariants as event
use Rattle.entry_core.specs.Journal.{jobs}
use Rattle.entry_core.specs.Attempts.{Attempt, attempts, open_attempts}
use Rattle.entry_core.specs.Settled.{settled_jobs}
use Rattle.entry_core.specs.Schedule.{IsNext}
use Rattle.entry_core.specs.Legal.{IsAllowed, IsWorker, IsLegal, IsRunning}
use Rattle.board_core.specs.declared.board.Board.TheInside.{Inside}
use Rattle.board_core.specs.declared.index.JobState.{JobState}
use Rattle.board_core.specs.Index.{or_new, state_at, rank_of, ranks_from, room, IsStateOf, IsIndexOf, IsOrderly}
use Rattle.board_core.specs.declared.index.Models.{Models}
use Rattle.board_core.specs.Overtaking.{IsModelsOf}
use Rattle.board_core.specs.Kept.{AreFew, IsKept}
use Rattle.entry_core.proofs.Inputs.{item_found}
use Rattle.entry_core.proofs.LegalEntries.{legal_push}
use Rattle.board_core.proofs.Verdicts.{entry_by}
use Rattle.entry_core.proofs.OpenAttempts.{open_ended}
use Rattle.board_core.proofs.Indexed.{orderly_on, orderly_begun, within}
use Rattle.board_core.proofs.Ended.{IsEnd, Ends, index_begun, states_ended, index_ended}
use Rattle.board_core.proofs.Keeping.{base_of, few_on, few_packets, ranks_written}
use Rattle.board_core.proofs.Looked.{item_place}

pub attempts_number : (a : Inside) → IsKept a → vec_len a.index.attempts ≡ length (attempts a.journal.items)
attempts_number a kept = a.index.attempts.ok.0 ∙ ap length (sym kept.index.begun) ∙ length-map (attempts a.journal.items) (λ (begun : Attempt). begun.job)

pub kept_begun : (a : Inside) (after : Vec Entry Global) (states : Vec JobState Global) (begun : Vec ℕ Global) (waiting : List (Option Rank)) (caller job number : ℕ) → IsKept a → IsWorker a.rules caller
    → IsNext a.rules a.journal.items job → number ≡ vec_len a.index.attempts + 1
    → after.items ≡ a.journal.items ++ entry_by caller (event.Began job number) ∷ [] → vec_len a.journal + (room a.index + 2) ≤ vec_capacity after
    → begun.items ≡ a.index.attempts.items ++ job ∷ []
    → states.items ≡ slice_set a.index.jobs.items (job - 1) (record (state_at a.index.jobs.items job) { open_now = (state_at a.index.jobs.items job).open_now + 1 })
    → waiting ≡ slice_set a.index.waiting (job - 1) (rank_of a.rules.attempts job (record (state_at a.index.jobs.items job) { open_now = (state_at a.index.jobs.items job).open_now + 1 }))
    → IsKept (record a { journal = after; index = record a.index { jobs = states; attempts = begun; waiting = waiting; open_now = a.index.open_now + 1 } })
kept_begun a after states begun waiting caller job number kept worker next numbered more spare more_begun written ranked =
    let entry : Entry = entry_by caller (event.Began job number) in
    let after_state : JobState = record (state_at a.index.jobs.items job) { open_now = (state_at a.index.jobs.items job).open_now + 1 } in
    let all = attempts_number a kept in
    let next_number : number ≡ length (attempts a.journal.items) + 1 = omega arith in
    let longer : length after.items ≡ length a.journal.items + 1 = ap length more ∙ length_push a.journal.items entry in
    let count : length states.items ≡ length a.index.jobs.items = ap length written ∙ length-set a.index.jobs.items (job - 1) after_state in
    record {
      limits = kept.limits;
      legal = subst (IsLegal a.rules) (sym more) (legal_push a.rules a.journal.items entry kept.legal (record { worker = worker; next_job = next; next_number = next_number }));
      few = subst AreFew (sym more) (few_on a.journal.items entry kept.few refl (few_packets a.journal.items entry kept.few refl));
      orderly = subst IsOrderly (sym more) (orderly_begun a.journal.items caller job number kept.orderly next_number);
      index = subst (λ all. IsIndexOf a.rules all (record a.index { jobs = states; attempts = begun; waiting = waiting; open_now = a.index.open_now + 1 })) (sym more)
          (index_begun a.rules a.journal.items a.index caller job number states begun waiting (base_of a kept) kept.index next.waiting.from_one next.waiting.added next_number more_begun written);
      waiting = ranks_written a states waiting job after_state kept next.waiting.from_one written ranked;
      room = let size = a.journal.ok.0 in
          room_begun (length a.index.jobs.items) (length states.items) a.index.settled a.index.open_now _ _ _ _ (is_some a.index.closed) count spare size longer;
    }
  where
    room_begun : (n n' s o len size size' most : ℕ) (b : Bool) → n' ≡ n → len + (((n - s) + o + (if b then 0 else 1)) + 2) ≤ most → len ≡ size → size' ≡ size + 1
        → size' + ((n' - s) + (o + 1) + (if b then 0 else 1)) ≤ most
    room_begun n n' s o len size size' most true count spare same longer = omega arith
    room_begun n n' s o len size size' most false count spare same longer = omega arith

-- an open attempt that the caller began, in the index
pub record IsAtWork (a : Inside) (number : ℕ) (begun : Attempt) : Type 0 where
  pub from_one : 1 ≤ number
  pub bound : number - 1 < vec_len a.index.attempts
  pub job : slice_index a.index.attempts.items (number - 1) ≡ begun.job
  pub job_from : 1 ≤ begun.job
  pub job_to : begun.job ≤ jobs a.journal.items
  pub job_there : begun.job ≤ length a.index.jobs.items
  pub opened : 1 ≤ (state_at a.index.jobs.items begun.job).open_now
  pub total : 1 ≤ a.index.open_now
  pub spare : vec_len a.journal < vec_capacity a.journal

pub at_work : (a : Inside) (caller number : ℕ) (begun : Attempt) → IsKept a → IsRunning a.journal.items caller number begun → IsAtWork a number begun
at_work a caller number begun kept running =
    let at = item_found (attempts a.journal.items) number begun running.found in
    let place = at.0 in
    let lt = slice_get_within (attempts a.journal.items) (number - 1) begun at.1 in
    let all = attempts_number a kept in
    let stored : slice_get a.index.attempts.items (number - 1) ≡ Some begun.job =
    ap (λ items. slice_get items (number - 1)) (sym kept.index.begun) ∙ slice_get-map (λ (b : Attempt). b.job) (attempts a.journal.items) (number - 1) ∙ ap (option_map (λ (b : Attempt). b.job)) at.1 in
    let entry : Entry = entry_by caller (event.Starved number) in
    let itself : (begun.job == begun.job) ≡ true = grind (arith, nat_tests) in
    let own = open_ended (λ n. n == begun.job) a.journal.items entry number begun refl refl kept.orderly.numbered running.found running.open_yet in
    let whole = open_ended (λ n. true) a.journal.items entry number begun refl refl kept.orderly.numbered running.found running.open_yet in
    let opened : 1 ≤ open_attempts a.journal.items begun.job = at_least (begun.job == begun.job) _ _ itself own in
    let state = kept.index.states begun.job in
    let here = state.open_now in
    let known : 1 ≤ (state_at a.index.jobs.items begun.job).open_now = omega arith in
    let range = in_range (item_at a.index.jobs.items begun.job) refl known in
    let count = kept.index.jobs in
    let sum = kept.index.open_now in
    let total : 1 ≤ a.index.open_now = at_least true _ _ refl (whole ∙ sym sum) in
    let size = a.journal.ok.0 in
    record {
      from_one = omega arith;
      bound = omega arith;
      job = get_or_from_slice_get a.index.attempts.items (number - 1) begun.job 0 stored;
      job_from = range.0;
      job_to = let le = range.1 in omega arith;
      job_there = range.1;
      opened = known;
      total = total;
      spare = left (length a.index.jobs.items - a.index.settled) a.index.open_now _ _ _ (is_some a.index.closed) total size kept.room;
    }
  where
    at_least : (b : Bool) (after before : ℕ) → b ≡ true → after + cond b 1 0 ≡ before → 1 ≤ before
    at_least true after before is e = omega arith
    at_least false after before is e = absurd (cc)

    in_range : (o : Option JobState) → item_at a.index.jobs.items begun.job ≡ o → 1 ≤ (or_new o).open_now → (1 ≤ begun.job) × (begun.job ≤ length a.index.jobs.items)
    in_range None is le = absurd (omega arith)
    in_range (Some state) is le = item_place a.index.jobs.items begun.job state is

    left : (u o len size most : ℕ) (b : Bool) → 1 ≤ o → len ≡ size → size + (u + o + (if b then 0 else 1)) ≤ most → len < most
    left u o len size most true some same le = omega arith
    left u o len size most false some same le = omega arith

-- an attempt that ends
pub kept_ended_with : (a : Inside) (after : Vec Entry Global) (caller : ℕ) (happened : Event) (number : ℕ) (begun : Attempt) (states : Vec JobState Global) (waiting : List (Option Rank)) (tally total : ℕ) (models : Option Models)
    → IsKept a → IsEnd caller happened number → IsRunning a.journal.items caller number begun → IsAllowed a.rules a.journal.items caller happened
    → ((other : ℕ) → IsStateOf a.rules (a.journal.items ++ entry_by caller happened ∷ []) other (state_at states.items other)) → length states.items ≡ length a.index.jobs.items
    → tally ≡ settled_jobs a.rules (a.journal.items ++ entry_by caller happened ∷ []) → a.index.settled ≤ tally → total + 1 ≡ a.index.open_now
    → after.items ≡ a.journal.items ++ entry_by caller happened ∷ [] → vec_capacity after ≡ vec_capacity a.journal
    → waiting ≡ ranks_from a.rules.attempts 1 states.items → IsModelsOf a.rules (a.journal.items ++ entry_by caller happened ∷ []) models
    → IsKept (record a { journal = after; index = record a.index { jobs = states; waiting = waiting; settled = tally; open_now = total; models = models } })
kept_ended_with a after caller happened number begun states waiting tally total models kept end running allowed stand count tallied no_less one_less more capacity ranked modelled =
    let entry : Entry = entry_by caller happened in
    let longer : length after.items ≡ length a.journal.items + 1 = ap length more ∙ length_push a.journal.items entry in
    record {
      limits = kept.limits;
      legal = subst (IsLegal a.rules) (sym more) (legal_push a.rules a.journal.items entry kept.legal allowed);
      few = subst AreFew (sym more) (few_on a.journal.items entry kept.few end.adds (few_packets a.journal.items entry kept.few end.shares));
      orderly = subst IsOrderly (sym more) (orderly_on a.journal.items entry kept.orderly end.begins
          (λ n is. subst (λ k. k ≤ length (attempts a.journal.items)) (same_Some number n (sym end.ends ∙ is)) (within a.journal.items number begun running.found)));
      index = subst (λ all. IsIndexOf a.rules all (record a.index { jobs = states; waiting = waiting; settled = tally; open_now = total; models = models })) (sym more)
          (index_ended a.rules a.journal.items a.index caller happened number begun states waiting tally total models (base_of a kept) kept.index end running.found running.open_yet
          stand count tallied one_less modelled);
      waiting = ranked;
      room = room_ended (length a.index.jobs.items) (length states.items) a.index.settled tally a.index.open_now total _ _ _ _ (is_some a.index.closed) count no_less one_less kept.room longer capacity;
    }
  where
    room_ended : (n n' s s' o o' size size' most most' : ℕ) (b : Bool) → n' ≡ n → s ≤ s' → o' + 1 ≡ o → size + ((n - s) + o + (if b then 0 else 1)) ≤ most → size' ≡ size + 1 → most' ≡ most
        → size' + ((n' - s') + o' + (if b then 0 else 1)) ≤ most'
    room_ended n n' s s' o o' size size' most most' true count le less spare longer same = omega arith
    room_ended n n' s s' o o' size size' most most' false count le less spare longer same = omega arith

-- an attempt whose end changes its own job's state alone
pub kept_ended : (a : Inside) (after : Vec Entry Global) (caller : ℕ) (happened : Event) (number : ℕ) (begun : Attempt) (state : JobState) (states : Vec JobState Global) (waiting : List (Option Rank)) (tally total : ℕ)
    → IsKept a → IsEnd caller happened number → IsRunning a.journal.items caller number begun → IsAllowed a.rules a.journal.items caller happened
    → Ends a.rules a.journal.items (entry_by caller happened) begun.job (state_at a.index.jobs.items begun.job) state
    → tally ≡ settled_jobs a.rules (a.journal.items ++ entry_by caller happened ∷ []) → a.index.settled ≤ tally → total + 1 ≡ a.index.open_now
    → IsModelsOf a.rules (a.journal.items ++ entry_by caller happened ∷ []) a.index.models
    → after.items ≡ a.journal.items ++ entry_by caller happened ∷ [] → vec_capacity after ≡ vec_capacity a.journal
    → states.items ≡ slice_set a.index.jobs.items (begun.job - 1) state → waiting ≡ slice_set a.index.waiting (begun.job - 1) (rank_of a.rules.attempts begun.job state)
    → IsKept (record a { journal = after; index = record a.index { jobs = states; waiting = waiting; settled = tally; open_now = total } })
kept_ended a after caller happened number begun state states waiting tally total kept end running allowed ends tallied no_less one_less modelled more capacity written ranked =
    let work = at_work a caller number begun kept running in
    let count : length states.items ≡ length a.index.jobs.items = ap length written ∙ length-set a.index.jobs.items (begun.job - 1) state in
    kept_ended_with a after caller happened number begun states waiting tally total a.index.models kept end running allowed
    (subst (λ items. (other : ℕ) → IsStateOf a.rules (a.journal.items ++ entry_by caller happened ∷ []) other (state_at items other)) (sym written)
    (states_ended a.rules a.journal.items a.index caller happened number begun state (base_of a kept) kept.index end running.found running.open_yet work.job_from work.job_to ends))
    count tallied no_less one_less more capacity (ranks_written a states waiting begun.job state kept work.job_from written ranked) modelled
