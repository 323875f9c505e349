-- The answer of the tests is right.
use Rattle.std.proofs.Common.{◌≡◌, ◌∙◌, ℕ, ◌≤◌, List, [], ◌∷◌, ◌++◌, true, refl, sym, ap, subst, inl, inr, arith, append_assoc}
use Rattle.std.specs.Prelude.{Contains, ◌⊎◌}
use Rattle.std.proofs.lemmas.List.Elements.{All-nil, All-append}
use Rattle.sat_base.specs.Lit.{opposite}
use Rattle.sat_base.proofs.Opposite.{opposite-opposite}
use Rattle.sat_base.proofs.Members.{Contains-cases, All-from_members}
use Rattle.trace_core.specs.Known.{item_at}
use Rattle.trace_core.proofs.Items.{item_at-last}
use Rattle.trace_core.proofs.Soundness.{tautology_holds}
use Rattle.entry_core.specs.declared.entries.Entry.{Entry}
use Rattle.entry_core.specs.declared.entries.Event.TheVariants as event
use Rattle.entry_core.specs.Journal.{jobs, cube_of}
use Rattle.entry_core.specs.Attempts.{Attempt, attempts, begun_by}
use Rattle.entry_core.specs.Right.{IsRightAnswer}
use Rattle.entry_core.proofs.LongerJournals.{longer_journal_keeps}
use Rattle.turn_lock.specs.Entries.{AddsOwn}
use Rattle.board_core.specs.State.{State}
use Rattle.board_core.specs.Replies.{IsJob, IsBegun, IsTask, job_in, job_at}
use Rattle.board_core.specs.declared.task.Task.{Task}
use Rattle.board_core.specs.declared.task.Task.TheVariants as task
use Rattle.board_core.proofs.Readings.{read_on}
use Rattle.service.specs.Passes.{caller_of}
use Rattle.service.specs.Worked.{both_literals, contradiction}
use Rattle.service.proofs.Made.{entry_by, all_own}

-- they are two
one_of_two : (lit : ℕ) → Contains both_literals lit → (lit ≡ 2) ⊎ (lit ≡ 3)
one_of_two lit has = first (Contains-cases 2 lit (3 ∷ []) has)
  where
    second : (3 ≡ lit) ⊎ Contains [] lit → (lit ≡ 2) ⊎ (lit ≡ 3)
    second (inl same) = inr (sym same)
    second (inr none) = absurd (omega (arith, none.1))

    first : (2 ≡ lit) ⊎ Contains (3 ∷ []) lit → (lit ≡ 2) ⊎ (lit ≡ 3)
    first (inl same) = inl (sym same)
    first (inr later) = second (Contains-cases 3 lit [] later)

has_two : Contains both_literals 2
has_two = (0, omega arith, refl)

has_three : Contains both_literals 3
has_three = (1, omega arith, refl)

flips : (lit : ℕ) → Contains both_literals lit → Contains both_literals (opposite lit)
flips lit has = by (one_of_two lit has)
  where
    by : (lit ≡ 2) ⊎ (lit ≡ 3) → Contains both_literals (opposite lit)
    by (inl same) = subst (λ x. Contains both_literals (opposite x)) (sym same) has_three
    by (inr same) = subst (λ x. Contains both_literals (opposite x)) (sym same) has_two

pub is_right : (journal : List Entry) (job : ℕ) → cube_of journal job ≡ both_literals → IsRightAnswer true journal job contradiction
is_right journal job is = (
  record {
    within = All-from_members (Contains (cube_of journal job)) both_literals (λ lit has. subst (λ cube. Contains cube lit) (sym is) has);
    refuted = λ values all. tautology_holds (3 ∷ 2 ∷ []) (record { lit = 3; has = (0, omega arith, refl); has_opposite = (1, omega arith, refl) }) values refl;
  },
  record {
    front = [];
    last = record { clause = both_literals; hints = []; tag = 0 };
    ends = refl;
    ok = (record { all_known = All-nil _; proved = inl (record { tautology = record { lit = 2; has = has_two; has_opposite = has_three }; two = refl; no_hint = refl }); exact_tag = refl }, tt);
    refutes = λ lit. (λ has. flips lit has, λ has. subst (Contains both_literals) (opposite-opposite lit) (flips (opposite lit) has));
  },
)

-- the job of an attempt that was begun
pub begun_job : (old new : State) (caller job number : ℕ) → IsBegun old new caller job number → job_at new number ≡ job
begun_job old new caller job number begun =
    let entry : Entry = entry_by caller (event.Began job number) in
    let fresh : Attempt = record { number = number; worker = caller; job = job } in
    ap (λ (b : State). job_at b number) begun.adds
    ∙ ap (λ all. job_in (item_at all number)) (read_on (λ (e : Entry). begun_by e.caller e.event) old.journal entry fresh refl)
    ∙ ap job_in (item_at-last (attempts old.journal) fresh number begun.numbered)

pub begun_there : (old new : State) (caller job number : ℕ) → IsBegun old new caller job number → IsJob new job
begun_there old new caller job number begun =
    let entry : Entry = entry_by caller (event.Began job number) in
    let most : jobs old.journal ≤ jobs (old.journal ++ entry ∷ []) = (longer_journal_keeps old.rules old.journal (entry ∷ [])).more_jobs in
    let here : job ≤ jobs old.journal = begun.next.waiting.added in
    subst (λ (b : State). IsJob b job) (sym begun.adds) (record { from_one = begun.next.waiting.from_one; added = omega (arith, most, here) })

-- what was begun adds an entry, and so may what ends it
pub begun_adds : (old mid new : State) (caller job number : ℕ) → IsBegun old mid caller job number
    → AddsOwn caller_of caller mid.journal new.journal → AddsOwn caller_of caller old.journal new.journal
begun_adds old mid new caller job number begun (more, is, all) =
    let entry : Entry = entry_by caller (event.Began job number) in (
      (entry ∷ []) ++ more,
      is ∙ ap (λ (b : State). b.journal ++ more) begun.adds ∙ append_assoc old.journal (entry ∷ []) more,
      All-append (λ e. caller_of e ≡ caller) (entry ∷ []) more (all_own caller (event.Began job number)) all,
    )

-- what took nothing adds nothing
pub begun_in : (old new : State) (caller job number : ℕ) (given : Task) → given ≡ task.Job job number → IsTask old new caller given → IsBegun old new caller job number
begun_in old new caller job number given is t = subst (IsTask old new caller) is t
