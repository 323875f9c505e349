-- What cancelling the jobs of a board does.
use Rattle.std.proofs.Common.{◌≡◌, ◌∙◌, ℕ, ◌+◌, ◌≤◌, Bool, true, false, Option, Some, None, List}
use Rattle.std.proofs.Common.{[], ◌∷◌, ◌++◌, length, refl, ap, sym, subst, arith, inl, inr}
use Rattle.std.specs.Prelude.{◌⊎◌, ◌≢◌, Result, Ok, Err, IsSome, IfErr, OnOk, OnErr, ◌==◌, ◌||◌}
use Rattle.std.specs.List.{list_any}
use Rattle.std.proofs.lemmas.Bool.Decides.{nat_tests}
use Rattle.std.proofs.lemmas.List.Elements.{filter_map-append}
use Rattle.entry_core.specs.declared.answers.Verdict.{Verdict}
use Rattle.entry_core.specs.declared.answers.Verdict.TheVariants as verdict
use Rattle.entry_core.specs.declared.entries.Entry.{Entry}
use Rattle.entry_core.specs.declared.entries.Event.TheVariants as event
use Rattle.entry_core.specs.Journal.{jobs}
use Rattle.entry_core.specs.Settled.{answer_to, cancelled, cancelled_by, given_if, or_else, settled}
use Rattle.entry_core.specs.Settled.{standing}
use Rattle.board_core.specs.declared.faults.CancelFault.{CancelFault}
use Rattle.board_core.specs.declared.faults.CancelFault.TheVariants as fault
use Rattle.board_core.specs.State.{State, entered}
use Rattle.board_core.specs.Replies.{IsCancelFault, IsJob}
use Rattle.board_core.proofs.Changes.{same_or_other}
use Rattle.board_core.proofs.Readings.{settled_push}
use Rattle.tarmo_run.specs.Growth.{HasNoJobMore, IsLonger}
use Rattle.tarmo_run.specs.Output.{AreSettled}
use Rattle.tarmo_run.proofs.Boards.{longer_none, no_job_none, no_job_on, no_job_one}
use Rattle.tarmo_run.proofs.Boards.{one_stays}

some_else : (first second : Option Verdict) → IsSome second → IsSome (or_else first second)
some_else None second some = some
some_else (Some given) second some = refl

some_first : (first second : Option Verdict) → IsSome first → IsSome (or_else first second)
some_first None second some = absurd (cc)
some_first (Some given) second some = refl

some_if : (b : Bool) (given : Verdict) → b ≡ true → IsSome (given_if b given)
some_if true given is = refl
some_if false given is = absurd (cc)

or_true : (b : Bool) → (b || true) ≡ true
or_true true = refl
or_true false = refl

same_number : (job : ℕ) → (job == job) ≡ true
same_number job = grind (arith, nat_tests)

any_last : (numbers : List ℕ) (job : ℕ) → list_any (λ n. n == job) (numbers ++ job ∷ []) ≡ true
any_last [] job = ap (λ b. b || false) (same_number job)
any_last (number ∷ numbers) job = ap (λ b. (number == job) || b) (any_last numbers job)
    ∙ or_true (number == job)

-- a job that was just cancelled is settled
is_settled : (board : State) (caller job : ℕ) →
    IsSome (settled board.rules (entered board caller (event.Cancelled job)).journal job)
is_settled board caller job =
    let entry : Entry = record { caller = caller; event = event.Cancelled job } in
    let stands : list_any (λ n. n == job) (cancelled (board.journal ++ entry ∷ [])) ≡ true =
    ap (list_any (λ n. n == job))
    (filter_map-append (λ (e : Entry). cancelled_by e.event) board.journal (entry ∷ []))
    ∙ any_last (cancelled board.journal) job in
    subst IsSome (sym (settled_push board.rules board.journal entry job))
    (some_else (settled board.rules board.journal job)
    (standing board.rules (board.journal ++ entry ∷ []) job)
    (some_else (answer_to (board.journal ++ entry ∷ []) job) _
    (some_first _ _ (some_if (list_any (λ n. n == job) (cancelled (board.journal ++ entry ∷ [])))
    (verdict.Cancelled 0) stands))))

refused : (board : State) (job : ℕ) (why : CancelFault) → IsJob board job →
    IsCancelFault board job why → IsSome (settled board.rules board.journal job)
refused board job (fault.NoSuchJob number) there is = absurd (is.missing there)
refused board job (fault.Settled outcome) there is = subst IsSome (sym is.is) refl

-- the jobs up to a number are settled
pub record AreSettledTo (board : State) (last : ℕ) : Type 0 where
  pub each : (job : ℕ) → 1 ≤ job → job ≤ last → IsSome (settled board.rules board.journal job)

pub none_settled : (board : State) → AreSettledTo board 0
none_settled board = record { each = λ job from to. absurd (omega (arith, from, to)) }

settled_next : (old new : State) (job last : ℕ) → IsLonger old new → AreSettledTo old last →
    job ≡ last + 1 → IsSome (settled new.rules new.journal job) → AreSettledTo new job
settled_next old new job last longer before next now =
    record { each = λ other from to. by other from to (same_or_other other job) }
  where
    by : (other : ℕ) → 1 ≤ other → other ≤ job → (other ≡ job) ⊎ (other ≢ job) →
        IsSome (settled new.rules new.journal other)
    by other from to (inl same) =
        subst (λ n. IsSome (settled new.rules new.journal n)) (sym same) now
    by other from to (inr differs) =
        one_stays old new other longer (before.each other from (earlier other from to differs))
      where
        earlier : (other : ℕ) → 1 ≤ other → other ≤ job → other ≢ job → other ≤ last
        earlier other from to differs = grind (arith, nat_tests)

-- one settled job more on the same board
pub settled_more : (board : State) (job last : ℕ) → AreSettledTo board last → job ≡ last + 1 →
    IsSome (settled board.rules board.journal job) → AreSettledTo board job
settled_more board job last before next now =
    settled_next board board job last (longer_none board) before next now

-- each job is
pub all_settled : (board : State) (last : ℕ) → AreSettledTo board last →
    jobs board.journal ≤ last → AreSettled board
all_settled board last before all job there =
    before.each job there.from_one (omega (arith, there.added, all))

-- one job more
pub cancelled_one : (start old new : State) (result : Result Unit CancelFault) (job last : ℕ) →
    HasNoJobMore start old → AreSettledTo old last → job ≡ last + 1 → job ≤ jobs start.journal
    → OnOk result (new ≡ entered old 1 (event.Cancelled job)) →
    IfErr result (IsCancelFault old job) → OnErr result (new ≡ old) →
    HasNoJobMore start new × AreSettledTo new job
cancelled_one start old new (Ok done) job last more before next within is why same =
    let one : HasNoJobMore old new =
    subst (HasNoJobMore old) (sym is) (no_job_one old 1 (event.Cancelled job) refl) in (
      no_job_on start old new more one,
      settled_next old new job last one.longer before next
          (subst (λ (b : State). IsSome (settled b.rules b.journal job)) (sym is)
          (is_settled old 1 job)),
    )
cancelled_one start old new (Err found) job last more before next within is why same =
    let there : IsJob old job =
    record {
      from_one = omega (arith, next);
      added = subst (λ n. job ≤ n) (ap length (sym more.segments)) within;
    } in
    let none : HasNoJobMore old new = subst (HasNoJobMore old) (sym same) (no_job_none old) in (
      no_job_on start old new more none,
      settled_next old new job last none.longer before next
          (subst (λ (b : State). IsSome (settled b.rules b.journal job)) (sym same)
          (refused old job found there why)),
    )

-- all jobs
pub all_cancelled : (start board : State) (last : ℕ) → HasNoJobMore start board →
    AreSettledTo board last → jobs start.journal ≤ last → AreSettled board
all_cancelled start board last more before all job there =
    before.each job there.from_one (omega (arith, there.added, all, ap length more.segments))
