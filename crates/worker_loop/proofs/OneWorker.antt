-- One worker goes from each job to the jobs behind it, so that nothing that it learnt is lost.
use Rattle.std.proofs.Common.{◌≡◌, ◌∙◌, ◌⊎◌, inl, inr, ℕ, ◌+◌, ◌<◌, ◌≤◌, Option, Some, None, List, [], ◌∷◌, ◌++◌, length, refl, ap, sym, subst, arith, append_assoc, length-append}
use Rattle.std.specs.Prelude.{All, IsSome, filter_map}
use Rattle.std.proofs.lemmas.List.{length_push}
use Rattle.std.proofs.lemmas.List.Elements.{filter_map-append, All-cons, All-nil}
use Rattle.entry_core.specs.declared.answers.Verdict.{Verdict}
use Rattle.entry_core.specs.declared.entries.Entry.{Entry}
use Rattle.entry_core.specs.declared.entries.Event.{Event}
use Rattle.entry_core.specs.declared.entries.Event.TheVariants as event
use Rattle.entry_core.specs.declared.rules.Rules.{Rules}
use Rattle.entry_core.specs.Attempts.{open_attempts}
use Rattle.entry_core.specs.Journal.{segment_of}
use Rattle.entry_core.specs.Legal.{IsLegal, IsWorker}
use Rattle.entry_core.specs.Schedule.{IsWaiting, GoesBefore}
use Rattle.entry_core.specs.Settled.{settled, starved_by, starved}
use Rattle.board_core.specs.State.{State, entered}
use Rattle.board_core.specs.Replies.{IsBegun}
use Rattle.board_core.proofs.Changes.{same_segments}
use Rattle.board_core.proofs.Readings.{unread, read_on}
use Rattle.board_core.proofs.Verdicts.{entry_by}
use Rattle.session.specs.Solver.{Solver}
use Rattle.worker_loop.specs.declared.bench.Bench.{Bench}
use Rattle.worker_loop.specs.declared.ends.End.{End}
use Rattle.worker_loop.specs.declared.ends.End.TheVariants.{Answered, Spent}
use Rattle.worker_loop.specs.Attempts.{EndsBy, HasEnded, HasMade, IsBeforeWaiting, KeepsOn, event_of}
use Rattle.worker_loop.specs.Kept.{KeepsLearnt}
use Rattle.worker_loop.specs.Working.{HasAttemptsMore, IsOfAttempt, IsResting}
use Rattle.worker_loop.proofs.Begun.{in_time}
use Rattle.worker_loop.proofs.Ended.{still_settled}
use Rattle.worker_loop.proofs.Events.{ends_one}
use Rattle.worker_loop.proofs.Finished.{none_open}
use Rattle.worker_loop.proofs.Keeping.{kept_itself, kept_twice}
use Rattle.worker_loop.proofs.Left.{spent_grow}

-- attempts that found no memory, with more entries
starved_more : (journal more : List Entry) → length (starved (journal ++ more)) ≡ length (starved journal) + length (starved more)
starved_more journal more =
    let read : Entry → Option ℕ = λ e. starved_by e.event in
    ap length (filter_map-append read journal more) ∙ length-append (filter_map read journal) (filter_map read more)

-- a job that waits with one entry more, none of which adds a job, waited before, where no attempt at it was open
waited : (rules : Rules) (journal : List Entry) (first last : Entry) (job : ℕ) → segment_of first.event ≡ None → segment_of last.event ≡ None → open_attempts journal job ≡ 0
    → IsWaiting rules ((journal ++ first ∷ []) ++ last ∷ []) job → IsWaiting rules journal job
waited rules journal first last job no_job no_more none waits = record {
  from_one = waits.from_one;
  added = (let le = waits.added in omega (arith, le, ap length (same_segments (journal ++ first ∷ []) last no_more), ap length (same_segments journal first no_job)));
  unsettled = by_verdict (settled rules journal job) refl;
  allowed = (let few = waits.allowed in omega (arith, few, none, spent_grow journal first job, spent_grow (journal ++ first ∷ []) last job));
}
  where
    by_verdict : (given : Option Verdict) → settled rules journal job ≡ given → settled rules journal job ≡ None
    by_verdict None is = is
    by_verdict (Some found) is =
        let later : IsSome (settled rules ((journal ++ first ∷ []) ++ last ∷ []) job) =
        still_settled rules (journal ++ first ∷ []) last job (still_settled rules journal first job (subst IsSome (sym is) refl)) in
        absurd (let none = subst IsSome waits.unsettled later in cc)

goes_first : (journal : List Entry) (job other : ℕ) → open_attempts journal other ≡ 0 → GoesBefore journal job other → job ≤ other
goes_first journal job other none (inl fewer) = absurd (omega (arith, fewer, none))
goes_first journal job other none (inr same) = same.1

one_starved : (old mid new : State) (caller job number : ℕ) → IsLegal old.rules old.journal → IsBegun old mid caller job number → EndsBy mid new caller number (event.Starved number)
    → length (starved old.journal) < length (starved new.journal)
one_starved old mid new caller job number legal begun ends =
    let is = in_time old mid new caller job number (event.Starved number) legal begun ends in
    let before : starved mid.journal ≡ starved old.journal = ap (λ (b : State). starved b.journal) begun.adds ∙ unread (λ (e : Entry). starved_by e.event) old.journal (entry_by caller (event.Began job number)) refl in
    let after : starved new.journal ≡ starved mid.journal ++ number ∷ [] =
    ap (λ (b : State). starved b.journal) is ∙ read_on (λ (e : Entry). starved_by e.event) mid.journal (entry_by caller (event.Starved number)) number refl in
    let count : length (starved new.journal) ≡ length (starved mid.journal) + 1 = ap length after ∙ length_push (starved mid.journal) number in
    omega (arith, count, ap length before)

-- An attempt that ends right after it began adds two entries, and isn't dropped.
pub once_more : (old mid new : State) (caller job number : ℕ) (bench bench' : Bench) → IsLegal old.rules old.journal → IsBegun old mid caller job number → HasMade mid new caller number job bench bench'
    → HasAttemptsMore old new caller
once_more old mid new caller job number bench bench' legal begun made = by_made made
  where
    two_more : (happened : Event) → IsOfAttempt happened → new ≡ entered mid caller happened → HasAttemptsMore old new caller
    two_more happened kind is = record {
      rules = ap (λ (b : State). b.rules) is ∙ ap (λ (b : State). b.rules) begun.adds;
      more = entry_by caller (event.Began job number) ∷ entry_by caller happened ∷ [];
      is = ap (λ (b : State). b.journal) is ∙ ap (λ (b : State). b.journal ++ entry_by caller happened ∷ []) begun.adds
          ∙ append_assoc old.journal (entry_by caller (event.Began job number) ∷ []) (entry_by caller happened ∷ []);
      own = two (λ (e : Entry). e.caller ≡ caller) (entry_by caller (event.Began job number)) (entry_by caller happened) refl refl;
      attempts = two (λ (e : Entry). IsOfAttempt e.event) (entry_by caller (event.Began job number)) (entry_by caller happened) tt kind;
    }
      where
        two : (P : Entry → Type 0) (first last : Entry) → P first → P last → All P (first ∷ last ∷ [])
        two P first last a b = All-cons P first (last ∷ []) a (All-cons P last [] b (All-nil P))

    of_end : (end : End) → IsOfAttempt (event_of number (Some end))
    of_end (Answered answer) = tt
    of_end (Spent learnt) = tt

    by_made : HasMade mid new caller number job bench bench' → HasAttemptsMore old new caller
    by_made (inl found) = two_more (event_of number (Some found.end)) (of_end found.end) (in_time old mid new caller job number (event_of number (Some found.end)) legal begun found.ends)
    by_made (inr want) = two_more (event.Starved number) tt (in_time old mid new caller job number (event.Starved number) legal begun want.0)

-- One attempt of the one worker.
pub once_kept : (old mid new : State) (caller job number : ℕ) (bench bench' : Bench) → IsLegal old.rules old.journal → IsWorker old.rules caller → IsResting old caller → old.rules.workers ≡ 1
    → IsBegun old mid caller job number → HasEnded mid new caller number job → HasMade mid new caller number job bench bench' → IsBeforeWaiting bench old → KeepsOn old new bench bench'
once_kept old mid new caller job number bench bench' legal worker resting alone begun end made before = record { kept = kept made; before = behind }
  where
    kept : HasMade mid new caller number job bench bench' → KeepsLearnt bench.session.solver bench'.session.solver ⊎ (length (starved old.journal) < length (starved new.journal))
    kept (inl found) = inl (found.kept (before job begun.next.waiting))
    kept (inr want) = inr (one_starved old mid new caller job number legal begun want.0)

    is : new ≡ entered (entered old caller (event.Began job number)) caller end.happened
    is = end.is ∙ ap (λ (b : State). entered b caller end.happened) begun.adds

    at_most : HasMade mid new caller number job bench bench' → bench'.session.solver.bound ≤ job
    at_most (inl found) = omega (arith, found.bound)
    at_most (inr want) = omega (arith, ap (λ (s : Solver). s.bound) want.1.session)

    behind : IsBeforeWaiting bench' new
    behind other waits =
        let none = none_open old caller other legal worker resting alone in
        let was = waited old.rules old.journal (entry_by caller (event.Began job number)) (entry_by caller end.happened) other refl (ends_one caller number end.happened end.ends).adds none
        (subst (λ (b : State). IsWaiting b.rules b.journal other) is waits) in
        let low = goes_first old.journal job other none (begun.next.first other was) in
        omega (arith, low, at_most made)

-- Nothing happened.
pub on_itself : (board : State) (bench : Bench) → IsBeforeWaiting bench board → KeepsOn board board bench bench
on_itself board bench before = record { kept = inl (kept_itself bench.session.solver); before = before }

-- One attempt after the others.
pub on_twice : (old mid new : State) (caller : ℕ) (first second third : Bench) → HasAttemptsMore old mid caller → HasAttemptsMore mid new caller → KeepsOn old mid first second → KeepsOn mid new second third → KeepsOn old new first third
on_twice old mid new caller first second third front back a b = record { kept = both a.kept b.kept; before = b.before }
  where
    earlier : length (starved old.journal) ≤ length (starved mid.journal)
    earlier = omega (arith, ap (λ all. length (starved all)) front.is, starved_more old.journal front.more)

    later : length (starved mid.journal) ≤ length (starved new.journal)
    later = omega (arith, ap (λ all. length (starved all)) back.is, starved_more mid.journal back.more)

    both : KeepsLearnt first.session.solver second.session.solver ⊎ (length (starved old.journal) < length (starved mid.journal)) → KeepsLearnt second.session.solver third.session.solver ⊎ (length (starved mid.journal) < length (starved new.journal))
        → KeepsLearnt first.session.solver third.session.solver ⊎ (length (starved old.journal) < length (starved new.journal))
    both (inl x) (inl y) = inl (kept_twice first.session.solver second.session.solver third.session.solver x y)
    both (inl x) (inr less) = inr (omega (arith, earlier, less))
    both (inr less) _ = inr (omega (arith, later, less))

-- So it is with all attempts so far, where there is one worker.
pub all_kept : (old mid new : State) (caller : ℕ) (first second third : Bench) → HasAttemptsMore old mid caller → HasAttemptsMore mid new caller
    → (old.rules.workers ≡ 1 → IsBeforeWaiting first old → KeepsOn old mid first second) → (mid.rules.workers ≡ 1 → IsBeforeWaiting second mid → KeepsOn mid new second third)
    → old.rules.workers ≡ 1 → IsBeforeWaiting first old → KeepsOn old new first third
all_kept old mid new caller first second third front back a b alone before =
    let so_far = a alone before in
    on_twice old mid new caller first second third front back so_far (b (ap (λ (r : Rules). r.workers) front.rules ∙ alone) so_far.before)
