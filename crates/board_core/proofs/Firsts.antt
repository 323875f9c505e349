-- The first of the ranks is the job to take.
use Rattle.std.proofs.Common.{◌≡◌, ◌∙◌, ◌⊎◌, inl, inr, ℕ, zero, suc, ◌+◌, ◌-◌, ◌<◌, ◌≤◌, Bool, true, false, cond, Option, Some, None, List, [], ◌∷◌, length, refl, ap, sym, subst, arith, ◌==◌, ◌||◌}
use Rattle.std.specs.Prelude.{slice_get, option_map, is_some, nat_le, nat_lt, Contains}
use Rattle.std.proofs.lemmas.Bool.Decides.{nat_tests}
use Rattle.std.proofs.lemmas.Option.{slice_get-get_or, slice_get_within, get_or_from_slice_get}
use Rattle.board_core.specs.declared.rank.Rank.{Rank}
use Rattle.board_core.specs.Rank.{goes_before, IsFirst}
use Rattle.entry_core.specs.declared.entries.Entry.{Entry}
use Rattle.entry_core.specs.declared.rules.Rules.{Rules}
use Rattle.entry_core.specs.Attempts.{open_attempts, spent_attempts}
use Rattle.entry_core.specs.Settled.{settled}
use Rattle.entry_core.specs.Schedule.{IsWaiting, IsNext}
use Rattle.board_core.specs.declared.index.Ending.{Ending}
use Rattle.board_core.specs.declared.index.JobState.{JobState}
use Rattle.board_core.specs.declared.index.Index.{Index}
use Rattle.board_core.specs.Index.{or_new, state_at, rank_of, ranks_from, IsEndingOf, IsStateOf, IsIndexOf}
use Rattle.board_core.proofs.Indexed.{ending_some}
use Rattle.board_core.proofs.Ranked.{ranks_get}

state_is : (states : List JobState) (job : ℕ) (state : JobState) → 1 ≤ job → slice_get states (job - 1) ≡ Some state → state_at states job ≡ state
state_is states job state from is =
    let some : (job == 0) ≡ false = grind (arith, nat_tests) in
    ap (λ b. or_new (cond b None (slice_get states (job - 1)))) some ∙ ap or_new is

-- a state that has a rank
ranked : (most job : ℕ) (state : JobState) (rank : Rank) → rank_of most job state ≡ Some rank
    → (is_some state.ending ≡ false) × ((nat_le most (state.open_now + state.spent) ≡ false) × ((rank.open_now ≡ state.open_now) × (rank.job ≡ job)))
ranked most job state rank is = by_tests (is_some state.ending) (nat_le most (state.open_now + state.spent)) is
  where
    by_tests : (b c : Bool) → cond (b || c) None (Some (record { open_now = state.open_now; job = job })) ≡ Some rank
        → (b ≡ false) × ((c ≡ false) × ((rank.open_now ≡ state.open_now) × (rank.job ≡ job)))
    by_tests true c h = absurd (cc)
    by_tests false true h = absurd (cc)
    by_tests false false h =
        let same : record { open_now = state.open_now; job = job } ≡ rank = cc in
        (refl, (refl, (ap (λ (r : Rank). r.open_now) (sym same), ap (λ (r : Rank). r.job) (sym same))))

has_no_ending : (how : Option Ending) → is_some how ≡ false → how ≡ None
has_no_ending None is = refl
has_no_ending (Some ending) is = absurd (cc)

-- a job with a rank waits
waits : (rules : Rules) (journal : List Entry) (index : Index) (place : ℕ) (rank : Rank) → IsIndexOf rules journal index
    → slice_get (ranks_from rules.attempts 1 index.jobs.items) place ≡ Some (Some rank) → IsWaiting rules journal rank.job × (rank.open_now ≡ open_attempts journal rank.job)
waits rules journal index place rank is found =
    by_state (slice_get index.jobs.items place) refl (sym (ranks_get rules.attempts 1 index.jobs.items place) ∙ found)
  where
    by_state : (o : Option JobState) → slice_get index.jobs.items place ≡ o → option_map (rank_of rules.attempts (1 + place)) o ≡ Some (Some rank)
        → IsWaiting rules journal rank.job × (rank.open_now ≡ open_attempts journal rank.job)
    by_state None at h = absurd (cc)
    by_state (Some state) at h =
        let has : rank_of rules.attempts (1 + place) state ≡ Some rank = cc in
        let parts = ranked rules.attempts (1 + place) state rank has in
        let job : rank.job ≡ 1 + place = parts.1.1.1 in
        let back : (1 + place) - 1 ≡ place = omega arith in
        let lt = slice_get_within index.jobs.items place state at in
        let count = is.jobs in
        let itself : state_at index.jobs.items (1 + place) ≡ state = state_is index.jobs.items (1 + place) state (omega arith) (ap (slice_get index.jobs.items) back ∙ at) in
        let stands : IsStateOf rules journal (1 + place) state = subst (IsStateOf rules journal (1 + place)) itself (is.states (1 + place)) in
        let unsettled : settled rules journal (1 + place) ≡ None = subst (λ how. IsEndingOf journal how (settled rules journal (1 + place))) (has_no_ending state.ending parts.0) stands.ending in
        let few : open_attempts journal (1 + place) + spent_attempts journal (1 + place) < rules.attempts =
        let a = stands.open_now in let b = stands.spent in let c = parts.1.0 in grind (arith, nat_tests) in
        let waiting : IsWaiting rules journal (1 + place) = record { from_one = omega arith; added = omega arith; unsettled = unsettled; allowed = few } in
        (subst (IsWaiting rules journal) (sym job) waiting, parts.1.1.0 ∙ stands.open_now ∙ ap (open_attempts journal) (sym job))

-- a job that waits has a rank
has_rank : (rules : Rules) (journal : List Entry) (index : Index) (job : ℕ) → IsIndexOf rules journal index → IsWaiting rules journal job
    → Contains (ranks_from rules.attempts 1 index.jobs.items) (Some (record { open_now = open_attempts journal job; job = job }))
has_rank rules journal index job is waiting =
    let from = waiting.from_one in let to = waiting.added in let count = is.jobs in
    by_state (slice_get index.jobs.items (job - 1)) refl
  where
    no_test : (open_now spent most : ℕ) → open_now + spent < most → nat_le most (open_now + spent) ≡ false
    no_test open_now spent most lt = grind (arith, nat_tests)

    past : (states : List JobState) (place : ℕ) → slice_get states place ≡ None → length states ≤ place
    past [] place h = omega arith
    past (state ∷ rest) zero h = absurd (cc)
    past (state ∷ rest) (suc place) h = let le = past rest place h in omega arith

    by_state : (o : Option JobState) → slice_get index.jobs.items (job - 1) ≡ o → Contains (ranks_from rules.attempts 1 index.jobs.items) (Some (record { open_now = open_attempts journal job; job = job }))
    by_state None at = absurd (let le = past index.jobs.items (job - 1) at in let from = waiting.from_one in let to = waiting.added in let count = is.jobs in omega arith)
    by_state (Some state) at =
        let from = waiting.from_one in
        let number : 1 + (job - 1) ≡ job = omega arith in
        let itself : state_at index.jobs.items job ≡ state = state_is index.jobs.items job state from at in
        let stands : IsStateOf rules journal job state = subst (IsStateOf rules journal job) itself (is.states job) in
        let unsettled : is_some state.ending ≡ false = ending_some journal state.ending (settled rules journal job) stands.ending ∙ ap is_some waiting.unsettled in
        let few : nat_le rules.attempts (state.open_now + state.spent) ≡ false =
        ap (λ n. nat_le rules.attempts (n + state.spent)) stands.open_now ∙ ap (λ n. nat_le rules.attempts (open_attempts journal job + n)) stands.spent
        ∙ no_test (open_attempts journal job) (spent_attempts journal job) rules.attempts waiting.allowed in
        let rank : rank_of rules.attempts job state ≡ Some (record { open_now = open_attempts journal job; job = job }) =
        ap (λ b. cond (b || nat_le rules.attempts (state.open_now + state.spent)) None (Some (record { open_now = state.open_now; job = job }))) unsettled
        ∙ ap (λ b. cond b None (Some (record { open_now = state.open_now; job = job }))) few
        ∙ ap (λ n. Some (record { open_now = n; job = job })) stands.open_now in
        let entry : slice_get (ranks_from rules.attempts 1 index.jobs.items) (job - 1) ≡ Some (Some (record { open_now = open_attempts journal job; job = job })) =
        ranks_get rules.attempts 1 index.jobs.items (job - 1) ∙ ap (option_map (rank_of rules.attempts (1 + (job - 1)))) at ∙ ap (λ n. Some (rank_of rules.attempts n state)) number ∙ ap Some rank in
        (job - 1, slice_get_within (ranks_from rules.attempts 1 index.jobs.items) (job - 1) _ entry, get_or_from_slice_get (ranks_from rules.attempts 1 index.jobs.items) (job - 1) _ _ entry)

pub first_is_next : (rules : Rules) (journal : List Entry) (index : Index) (rank : Rank) → IsIndexOf rules journal index → IsFirst (ranks_from rules.attempts 1 index.jobs.items) (Some rank) → IsNext rules journal rank.job
first_is_next rules journal index rank is first =
    let place = first.entered in
    let here = waits rules journal index place.0 rank is (slice_get-get_or (ranks_from rules.attempts 1 index.jobs.items) place.0 (Some rank) place.1 ∙ ap Some place.2) in
    record {
      waiting = here.0;
      first = λ other waiting. earlier (open_attempts journal rank.job) (open_attempts journal other) rank.job other rank here.1 refl
          (first.before (record { open_now = open_attempts journal other; job = other }) (has_rank rules journal index other is waiting));
    }
  where
    earlier : (opened opened' job other : ℕ) (rank : Rank) → rank.open_now ≡ opened → rank.job ≡ job → goes_before (record { open_now = opened'; job = other }) rank ≡ false
        → (opened < opened') ⊎ ((opened ≡ opened') × (job ≤ other))
    earlier opened opened' job other rank same here no_rival = by_order (nat_lt opened opened') (opened == opened') refl refl
      where
        by_order : (b c : Bool) → nat_lt opened opened' ≡ b → (opened == opened') ≡ c → (opened < opened') ⊎ ((opened ≡ opened') × (job ≤ other))
        by_order true c p q = inl (grind (arith, nat_tests))
        by_order false true p q =
            let even : opened ≡ opened' = grind (arith, nat_tests) in
            inr (even, grind (arith, nat_tests))
        by_order false false p q = absurd (grind (arith, nat_tests))

pub nobody_waits : (rules : Rules) (journal : List Entry) (index : Index) (job : ℕ) → IsIndexOf rules journal index → IsFirst (ranks_from rules.attempts 1 index.jobs.items) None → ¬ IsWaiting rules journal job
nobody_waits rules journal index job is none waiting =
    let there = has_rank rules journal index job is waiting in
    let nothing = none there.0 (Some (record { open_now = open_attempts journal job; job = job })) there.1 in
    absurd (let e = there.2 in cc)
