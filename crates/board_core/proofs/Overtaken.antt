-- Jobs that a model cancels: the walk over them, and how many they are.
use Rattle.std.proofs.Common.{◌≡◌, ◌∙◌, ◌≢◌, ◌⊎◌, inl, inr, ℕ, zero, suc, ◌+◌, ◌-◌, ◌<◌, ◌≤◌, Bool, true, false, cond, Option, Some, None, List, [], ◌∷◌, length, refl, ap, sym, subst, arith, ◌==◌}
use Rattle.std.specs.Prelude.{is_some, if◌then◌else◌, slice_get, slice_set}
use Rattle.std.proofs.lemmas.Bool.Decides.{nat_tests}
use Rattle.std.proofs.lemmas.List.{length-set}
use Rattle.entry_core.specs.declared.entries.Entry.{Entry}
use Rattle.entry_core.specs.declared.rules.Rules.{Rules}
use Rattle.entry_core.specs.Settled.{settled, settled_up_to}
use Rattle.board_core.specs.declared.rank.Rank.{Rank}
use Rattle.board_core.specs.declared.index.Ending.TheVariants as ending
use Rattle.board_core.specs.declared.index.JobState.{JobState}
use Rattle.board_core.specs.Index.{or_new, state_at, rank_of, ranks_from, IsStateOf}
use Rattle.board_core.specs.Overtaking.{overtaken_state, ended_up_to, AreOvertaken}
use Rattle.board_core.proofs.Indexed.{ending_some}
use Rattle.board_core.proofs.Changes.{same_or_other, state_set_same, state_set_other}
use Rattle.board_core.proofs.Ranked.{ranks_set}

added : (b b' : Bool) (after before : ℕ) → b ≡ true → b' ≡ false → after ≡ before → after + (if b then 1 else 0) ≡ (before + (if b' then 1 else 0)) + 1
added true false after before p q r = omega arith
added false b' after before p q r = absurd (cc)
added true true after before p q r = absurd (cc)

carried : (b b' : Bool) (after before : ℕ) → b ≡ b' → after ≡ before + 1 → after + (if b then 1 else 0) ≡ (before + (if b' then 1 else 0)) + 1
carried true true after before p r = omega arith
carried false false after before p r = omega arith
carried true false after before p r = absurd (cc)
carried false true after before p r = absurd (cc)

-- the same number of jobs where none of them was written
ended_before : (states : List JobState) (job : ℕ) (state : JobState) (count : ℕ) → 1 ≤ job → count < job → ended_up_to (slice_set states (job - 1) state) count ≡ ended_up_to states count
ended_before states job state zero from lt = refl
ended_before states job state (suc count) from lt =
    ap (λ (s : JobState). ended_up_to (slice_set states (job - 1) state) count + (if is_some s.ending then 1 else 0)) (state_set_other states job (suc count) state from (λ same. absurd (omega arith)))
    ∙ ap (λ n. n + (if is_some (state_at states (suc count)).ending then 1 else 0)) (ended_before states job state count from (omega arith))

-- one job more is settled
pub ended_one : (states : List JobState) (job : ℕ) (state : JobState) (count : ℕ) → 1 ≤ job → job ≤ count → job ≤ length states → is_some (state_at states job).ending ≡ false → is_some state.ending ≡ true
    → ended_up_to (slice_set states (job - 1) state) count ≡ ended_up_to states count + 1
ended_one states job state zero from to there was is = absurd (omega arith)
ended_one states job state (suc count) from to there was is = by_place (same_or_other (suc count) job) (λ le. ended_one states job state count from le there was is)
  where
    by_place : (suc count ≡ job) ⊎ (suc count ≢ job) → (job ≤ count → ended_up_to (slice_set states (job - 1) state) count ≡ ended_up_to states count + 1)
        → ended_up_to (slice_set states (job - 1) state) (suc count) ≡ ended_up_to states (suc count) + 1
    by_place (inl last) recur =
        let now : is_some (state_at (slice_set states (job - 1) state) (suc count)).ending ≡ true =
        ap (λ n. is_some (state_at (slice_set states (job - 1) state) n).ending) last ∙ ap (λ (s : JobState). is_some s.ending) (state_set_same states job state from there) ∙ is in
        let before : is_some (state_at states (suc count)).ending ≡ false = ap (λ n. is_some (state_at states n).ending) last ∙ was in
        added (is_some (state_at (slice_set states (job - 1) state) (suc count)).ending) (is_some (state_at states (suc count)).ending) _ _ now before (ended_before states job state count from (omega arith))
    by_place (inr differs) recur =
        let this : is_some (state_at (slice_set states (job - 1) state) (suc count)).ending ≡ is_some (state_at states (suc count)).ending =
        ap (λ (s : JobState). is_some s.ending) (state_set_other states job (suc count) state from differs) in
        let le : job ≤ count = omega arith in
        carried (is_some (state_at (slice_set states (job - 1) state) (suc count)).ending) (is_some (state_at states (suc count)).ending) _ _ this (recur le)

pub ended_le : (states : List JobState) (count : ℕ) → ended_up_to states count ≤ count
ended_le states zero = omega arith
ended_le states (suc count) = at_most (is_some (state_at states (suc count)).ending) (ended_up_to states count) count (ended_le states count)
  where
    at_most : (b : Bool) (tally most : ℕ) → tally ≤ most → tally + (if b then 1 else 0) ≤ suc most
    at_most true tally most le = omega arith
    at_most false tally most le = omega arith

-- the states tell how many jobs are settled
pub tally_states : (rules : Rules) (journal : List Entry) (states : List JobState) (count : ℕ) → ((job : ℕ) → IsStateOf rules journal job (state_at states job)) → settled_up_to rules journal count ≡ ended_up_to states count
tally_states rules journal states zero stand = refl
tally_states rules journal states (suc count) stand =
    ap (λ n. n + (if is_some (settled rules journal (suc count)) then 1 else 0)) (tally_states rules journal states count stand)
    ∙ ap (λ b. ended_up_to states count + (if b then 1 else 0)) (sym (ending_some journal (state_at states (suc count)).ending (settled rules journal (suc count)) (stand (suc count)).ending))

-- ranks after a state was written
pub ranks_put : (most job : ℕ) (states : List JobState) (state : JobState) (waiting after : List (Option Rank)) → 1 ≤ job → waiting ≡ ranks_from most 1 states → after ≡ slice_set waiting (job - 1) (rank_of most job state)
    → after ≡ ranks_from most 1 (slice_set states (job - 1) state)
ranks_put most job states state waiting after from ranked written =
    let place : job ≡ 1 + (job - 1) = omega arith in
    written ∙ ap (λ all. slice_set all (job - 1) (rank_of most job state)) ranked ∙ ap (λ n. slice_set (ranks_from most 1 states) (job - 1) (rank_of most n state)) place
    ∙ sym (ranks_set most 1 states (job - 1) state)

-- a settled job stays as it is
pub stays_overtaken : (by : ℕ) (state : JobState) → is_some state.ending ≡ true → overtaken_state by state ≡ state
stays_overtaken by state is = ap (λ b. if b then state else record state { ending = Some (ending.Cancelled by) }) is

pub is_overtaken : (by : ℕ) (state : JobState) → is_some state.ending ≡ false → overtaken_state by state ≡ record state { ending = Some (ending.Cancelled by) }
is_overtaken by state is = ap (λ b. if b then state else record state { ending = Some (ending.Cancelled by) }) is

put_back : (states : List JobState) (place : ℕ) → place < length states → slice_set states place (or_new (slice_get states place)) ≡ states
put_back [] place lt = refl
put_back (state ∷ rest) zero lt = refl
put_back (state ∷ rest) (suc place) lt = ap (λ all. state ∷ all) (put_back rest place (omega arith))

pub same_written : (states : List JobState) (by job : ℕ) → 1 ≤ job → job ≤ length states → is_some (state_at states job).ending ≡ true → states ≡ slice_set states (job - 1) (overtaken_state by (state_at states job))
same_written states by job from to is =
    let some : (job == 0) ≡ false = grind (arith, nat_tests) in
    sym (ap (slice_set states (job - 1)) (stays_overtaken by (state_at states job) is ∙ ap (λ b. or_new (cond b None (slice_get states (job - 1)))) some) ∙ put_back states (job - 1) (omega arith))

-- the walk over the jobs after one
pub record IsWalked (most by last : ℕ) (old now : List JobState) (waiting : List (Option Rank)) (job more : ℕ) : Type 0 where
  pub from : by < job
  pub to : job ≤ suc last
  pub walked : AreOvertaken by (job - 1) old now
  pub ranked : waiting ≡ ranks_from most 1 now
  pub settled : ended_up_to now (length old) ≡ ended_up_to old (length old) + more
  pub few : more ≤ job

pub walk_starts : (most by last : ℕ) (states : List JobState) (waiting : List (Option Rank)) → by ≤ last → waiting ≡ ranks_from most 1 states → IsWalked most by last states states waiting (by + 1) 0
walk_starts most by last states waiting le ranked = record {
  from = omega arith;
  to = omega arith;
  walked = record { same_number = refl; later = λ job lt le. absurd (omega arith); others = λ job which. refl };
  ranked = ranked;
  settled = omega arith;
  few = omega arith;
}

pub walk_goes : (most by last : ℕ) (old now new : List JobState) (waiting after : List (Option Rank)) (job more one : ℕ) → IsWalked most by last old now waiting job more → job ≤ last
    → last ≤ length old → new ≡ slice_set now (job - 1) (overtaken_state by (state_at now job)) → after ≡ ranks_from most 1 new
    → ended_up_to new (length now) ≡ ended_up_to now (length now) + one → one ≤ 1
    → IsWalked most by last old new after (job + 1) (more + one)
walk_goes most by last old now new waiting after job more one is to there written ranked counted few =
    let from = is.from in
    let count = is.walked.same_number in
    let bound = is.few in
    let here : job ≤ length now = omega arith in
    let back : (job + 1) - 1 ≡ job = omega arith in
    record {
      from = omega arith;
      to = omega arith;
      walked = subst (λ n. AreOvertaken by n old new) (sym back) (record {
        same_number = ap length written ∙ length-set now (job - 1) (overtaken_state by (state_at now job)) ∙ count;
        later = λ other lt le. by_place other lt le (same_or_other other job) here;
        others = λ other which. outside other which;
      });
      ranked = ranked;
      settled = summed counted;
      few = omega arith;
    }
  where
    elsewhere : (other : ℕ) → other ≢ job → state_at new other ≡ state_at now other
    elsewhere other differs =
        let from = is.from in
        ap (λ all. state_at all other) written ∙ state_set_other now job other (overtaken_state by (state_at now job)) (omega arith) differs

    by_place : (other : ℕ) → by < other → other ≤ job → (other ≡ job) ⊎ (other ≢ job) → job ≤ length now → state_at new other ≡ overtaken_state by (state_at old other)
    by_place other lt le (inl same) here =
        let from = is.from in
        ap (state_at new) same ∙ ap (λ all. state_at all job) written ∙ state_set_same now job (overtaken_state by (state_at now job)) (omega arith) here
        ∙ ap (overtaken_state by) (is.walked.others job (inr (omega arith))) ∙ ap (λ n. overtaken_state by (state_at old n)) (sym same)
    by_place other lt le (inr differs) here = elsewhere other differs ∙ is.walked.later other lt (omega arith)

    outside : (other : ℕ) → (other ≤ by) ⊎ (job < other) → state_at new other ≡ state_at old other
    outside other (inl le) = let from = is.from in elsewhere other (λ same. absurd (omega arith)) ∙ is.walked.others other (inl le)
    outside other (inr lt) = elsewhere other (λ same. absurd (omega arith)) ∙ is.walked.others other (inr (omega arith))

    summed : ended_up_to new (length now) ≡ ended_up_to now (length now) + one → ended_up_to new (length old) ≡ ended_up_to old (length old) + (more + one)
    summed counted =
        let so : ended_up_to new (length old) ≡ ended_up_to now (length old) + one = subst (λ k. ended_up_to new k ≡ ended_up_to now k + one) is.walked.same_number counted in
        let before = is.settled in
        omega arith

pub one_at_most : (b : Bool) (n : ℕ) → n ≡ (if b then 1 else 0) → n ≤ 1
one_at_most true n is = omega arith
one_at_most false n is = omega arith
