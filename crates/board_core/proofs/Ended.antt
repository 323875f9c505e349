-- The index after an attempt was begun, and after one ended.
use Rattle.std.proofs.Common.{◌≡◌, ◌∙◌, ◌≢◌, ℕ, ◌+◌, ◌-◌, ◌≤◌, true, false, cond, Option, Some, None, List, [], ◌∷◌, ◌++◌, map, length, refl, ap, sym, subst, arith, ◌==◌, Vec}
use Rattle.std.specs.Prelude.{sum_by, slice_set}
use Rattle.std.specs.declared.alloc.Global.{Global}
use Rattle.std.proofs.lemmas.Bool.Decides.{nat_tests}
use Rattle.std.proofs.lemmas.List.{map_push, length-set}
use Rattle.board_core.specs.declared.rank.Rank.{Rank}
use Rattle.entry_core.specs.declared.entries.Entry.{Entry}
use Rattle.entry_core.specs.declared.entries.Event.{Event}
use Rattle.entry_core.specs.declared.entries.Event.TheVariants as event
use Rattle.entry_core.specs.declared.rules.Rules.{Rules}
use Rattle.entry_core.specs.Journal.{segment_of, jobs, tagged_from, segment_literals, packet_of, is_closing}
use Rattle.entry_core.specs.Attempts.{Attempt, begun_by, attempts, attempt, ended_by, is_open, open_attempts, spent_attempts}
use Rattle.entry_core.specs.Settled.{settled, settled_jobs}
use Rattle.board_core.specs.declared.index.JobState.{JobState}
use Rattle.board_core.specs.declared.index.Index.{Index}
use Rattle.board_core.specs.Index.{state_at, IsEndingOf, IsStateOf, IsOrderly, IsIndexOf}
use Rattle.board_core.proofs.Readings.{read_on, or_none, place_unread, closing_unread}
use Rattle.board_core.specs.declared.index.Models.{Models}
use Rattle.board_core.specs.Overtaking.{IsModelsOf}
use Rattle.board_core.proofs.Verdicts.{entry_by, begun_models}
use Rattle.board_core.proofs.Models.{models_stay}
use Rattle.entry_core.proofs.OpenAttempts.{open_begun, open_ended}
use Rattle.board_core.proofs.Indexed.{ending_stays, spent_begun}
use Rattle.board_core.proofs.Changes.{IsBase, step, same_state, same_segments, same_packets, same_attempts, same_tally, states_set}

test_same : (n : ℕ) → (n == n) ≡ true
test_same n = grind (arith, nat_tests)

test_other : (n k : ℕ) → k ≢ n → (n == k) ≡ false
test_other n k differs = grind (arith, nat_tests)

-- the next attempt, at a job that was added
pub index_begun : (rules : Rules) (journal : List Entry) (index : Index) (caller job number : ℕ) (states : Vec JobState Global) (begun : Vec ℕ Global) (waiting : List (Option Rank))
    → IsBase rules journal → IsIndexOf rules journal index → 1 ≤ job → job ≤ jobs journal → number ≡ length (attempts journal) + 1 → begun.items ≡ index.attempts.items ++ job ∷ []
    → states.items ≡ slice_set index.jobs.items (job - 1) (record (state_at index.jobs.items job) { open_now = (state_at index.jobs.items job).open_now + 1 })
    → IsIndexOf rules (journal ++ entry_by caller (event.Began job number) ∷ []) (record index { jobs = states; attempts = begun; waiting = waiting; open_now = index.open_now + 1 })
index_begun rules journal index caller job number states begun waiting base is from to next more written =
    let entry : Entry = entry_by caller (event.Began job number) in
    let longer : List Entry = journal ++ entry ∷ [] in
    let new : Attempt = record { number = number; worker = caller; job = job } in
    let one_more : attempts longer ≡ attempts journal ++ new ∷ [] = read_on (λ (e : Entry). begun_by e.caller e.event) journal entry new refl in
    let stays : (other : ℕ) → settled rules longer other ≡ settled rules journal other = λ other. step rules journal caller (event.Began job number) other base ∙ or_none (settled rules journal other) in
    let opens : (other : ℕ) → open_attempts longer other ≡ open_attempts journal other + cond (job == other) 1 0 = λ other.
    open_begun (λ n. n == other) journal entry new refl refl next base.orderly.ended in
    let spends : (other : ℕ) → spent_attempts longer other ≡ spent_attempts journal other = λ other. spent_begun journal entry new other base.orderly refl refl in
    let before : JobState = state_at index.jobs.items job in
    let after : JobState = record before { open_now = before.open_now + 1 } in
    let was : IsStateOf rules journal job before = is.states job in
    let own : IsStateOf rules longer job after = record {
      open_now = ap (λ n. n + 1) was.open_now ∙ sym (opens job ∙ ap (λ b. open_attempts journal job + cond b 1 0) (test_same job));
      spent = was.spent ∙ sym (spends job);
      ending = subst (IsEndingOf longer before.ending) (sym (stays job)) (ending_stays journal (entry ∷ []) before.ending (settled rules journal job) was.ending);
    } in
    let there : job ≤ length index.jobs.items = let e = is.jobs in omega arith in
    record {
      jobs = ap length written ∙ length-set index.jobs.items (job - 1) after ∙ is.jobs ∙ ap length (sym (same_segments journal entry refl));
      states = subst (λ items. (other : ℕ) → IsStateOf rules longer other (state_at items other)) (sym written)
          (states_set rules longer index.jobs.items job after from there own
          (λ other differs. same_state rules journal entry other (state_at index.jobs.items other) (is.states other)
          (opens other ∙ ap (λ b. open_attempts journal other + cond b 1 0) (test_other job other differs) ∙ (let e : open_attempts journal other + 0 ≡ open_attempts journal other = omega arith in e))
          (spends other) (stays other)));
      segments = is.segments ∙ sym (same_segments journal entry refl);
      packets = is.packets ∙ sym (same_packets journal entry refl);
      begun = ap (map (λ (a : Attempt). a.job)) one_more ∙ map_push (λ (a : Attempt). a.job) (attempts journal) new ∙ ap (λ all. all ++ job ∷ []) is.begun ∙ sym more;
      place = is.place ∙ sym (place_unread journal entry refl);
      closed = is.closed ∙ sym (closing_unread journal entry refl);
      clauses = is.clauses ∙ ap (λ all. length (tagged_from 1 all)) (sym (same_segments journal entry refl));
      literals = is.literals ∙ ap (sum_by segment_literals) (sym (same_segments journal entry refl));
      settled = is.settled ∙ sym (same_tally rules journal entry refl stays);
      open_now = ap (λ n. n + 1) is.open_now ∙ sym (open_begun (λ n. true) journal entry new refl refl next base.orderly.ended);
      models = models_stay rules journal longer index.models (begun_models journal entry new base.orderly refl refl) (let e = ap length (same_segments journal entry refl) in omega arith) is.models;
    }

-- an event that ends the attempt of that number, and says nothing of jobs, packets and the closing
pub record IsEnd (caller : ℕ) (happened : Event) (number : ℕ) : Type 0 where
  pub begins : begun_by caller happened ≡ None
  pub ends : ended_by happened ≡ Some number
  pub adds : segment_of happened ≡ None
  pub shares : packet_of happened ≡ None
  pub closes : is_closing happened ≡ false

-- where the job of the attempt stands then, and what stays
pub record Ends (rules : Rules) (journal : List Entry) (entry : Entry) (job : ℕ) (before after : JobState) : Type 0 where
  pub open_now : after.open_now + 1 ≡ before.open_now
  pub spent : after.spent ≡ spent_attempts (journal ++ entry ∷ []) job
  pub ending : IsEndingOf (journal ++ entry ∷ []) after.ending (settled rules (journal ++ entry ∷ []) job)
  pub others_spent : (other : ℕ) → other ≢ job → spent_attempts (journal ++ entry ∷ []) other ≡ spent_attempts journal other
  pub others_settled : (other : ℕ) → other ≢ job → settled rules (journal ++ entry ∷ []) other ≡ settled rules journal other

-- open attempts after an end: those at other jobs, and those at its own
pub other_opened : (journal : List Entry) (caller : ℕ) (happened : Event) (number : ℕ) (begun : Attempt) (other : ℕ) → IsOrderly journal → IsEnd caller happened number → attempt journal number ≡ Some begun → is_open journal begun ≡ true → other ≢ begun.job
    → open_attempts (journal ++ entry_by caller happened ∷ []) other ≡ open_attempts journal other
other_opened journal caller happened number begun other orderly end found opened differs =
    let entry : Entry = entry_by caller happened in
    let longer : List Entry = journal ++ entry ∷ [] in
    (let e : open_attempts longer other ≡ open_attempts longer other + 0 = omega arith in e)
    ∙ ap (λ b. open_attempts longer other + cond b 1 0) (sym (test_other begun.job other differs))
    ∙ open_ended (λ n. n == other) journal entry number begun end.begins end.ends orderly.numbered found opened

pub own_ended : (rules : Rules) (journal : List Entry) (index : Index) (caller : ℕ) (happened : Event) (number : ℕ) (begun : Attempt) (after : JobState)
    → IsBase rules journal → IsIndexOf rules journal index → IsEnd caller happened number → attempt journal number ≡ Some begun → is_open journal begun ≡ true
    → after.open_now + 1 ≡ (state_at index.jobs.items begun.job).open_now → after.spent ≡ spent_attempts (journal ++ entry_by caller happened ∷ []) begun.job
    → IsEndingOf (journal ++ entry_by caller happened ∷ []) after.ending (settled rules (journal ++ entry_by caller happened ∷ []) begun.job)
    → IsStateOf rules (journal ++ entry_by caller happened ∷ []) begun.job after
own_ended rules journal index caller happened number begun after base is end found opened one_less spends ends =
    let entry : Entry = entry_by caller happened in
    let longer : List Entry = journal ++ entry ∷ [] in
    let job : ℕ = begun.job in
    let was : IsStateOf rules journal job (state_at index.jobs.items job) = is.states job in
    let own_open : open_attempts longer job + 1 ≡ open_attempts journal job =
    ap (λ b. open_attempts longer job + cond b 1 0) (sym (test_same job))
    ∙ open_ended (λ n. n == job) journal entry number begun end.begins end.ends base.orderly.numbered found opened in
    record {
      open_now = let b = was.open_now in omega arith;
      spent = spends;
      ending = ends;
    }

-- the states after an end that changes only the state of its own job
pub states_ended : (rules : Rules) (journal : List Entry) (index : Index) (caller : ℕ) (happened : Event) (number : ℕ) (begun : Attempt) (after : JobState)
    → IsBase rules journal → IsIndexOf rules journal index → IsEnd caller happened number → attempt journal number ≡ Some begun → is_open journal begun ≡ true
    → 1 ≤ begun.job → begun.job ≤ jobs journal → Ends rules journal (entry_by caller happened) begun.job (state_at index.jobs.items begun.job) after
    → (other : ℕ) → IsStateOf rules (journal ++ entry_by caller happened ∷ []) other (state_at (slice_set index.jobs.items (begun.job - 1) after) other)
states_ended rules journal index caller happened number begun after base is end found opened from to ends =
    let entry : Entry = entry_by caller happened in
    let longer : List Entry = journal ++ entry ∷ [] in
    let job : ℕ = begun.job in
    let there : job ≤ length index.jobs.items = let e = is.jobs in omega arith in
    states_set rules longer index.jobs.items job after from there
    (own_ended rules journal index caller happened number begun after base is end found opened ends.open_now ends.spent ends.ending)
    (λ other differs. same_state rules journal entry other (state_at index.jobs.items other) (is.states other)
    (other_opened journal caller happened number begun other base.orderly end found opened differs) (ends.others_spent other differs) (ends.others_settled other differs))

pub index_ended : (rules : Rules) (journal : List Entry) (index : Index) (caller : ℕ) (happened : Event) (number : ℕ) (begun : Attempt) (states : Vec JobState Global) (waiting : List (Option Rank)) (tally total : ℕ) (models : Option Models)
    → IsBase rules journal → IsIndexOf rules journal index → IsEnd caller happened number → attempt journal number ≡ Some begun → is_open journal begun ≡ true
    → ((other : ℕ) → IsStateOf rules (journal ++ entry_by caller happened ∷ []) other (state_at states.items other)) → length states.items ≡ length index.jobs.items
    → tally ≡ settled_jobs rules (journal ++ entry_by caller happened ∷ []) → total + 1 ≡ index.open_now
    → IsModelsOf rules (journal ++ entry_by caller happened ∷ []) models
    → IsIndexOf rules (journal ++ entry_by caller happened ∷ []) (record index { jobs = states; waiting = waiting; settled = tally; open_now = total; models = models })
index_ended rules journal index caller happened number begun states waiting tally total models base is end found opened stand count tallied one_less modelled =
    let entry : Entry = entry_by caller happened in
    let whole = open_ended (λ n. true) journal entry number begun end.begins end.ends base.orderly.numbered found opened in
    record {
      jobs = count ∙ is.jobs ∙ ap length (sym (same_segments journal entry end.adds));
      states = stand;
      segments = is.segments ∙ sym (same_segments journal entry end.adds);
      packets = is.packets ∙ sym (same_packets journal entry end.shares);
      begun = ap (map (λ (a : Attempt). a.job)) (same_attempts journal entry end.begins) ∙ is.begun;
      place = is.place ∙ sym (place_unread journal entry end.closes);
      closed = is.closed ∙ sym (closing_unread journal entry end.closes);
      clauses = is.clauses ∙ ap (λ all. length (tagged_from 1 all)) (sym (same_segments journal entry end.adds));
      literals = is.literals ∙ ap (sum_by segment_literals) (sym (same_segments journal entry end.adds));
      settled = tallied;
      open_now = let e = is.open_now in counted (total + 1) _ total _ e one_less whole refl;
      models = modelled;
    }
  where
    counted : (more before total after : ℕ) → index.open_now ≡ before → more ≡ index.open_now → after + 1 ≡ before → more ≡ total + 1 → total ≡ after
    counted more before total after a b c d = omega arith
