-- What may be shared, learnt and answered on a board with the worked job.
use Rattle.std.proofs.Common.{◌≡◌, ◌∙◌, ℕ, ◌≤◌, Bool, List, [], ◌∷◌, ◌++◌, None, Result, Ok, Err, length, refl, ap, sym, subst, arith, inl, inr, true, false}
use Rattle.std.specs.Prelude.{◌⊎◌, IsTrue, OnOk, OnErr, All, Contains, filter, nat_le, IsSome, not, ◌==◌}
use Rattle.std.specs.List.{list_any}
use Rattle.std.proofs.lemmas.List.Elements.{All-nil, All-cons}
use Rattle.sat_base.specs.Lit.{opposite, IsTautology, greatest_of, greatest_of_all, variables}
use Rattle.sat_base.specs.Truth.{Entails, IsModelOf}
use Rattle.sat_base.specs.declared.origins.Ref.TheVariants.{Input}
use Rattle.sat_base.proofs.Members.{Contains-here, Contains-there, Contains-cases}
use Rattle.trace_core.specs.Known.{Known, known, item_at}
use Rattle.trace_core.specs.Propagation.{IsFalsified, IsUnit, IsDerived}
use Rattle.trace_core.specs.Trace.{IsOkStep}
use Rattle.trace_core.specs.Law.{clauses_up_to}
use Rattle.trace_core.proofs.Soundness.{step_is_sound}
use Rattle.entry_core.specs.declared.answers.Answer.TheVariants as answer
use Rattle.entry_core.specs.declared.entries.Entry.{Entry}
use Rattle.entry_core.specs.declared.entries.Event.{Event}
use Rattle.entry_core.specs.declared.entries.Event.TheVariants as event
use Rattle.entry_core.specs.Journal.{segments, segment_of, tagged_from, inputs_of, clauses_of, cube_in, jobs, shared}
use Rattle.entry_core.specs.Attempts.{Attempt, begun_by, attempts, ended_by}
use Rattle.entry_core.specs.Right.{AreLiterals, IsRightAnswer, IsSpentFor, IsSpent, Subsumes}
use Rattle.entry_core.specs.Legal.{IsShareable}
use Rattle.board_core.specs.State.{State, entered}
use Rattle.board_core.specs.declared.task.Task.{Task}
use Rattle.board_core.specs.declared.task.Task.TheVariants as task
use Rattle.board_core.specs.Replies.{IsJob, IsOwn, IsBegun, IsTask, job_at, job_in}
use Rattle.board_core.proofs.Readings.{unread, read_on}
use Rattle.board_core.specs.Worked.{worked_job, worked_step}

only : (x y : ℕ) → Contains (x ∷ []) y → x ≡ y
only x y has = alone (Contains-cases x y [] has)
  where
    alone : (x ≡ y) ⊎ Contains [] y → x ≡ y
    alone (inl is) = is
    alone (inr at) = absurd (omega (arith, at.1))

either : (lit : ℕ) → Contains (2 ∷ 4 ∷ []) lit → (2 ≡ lit) ⊎ (4 ≡ lit)
either lit has = cases (Contains-cases 2 lit (4 ∷ []) has)
  where
    cases : (2 ≡ lit) ⊎ Contains (4 ∷ []) lit → (2 ≡ lit) ⊎ (4 ≡ lit)
    cases (inl is) = inl is
    cases (inr later) = inr (only 4 lit later)

-- the input clauses of the worked job
abbrev pub both : List Known
both = record { clause = 2 ∷ 4 ∷ []; tag = 1 } ∷ record { clause = 3 ∷ []; tag = 1 } ∷ []

inputs_are : (journal : List Entry) → segments journal ≡ worked_job ∷ [] → inputs_of journal 1 ≡ both
inputs_are journal is = ap (λ all. filter (λ (input : Known). nat_le input.tag 1) (tagged_from 1 all)) is

clauses_are : (journal : List Entry) → segments journal ≡ worked_job ∷ [] → clauses_of journal 1 ≡ worked_job.clauses
clauses_are journal is = ap (λ all. clauses_up_to (tagged_from 1 all) 1) is

proper : IsTautology (4 ∷ []) → ⊥
proper both_there = let is = only 4 both_there.lit both_there.has in
    let other = only 4 (opposite 4) (subst (λ lit. Contains (4 ∷ []) (opposite lit)) (sym is) both_there.has_opposite) in
    absurd (omega (arith, other))

unit : IsUnit (5 ∷ []) (2 ∷ 4 ∷ []) 2
unit = record {
  stands = Contains-here 2 (4 ∷ []);
  not_false = λ has. let is : 5 ≡ 3 = only 5 3 has in absurd (omega (arith, is));
  not_true = λ has. let is : 5 ≡ 2 = only 5 2 has in absurd (omega (arith, is));
  others_false = λ other has differs. cases other differs (either other has);
}
  where
    cases : (other : ℕ) → (other ≡ 2 → ⊥) → (2 ≡ other) ⊎ (4 ≡ other) → Contains (5 ∷ []) (opposite other)
    cases other differs (inl is) = absurd (differs (sym is))
    cases other differs (inr is) = subst (λ lit. Contains (5 ∷ []) (opposite lit)) is (Contains-here 5 [])

falsified : IsFalsified (5 ∷ 2 ∷ []) (3 ∷ [])
falsified lit has = subst (λ l. Contains (5 ∷ 2 ∷ []) (opposite l)) (only 3 lit has) (Contains-there 5 2 (2 ∷ []) (Contains-here 2 []))

derived : IsDerived ((2 ∷ 4 ∷ []) ∷ (3 ∷ []) ∷ []) (4 ∷ [])
derived = record {
  proper = proper;
  covered = λ lit has. (2 ∷ 4 ∷ [], Contains-here (2 ∷ 4 ∷ []) ((3 ∷ []) ∷ []), subst (Contains (2 ∷ 4 ∷ [])) (only 4 lit has) (Contains-there 2 4 (4 ∷ []) (Contains-here 4 [])));
  conflict = (2, unit, falsified);
}

ok : (packets : List (List Known)) → IsOkStep (known both packets []) worked_step
ok packets = record {
  all_known = All-cons (λ hint. IsSome (known both packets [] hint)) (Input 1) (Input 2 ∷ []) refl (All-cons (λ hint. IsSome (known both packets [] hint)) (Input 2) [] refl (All-nil (λ hint. IsSome (known both packets [] hint))));
  proved = inr derived;
  exact_tag = refl;
}

pub shareable : (journal : List Entry) → segments journal ≡ worked_job ∷ [] → IsShareable journal (worked_step ∷ [])
shareable journal is = record {
  front = [];
  last = worked_step;
  ends = refl;
  proper = proper;
  short = omega arith;
  added = subst (λ n. 1 ≤ n) (sym (ap length is)) (omega arith);
  ok = (subst (λ inputs. IsOkStep (known inputs (shared journal) []) worked_step) (sym (inputs_are journal is)) (ok (shared journal)), tt);
  tags = All-cons (λ step. step.tag ≤ 1) worked_step [] (omega arith) (All-nil (λ step. step.tag ≤ 1));
  within = subst (λ clauses. 2 ≤ greatest_of_all clauses) (sym (clauses_are journal is)) (omega arith);
}

entailed : Entails worked_job.clauses (4 ∷ [])
entailed = step_is_sound (known both [] []) worked_step (ok [])

not_subsumed : All (λ given. Subsumes given (4 ∷ []) → ⊥) worked_job.clauses
not_subsumed = All-cons (λ given. Subsumes given (4 ∷ []) → ⊥) (2 ∷ 4 ∷ []) ((3 ∷ []) ∷ [])
    (λ all. let is : 4 ≡ 2 = only 4 2 (all 0 0 (omega arith)) in absurd (omega (arith, is)))
    (All-cons (λ given. Subsumes given (4 ∷ []) → ⊥) (3 ∷ []) []
    (λ all. let is : 4 ≡ 3 = only 4 3 (all 0 0 (omega arith)) in absurd (omega (arith, is)))
    (All-nil (λ given. Subsumes given (4 ∷ []) → ⊥)))

spent_list : IsSpent worked_job.clauses 2 1 ((4 ∷ []) ∷ [])
spent_list = record {
  number = refl;
  literals = All-cons AreLiterals (4 ∷ []) [] (All-cons (λ code. 2 ≤ code) 4 [] (omega arith) (All-nil (λ code. 2 ≤ code))) (All-nil AreLiterals);
  proper = All-cons (λ clause. IsTautology clause → ⊥) (4 ∷ []) [] proper (All-nil (λ clause. IsTautology clause → ⊥));
  new = All-cons (λ clause. All (λ given. Subsumes given clause → ⊥) worked_job.clauses) (4 ∷ []) [] not_subsumed (All-nil (λ clause. All (λ given. Subsumes given clause → ⊥) worked_job.clauses));
  different = λ i j d lt within. absurd (omega (arith, lt, within));
  within = All-cons (λ clause. greatest_of clause ≤ 2) (4 ∷ []) [] (omega arith) (All-nil (λ clause. greatest_of clause ≤ 2));
  entailed = All-cons (Entails worked_job.clauses) (4 ∷ []) [] entailed (All-nil (Entails worked_job.clauses));
}

pub spent : (journal : List Entry) (job : ℕ) → segments journal ≡ worked_job ∷ [] → job ≡ 1 → IsSpentFor journal job 1 ((4 ∷ []) ∷ [])
spent journal job is one = subst (λ j. IsSpentFor journal j 1 ((4 ∷ []) ∷ [])) (sym one)
    (subst (λ all. IsSpent (clauses_up_to (tagged_from 1 all) 1) (variables (clauses_up_to (tagged_from 1 all) 1) (cube_in (item_at all 1))) 1 ((4 ∷ []) ∷ [])) (sym is) spent_list)

model : IsModelOf worked_job.clauses [] (false ∷ true ∷ [])
model = record { size = refl; clauses_hold = refl; cube_holds = refl }

pub right : (traces : Bool) (journal : List Entry) (job : ℕ) → segments journal ≡ worked_job ∷ [] → job ≡ 1 → IsRightAnswer traces journal job (answer.Model (false ∷ true ∷ []))
right traces journal job is one = subst (λ j. IsRightAnswer traces journal j (answer.Model (false ∷ true ∷ []))) (sym one)
    (subst (λ all. IsModelOf (clauses_up_to (tagged_from 1 all) 1) (cube_in (item_at all 1)) (false ∷ true ∷ [])) (sym is) model)

-- an entry that adds no job
pub kept : (board : State) (caller : ℕ) (happened : Event) → segment_of happened ≡ None → segments board.journal ≡ worked_job ∷ [] → segments (entered board caller happened).journal ≡ worked_job ∷ []
kept board caller happened none is = unread (λ entry. segment_of entry.event) board.journal (record { caller = caller; event = happened }) none ∙ is

-- the first attempt is at the job that it was begun at
pub first_attempt : (board : State) (caller job number : ℕ) → attempts board.journal ≡ [] → job_at (entered board caller (event.Began job number)) 1 ≡ job
first_attempt board caller job number none =
    let entry : Entry = record { caller = caller; event = event.Began job number } in
    let new : Attempt = record { number = number; worker = caller; job = job } in
    ap (λ all. job_in (item_at all 1)) (read_on (λ (e : Entry). begun_by e.caller e.event) board.journal entry new refl ∙ ap (λ all. all ++ new ∷ []) none)

-- an entry that begins no attempt
pub same_attempt : (board : State) (caller : ℕ) (happened : Event) → begun_by caller happened ≡ None → job_at (entered board caller happened) 1 ≡ job_at board 1
same_attempt board caller happened none =
    ap (λ all. job_in (item_at all 1)) (unread (λ (e : Entry). begun_by e.caller e.event) board.journal (record { caller = caller; event = happened }) none)

-- after a call that adds an entry where it succeeds, and none else
pub kept_either : {X E : Type 0} (result : Result X E) (old new : State) (caller : ℕ) (happened : Event) → segment_of happened ≡ None → OnOk result (new ≡ entered old caller happened) → OnErr result (new ≡ old)
    → segments old.journal ≡ worked_job ∷ [] → segments new.journal ≡ worked_job ∷ []
kept_either (Ok x) old new caller happened none ok err is = ap (λ (board : State). segments board.journal) ok ∙ kept old caller happened none is
kept_either (Err e) old new caller happened none ok err is = ap (λ (board : State). segments board.journal) err ∙ is

pub begun_at : (old new : State) (caller job number : ℕ) (given : Task) → given ≡ task.Job job number → IsTask old new caller given → IsBegun old new caller job number
begun_at old new caller job number given is t = subst (IsTask old new caller) is t

-- an entry that neither begins nor ends an attempt
pub same_own : (board : State) (caller worker number : ℕ) (happened : Event) → begun_by caller happened ≡ None → ended_by happened ≡ None → IsOwn board worker number → IsOwn (entered board caller happened) worker number
same_own board caller worker number happened none still own =
    let entry : Entry = record { caller = caller; event = happened } in
    record {
      begun = own.begun;
      running = record {
        found = ap (λ all. item_at all number) (unread (λ (e : Entry). begun_by e.caller e.event) board.journal entry none) ∙ own.running.found;
        own = own.running.own;
        open_yet = subst (λ all. IsTrue (not (list_any (λ n. n == own.begun.number) all))) (sym (unread (λ (e : Entry). ended_by e.event) board.journal entry still)) own.running.open_yet;
      };
    }

pub spent_on : (board : State) (learnt : List (List ℕ)) → segments board.journal ≡ worked_job ∷ [] → job_at board 1 ≡ 1 → board.rules.conflicts ≡ 1 → learnt ≡ (4 ∷ []) ∷ []
    → IsSpentFor board.journal (job_at board 1) board.rules.conflicts learnt
spent_on board learnt is at budget same =
    subst (λ xs. IsSpentFor board.journal (job_at board 1) board.rules.conflicts xs) (sym same)
    (subst (λ n. IsSpentFor board.journal (job_at board 1) n ((4 ∷ []) ∷ [])) (sym budget) (spent board.journal (job_at board 1) is at))

pub is_job : (board : State) → segments board.journal ≡ worked_job ∷ [] → IsJob board 1
is_job board is =
    let one : jobs board.journal ≡ 1 = ap length is in
    record { from_one = omega arith; added = omega (arith, one) }
