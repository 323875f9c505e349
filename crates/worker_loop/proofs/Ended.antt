-- What the end of an attempt does to its job.
use Rattle.std.proofs.Common.{◌≡◌, ◌∙◌, ◌⊎◌, inl, inr, ℕ, suc, ◌+◌, Bool, true, false, cond, Option, Some, None, List, [], ◌∷◌, ◌++◌, refl, ap, sym, subst, arith, ◌==◌, ◌||◌}
use Rattle.std.specs.Prelude.{IsSome, find, option_map, nat_le}
use Rattle.std.specs.List.{list_any}
use Rattle.std.specs.Option.{option_or}
use Rattle.std.specs.declared.sync.Arc.{Arc}
use Rattle.std.specs.declared.alloc.Global.{Global}
use Rattle.std.proofs.lemmas.Bool.Decides.{nat_tests}
use Rattle.std.proofs.lemmas.List.Folds.{list_any-append, find-append}
use Rattle.trace_core.specs.Known.{item_at}
use Rattle.entry_core.specs.declared.answers.Answer.{Answer}
use Rattle.entry_core.specs.declared.answers.Verdict.{Verdict}
use Rattle.entry_core.specs.declared.answers.Verdict.TheVariants as verdict
use Rattle.sat_base.specs.declared.items.Items.{Items}
use Rattle.entry_core.specs.declared.entries.Entry.{Entry}
use Rattle.entry_core.specs.declared.entries.Event.{Event}
use Rattle.entry_core.specs.declared.entries.Event.TheVariants as event
use Rattle.entry_core.specs.declared.rules.Rules.{Rules}
use Rattle.entry_core.specs.Attempts.{begun_by, ended_by, is_at, is_attempt_at, spent_attempts}
use Rattle.entry_core.specs.Settled.{Decision, decision_of, decisions, cancelled, starved_by, starved, or_else, given_if, answer_to, overtaken, standing, settled}
use Rattle.board_core.specs.State.{State, entered}
use Rattle.board_core.specs.Replies.{job_in}
use Rattle.board_core.proofs.Readings.{unread, read_on, settled_push}
use Rattle.board_core.proofs.Verdicts.{entry_by}
use Rattle.board_core.proofs.Indexed.{spent_more}
use Rattle.worker_loop.specs.declared.ends.End.{End}
use Rattle.worker_loop.specs.declared.ends.End.TheVariants.{Answered, Spent}
use Rattle.worker_loop.specs.Attempts.{IsAt, EndsBy, HasEnded, event_of}

some_first : (given other : Option Verdict) → IsSome given → IsSome (or_else given other)
some_first None other is = absurd (cc)
some_first (Some found) other is = refl

some_later : (given other : Option Verdict) → IsSome other → IsSome (or_else given other)
some_later None other is = is
some_later (Some found) other is = refl

-- a settled job stays settled
pub still_settled : (rules : Rules) (journal : List Entry) (entry : Entry) (job : ℕ) → IsSome (settled rules journal job) → IsSome (settled rules (journal ++ entry ∷ []) job)
still_settled rules journal entry job is =
    subst IsSome (sym (settled_push rules journal entry job)) (some_first (settled rules journal job) (standing rules (journal ++ entry ∷ []) job) is)

-- a case that stands now settles
settled_now : (rules : Rules) (journal : List Entry) (entry : Entry) (job : ℕ) → IsSome (standing rules (journal ++ entry ∷ []) job) → IsSome (settled rules (journal ++ entry ∷ []) job)
settled_now rules journal entry job is =
    subst IsSome (sym (settled_push rules journal entry job)) (some_later (settled rules journal job) (standing rules (journal ++ entry ∷ []) job) is)

pub settled_by_answer : (rules : Rules) (journal : List Entry) (caller number job : ℕ) (given : Arc Answer Global) → is_attempt_at journal job number ≡ true
    → IsSome (settled rules (journal ++ entry_by caller (event.Decided number given) ∷ []) job)
settled_by_answer rules journal caller number job given at =
    let entry : Entry = entry_by caller (event.Decided number given) in
    let new : Decision = record { number = number; given = given } in
    let known : Decision → Bool = λ decision. is_attempt_at journal job decision.number in
    let answer : Decision → Verdict = λ decision. verdict.Answered decision.given in
    let is : answer_to (journal ++ entry ∷ []) job ≡ option_map answer (option_or (find known (decisions journal)) (Some new)) =
    ap (λ all. option_map answer (find (λ (decision : Decision). is_at job (item_at all decision.number)) (decisions (journal ++ entry ∷ [])))) (unread (λ (e : Entry). begun_by e.caller e.event) journal entry refl)
    ∙ ap (λ all. option_map answer (find known all)) (read_on (λ (e : Entry). decision_of e.event) journal entry new refl)
    ∙ ap (option_map answer) (find-append known (decisions journal) (new ∷ []))
    ∙ ap (λ b. option_map answer (option_or (find known (decisions journal)) (cond b (Some new) None))) at in
    settled_now rules journal entry job (some_first (answer_to (journal ++ entry ∷ []) job) _ (subst IsSome (sym is) (one_is (find known (decisions journal)) new)))
  where
    one_is : (earlier : Option Decision) (new : Decision) → IsSome (option_map (λ (decision : Decision). verdict.Answered decision.given) (option_or earlier (Some new)))
    one_is None new = refl
    one_is (Some found) new = refl

pub settled_by_want : (rules : Rules) (journal : List Entry) (caller number job : ℕ) → is_attempt_at journal job number ≡ true
    → IsSome (settled rules (journal ++ entry_by caller (event.Starved number) ∷ []) job)
settled_by_want rules journal caller number job at =
    let entry : Entry = entry_by caller (event.Starved number) in
    let longer : List Entry = journal ++ entry ∷ [] in
    let known : ℕ → Bool = is_attempt_at journal job in
    let is : list_any (is_attempt_at longer job) (starved longer) ≡ true =
    ap (λ all. list_any (λ n. is_at job (item_at all n)) (starved longer)) (unread (λ (e : Entry). begun_by e.caller e.event) journal entry refl)
    ∙ ap (list_any known) (read_on (λ (e : Entry). starved_by e.event) journal entry number refl)
    ∙ list_any-append known (starved journal) (number ∷ [])
    ∙ ap (λ b. list_any known (starved journal) || (b || false)) at ∙ or_true (list_any known (starved journal)) in
    let case : IsSome (or_else (given_if (list_any (is_attempt_at longer job) (starved longer)) verdict.Starved) (overtaken rules longer job)) =
    subst (λ b. IsSome (or_else (given_if b verdict.Starved) (overtaken rules longer job))) (sym is) refl in
    settled_now rules journal entry job
    (some_later (answer_to longer job) _
    (some_later (given_if (list_any (λ n. n == job) (cancelled longer)) (verdict.Cancelled 0)) _
    (some_later (given_if (nat_le rules.attempts (spent_attempts longer job)) verdict.Spent) _ case)))
  where
    or_true : (b : Bool) → (b || true) ≡ true
    or_true true = refl
    or_true false = refl

pub spent_by_one : (journal : List Entry) (caller number job : ℕ) (learnt : Arc (Items (List ℕ)) Global) → is_attempt_at journal job number ≡ true
    → spent_attempts (journal ++ entry_by caller (event.Spent number learnt) ∷ []) job ≡ suc (spent_attempts journal job)
spent_by_one journal caller number job learnt at =
    spent_more journal (entry_by caller (event.Spent number learnt)) job number refl refl
    ∙ ap (λ b. spent_attempts journal job + cond b 1 0) at ∙ (let e : spent_attempts journal job + 1 ≡ suc (spent_attempts journal job) = omega arith in e)

-- the attempt is one at the job
at_own : (board : State) (caller number job : ℕ) → IsAt board caller number job → is_attempt_at board.journal job number ≡ true
at_own board caller number job here =
    let begun = here.own.begun in
    let found = here.own.running.found in
    let same : begun.job ≡ job = ap job_in (sym found) ∙ here.at_job in
    let itself : (begun.job == job) ≡ true = grind (arith, nat_tests) in
    ap (is_at job) found ∙ itself

-- One entry ends the attempt, and brings its job nearer to its verdict.
ends_with : (old new : State) (caller number job : ℕ) (happened : Event) → new ≡ entered old caller happened → ended_by happened ≡ Some number
    → IsSome (settled old.rules (entered old caller happened).journal job) ⊎ (spent_attempts (entered old caller happened).journal job ≡ suc (spent_attempts old.journal job))
    → HasEnded old new caller number job
ends_with old new caller number job happened is ends (inl given) = record {
  happened = happened;
  ends = ends;
  is = is;
  nearer = inl (subst (λ (b : State). IsSome (settled b.rules b.journal job)) (sym is) given);
}
ends_with old new caller number job happened is ends (inr one) = record {
  happened = happened;
  ends = ends;
  is = is;
  nearer = inr (ap (λ (b : State). spent_attempts b.journal job) is ∙ one);
}

-- However an attempt ends, its job is settled or has one spent attempt more.
pub has_ended : (old new : State) (caller number job : ℕ) (end : Option End) → IsAt old caller number job → EndsBy old new caller number (event_of number end) → HasEnded old new caller number job
has_ended old new caller number job end here (inr late) =
    ends_with old new caller number job (event.Dropped number) late.1 refl
    (inl (still_settled old.rules old.journal (entry_by caller (event.Dropped number)) job (subst (λ n. IsSome (settled old.rules old.journal n)) here.at_job late.0)))
has_ended old new caller number job None here (inl is) =
    ends_with old new caller number job (event.Starved number) is refl (inl (settled_by_want old.rules old.journal caller number job (at_own old caller number job here)))
has_ended old new caller number job (Some (Answered given)) here (inl is) =
    ends_with old new caller number job (event.Decided number given) is refl (inl (settled_by_answer old.rules old.journal caller number job given (at_own old caller number job here)))
has_ended old new caller number job (Some (Spent learnt)) here (inl is) =
    ends_with old new caller number job (event.Spent number learnt) is refl (inr (spent_by_one old.journal caller number job learnt (at_own old caller number job here)))
