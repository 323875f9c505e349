-- Each entry of a legal journal was allowed after the entries before it, and what it said stays right.
use Rattle.std.proofs.Common.{◌≡◌, ◌∙◌, ℕ, ◌≤◌, Bool, true, false, cond, Option, Some, None, List}
use Rattle.std.proofs.Common.{[], ◌∷◌, ◌++◌, refl, ap, subst, sym, inl, inr, arith, append_assoc}
use Rattle.std.specs.Prelude.{◌⊎◌, Contains, filter_map, not, ◌||◌}
use Rattle.std.specs.List.{cons_option}
use Rattle.std.specs.Arc.{arc_value}
use Rattle.std.proofs.lemmas.Bool.Decides.{nat_tests}
use Rattle.std.proofs.lemmas.List.{append-nil}
use Rattle.std.proofs.lemmas.List.Elements.{filter_map-append}
use Rattle.std.proofs.lemmas.Option.{same_Some}
use Rattle.sat_base.specs.Lit.{variables}
use Rattle.sat_base.specs.Truth.{IsModelOf, IsRefutedPart}
use Rattle.sat_base.proofs.Members.{Contains-here, Contains-there, Contains-cases}
use Rattle.trace_core.specs.Known.{Known, item_at}
use Rattle.trace_core.proofs.Items.{item_at-contains, item_at-append}
use Rattle.entry_core.specs.declared.answers.Answer.{Answer}
use Rattle.entry_core.specs.declared.answers.Answer.TheVariants as answer
use Rattle.entry_core.specs.declared.entries.Entry.{Entry}
use Rattle.entry_core.specs.declared.entries.Event.{Event}
use Rattle.entry_core.specs.declared.entries.Event.TheVariants as event
use Rattle.entry_core.specs.declared.rules.Rules.{Rules}
use Rattle.entry_core.specs.Journal.{jobs, clauses_of, cube_of}
use Rattle.entry_core.specs.Attempts.{Attempt, begun_by, attempts, attempt, is_at, is_attempt_at}
use Rattle.entry_core.specs.Settled.{Decision, decision_of, decisions}
use Rattle.entry_core.specs.Right.{HasTrace, IsRightAnswer, IsSpent, IsSpentFor}
use Rattle.entry_core.specs.Legal.{IsAllowed, IsLegalAfter, IsLegal, MayBegin, MayDecide, MaySpend}
use Rattle.entry_core.specs.Causes.{spent_list_of, spent_lists}
use Rattle.entry_core.proofs.LongerJournals.{longer_journal_keeps}

-- A number that was just listed is among those that are listed.
pub or_yes : (b : Bool) → not (b || (true || false)) ≡ false
or_yes true = refl
or_yes false = refl

-- what a reading gives comes from an item
pub from_reading : {X Y : Type 0} (read : X → Option Y) (items : List X) (y : Y) → Contains (filter_map read items) y → (x : X) × Contains items x × (read x ≡ Some y)
from_reading read [] y (k, lt, is) = absurd (omega arith)
from_reading {X} {Y} read (item ∷ rest) y has = by_item (read item) refl (λ h. from_reading read rest y h) has
  where
    by_item : (o : Option Y) → read item ≡ o → (Contains (filter_map read rest) y → (x : X) × Contains rest x × (read x ≡ Some y))
        → Contains (cons_option o (filter_map read rest)) y → (x : X) × Contains (item ∷ rest) x × (read x ≡ Some y)
    by_item None is recur h = let found = recur h in (found.0, Contains-there item found.0 rest found.1, found.2)
    by_item (Some first) is recur h = here_or_later (Contains-cases first y (filter_map read rest) h)
      where
        here_or_later : (first ≡ y) ⊎ Contains (filter_map read rest) y → (x : X) × Contains (item ∷ rest) x × (read x ≡ Some y)
        here_or_later (inl same) = (item, Contains-here item rest, is ∙ ap Some same)
        here_or_later (inr later) = let found = recur later in (found.0, Contains-there item found.0 rest found.1, found.2)

-- what a reading gives of an item, it gives of the items
pub into_reading : {X Y : Type 0} (read : X → Option Y) (items : List X) (x : X) (y : Y) → Contains items x → read x ≡ Some y → Contains (filter_map read items) y
into_reading read [] x y (k, lt, at) is = absurd (omega arith)
into_reading {X} {Y} read (item ∷ rest) x y has is = by_item (read item) refl (λ h. into_reading read rest x y h is) (Contains-cases item x rest has)
  where
    by_item : (o : Option Y) → read item ≡ o → (Contains rest x → Contains (filter_map read rest) y) → (item ≡ x) ⊎ Contains rest x → Contains (cons_option o (filter_map read rest)) y
    by_item None none recur (inl same) = absurd (let e : None ≡ Some y = sym none ∙ ap read same ∙ is in cc)
    by_item None none recur (inr later) = recur later
    by_item (Some first) some recur (inl same) =
        let it : first ≡ y = same_Some first y (sym some ∙ ap read same ∙ is) in
        subst (Contains (first ∷ filter_map read rest)) it (Contains-here first (filter_map read rest))
    by_item (Some first) some recur (inr later) = Contains-there first y (filter_map read rest) (recur later)

-- Entries are legal with one more behind them that is allowed then.
pub legal_after : (rules : Rules) (before journal : List Entry) (entry : Entry)
    → IsLegalAfter rules before journal
    → IsAllowed rules (before ++ journal) entry.caller entry.event
    → IsLegalAfter rules before (journal ++ entry ∷ [])
legal_after rules before [] entry legal allowed = (
  subst (λ (all : List Entry). IsAllowed rules all entry.caller entry.event) (append-nil before)
      allowed,
  tt,
)
legal_after rules before (first ∷ rest) entry legal allowed = (
  legal.0,
  legal_after rules (before ++ first ∷ []) rest entry legal.1
      (subst (λ (all : List Entry). IsAllowed rules all entry.caller entry.event)
      (sym (append_assoc before (first ∷ []) rest)) allowed),
)

-- A journal is legal with one allowed entry more.
pub legal_push : (rules : Rules) (journal : List Entry) (entry : Entry) → IsLegal rules journal
    → IsAllowed rules journal entry.caller entry.event → IsLegal rules (journal ++ entry ∷ [])
legal_push rules journal entry legal allowed = legal_after rules [] journal entry legal allowed

-- the entries before an entry are a legal journal, after which it was allowed
pub record WasAllowed (rules : Rules) (journal : List Entry) (entry : Entry) : Type 0 where
  pub front : List Entry
  pub more : List Entry
  pub whole : front ++ more ≡ journal
  pub legal : IsLegal rules front
  pub allowed : IsAllowed rules front entry.caller entry.event

allowed_after : (rules : Rules) (before rest : List Entry) (entry : Entry) → IsLegal rules before → IsLegalAfter rules before rest → Contains rest entry → WasAllowed rules (before ++ rest) entry
allowed_after rules before [] entry past legal (k, lt, is) = absurd (omega arith)
allowed_after rules before (first ∷ rest) entry past legal has =
    here_or_later (λ later. allowed_after rules (before ++ first ∷ []) rest entry
    (legal_push rules before first past legal.0) legal.1 later)
    (Contains-cases first entry rest has)
  where
    here_or_later : (Contains rest entry → WasAllowed rules ((before ++ first ∷ []) ++ rest) entry) → (first ≡ entry) ⊎ Contains rest entry → WasAllowed rules (before ++ first ∷ rest) entry
    here_or_later recur (inl same) = record {
      front = before;
      more = first ∷ rest;
      whole = refl;
      legal = past;
      allowed = subst (λ (e : Entry). IsAllowed rules before e.caller e.event) same legal.0;
    }
    here_or_later recur (inr later) = subst (λ (all : List Entry). WasAllowed rules all entry) (append_assoc before (first ∷ []) rest) (recur later)

pub was_allowed : (rules : Rules) (journal : List Entry) (entry : Entry) → IsLegal rules journal → Contains journal entry → WasAllowed rules journal entry
was_allowed rules journal entry legal has = allowed_after rules [] journal entry tt legal has

-- an attempt keeps its number
pub attempt_kept : (journal more : List Entry) (number : ℕ) (begun : Attempt) → attempt journal number ≡ Some begun → attempt (journal ++ more) number ≡ Some begun
attempt_kept journal more number begun is =
    ap (λ all. item_at all number) (filter_map-append (λ (entry : Entry). begun_by entry.caller entry.event) journal more)
    ∙ item_at-append (attempts journal) (attempts more) number begun is

-- the attempt at the job that a test found
pub own_attempt : (journal : List Entry) (job number : ℕ) → is_attempt_at journal job number ≡ true → (begun : Attempt) × (attempt journal number ≡ Some begun) × (begun.job ≡ job)
own_attempt journal job number is = by_attempt (attempt journal number) refl is
  where
    by_attempt : (o : Option Attempt) → attempt journal number ≡ o → is_at job o ≡ true → (begun : Attempt) × (attempt journal number ≡ Some begun) × (begun.job ≡ job)
    by_attempt None found own = absurd (cc)
    by_attempt (Some begun) found own = (begun, found, grind (arith, nat_tests))

pub own_kept : (journal more : List Entry) (job number : ℕ) → is_attempt_at journal job number ≡ true → is_attempt_at (journal ++ more) job number ≡ true
own_kept journal more job number is =
    let own = own_attempt journal job number is in
    ap (is_at job) (attempt_kept journal more number own.0 own.1) ∙ sym (ap (is_at job) own.1) ∙ is

-- the job of an attempt in a longer journal
pub own_job : (journal : List Entry) (job number : ℕ) (begun : Attempt) → attempt journal number ≡ Some begun → is_attempt_at journal job number ≡ true → begun.job ≡ job
own_job journal job number begun found is =
    let own = own_attempt journal job number is in
    ap (λ (a : Attempt). a.job) (same_Some begun own.0 (sym found ∙ own.1)) ∙ own.2

-- an attempt was begun where it might be
pub may_begin : (rules : Rules) (before : List Entry) (caller : ℕ) (happened : Event) (begun : Attempt)
    → begun_by caller happened ≡ Some begun → IsAllowed rules before caller happened
    → MayBegin rules before caller begun.job begun.number
may_begin rules before caller (event.Began job number) begun is allowed =
    let same = same_Some (record { number = number; worker = caller; job = job }) begun is in
    subst (λ (a : Attempt). MayBegin rules before caller a.job a.number) same allowed
may_begin rules before caller (event.Added segment) begun is allowed = absurd (cc)
may_begin rules before caller event.Closed begun is allowed = absurd (cc)
may_begin rules before caller (event.Cancelled job) begun is allowed = absurd (cc)
may_begin rules before caller (event.Shared packet) begun is allowed = absurd (cc)
may_begin rules before caller (event.Spent number learnt) begun is allowed = absurd (cc)
may_begin rules before caller (event.Dropped number) begun is allowed = absurd (cc)
may_begin rules before caller (event.Decided number given) begun is allowed = absurd (cc)
may_begin rules before caller (event.Starved number) begun is allowed = absurd (cc)

-- the job of an attempt was added
pub job_there : (rules : Rules) (journal : List Entry) (number : ℕ) (begun : Attempt) → IsLegal rules journal → attempt journal number ≡ Some begun → begun.job ≤ jobs journal
job_there rules journal number begun legal found =
    let from = from_reading (λ (entry : Entry). begun_by entry.caller entry.event) journal begun (item_at-contains (attempts journal) number begun found) in
    let was = was_allowed rules journal from.0 legal from.1 in
    let then : begun.job ≤ jobs was.front = (may_begin rules was.front from.0.caller from.0.event begun from.2 was.allowed).next_job.waiting.added in
    let more : jobs was.front ≤ jobs (was.front ++ was.more) = (longer_journal_keeps rules was.front was.more).more_jobs in
    let same : jobs (was.front ++ was.more) ≡ jobs journal = ap jobs was.whole in
    omega arith

-- a right answer stays right
pub right_kept : (rules : Rules) (journal more : List Entry) (job : ℕ) (given : Answer) → job ≤ jobs journal → IsRightAnswer rules.traces journal job given → IsRightAnswer rules.traces (journal ++ more) job given
right_kept rules journal more job (answer.Model values) le right =
    let keeps = longer_journal_keeps rules journal more in
    subst (λ clauses. IsModelOf clauses (cube_of (journal ++ more) job) values) (sym (keeps.clauses job le))
    (subst (λ cube. IsModelOf (clauses_of journal job) cube values) (sym (keeps.cubes job le)) right)
right_kept rules journal more job (answer.Refuted part steps) le right =
    let keeps = longer_journal_keeps rules journal more in (
      subst (λ clauses. IsRefutedPart clauses (cube_of (journal ++ more) job) part) (sym (keeps.clauses job le))
          (subst (λ cube. IsRefutedPart (clauses_of journal job) cube part) (sym (keeps.cubes job le)) right.0),
      subst (λ (inputs : List Known). HasTrace rules.traces inputs part steps) (sym (keeps.inputs job le)) right.1,
    )

-- a spent list stays one
pub spent_kept : (rules : Rules) (journal more : List Entry) (job budget : ℕ) (learnt : List (List ℕ)) → job ≤ jobs journal → IsSpentFor journal job budget learnt → IsSpentFor (journal ++ more) job budget learnt
spent_kept rules journal more job budget learnt le spent =
    let keeps = longer_journal_keeps rules journal more in
    subst (λ clauses. IsSpent clauses (variables clauses (cube_of (journal ++ more) job)) budget learnt) (sym (keeps.clauses job le))
    (subst (λ cube. IsSpent (clauses_of journal job) (variables (clauses_of journal job) cube) budget learnt) (sym (keeps.cubes job le)) spent)

may_decide : (rules : Rules) (before : List Entry) (caller : ℕ) (happened : Event) (decision : Decision) → decision_of happened ≡ Some decision
    → IsAllowed rules before caller happened → MayDecide rules before caller decision.number (arc_value decision.given)
may_decide rules before caller (event.Decided number given) decision is allowed =
    let same = same_Some (record { number = number; given = given }) decision is in
    subst (λ (d : Decision). MayDecide rules before caller d.number (arc_value d.given)) same allowed
may_decide rules before caller (event.Added segment) decision is allowed = absurd (cc)
may_decide rules before caller event.Closed decision is allowed = absurd (cc)
may_decide rules before caller (event.Cancelled job) decision is allowed = absurd (cc)
may_decide rules before caller (event.Began job number) decision is allowed = absurd (cc)
may_decide rules before caller (event.Shared packet) decision is allowed = absurd (cc)
may_decide rules before caller (event.Spent number learnt) decision is allowed = absurd (cc)
may_decide rules before caller (event.Dropped number) decision is allowed = absurd (cc)
may_decide rules before caller (event.Starved number) decision is allowed = absurd (cc)

-- each decision of an attempt at the job is a right answer to it
pub decision_right : (rules : Rules) (journal : List Entry) (job : ℕ) (decision : Decision) → IsLegal rules journal → Contains (decisions journal) decision
    → is_attempt_at journal job decision.number ≡ true → IsRightAnswer rules.traces journal job (arc_value decision.given)
decision_right rules journal job decision legal has own =
    let from = from_reading (λ (entry : Entry). decision_of entry.event) journal decision has in
    let was = was_allowed rules journal from.0 legal from.1 in
    let may = may_decide rules was.front from.0.caller from.0.event decision from.2 was.allowed in
    let there = job_there rules was.front decision.number may.begun was.legal may.running.found in
    let found = attempt_kept was.front was.more decision.number may.begun may.running.found in
    let same = own_job (was.front ++ was.more) job decision.number may.begun found (subst (λ all. is_attempt_at all job decision.number ≡ true) (sym was.whole) own) in
    subst (λ all. IsRightAnswer rules.traces all job (arc_value decision.given)) was.whole
    (subst (λ n. IsRightAnswer rules.traces (was.front ++ was.more) n (arc_value decision.given)) same
    (right_kept rules was.front was.more may.begun.job (arc_value decision.given) there may.right))

-- the `Spent` entry that a list of the job comes from
spend_allowed : (rules : Rules) (whole before : List Entry) (caller job : ℕ) (happened : Event) (learnt : List (List ℕ)) → spent_list_of whole job happened ≡ Some learnt
    → IsAllowed rules before caller happened → (number : ℕ) × (is_attempt_at whole job number ≡ true) × MaySpend rules before caller number learnt
spend_allowed rules whole before caller job (event.Spent number given) learnt is allowed = by_test (is_attempt_at whole job number) refl is
  where
    by_test : (b : Bool) → is_attempt_at whole job number ≡ b → cond b (Some (arc_value given)) None ≡ Some learnt
        → (n : ℕ) × (is_attempt_at whole job n ≡ true) × MaySpend rules before caller n learnt
    by_test true own h = (number, own, subst (MaySpend rules before caller number) (same_Some (arc_value given) learnt h) allowed)
    by_test false own h = absurd (cc)
spend_allowed rules whole before caller job (event.Added segment) learnt is allowed = absurd (cc)
spend_allowed rules whole before caller job event.Closed learnt is allowed = absurd (cc)
spend_allowed rules whole before caller job (event.Cancelled other) learnt is allowed = absurd (cc)
spend_allowed rules whole before caller job (event.Began other number) learnt is allowed = absurd (cc)
spend_allowed rules whole before caller job (event.Shared packet) learnt is allowed = absurd (cc)
spend_allowed rules whole before caller job (event.Dropped number) learnt is allowed = absurd (cc)
spend_allowed rules whole before caller job (event.Decided number given) learnt is allowed = absurd (cc)
spend_allowed rules whole before caller job (event.Starved number) learnt is allowed = absurd (cc)

-- each spent list of the job is spent for it
pub list_right : (rules : Rules) (journal : List Entry) (job : ℕ) (learnt : List (List ℕ)) → IsLegal rules journal → Contains (spent_lists journal job) learnt
    → IsSpentFor journal job rules.conflicts learnt
list_right rules journal job learnt legal has =
    let from = from_reading (λ (entry : Entry). spent_list_of journal job entry.event) journal learnt has in
    let was = was_allowed rules journal from.0 legal from.1 in
    let spend = spend_allowed rules journal was.front from.0.caller job from.0.event learnt from.2 was.allowed in
    let may = spend.2 in
    let there = job_there rules was.front spend.0 may.begun was.legal may.running.found in
    let found = attempt_kept was.front was.more spend.0 may.begun may.running.found in
    let same = own_job (was.front ++ was.more) job spend.0 may.begun found (subst (λ all. is_attempt_at all job spend.0 ≡ true) (sym was.whole) spend.1) in
    subst (λ all. IsSpentFor all job rules.conflicts learnt) was.whole
    (subst (λ n. IsSpentFor (was.front ++ was.more) n rules.conflicts learnt) same
    (spent_kept rules was.front was.more may.begun.job rules.conflicts learnt there may.spent))
