-- At most so many attempts are begun at a job as the rules allow.
use Rattle.std.proofs.Common.{◌≡◌, ◌∙◌, ℕ, zero, suc, ◌+◌, ◌*◌, ◌<◌, ◌≤◌, Bool, true, false, cond}
use Rattle.std.proofs.Common.{Option, Some, None, List, [], ◌∷◌, ◌++◌, length, refl, ap, subst, sym}
use Rattle.std.proofs.Common.{arith, append_assoc, ◌==◌}
use Rattle.std.specs.Prelude.{All, Contains, IsSome, count_by, filter_map}
use Rattle.std.specs.List.{list_any}
use Rattle.std.proofs.Math.Nat.{mul-suc, mul-le-mul}
use Rattle.std.proofs.lemmas.Bool.Decides.{nat_tests}
use Rattle.std.proofs.lemmas.List.{append-nil, length_push}
use Rattle.std.proofs.lemmas.List.Elements.{Contains-append_right}
use Rattle.std.proofs.lemmas.List.Sums.{sum_by-cons, sum_by_push, sum_by-le-sum_by}
use Rattle.std.proofs.lemmas.Option.{same_Some}
use Rattle.sat_base.proofs.Members.{Contains-here, All-from_members, any_from_member}
use Rattle.entry_core.specs.declared.answers.Verdict.{Verdict}
use Rattle.entry_core.specs.declared.answers.Verdict.TheVariants as verdict
use Rattle.entry_core.specs.declared.entries.Entry.{Entry}
use Rattle.entry_core.specs.declared.entries.Event.{Event}
use Rattle.entry_core.specs.declared.entries.Event.TheVariants as event
use Rattle.entry_core.specs.declared.rules.Rules.{Rules}
use Rattle.entry_core.specs.Journal.{jobs}
use Rattle.entry_core.specs.Attempts.{Attempt, begun_by, attempts, AreNumberedFrom, begun_attempts}
use Rattle.entry_core.specs.Attempts.{ended_by, ended, open_attempts, is_at, is_attempt_at}
use Rattle.entry_core.specs.Attempts.{spent_by, spent_attempts}
use Rattle.entry_core.specs.Settled.{starved_by, starved, given_if, answer_to, overtaken, settled}
use Rattle.entry_core.specs.Legal.{IsAllowed, IsLegalAfter, IsLegal, IsRunning, MayBegin}
use Rattle.entry_core.specs.Law.{AttemptsAreFew}
use Rattle.entry_core.proofs.DecidedOnce.{neither, no_case, is_settled}
use Rattle.entry_core.proofs.LegalEntries.{from_reading, into_reading, was_allowed, own_kept}
use Rattle.entry_core.proofs.LegalEntries.{may_begin}
use Rattle.entry_core.proofs.Limits.{few_jobs}
use Rattle.entry_core.proofs.LongerJournals.{longer_journal_keeps}
use Rattle.entry_core.proofs.OpenAttempts.{numbered_push, open_same, open_begun, open_ended}
use Rattle.entry_core.proofs.Readings.{unread, read_on, bounded, spent_same, spent_more, within}

-- What a legal journal keeps: each attempt at an unsettled job is open or used up its budget.
record IsCounted (rules : Rules) (journal : List Entry) : Type 0 where
  numbered : AreNumberedFrom 1 (attempts journal)
  ended_begun : All (λ number. number ≤ length (attempts journal)) (ended journal)
  unsettled : (job : ℕ) → settled rules journal job ≡ None
      → begun_attempts journal job ≤ open_attempts journal job + spent_attempts journal job
  each : (job : ℕ) → begun_attempts journal job ≤ rules.attempts

-- a job that isn't settled wasn't before the last entry
still_unsettled : (rules : Rules) (journal : List Entry) (entry : Entry) (job : ℕ)
    → settled rules (journal ++ entry ∷ []) job ≡ None → settled rules journal job ≡ None
still_unsettled rules journal entry job none = by_verdict (settled rules journal job) refl
  where
    by_verdict : (o : Option Verdict) → settled rules journal job ≡ o → o ≡ None
    by_verdict None is = refl
    by_verdict (Some given) is =
        let kept = (longer_journal_keeps rules journal (entry ∷ [])).verdicts job given is in
        absurd (let e : None ≡ Some given = sym none ∙ kept in cc)

-- at an unsettled job no attempt is lost of those that are open or used up their budget
abbrev LosesNone : Rules → List Entry → Entry → Type 0
LosesNone rules journal entry =
    (job : ℕ) → settled rules (journal ++ entry ∷ []) job ≡ None
    → open_attempts journal job + spent_attempts journal job
    ≤ open_attempts (journal ++ entry ∷ []) job + spent_attempts (journal ++ entry ∷ []) job

-- an entry that begins no attempt
no_more : (rules : Rules) (journal : List Entry) (entry : Entry)
    → begun_by entry.caller entry.event ≡ None
    → ((number : ℕ) → ended_by entry.event ≡ Some number → number ≤ length (attempts journal))
    → LosesNone rules journal entry → IsCounted rules journal
    → IsCounted rules (journal ++ entry ∷ [])
no_more rules journal entry begins ends loses counted = record {
  numbered = subst (AreNumberedFrom 1) (sym same) counted.numbered;
  ended_begun = bounded (λ (e : Entry). ended_by e.event) (λ n. n) journal entry _ _
      (let e = ap length same in omega arith) counted.ended_begun
      (λ n is. let le = ends n is in let e = ap length same in omega arith);
  unsettled = λ job none.
      let le = counted.unsettled job (still_unsettled rules journal entry job none) in
      let more = loses job none in let e = begun job in omega arith;
  each = λ job. let le = counted.each job in let e = begun job in omega arith;
}
  where
    same : attempts (journal ++ entry ∷ []) ≡ attempts journal
    same = unread (λ (e : Entry). begun_by e.caller e.event) journal entry begins

    begun : (job : ℕ) → begun_attempts (journal ++ entry ∷ []) job ≡ begun_attempts journal job
    begun job = ap (count_by (λ (a : Attempt). a.job == job)) same

-- an entry that neither begins nor ends an attempt
same_counts : (rules : Rules) (journal : List Entry) (entry : Entry)
    → begun_by entry.caller entry.event ≡ None → ended_by entry.event ≡ None
    → spent_by entry.event ≡ None → IsCounted rules journal
    → IsCounted rules (journal ++ entry ∷ [])
same_counts rules journal entry begins ends spends counted =
    no_more rules journal entry begins
    (λ number is. absurd (let e : None ≡ Some number = sym ends ∙ is in cc))
    (λ job none. let opens = open_same (λ n. n == job) journal entry begins ends in
    let spent = spent_same journal entry job begins spends in omega arith) counted

moved : (opens opens' spent spent' one : ℕ) → opens' + one ≡ opens → spent' ≡ spent + one
    → opens + spent ≤ opens' + spent'
moved opens opens' spent spent' one fewer more = omega arith

-- an open attempt that uses up its budget
spends_one : (rules : Rules) (journal : List Entry) (entry : Entry) (number : ℕ) (begun : Attempt)
    → begun_by entry.caller entry.event ≡ None → ended_by entry.event ≡ Some number
    → spent_by entry.event ≡ Some number → IsRunning journal entry.caller number begun
    → IsCounted rules journal → IsCounted rules (journal ++ entry ∷ [])
spends_one rules journal entry number begun begins ends spends running counted =
    no_more rules journal entry begins
    (λ n is. subst (λ k. k ≤ length (attempts journal)) (same_Some number n (sym ends ∙ is))
    (within journal number begun running.found))
    (λ job none. moved (open_attempts journal job) (open_attempts (journal ++ entry ∷ []) job)
    (spent_attempts journal job) (spent_attempts (journal ++ entry ∷ []) job)
    (cond (begun.job == job) 1 0)
    (open_ended (λ n. n == job) journal entry number begun begins ends counted.numbered
    running.found running.open_yet)
    (spent_more journal entry job number begins spends
    ∙ ap (λ (o : Option Attempt). spent_attempts journal job + cond (is_at job o) 1 0)
    running.found)) counted

not_own : (b : Bool) (opens opens' spent spent' : ℕ) → (b ≡ true → ⊥) → opens' + cond b 1 0 ≡ opens
    → spent' ≡ spent → opens + spent ≤ opens' + spent'
not_own true opens opens' spent spent' other fewer same = absurd (other refl)
not_own false opens opens' spent spent' other fewer same = omega arith

-- an open attempt that ends otherwise, at a job that is settled then
settles_one : (rules : Rules) (journal : List Entry) (entry : Entry) (number : ℕ) (begun : Attempt)
    → begun_by entry.caller entry.event ≡ None → ended_by entry.event ≡ Some number
    → spent_by entry.event ≡ None → IsRunning journal entry.caller number begun
    → ((job : ℕ) → settled rules (journal ++ entry ∷ []) job ≡ None
    → is_attempt_at journal job number ≡ true → ⊥)
    → IsCounted rules journal → IsCounted rules (journal ++ entry ∷ [])
settles_one rules journal entry number begun begins ends spends running other counted =
    no_more rules journal entry begins
    (λ n is. subst (λ k. k ≤ length (attempts journal)) (same_Some number n (sym ends ∙ is))
    (within journal number begun running.found))
    (λ job none. not_own (begun.job == job) (open_attempts journal job)
    (open_attempts (journal ++ entry ∷ []) job) (spent_attempts journal job)
    (spent_attempts (journal ++ entry ∷ []) job)
    (λ own. other job none (ap (is_at job) running.found ∙ own))
    (open_ended (λ n. n == job) journal entry number begun begins ends counted.numbered
    running.found running.open_yet) (spent_same journal entry job begins spends)) counted

-- the job of a dropped attempt is settled
not_dropped : (rules : Rules) (journal : List Entry) (entry : Entry) (job : ℕ) (begun : Attempt)
    → IsSome (settled rules journal begun.job)
    → settled rules (journal ++ entry ∷ []) job ≡ None → (begun.job == job) ≡ true → ⊥
not_dropped rules journal entry job begun some none own =
    let same : begun.job ≡ job = grind (arith, nat_tests) in
    no_some (settled rules journal begun.job) some
    (ap (settled rules journal) same ∙ still_unsettled rules journal entry job none)
  where
    no_some : (o : Option Verdict) → IsSome o → o ≡ None → ⊥
    no_some None some is = absurd (cc)
    no_some (Some given) some is = absurd (cc)

-- a job with a starved attempt is settled
not_starved : (rules : Rules) (journal : List Entry) (entry : Entry) (job number : ℕ)
    → starved_by entry.event ≡ Some number → Contains journal entry
    → settled rules journal job ≡ None → is_attempt_at journal job number ≡ true → ⊥
not_starved rules journal entry job number starves has none own =
    let none_stands = no_case rules journal entry job has none in
    let after_answer = neither (answer_to journal job) _ none_stands in
    let after_cancel = neither _ _ after_answer.1 in
    let after_spent = neither _ _ after_cancel.1 in
    let left = neither
    (given_if (list_any (is_attempt_at journal job) (starved journal)) verdict.Starved)
    (overtaken rules journal job) after_spent.1 in
    not_given (list_any (is_attempt_at journal job) (starved journal))
    (any_from_member (is_attempt_at journal job) (starved journal) number
    (into_reading (λ (e : Entry). starved_by e.event) journal entry number has starves) own) left.0
  where
    not_given : (b : Bool) → b ≡ true → given_if b verdict.Starved ≡ None → ⊥
    not_given true is none = absurd (cc)
    not_given false is none = absurd (cc)

-- the last entry is one of the journal
last_there : (journal : List Entry) (entry : Entry) → Contains (journal ++ entry ∷ []) entry
last_there journal entry = Contains-append_right journal (entry ∷ []) entry (Contains-here entry [])

-- another entry takes no spent attempt away
no_fewer_spent : (journal : List Entry) (entry : Entry) (job : ℕ) → spent_by entry.event ≡ None
    → spent_attempts journal job ≤ spent_attempts (journal ++ entry ∷ []) job
no_fewer_spent journal entry job spends =
    let spents : List ℕ = filter_map (λ (e : Entry). spent_by e.event) journal in
    let same : spent_attempts (journal ++ entry ∷ []) job
    ≡ count_by (is_attempt_at (journal ++ entry ∷ []) job) spents =
    ap (count_by (is_attempt_at (journal ++ entry ∷ []) job))
    (unread (λ (e : Entry). spent_by e.event) journal entry spends) in
    let le = sum_by-le-sum_by (λ n. cond (is_attempt_at journal job n) 1 0)
    (λ n. cond (is_attempt_at (journal ++ entry ∷ []) job n) 1 0) spents
    (λ n. no_less (is_attempt_at journal job n) (is_attempt_at (journal ++ entry ∷ []) job n)
    (own_kept journal (entry ∷ []) job n)) in
    subst (λ n. spent_attempts journal job ≤ n) (sym same) le
  where
    no_less : (b longer : Bool) → (b ≡ true → longer ≡ true) → cond b 1 0 ≤ cond longer 1 0
    no_less true true stays = omega arith
    no_less true false stays = absurd (let e : false ≡ true = stays refl in cc)
    no_less false true stays = omega arith
    no_less false false stays = omega arith

-- an entry that begins the next attempt
begins_one : (rules : Rules) (journal : List Entry) (caller job number : ℕ)
    → MayBegin rules journal caller job number → IsCounted rules journal
    → IsCounted rules (journal ++ record { caller = caller; event = event.Began job number } ∷ [])
begins_one rules journal caller job number may counted = record {
  numbered = subst (AreNumberedFrom 1) (sym more)
      (numbered_push (attempts journal) new 1 counted.numbered
      (let e = may.next_number in omega arith));
  ended_begun = bounded (λ (e : Entry). ended_by e.event) (λ n. n) journal entry _ _
      (let e = ap length more ∙ length_push (attempts journal) new in omega arith)
      counted.ended_begun (λ n is. absurd (cc));
  unsettled = λ other none.
      let le = counted.unsettled other (still_unsettled rules journal entry other none) in
      let fewer = no_fewer_spent journal entry other refl in
      both _ _ _ _ _ _ (cond (job == other) 1 0) le (begun other)
      (open_begun (λ n. n == other) journal entry new refl refl may.next_number counted.ended_begun)
      fewer;
  each = λ other. one_more other (job == other) refl (counted.each other) (begun other);
}
  where
    entry : Entry
    entry = record { caller = caller; event = event.Began job number }

    new : Attempt
    new = record { number = number; worker = caller; job = job }

    more : attempts (journal ++ entry ∷ []) ≡ attempts journal ++ new ∷ []
    more = read_on (λ (e : Entry). begun_by e.caller e.event) journal entry new refl

    begun : (other : ℕ) → begun_attempts (journal ++ entry ∷ []) other
        ≡ begun_attempts journal other + cond (job == other) 1 0
    begun other =
        ap (count_by (λ (a : Attempt). a.job == other)) more
        ∙ sum_by_push (λ (a : Attempt). cond (a.job == other) 1 0) (attempts journal) new

    both : (count count' opens opens' spent spent' one : ℕ) → count ≤ opens + spent
        → count' ≡ count + one → opens' ≡ opens + one → spent ≤ spent' → count' ≤ opens' + spent'
    both count count' opens opens' spent spent' one le p q r = omega arith

    one_more : (other : ℕ) (b : Bool) → (job == other) ≡ b
        → begun_attempts journal other ≤ rules.attempts
        → begun_attempts (journal ++ entry ∷ []) other ≡ begun_attempts journal other + cond b 1 0
        → begun_attempts (journal ++ entry ∷ []) other ≤ rules.attempts
    one_more other false is le count = omega arith
    one_more other true is le count =
        let same : job ≡ other = grind (arith, nat_tests) in
        let waiting = may.next_job.waiting in
        let fits : begun_attempts journal job < rules.attempts =
        let few = counted.unsettled job waiting.unsettled in
        let allowed = waiting.allowed in omega arith in
        let here : begun_attempts journal other < rules.attempts =
        subst (λ n. begun_attempts journal n < rules.attempts) same fits in
        omega arith

by_event : (rules : Rules) (journal : List Entry) (caller : ℕ) (happened : Event)
    → IsAllowed rules journal caller happened → IsCounted rules journal
    → IsCounted rules (journal ++ record { caller = caller; event = happened } ∷ [])
by_event rules journal caller (event.Began job number) allowed counted =
    begins_one rules journal caller job number allowed counted
by_event rules journal caller (event.Spent number learnt) allowed counted =
    spends_one rules journal (record { caller = caller; event = event.Spent number learnt }) number
    allowed.begun refl refl refl allowed.running counted
by_event rules journal caller (event.Dropped number) allowed counted =
    let entry : Entry = record { caller = caller; event = event.Dropped number } in
    settles_one rules journal entry number allowed.begun refl refl refl allowed.running
    (λ job none own. not_dropped rules journal entry job allowed.begun allowed.settled_job none
    (sym (ap (is_at job) allowed.running.found) ∙ own)) counted
by_event rules journal caller (event.Decided number given) allowed counted =
    let entry : Entry = record { caller = caller; event = event.Decided number given } in
    settles_one rules journal entry number allowed.begun refl refl refl allowed.running
    (λ job none own. is_settled rules (journal ++ entry ∷ []) entry
    (record { number = number; given = given }) job (last_there journal entry) refl
    (own_kept journal (entry ∷ []) job number own) none) counted
by_event rules journal caller (event.Starved number) allowed counted =
    let entry : Entry = record { caller = caller; event = event.Starved number } in
    settles_one rules journal entry number allowed.begun refl refl refl allowed.running
    (λ job none own. not_starved rules (journal ++ entry ∷ []) entry job number refl
    (last_there journal entry) none (own_kept journal (entry ∷ []) job number own)) counted
by_event rules journal caller (event.Added segment) allowed counted =
    same_counts rules journal (record { caller = caller; event = event.Added segment })
    refl refl refl counted
by_event rules journal caller event.Closed allowed counted =
    same_counts rules journal (record { caller = caller; event = event.Closed })
    refl refl refl counted
by_event rules journal caller (event.Cancelled job) allowed counted =
    same_counts rules journal (record { caller = caller; event = event.Cancelled job })
    refl refl refl counted
by_event rules journal caller (event.Shared packet) allowed counted =
    same_counts rules journal (record { caller = caller; event = event.Shared packet })
    refl refl refl counted

all_counted : (rules : Rules) (before rest : List Entry) → IsLegalAfter rules before rest
    → IsCounted rules before → IsCounted rules (before ++ rest)
all_counted rules before [] legal counted =
    subst (IsCounted rules) (sym (append-nil before)) counted
all_counted rules before (entry ∷ rest) legal counted =
    subst (IsCounted rules) (append_assoc before (entry ∷ []) rest)
    (all_counted rules (before ++ entry ∷ []) rest legal.1
    (by_event rules before entry.caller entry.event legal.0 counted))

is_counted : (rules : Rules) (journal : List Entry) → IsLegal rules journal
    → IsCounted rules journal
is_counted rules journal legal = all_counted rules [] journal legal (record {
  numbered = tt;
  ended_begun = λ k d lt. absurd (omega arith);
  unsettled = λ job none. omega arith;
  each = λ job. omega arith;
})

-- how many attempts of the list are at the jobs 1 to the number
abbrev begun_up_to : ℕ → List Attempt → ℕ
begun_up_to zero begun = 0
begun_up_to (suc job) begun =
    begun_up_to job begun + count_by (λ (a : Attempt). a.job == suc job) begun

-- those of a longer list are no fewer
more_up_to : (most : ℕ) (first : Attempt) (rest : List Attempt)
    → begun_up_to most rest ≤ begun_up_to most (first ∷ rest)
more_up_to zero first rest = omega arith
more_up_to (suc job) first rest =
    let le = more_up_to job first rest in
    let own = sum_by-cons (λ (a : Attempt). cond (a.job == suc job) 1 0) first rest in
    omega arith

-- an attempt at one of the jobs counts
one_up_to : (most : ℕ) (first : Attempt) (rest : List Attempt) → 1 ≤ first.job → first.job ≤ most
    → begun_up_to most rest + 1 ≤ begun_up_to most (first ∷ rest)
one_up_to zero first rest from to = absurd (omega arith)
one_up_to (suc job) first rest from to =
    by_test (first.job == suc job) refl
    (sum_by-cons (λ (a : Attempt). cond (a.job == suc job) 1 0) first rest)
    (more_up_to job first rest) (λ le. one_up_to job first rest from le)
  where
    by_test : (b : Bool) → (first.job == suc job) ≡ b
        → count_by (λ (a : Attempt). a.job == suc job) (first ∷ rest)
        ≡ cond b 1 0 + count_by (λ (a : Attempt). a.job == suc job) rest
        → begun_up_to job rest ≤ begun_up_to job (first ∷ rest)
        → (first.job ≤ job → begun_up_to job rest + 1 ≤ begun_up_to job (first ∷ rest))
        → begun_up_to (suc job) rest + 1 ≤ begun_up_to (suc job) (first ∷ rest)
    by_test true is count more earlier = omega arith
    by_test false is count more earlier =
        let below : first.job ≤ job = grind (arith, nat_tests) in
        let le = earlier below in omega arith

-- an attempt at one of so many jobs
abbrev IsUpTo : ℕ → Attempt → Type 0
IsUpTo most begun = (1 ≤ begun.job) × (begun.job ≤ most)

all_up_to : (most : ℕ) (begun : List Attempt) → All (IsUpTo most) begun
    → length begun ≤ begun_up_to most begun
all_up_to most [] all = omega arith
all_up_to most (first ∷ rest) all =
    let here = all zero first (omega arith) in
    let later = all_up_to most rest (λ k d lt. all (suc k) d (omega arith)) in
    let one = one_up_to most first rest here.0 here.1 in
    omega arith

few_up_to : (most each : ℕ) (begun : List Attempt)
    → ((job : ℕ) → count_by (λ (a : Attempt). a.job == job) begun ≤ each)
    → begun_up_to most begun ≤ each * most
few_up_to zero each begun few = omega arith
few_up_to (suc job) each begun few =
    let le = few_up_to job each begun few in
    let one = few (suc job) in
    let next = mul-suc each job in
    omega arith

-- the jobs of the attempts of a legal journal were added
all_at_jobs : (rules : Rules) (journal : List Entry) → IsLegal rules journal
    → All (IsUpTo (jobs journal)) (attempts journal)
all_at_jobs rules journal legal =
    All-from_members (IsUpTo (jobs journal)) (attempts journal)
    (λ begun has.
    let from = from_reading (λ (e : Entry). begun_by e.caller e.event) journal begun has in
    let was = was_allowed rules journal from.0 legal from.1 in
    let may = may_begin rules was.front from.0.caller from.0.event begun from.2 was.allowed in
    let added = may.next_job.waiting.added in
    let more = (longer_journal_keeps rules was.front was.more).more_jobs in
    let same = ap jobs was.whole in
    (may.next_job.waiting.from_one, omega arith))

pub attempts_are_few : AttemptsAreFew
attempts_are_few rules journal legal =
    let counted = is_counted rules journal legal in
    let all : length (attempts journal) ≤ rules.attempts * jobs journal =
    let count = all_up_to (jobs journal) (attempts journal) (all_at_jobs rules journal legal) in
    let few = few_up_to (jobs journal) rules.attempts (attempts journal) counted.each in
    omega arith in
    record {
      each = counted.each;
      all = all;
      most = λ limits.
          let product : rules.attempts * jobs journal ≤ 64 * 1048576 =
          mul-le-mul limits.few_attempts (few_jobs rules journal legal) in
          omega arith;
    }
