-- What was read once is read again.
use Rattle.std.proofs.Common.{◌≡◌, ◌∙◌, ℕ, ◌+◌, Option, Some, None, List, [], ◌∷◌, ◌++◌, length, refl, sym, ap, subst, arith, length-append}
use Rattle.trace_core.specs.Known.{item_at}
use Rattle.trace_core.proofs.Items.{item_at-append, item_at-last}
use Rattle.entry_core.specs.declared.answers.Verdict.{Verdict}
use Rattle.entry_core.specs.declared.answers.Verdict.TheVariants as verdict
use Rattle.entry_core.specs.declared.entries.Entry.{Entry}
use Rattle.entry_core.specs.declared.entries.Event.TheVariants as event
use Rattle.entry_core.specs.Outcomes.{outcome_of}
use Rattle.entry_core.specs.Journal.{segments, jobs}
use Rattle.entry_core.specs.Settled.{settled}
use Rattle.entry_core.proofs.LongerJournals.{longer_journal_keeps, segments-append}
use Rattle.turn_lock.specs.Entries.{StartsWith}
use Rattle.board_core.specs.declared.faults.AskFault.{AskFault}
use Rattle.board_core.specs.declared.faults.AskFault.TheVariants as ask
use Rattle.board_core.specs.declared.faults.LookFault.{LookFault}
use Rattle.board_core.specs.declared.faults.LookFault.TheVariants as look
use Rattle.board_core.specs.Replies.{IsSame, IsAskFault, IsLookFault}
use Rattle.service.specs.Passes.{BoardLock, board_of}
use Rattle.service.specs.Law.{VerdictsAreReadAgain, OutcomesAreReadAgain, JobsAreFoundAgain}
use Rattle.service.proofs.Made.{entry_by}
use Rattle.service.proofs.Waiting.{job_later}

-- what is the same as one verdict is the same
alike : (given one other : Verdict) → IsSame given one → IsSame given other → IsSame one other
alike (verdict.Answered x) (verdict.Answered y) (verdict.Answered z) one other = sym one ∙ other
alike (verdict.Answered x) (verdict.Answered y) (verdict.Cancelled z) one other = absurd other
alike (verdict.Answered x) (verdict.Answered y) verdict.Spent one other = absurd other
alike (verdict.Answered x) (verdict.Answered y) verdict.Starved one other = absurd other
alike (verdict.Answered x) (verdict.Cancelled y) again one other = absurd one
alike (verdict.Answered x) verdict.Spent again one other = absurd one
alike (verdict.Answered x) verdict.Starved again one other = absurd one
alike (verdict.Cancelled x) (verdict.Answered y) again one other = absurd one
alike (verdict.Cancelled x) (verdict.Cancelled y) (verdict.Answered z) one other = absurd other
alike (verdict.Cancelled x) (verdict.Cancelled y) (verdict.Cancelled z) one other = sym one ∙ other
alike (verdict.Cancelled x) (verdict.Cancelled y) verdict.Spent one other = absurd other
alike (verdict.Cancelled x) (verdict.Cancelled y) verdict.Starved one other = absurd other
alike (verdict.Cancelled x) verdict.Spent again one other = absurd one
alike (verdict.Cancelled x) verdict.Starved again one other = absurd one
alike verdict.Spent (verdict.Answered y) again one other = absurd one
alike verdict.Spent (verdict.Cancelled y) again one other = absurd one
alike verdict.Spent verdict.Spent (verdict.Answered z) one other = absurd other
alike verdict.Spent verdict.Spent (verdict.Cancelled z) one other = absurd other
alike verdict.Spent verdict.Spent verdict.Spent one other = tt
alike verdict.Spent verdict.Spent verdict.Starved one other = absurd other
alike verdict.Spent verdict.Starved again one other = absurd one
alike verdict.Starved (verdict.Answered y) again one other = absurd one
alike verdict.Starved (verdict.Cancelled y) again one other = absurd one
alike verdict.Starved verdict.Spent again one other = absurd one
alike verdict.Starved verdict.Starved (verdict.Answered z) one other = absurd other
alike verdict.Starved verdict.Starved (verdict.Cancelled z) one other = absurd other
alike verdict.Starved verdict.Starved verdict.Spent one other = absurd other
alike verdict.Starved verdict.Starved verdict.Starved one other = tt

abbrev given_or : Option Verdict → Verdict → Verdict
given_or (Some given) other = given
given_or None other = other

-- a verdict stays while the journal grows
verdict_later : (lock : BoardLock) (journal longer : List Entry) (job : ℕ) (given : Verdict) → StartsWith longer journal
    → settled lock.basis journal job ≡ Some given → settled lock.basis longer job ≡ Some given
verdict_later lock journal longer job given (more, is) found =
    subst (λ l. settled lock.basis l job ≡ Some given) (sym is) ((longer_journal_keeps lock.basis journal more).verdicts job given found)

unsettled_never : (found : Option Verdict) (given : Verdict) → found ≡ Some given → found ≡ None → ⊥
unsettled_never found given settled unsettled = cc

pub verdicts_are_read_again : VerdictsAreReadAgain
verdicts_are_read_again lock before later job verdict keeps read =
    let found : settled lock.basis later.seen job ≡ Some read.given = verdict_later lock before.seen later.seen job read.given keeps.later read.is in
    record {
      same = λ again now.
          let one : now.given ≡ read.given = ap (λ o. given_or o read.given) (sym now.is ∙ found) in
          alike read.given verdict again read.same (subst (λ given. IsSame given again) one now.same);
      refused = λ fault why. only_memory fault why found;
    }
  where
    only_memory : (fault : AskFault) → IsAskFault (board_of lock later.seen) job fault → settled lock.basis later.seen job ≡ Some read.given → fault ≡ ask.Memory
    only_memory (ask.NoSuchJob number) why found = absurd (why.missing (job_later lock before.seen later.seen job keeps.later read.there))
    only_memory ask.NotYet why found = absurd (unsettled_never (settled lock.basis later.seen job) read.given found why.unsettled)
    only_memory ask.Memory why found = refl

pub outcomes_are_read_again : OutcomesAreReadAgain
outcomes_are_read_again lock before later job outcome keeps read =
    let found : settled lock.basis later.seen job ≡ Some read.given = verdict_later lock before.seen later.seen job read.given keeps.later read.is in
    record {
      same = λ again now.
          let one : now.given ≡ read.given = ap (λ o. given_or o read.given) (sym now.is ∙ found) in
          now.same ∙ ap outcome_of one ∙ sym read.same;
      answered = λ fault why. never fault why found;
    }
  where
    never : (fault : LookFault) → IsLookFault (board_of lock later.seen) job fault → settled lock.basis later.seen job ≡ Some read.given → ⊥
    never (look.NoSuchJob number) why found = why.missing (job_later lock before.seen later.seen job keeps.later read.there)
    never look.NotYet why found = unsettled_never (settled lock.basis later.seen job) read.given found why.unsettled

pub jobs_are_found_again : JobsAreFoundAgain
jobs_are_found_again lock before after later segment job added keeps =
    let entry : Entry = entry_by before.number (event.Added added.given) in
    let seen : after.seen ≡ added.shown ++ entry ∷ [] = ap (λ p. p.seen) added.entry.hold.left in
    let all : segments after.seen ≡ segments added.shown ++ segment ∷ [] =
    ap segments seen ∙ segments-append added.shown (entry ∷ []) ∙ ap (λ s. segments added.shown ++ s ∷ []) added.is in
    let there : item_at (segments after.seen) job ≡ Some segment =
    subst (λ l. item_at l job ≡ Some segment) (sym all) (item_at-last (segments added.shown) segment job added.number) in
    let count : jobs after.seen ≡ jobs added.shown + 1 = ap length all ∙ length-append (segments added.shown) (segment ∷ []) in
    let first : job ≡ jobs added.shown + 1 = added.number in
    record {
      there = job_later lock after.seen later.seen job keeps.later (record { from_one = omega (arith, first); added = omega (arith, first, count) });
      same = subst (λ l. item_at (segments l) job ≡ Some segment) (sym keeps.later.1)
          (subst (λ l. item_at l job ≡ Some segment) (sym (segments-append after.seen keeps.later.0))
          (item_at-append (segments after.seen) (segments keeps.later.0) job segment there));
    }
