-- A board that grows has no fewer settled jobs.
use Rattle.std.specs.Prelude.{◌≡◌, ℕ, zero, suc, ◌+◌, ◌≤◌, Option, None, Some, is_some}
use Rattle.std.specs.Prelude.{if◌then◌else◌, List, ◌++◌, length}
use Rattle.std.proofs.Math.Path.{refl, subst, sym, ap, ◌∙◌}
use Rattle.std.proofs.Math.Nat.{le_refl, le_trans, le-add_right, add-le-add, add-zero, add-suc}
use Rattle.std.proofs.lemmas.List.{length-append}
use Rattle.entry_core.specs.declared.answers.Verdict.{Verdict}
use Rattle.entry_core.specs.declared.entries.Entry.{Entry}
use Rattle.entry_core.specs.declared.rules.Rules.{Rules}
use Rattle.entry_core.specs.Journal.{segments, jobs}
use Rattle.entry_core.specs.Settled.{settled, settled_up_to, settled_jobs}
use Rattle.entry_core.proofs.LongerJournals.{longer_journal_keeps, segments-append}
use Rattle.board_core.specs.State.{State}

-- what is settled stays so
settled_stays : (now later : Option Verdict)
    → ((verdict : Verdict) → now ≡ Some verdict → later ≡ Some verdict)
    → (if is_some now then 1 else 0) ≤ (if is_some later then 1 else 0)
settled_stays None None stays = le_refl 0
settled_stays None (Some _) stays = le-add_right 0 1
settled_stays (Some verdict) later stays =
    subst (λ found. 1 ≤ (if is_some found then 1 else 0)) (sym (stays verdict refl)) (le_refl 1)

-- among the same jobs, more entries settle no fewer
more_entries : (rules : Rules) (journal more : List Entry) (job : ℕ)
    → settled_up_to rules journal job ≤ settled_up_to rules (journal ++ more) job
more_entries rules journal more zero = le_refl 0
more_entries rules journal more (suc job) =
    add-le-add (more_entries rules journal more job)
    (settled_stays (settled rules journal (suc job)) (settled rules (journal ++ more) (suc job))
    ((longer_journal_keeps rules journal more).verdicts (suc job)))

-- among more jobs no fewer are settled
more_jobs : (rules : Rules) (journal : List Entry) (job more : ℕ)
    → settled_up_to rules journal job ≤ settled_up_to rules journal (job + more)
more_jobs rules journal job zero =
    subst (λ last. settled_up_to rules journal job ≤ settled_up_to rules journal last)
    (sym (add-zero job)) (le_refl (settled_up_to rules journal job))
more_jobs rules journal job (suc more) =
    subst (λ last. settled_up_to rules journal job ≤ settled_up_to rules journal last)
    (sym (add-suc job more))
    (le_trans (more_jobs rules journal job more)
    (le-add_right (settled_up_to rules journal (job + more))
    (if is_some (settled rules journal (suc (job + more))) then 1 else 0)))

-- after more entries no fewer jobs are settled
settled_more : (rules : Rules) (journal more : List Entry)
    → settled_jobs rules journal ≤ settled_jobs rules (journal ++ more)
settled_more rules journal more =
    let added : jobs journal + jobs more ≡ jobs (journal ++ more) =
    sym (length-append (segments journal) (segments more))
    ∙ sym (ap length (segments-append journal more)) in
    le_trans (more_entries rules journal more (jobs journal))
    (subst (λ job. settled_up_to rules (journal ++ more) (jobs journal)
    ≤ settled_up_to rules (journal ++ more) job) added
    (more_jobs rules (journal ++ more) (jobs journal) (jobs more)))

-- A board of the same rules that goes on from another's journal has no fewer settled jobs.
pub settled_no_fewer : (now later : State) (more : List Entry) → now.rules ≡ later.rules
    → later.journal ≡ now.journal ++ more
    → settled_jobs now.rules now.journal ≤ settled_jobs later.rules later.journal
settled_no_fewer now later more same longer =
    subst (λ journal. settled_jobs now.rules now.journal ≤ settled_jobs later.rules journal)
    (sym longer)
    (subst (λ rules. settled_jobs now.rules now.journal ≤ settled_jobs rules (now.journal ++ more))
    same (settled_more now.rules now.journal more))
