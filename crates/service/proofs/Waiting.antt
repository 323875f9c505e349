-- Looks that add nothing, one after the other.
use Rattle.std.proofs.Common.{ℕ, ◌≤◌, List, [], ◌∷◌, ◌++◌, refl, sym, subst, arith}
use Rattle.entry_core.specs.declared.entries.Entry.{Entry}
use Rattle.entry_core.specs.Journal.{jobs}
use Rattle.entry_core.proofs.LongerJournals.{longer_journal_keeps}
use Rattle.turn_lock.specs.Entries.{StartsWith}
use Rattle.board_core.specs.Replies.{IsJob, IsUnsettled, IsNoJob}
use Rattle.service.specs.Passes.{BoardLock, BoardPass, board_of}
use Rattle.service.specs.Holds.{Looked, LookedInVain}

pub job_later : (lock : BoardLock) (journal longer : List Entry) (job : ℕ)
    → StartsWith longer journal → IsJob (board_of lock journal) job → IsJob (board_of lock longer) job
job_later lock journal longer job (more, is) there = record {
  from_one = there.from_one;
  added = let most : jobs journal ≤ jobs longer = subst (λ l. jobs journal ≤ jobs l) (sym is) (longer_journal_keeps lock.basis journal more).more_jobs in
      let here : job ≤ jobs journal = there.added in omega (arith, most, here);
}

pub looked_again : (lock : BoardLock) (job : ℕ) (before : BoardPass) (looks : List BoardPass) (last after : BoardPass)
    → LookedInVain lock job before looks last → Looked lock last after → IsUnsettled (board_of lock after.seen) job
    → LookedInVain lock job before (looks ++ after ∷ []) after
looked_again lock job before [] last after same look unsettled = (subst (λ p. Looked lock p after) (sym same) look, unsettled, refl)
looked_again lock job before (next ∷ rest) last after (first, open_yet, more) look unsettled =
    (first, open_yet, looked_again lock job next rest last after more look unsettled)

-- a job that was there once is there at each later look
still_there : (lock : BoardLock) (job : ℕ) (before : BoardPass) (looks : List BoardPass) (last : BoardPass)
    → LookedInVain lock job before looks last → IsJob (board_of lock before.seen) job → IsJob (board_of lock last.seen) job
still_there lock job before [] last same there = subst (λ (p : BoardPass). IsJob (board_of lock p.seen) job) same there
still_there lock job before (next ∷ rest) last (first, open_yet, more) there = still_there lock job next rest last more open_yet.there

-- a job that isn't there wasn't there at the first look
pub missing_at_first : (lock : BoardLock) (job number : ℕ) (before : BoardPass) (looks : List BoardPass) (last after : BoardPass)
    → LookedInVain lock job before looks last → Looked lock last after → IsNoJob (board_of lock after.seen) job number
    → Looked lock before after
missing_at_first lock job number before [] last after same look none = subst (λ p. Looked lock p after) (sym same) look
missing_at_first lock job number before (next ∷ rest) last after (first, open_yet, more) look none =
    absurd (none.missing (job_later lock last.seen after.seen job look.hold.known.seen (still_there lock job next rest last more open_yet.there)))
