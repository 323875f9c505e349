-- What a worker's hold was, by what the service and the board say of it.
use Rattle.std.proofs.Common.{◌≡◌, ◌∙◌, inl, inr, ℕ, ◌+◌, ◌<◌, ◌≤◌, Bool, true, List, [], ◌∷◌, ◌++◌, map, All, refl, sym, ap, subst, arith, append_assoc}
use Rattle.entry_core.specs.declared.entries.Entry.{Entry}
use Rattle.entry_core.specs.declared.rules.Rules.{Rules}
use Rattle.entry_core.specs.Settled.{settled_jobs}
use Rattle.entry_core.specs.Legal.{IsLegal, IsRunning}
use Rattle.entry_core.specs.Journal.{jobs}
use Rattle.entry_core.proofs.LongerJournals.{longer_journal_keeps}
use Rattle.turn_lock.specs.declared.view.Look.TheVariants.{Turn}
use Rattle.turn_lock.specs.Entries.{entries_of}
use Rattle.turn_lock.proofs.Entries.{of_more}
use Rattle.board_core.specs.State.{State}
use Rattle.board_core.specs.Replies.{IsJob, IsOwn}
use Rattle.service.specs.Passes.{BoardLock, BoardPass, IsReady, Keeps, Knows, board_of, caller_of}
use Rattle.service.specs.Holds.{MadeHold}
use Rattle.service.proofs.Keeping.{keeps_none, keeps_then}
use Rattle.service.proofs.Made.{TookTurn, holding, leaving}
use Rattle.worker_loop.specs.declared.bench.Bench.{Bench}
use Rattle.worker_loop.specs.Attempts.{IsAt}
use Rattle.worker_loop.specs.Fits.{Fits}
use Rattle.worker_loop.specs.Shared.{HasSharedMore}
use Rattle.worker_loop.specs.Slices.{GoesOnOpen, HasOpen, HasSliced, IsAtWork, SharedInHold}
use Rattle.worker_loop.proofs.Fitting.{fits_longer}
use Rattle.worker_loop.proofs.Passes.{at_besides, at_longer, legal_front, none_by_sharing, none_of_others, others_more, owned_before, runs_shared}

-- a pass after its hold
abbrev after_hold : BoardPass → List ℕ → List Entry → List Entry → Rules → Bool → BoardPass
after_hold old taken journal own rules idle = record old {
  seen = journal;
  own = own;
  floor = settled_jobs rules journal;
  idle = idle;
  looks = old.looks ++ map Turn taken ++ Turn 0 ∷ [];
}

pub made_hold : (lock : BoardLock) (old mid new : BoardPass) (before after : State) (added : List Entry)
    → IsReady lock old → before.rules ≡ lock.basis → Knows old before → TookTurn old mid before.journal
    → after.rules ≡ lock.basis → after.journal ≡ before.journal ++ added → All (λ e. caller_of e ≡ old.number) added
    → IsLegal after.rules after.journal → new ≡ leaving mid after
    → MadeHold lock old new before.journal added
made_hold lock old mid new before after added ready at known (taken, busy, took) still is all legal left =
    let shown : List Entry = before.journal in
    let journal : List Entry = shown ++ added in
    let whole : after ≡ record { rules = lock.basis; journal = journal } =
    ap (λ rules. record { rules = rules; journal = after.journal }) still ∙ ap (λ entries. record { rules = lock.basis; journal = entries }) is in
    let own : entries_of caller_of old.number journal ≡ old.own ++ added =
    of_more caller_of old.number shown added all ∙ ap (λ l. l ++ added) known.own in
    record {
      taken = taken;
      busy = busy;
      hold = record {
        known = subst (λ rules. Knows old (record { rules = rules; journal = shown })) at known;
        legal = subst (λ (b : State). IsLegal b.rules b.journal) whole legal;
        left = left ∙ ap (λ m. leaving m after) took ∙ ap (λ b. leaving (holding old taken shown) b) whole
            ∙ ap (λ entries. after_hold old taken journal entries lock.basis true) own
            ∙ ap (λ idle. after_hold old taken journal (old.own ++ added) lock.basis idle) (sym ready.idle);
      };
    }

-- A pass that left is at work as before.
pub at_work_after : (lock : BoardLock) (old mid new : BoardPass) (after : State) → IsAtWork lock old → mid.number ≡ old.number → after.rules ≡ lock.basis
    → IsLegal after.rules after.journal → IsReady lock new → new ≡ leaving mid after → IsAtWork lock new
at_work_after lock old mid new after work same rules legal ready left = record {
  ready = ready;
  worker = (let n : new.number ≡ old.number = ap (λ (p : BoardPass). p.number) left ∙ same in
      subst (λ n. (lock.basis.clients < n) × (n ≤ lock.basis.clients + lock.basis.workers)) (sym n) work.worker);
  legal = subst (λ (r : Rules). IsLegal r new.seen) rules (subst (λ (entries : List Entry). IsLegal after.rules entries) (sym (ap (λ (p : BoardPass). p.seen) left)) legal);
  own = subst (λ (p : BoardPass). entries_of caller_of p.number p.seen ≡ p.own) (sym left) refl;
}

-- the board that a pass saw last
pub seen_is : (lock : BoardLock) (mid new : BoardPass) (after : State) → after.rules ≡ lock.basis → new ≡ leaving mid after → board_of lock new.seen ≡ after
seen_is lock mid new after rules left =
    ap (λ (p : BoardPass). board_of lock p.seen) left ∙ ap (λ (r : Rules). record { rules = r; journal = after.journal }) (sym rules)

-- A pass that made no hold.
pub on_none : (lock : BoardLock) (pass : BoardPass) (number job : ℕ) → IsAtWork lock pass → HasOpen lock pass number job → GoesOnOpen lock pass pass number job
on_none lock pass number job work at = record { keeps = keeps_none lock pass work.ready; work = work; at = at; begins_none = λ other own. own }

pub on_twice : (lock : BoardLock) (old mid new : BoardPass) (number job : ℕ) → GoesOnOpen lock old mid number job → GoesOnOpen lock mid new number job → GoesOnOpen lock old new number job
on_twice lock old mid new number job a b = record {
  keeps = keeps_then lock old mid new a.keeps b.keeps;
  work = b.work;
  at = b.at;
  begins_none = λ other own. a.begins_none other (b.begins_none other own);
}

pub sliced_none : (lock : BoardLock) (pass : BoardPass) (number job : ℕ) → IsAtWork lock pass → HasOpen lock pass number job → HasSliced lock pass pass number job
sliced_none lock pass number job work at = record { on = on_none lock pass number job work at; hold = inl refl }

pub shared_in_hold : (lock : BoardLock) (old mid new : BoardPass) (before after : State) (caller : ℕ) → IsAtWork lock old → before.rules ≡ lock.basis → Knows old before
    → TookTurn old mid before.journal → HasSharedMore before after caller → caller ≡ mid.number → IsLegal after.rules after.journal → new ≡ leaving mid after → SharedInHold lock old new
shared_in_hold lock old mid new before after caller work at known took more by legal left = record {
  shown = before.journal;
  added = more.more;
  hold = made_hold lock old mid new before after more.more work.ready at known took (more.rules ∙ at) more.is
      (subst (λ n. All (λ (e : Entry). caller_of e ≡ n) more.more) (by ∙ ap (λ (p : BoardPass). p.number) took.2) more.own) legal left;
  sharing = more.sharing;
}

-- what a pass has seen comes first of what it sees later
pub later_by : (lock : BoardLock) (old mid new : BoardPass) (before after : State) (added : List Entry) → Knows old before → TookTurn old mid before.journal → after.journal ≡ before.journal ++ added
    → Keeps lock mid new → new ≡ leaving mid after → Keeps lock old new
later_by lock old mid new before after added known took is keeps left = record {
  ready = keeps.ready;
  number = keeps.number ∙ ap (λ (p : BoardPass). p.number) took.2;
  later = (
    known.seen.0 ++ added,
    ap (λ (p : BoardPass). p.seen) left ∙ is ∙ ap (λ (entries : List Entry). entries ++ added) known.seen.1 ∙ append_assoc old.seen known.seen.0 added,
  );
}

pub sliced : (lock : BoardLock) (old mid new : BoardPass) (before after : State) (caller number job : ℕ) → IsAtWork lock old → before.rules ≡ lock.basis → Knows old before
    → TookTurn old mid before.journal → HasSharedMore before after caller → caller ≡ mid.number → IsLegal after.rules after.journal → Keeps lock mid new → new ≡ leaving mid after
    → HasOpen lock old number job → HasSliced lock old new number job
sliced lock old mid new before after caller number job work at known took more by legal keeps left at_job = record {
  on = record {
    keeps = later_by lock old mid new before after more.more known took more.is keeps left;
    work = at_work_after lock old mid new after work mid_number (more.rules ∙ at) legal keeps.ready left;
    at = subst (λ n. IsAt (board_of lock new.seen) n number job) (sym (keeps.number ∙ mid_number))
        (subst (λ (b : State). IsAt b old.number number job) (sym seen) after_all);
    begins_none = λ other own.
        (let own_then : IsOwn after old.number other =
        subst (λ (b : State). IsOwn b old.number other) seen (subst (λ n. IsOwn (board_of lock new.seen) n other) (keeps.number ∙ mid_number) own) in
        let others = others_more lock old before work.own known in
        owned_before (board_of lock old.seen) before others.0 old.number other others.1 (none_of_others others.0 old.number others.2)
        (owned_before before after more.more old.number other more.is (none_by_sharing more.more old.number more.sharing) own_then));
  };
  hold = inr (shared_in_hold lock old mid new before after caller work at known took more by legal left);
}
  where
    mid_number : mid.number ≡ old.number
    mid_number = ap (λ (p : BoardPass). p.number) took.2

    seen : board_of lock new.seen ≡ after
    seen = seen_is lock mid new after (more.rules ∙ at) left

    was : IsLegal lock.basis before.journal
    was = subst (λ (r : Rules). IsLegal r before.journal) (more.rules ∙ at) (legal_front after.rules [] before.journal more.more (subst (IsLegal after.rules) more.is legal))

    after_others : IsAt before old.number number job
    after_others = at_besides lock old before number job work.legal was work.own known at_job

    after_all : IsAt after old.number number job
    after_all = at_longer before after more.more old.number number job more.is
        (λ begun running. subst (λ (entries : List Entry). IsRunning entries old.number number begun) (sym more.is) (runs_shared before.journal more.more old.number number begun more.sharing running)) after_others

-- what was known when the pass saw it last
pub fits_seen : (bench : Bench) (pass : BoardPass) (board : State) → Knows pass board → Fits bench pass.seen → Fits bench board.journal
fits_seen bench pass board known fits = subst (Fits bench) (sym known.seen.1) (fits_longer bench pass.seen known.seen.0 fits)

pub job_seen : (lock : BoardLock) (pass : BoardPass) (board : State) (job : ℕ) → Knows pass board → IsJob (board_of lock pass.seen) job → IsJob board job
job_seen lock pass board job known there = record {
  from_one = there.from_one;
  added = let le = (longer_journal_keeps lock.basis pass.seen known.seen.0).more_jobs in let was = there.added in omega (arith, le, was, ap jobs known.seen.1);
}

pub fits_on : (lock : BoardLock) (bench : Bench) (old new : BoardPass) → Keeps lock old new → Fits bench old.seen → Fits bench new.seen
fits_on lock bench old new keeps fits = subst (Fits bench) (sym keeps.later.1) (fits_longer bench old.seen keeps.later.0 fits)
