-- What stays of a board when entries come behind its own.
use Rattle.std.proofs.Common.{◌≡◌, ◌∙◌, ℕ, zero, suc, ◌≤◌, Bool, Some, None, List, [], ◌∷◌, ◌++◌}
use Rattle.std.proofs.Common.{length, refl, ap, sym, subst, arith, append_assoc, append-nil}
use Rattle.std.specs.Prelude.{All, IsSome, Option, filter_map}
use Rattle.std.specs.List.{cons_option}
use Rattle.std.proofs.lemmas.List.Elements.{All-head, All-tail, filter_map-append}
use Rattle.entry_core.specs.declared.entries.Entry.{Entry}
use Rattle.entry_core.specs.declared.entries.Event.{Event}
use Rattle.entry_core.specs.declared.entries.Event.TheVariants as event
use Rattle.entry_core.specs.declared.rules.Rules.{Rules}
use Rattle.entry_core.specs.Journal.{clauses_of, inputs_of, jobs, segment_of, segments}
use Rattle.entry_core.specs.Law.{Keeps}
use Rattle.entry_core.specs.Settled.{cancelled, cancelled_by, settled}
use Rattle.entry_core.proofs.LongerJournals.{longer_journal_keeps, segments-append}
use Rattle.board_core.specs.State.{State, entered}
use Rattle.board_core.proofs.Readings.{unread}
use Rattle.worker_loop.specs.Fits.{Fits}
use Rattle.worker_loop.specs.declared.bench.Bench.{Bench}
use Rattle.worker_loop.proofs.Fitting.{fits_longer as fits_behind}
use Rattle.worker_loop.specs.Working.{HasAttemptsMore, IsOfAttempt}
use Rattle.tarmo_run.specs.Block.{AreBlocks, IsBlockOf}
use Rattle.tarmo_run.specs.Growth.{HasJobsMore, HasNoJobMore, IsLonger}
use Rattle.tarmo_run.specs.Output.{AreSettled}

keeps : (old new : State) (longer : IsLonger old new) → Keeps old.rules old.journal new.journal
keeps old new longer = subst (λ journal. Keeps old.rules old.journal journal) (sym longer.is)
    (longer_journal_keeps old.rules old.journal longer.more)

block_stays : (trace : Bool) (old new : State) (job : ℕ) (text : List ℕ) → IsLonger old new →
    job ≤ jobs old.journal → IsBlockOf trace old job text → IsBlockOf trace new job text
block_stays trace old new job text longer few block =
    let k = keeps old new longer in
    record {
      given = block.given;
      is = ap (λ (rules : Rules). settled rules new.journal job) longer.rules
          ∙ k.verdicts job block.given block.is;
      block = rw (k.inputs job few) block.block;
    }

-- blocks of the first jobs are blocks of a longer board too
pub blocks_stay : (trace : Bool) (old new : State) (count : ℕ) (text : List ℕ) → IsLonger old new →
    count ≤ jobs old.journal → AreBlocks trace old count text → AreBlocks trace new count text
blocks_stay trace old new zero text longer few are = are
blocks_stay trace old new (suc job) text longer few are = (
  are.0,
  are.1,
  blocks_stay trace old new job are.0 longer (omega arith) are.2,
  block_stays trace old new (suc job) are.1 longer few are.3,
  are.4,
)

some_stays : {X : Type 0} (old new : Option X) → ((x : X) → old ≡ Some x → new ≡ Some x) →
    IsSome old → IsSome new
some_stays None new kept some = absurd (cc)
some_stays (Some x) new kept some = subst IsSome (sym (kept x refl)) some

pub longer_none : (board : State) → IsLonger board board
longer_none board = record { rules = refl; more = []; is = sym (append-nil board.journal) }

pub longer_on : (old mid new : State) → IsLonger old mid → IsLonger mid new → IsLonger old new
longer_on old mid new one two = record {
  rules = two.rules ∙ one.rules;
  more = one.more ++ two.more;
  is = two.is ∙ ap (λ journal. journal ++ two.more) one.is
      ∙ append_assoc old.journal one.more two.more;
}

pub no_job_none : (board : State) → HasNoJobMore board board
no_job_none board = record { longer = longer_none board; segments = refl }

pub no_job_on : (old mid new : State) → HasNoJobMore old mid → HasNoJobMore mid new →
    HasNoJobMore old new
no_job_on old mid new one two =
    record {
      longer = longer_on old mid new one.longer two.longer;
      segments = two.segments
          ∙ one.segments;
    }

pub jobs_none : (board : State) → HasJobsMore board board
jobs_none board = record {
  longer = longer_none board;
  none_cancelled = refl;
  resting = λ caller resting. resting;
}

pub jobs_on : (old mid new : State) → HasJobsMore old mid → HasJobsMore mid new →
    HasJobsMore old new
jobs_on old mid new one two = record {
  longer = longer_on old mid new one.longer two.longer;
  none_cancelled = two.none_cancelled ∙ one.none_cancelled;
  resting = λ caller resting. two.resting caller (one.resting caller resting);
}

-- an entry that adds no job
pub no_job_one : (old : State) (caller : ℕ) (happened : Event) → segment_of happened ≡ None →
    HasNoJobMore old (entered old caller happened)
no_job_one old caller happened none = record {
  longer = record {
    rules = refl;
    more = record { caller = caller; event = happened } ∷ [];
    is = refl;
  };
  segments = unread (λ (e : Entry). segment_of e.event) old.journal
      (record { caller = caller; event = happened }) none;
}

-- what was settled stays settled
pub settled_stay : (old new : State) → HasNoJobMore old new → AreSettled old → AreSettled new
settled_stay old new more all job there =
    let k = keeps old new more.longer in
    some_stays (settled old.rules old.journal job) (settled new.rules new.journal job)
    (λ given is. ap (λ (rules : Rules). settled rules new.journal job) more.longer.rules
    ∙ k.verdicts job given is)
    (all job (record {
      from_one = there.from_one;
      added = subst (λ n. job ≤ n) (ap length more.segments) there.added;
    }))

same_some : {X : Type 0} (old new : Option X) → ((x : X) → old ≡ Some x → new ≡ Some x) →
    IsSome old → new ≡ old
same_some None new kept some = absurd (cc)
same_some (Some x) new kept some = kept x refl

-- a job that is settled has the same verdict on a longer board
pub one_same : (old new : State) (job : ℕ) → IsLonger old new →
    IsSome (settled old.rules old.journal job) →
    settled new.rules new.journal job ≡ settled old.rules old.journal job
one_same old new job longer some =
    same_some (settled old.rules old.journal job) (settled new.rules new.journal job)
    (λ given is. ap (λ (rules : Rules). settled rules new.journal job) longer.rules
    ∙ (keeps old new longer).verdicts job given is) some

-- a job that is settled stays so on a longer board
pub one_stays : (old new : State) (job : ℕ) → IsLonger old new →
    IsSome (settled old.rules old.journal job) → IsSome (settled new.rules new.journal job)
one_stays old new job longer some =
    some_stays (settled old.rules old.journal job) (settled new.rules new.journal job)
    (λ given is. ap (λ (rules : Rules). settled rules new.journal job) longer.rules
    ∙ (keeps old new longer).verdicts job given is) some

-- entries that a reading doesn't see
nothing_read : {X : Type 0} (read : Event → Option X) (more : List Entry) →
    ((e : Event) → IsOfAttempt e → read e ≡ None) →
    All (λ (entry : Entry). IsOfAttempt entry.event) more →
    filter_map (λ (entry : Entry). read entry.event) more ≡ []
nothing_read read [] none all = refl
nothing_read {X} read (entry ∷ more) none all =
    ap (λ (found : Option X). cons_option found
    (filter_map (λ (entry : Entry). read entry.event) more))
    (none entry.event (All-head (λ (entry : Entry). IsOfAttempt entry.event) entry more all))
    ∙ nothing_read read more none
    (All-tail (λ (entry : Entry). IsOfAttempt entry.event) entry more all)

no_segment : (e : Event) → IsOfAttempt e → segment_of e ≡ None
no_segment (event.Added segment) is = absurd is
no_segment event.Closed is = absurd is
no_segment (event.Cancelled job) is = absurd is
no_segment (event.Began job number) is = refl
no_segment (event.Shared packet) is = absurd is
no_segment (event.Spent number learnt) is = refl
no_segment (event.Dropped number) is = refl
no_segment (event.Decided number given) is = refl
no_segment (event.Starved number) is = refl

no_cancel : (e : Event) → IsOfAttempt e → cancelled_by e ≡ None
no_cancel (event.Added segment) is = absurd is
no_cancel event.Closed is = absurd is
no_cancel (event.Cancelled job) is = absurd is
no_cancel (event.Began job number) is = refl
no_cancel (event.Shared packet) is = absurd is
no_cancel (event.Spent number learnt) is = refl
no_cancel (event.Dropped number) is = refl
no_cancel (event.Decided number given) is = refl
no_cancel (event.Starved number) is = refl

same_jobs : (old new : State) (caller : ℕ) → HasAttemptsMore old new caller →
    segments new.journal ≡ segments old.journal
same_jobs old new caller work =
    ap segments work.is ∙ segments-append old.journal work.more
    ∙ ap (λ xs. segments old.journal ++ xs)
    (nothing_read segment_of work.more no_segment work.attempts) ∙ append-nil (segments old.journal)

-- attempts add no job
pub work_adds_none : (old new : State) (caller : ℕ) → HasAttemptsMore old new caller →
    HasNoJobMore old new
work_adds_none old new caller work =
    record {
      longer = record { rules = work.rules; more = work.more; is = work.is };
      segments = same_jobs old new caller work;
    }

-- and cancel none
pub work_cancels_none : (old new : State) (caller : ℕ) → HasAttemptsMore old new caller →
    cancelled new.journal ≡ cancelled old.journal
work_cancels_none old new caller work =
    ap cancelled work.is ∙ filter_map-append (λ (entry : Entry). cancelled_by entry.event)
    old.journal work.more
    ∙ ap (λ xs. cancelled old.journal ++ xs)
    (nothing_read cancelled_by work.more no_cancel work.attempts)
    ∙ append-nil (cancelled old.journal)

-- a bench that fits a journal fits a longer one
pub fits_longer : (bench : Bench) (old new : State) → IsLonger old new → Fits bench old.journal →
    Fits bench new.journal
fits_longer bench old new longer fits =
    subst (λ (journal : List Entry). Fits bench journal) (sym longer.is)
    (fits_behind bench old.journal longer.more fits)

-- the inputs of a job stay
pub inputs_stay : (old new : State) (job : ℕ) → IsLonger old new → job ≤ jobs old.journal →
    inputs_of new.journal job ≡ inputs_of old.journal job
inputs_stay old new job longer few = (keeps old new longer).inputs job few

pub clauses_stay : (old new : State) (job : ℕ) → IsLonger old new → job ≤ jobs old.journal →
    clauses_of new.journal job ≡ clauses_of old.journal job
clauses_stay old new job longer few = (keeps old new longer).clauses job few

pub more_jobs : (old new : State) → IsLonger old new → jobs old.journal ≤ jobs new.journal
more_jobs old new longer = (keeps old new longer).more_jobs
