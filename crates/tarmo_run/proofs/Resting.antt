-- No attempt is open on the board that is given back.
use Rattle.std.proofs.Common.{◌≡◌, ◌∙◌, ℕ, ◌+◌, ◌-◌, ◌<◌, ◌≤◌, Some, None, List, ◌∷◌}
use Rattle.std.proofs.Common.{length, refl, ap, sym, subst, arith}
use Rattle.std.specs.Prelude.{All, Contains, Result, Ok, Err, OnOk, OnErr, slice_index_or}
use Rattle.std.proofs.lemmas.Option.{same_Some}
use Rattle.trace_core.proofs.Items.{item_at-contains}
use Rattle.entry_core.specs.declared.entries.Entry.{Entry}
use Rattle.entry_core.specs.declared.entries.Event.{Event}
use Rattle.entry_core.specs.declared.entries.Event.TheVariants as event
use Rattle.entry_core.specs.declared.rules.Rules.{Rules}
use Rattle.entry_core.specs.Attempts.{Attempt, attempt, attempts, begun_by, ended_by}
use Rattle.entry_core.specs.Legal.{IsAllowed, IsLegal, IsWorker}
use Rattle.entry_core.proofs.LegalEntries.{from_reading, was_allowed}
use Rattle.board_core.specs.declared.faults.CancelFault.{CancelFault}
use Rattle.board_core.specs.State.{State, entered}
use Rattle.service.specs.Passes.{BoardPass, Knows, caller_of}
use Rattle.worker_loop.specs.Working.{IsResting}
use Rattle.worker_loop.proofs.EndedOnce.{ended_once}
use Rattle.worker_loop.proofs.Passes.{resting_besides}
use Rattle.worker_loop.proofs.Rested.{rests_still}
use Rattle.tarmo_run.specs.declared.crew.Crew.{Crew}
use Rattle.tarmo_run.specs.Crew.{IsWhole}
use Rattle.tarmo_run.specs.Desk.{IsAlone}
use Rattle.tarmo_run.specs.Growth.{AllRest, StayResting}
use Rattle.tarmo_run.specs.Promise.{HaveEnds}

-- ---- attempts are begun by workers

begun : (rules : Rules) (before : List Entry) (caller : ℕ) (happened : Event) (new : Attempt) →
    begun_by caller happened ≡ Some new → IsAllowed rules before caller happened →
    (new.worker ≡ caller) × IsWorker rules caller
begun rules before caller (event.Began job number) new is allowed = (
  sym (ap (λ (a : Attempt). a.worker)
      (same_Some (record { number = number; worker = caller; job = job }) new is)),
  allowed.worker,
)
begun rules before caller (event.Added segment) new is allowed = absurd (cc)
begun rules before caller event.Closed new is allowed = absurd (cc)
begun rules before caller (event.Cancelled job) new is allowed = absurd (cc)
begun rules before caller (event.Shared packet) new is allowed = absurd (cc)
begun rules before caller (event.Spent number learnt) new is allowed = absurd (cc)
begun rules before caller (event.Dropped number) new is allowed = absurd (cc)
begun rules before caller (event.Decided number given) new is allowed = absurd (cc)
begun rules before caller (event.Starved number) new is allowed = absurd (cc)

-- the entry with which an attempt of a legal journal began is its worker's
record HasBegun (rules : Rules) (journal : List Entry) (worker : ℕ) : Type 0 where
  entry : Entry
  there : Contains journal entry
  own : worker ≡ entry.caller
  worker_is : IsWorker rules worker

has_begun : (rules : Rules) (journal : List Entry) (number : ℕ) (one : Attempt) →
    IsLegal rules journal → attempt journal number ≡ Some one → HasBegun rules journal one.worker
has_begun rules journal number one legal found =
    let from = from_reading (λ (e : Entry). begun_by e.caller e.event) journal one
    (item_at-contains (attempts journal) number one found) in
    let was = was_allowed rules journal from.0 legal from.1 in
    let both = begun rules was.front from.0.caller from.0.event one from.2 was.allowed in
    record {
      entry = from.0;
      there = from.1;
      own = both.0;
      worker_is = subst (IsWorker rules) (sym both.0) both.1;
    }

-- ---- where everybody rests, each attempt has its end

pub ends_all : (board : State) → IsLegal board.rules board.journal → AllRest board →
    HaveEnds board
ends_all board legal rest number one found =
    ended_once board one.worker legal (rest one.worker) number one found refl

-- the one worker rests
pub ends_alone : (board : State) → IsLegal board.rules board.journal → IsAlone board.rules →
    IsResting board 2 → HaveEnds board
ends_alone board legal alone rests number one found =
    let has = has_begun board.rules board.journal number one legal found in
    let low = has.worker_is.0 in
    let high = has.worker_is.1 in
    let second : one.worker ≡ 2 = omega (arith, low, high, alone.clients, alone.workers) in
    ended_once board 2 legal rests number one found second

-- each worker's pass rests
pub all_rest : (crew : Crew) (board : State) → IsWhole crew →
    board.rules ≡ crew.service.lock.basis → IsLegal board.rules board.journal →
    All (λ entry. (0 < caller_of entry) × (caller_of entry ≤ crew.service.lock.passes))
    board.journal →
    All (λ (pass : BoardPass). Knows pass board) crew.workers.items → AllRest board
all_rest crew board whole rules legal callers knows caller number own =
    let has = has_begun board.rules board.journal number own.begun legal own.running.found in
    let (k, lt, at) = has.there in
    let within = subst (λ (e : Entry). (0 < caller_of e)
    × (caller_of e ≤ crew.service.lock.passes)) at (callers k has.entry lt) in
    let high : has.entry.caller ≤ crew.service.lock.passes = within.1 in
    let low = has.worker_is.0 in
    let clients = ap (λ (r : Rules). r.clients) rules ∙ whole.clients in
    let is : own.begun.worker ≡ caller = own.running.own in
    let place : caller - 3 < length crew.workers.items =
    omega (arith, low, high, clients, is, has.own, whole.passes) in
    let pass = slice_index_or crew.workers.items (caller - 3) crew.adder.pass in
    let came = whole.workers (caller - 3) crew.adder.pass place in
    let number_is : pass.number ≡ caller =
    omega (arith, low, clients, is, came.1) in
    subst (IsResting board) number_is
    (resting_besides crew.service.lock pass board came.0.work.own
    (knows (caller - 3) crew.adder.pass place) came.0.rests) number own

-- ---- entries of clients

pub closed_rests : (old new : State) (result : Result Unit ℕ) →
    OnOk result (new ≡ entered old 1 event.Closed) → OnErr result (new ≡ old) →
    StayResting old new
closed_rests old new (Ok done) is same caller rests =
    rests_still old new caller 1 event.Closed refl refl is rests
closed_rests old new (Err place) is same caller rests =
    subst (λ (b : State). IsResting b caller) (sym same) rests

pub cancelled_rests : (start old new : State) (result : Result Unit CancelFault) (job : ℕ) →
    StayResting start old → OnOk result (new ≡ entered old 1 (event.Cancelled job)) →
    OnErr result (new ≡ old) → StayResting start new
cancelled_rests start old new (Ok done) job before is same caller rests =
    rests_still old new caller 1 (event.Cancelled job) refl refl is (before caller rests)
cancelled_rests start old new (Err why) job before is same caller rests =
    subst (λ (b : State). IsResting b caller) (sym same) (before caller rests)

pub rests_on : (old mid new : State) → StayResting old mid → StayResting mid new →
    StayResting old new
rests_on old mid new one two caller rests = two caller (one caller rests)
