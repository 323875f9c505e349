-- What a worker shares in one hold of a board.
use Rattle.std.specs.Prelude.{◌≡◌, ◌⊎◌, ℕ, ◌≤◌, List, ◌++◌, map, length, All, Contains, Some}
use Rattle.sat_base.specs.Limits.{most_packets}
use Rattle.sat_base.specs.Lit.{IsTautology}
use Rattle.trace_core.specs.Known.{Known, item_at}
use Rattle.trace_core.specs.Trace.{known_of}
use Rattle.trace_core.specs.declared.derivation.Step.{Step}
use Rattle.trace_trim.specs.Packed.{ends_in}
use Rattle.entry_core.specs.declared.entries.Entry.{Entry}
use Rattle.entry_core.specs.declared.entries.Event.{Event}
use Rattle.entry_core.specs.declared.entries.Event.TheVariants as event
use Rattle.entry_core.specs.Journal.{packets}
use Rattle.board_core.specs.State.{State}
use Rattle.session.specs.Solver.{Solver, IsStep, packet_at}
use Rattle.worker_loop.specs.declared.bench.Bench.{Bench}
use Rattle.worker_loop.specs.Asked.{clause_at}
use Rattle.worker_loop.specs.Fits.{Fits, read_by}

-- an entry that shares a packet
abbrev pub IsSharing : Event → Type 0
IsSharing (event.Shared packet) = Unit {0}
IsSharing (event.Added segment) = ⊥
IsSharing event.Closed = ⊥
IsSharing (event.Cancelled job) = ⊥
IsSharing (event.Began job number) = ⊥
IsSharing (event.Spent number learnt) = ⊥
IsSharing (event.Dropped number) = ⊥
IsSharing (event.Decided number given) = ⊥
IsSharing (event.Starved number) = ⊥

-- Packets of the caller came behind, and nothing else.
pub record HasSharedMore (old new : State) (caller : ℕ) : Type 0 where
  pub rules : new.rules ≡ old.rules
  pub more : List Entry
  pub is : new.journal ≡ old.journal ++ more
  pub own : All (λ entry. entry.caller ≡ caller) more
  pub sharing : All (λ entry. IsSharing entry.event) more

-- A packet of the shared database ends in the clause of the step of this number, with its tag.
abbrev pub IsPacketClause : List Step → List Entry → ℕ → Type 0
IsPacketClause steps journal number = (packet : List Step) × Contains (packets journal) packet
    × (ends_in packet ≡ item_at (map known_of steps) number)

-- The step's clause, if it has at most 8 literals, is that of a packet of the shared database,
-- unless the database is full.
abbrev pub IsShared : List Step → List Entry → ℕ → Type 0
IsShared steps journal number = length (clause_at steps number) ≤ 8
    → IsPacketClause steps journal number ⊎ (length (packets journal) ≡ most_packets)

-- The solver knows more places, and nothing else of it changed.
pub record KnowsMore (old new : Solver) : Type 0 where
  pub same : new ≡ record old { packets = new.packets }
  pub stay : (place : ℕ) (packet : List Step) → packet_at old.packets place ≡ Some packet
      → packet_at new.packets place ≡ Some packet

-- an own step whose clause is held, and no tautology
abbrev pub IsLesson : Solver → ℕ → Type 0
IsLesson solver number = (one : Known) × IsStep solver.steps number one × Contains solver.held one
    × (IsTautology one.clause → ⊥)

-- The bench has read the whole shared database, to which it gave the short clauses of the steps of
-- these numbers.
pub record HasShared (new : State) (bench bench' : Bench) (numbers : List ℕ) : Type 0 where
  pub fits : Fits bench' new.journal
  pub read : read_by bench' ≡ packets new.journal
  pub session : KnowsMore bench.session.solver bench'.session.solver
  pub shared : All (IsShared bench.session.solver.steps new.journal) numbers
