-- Benches and attempts that fit what was seen of a journal.
use Rattle.std.specs.Prelude.{◌≡◌, ℕ, ◌≤◌, List, length, map, Some, All, Contains}
use Rattle.std.specs.Arc.{arc_value}
use Rattle.sat_base.specs.Lit.{variables}
use Rattle.trace_core.specs.Known.{Known, item_at, tag_of}
use Rattle.trace_core.specs.declared.derivation.Step.{Step}
use Rattle.trace_trim.specs.Packed.{ends_in}
use Rattle.entry_core.specs.declared.entries.Entry.{Entry}
use Rattle.entry_core.specs.declared.rules.Rules.{Rules}
use Rattle.entry_core.specs.Journal.{jobs, inputs_of, cube_of, packets}
use Rattle.entry_core.specs.Legal.{IsLegal}
use Rattle.entry_core.specs.Right.{IsSpent}
use Rattle.session.specs.Fronts.{IsFront}
use Rattle.session.specs.Solver.{Solver, IsStep, clauses_of, packet_at}
use Rattle.worker_loop.specs.declared.bench.Bench.{Bench}
use Rattle.worker_loop.specs.declared.attempt.Attempt.{Attempt}
use Rattle.worker_loop.specs.Asked.{clauses_at}

-- the packets that were read, in order
abbrev pub read_by : Bench → List (List Step)
read_by bench = map arc_value bench.packets.items

-- Each place of the shared database that the session knows is one of those that were read, with
-- the same packet.
abbrev pub KnowsOnlyRead : Bench → Type 0
KnowsOnlyRead bench = (place : ℕ) (packet : List Step)
    → packet_at bench.session.solver.packets place ≡ Some packet
    → item_at (read_by bench) place ≡ Some packet

-- The session has the clauses of a job of the journal. The packets that were read are a front of
-- the shared database, and the session knows none but these.
pub record Fits (bench : Bench) (journal : List Entry) : Type 0 where
  pub added : bench.session.solver.bound ≤ jobs journal
  pub inputs : bench.session.solver.inputs ≡ inputs_of journal bench.session.solver.bound
  pub read : IsFront (read_by bench) (packets journal)
  pub known : KnowsOnlyRead bench

-- Each packet that was read with a tag up to the bound is known, so that its clause is held.
abbrev pub KnowsRead : Bench → Type 0
KnowsRead bench = (place : ℕ) (packet : List Step) → item_at (read_by bench) place ≡ Some packet
    → tag_of (ends_in packet) ≤ bench.session.solver.bound
    → packet_at bench.session.solver.packets place ≡ Some packet

-- The own steps of these numbers were learnt: their clauses are held, and keep, in order, all
-- rules of a spent list but the one on its number.
pub record AreLearnt (solver : Solver) (cube : List ℕ) (numbers : List ℕ) : Type 0 where
  pub held : All
      (λ number. (one : Known) × IsStep solver.steps number one × Contains solver.held one) numbers
  pub rules : IsSpent (clauses_of solver.inputs) (variables (clauses_of solver.inputs) cube)
      (length numbers)
      (clauses_at solver.steps numbers)

-- The session is at the attempt's job, with its cube, knows the packets that were read, and has
-- learnt what the attempt lists.
pub record FitsAttempt (bench : Bench) (attempt : Attempt) (journal : List Entry) : Type 0 where
  pub bound : bench.session.solver.bound ≡ attempt.job
  pub cube : attempt.cube ≡ cube_of journal attempt.job
  pub known : KnowsRead bench
  pub learnt : AreLearnt bench.session.solver attempt.cube attempt.learnt.items

-- The journal that was seen is legal, and the bench fits it.
pub record FitsLegal (bench : Bench) : Type 0 where
  pub rules : Rules
  pub journal : List Entry
  pub legal : IsLegal rules journal
  pub fits : Fits bench journal
