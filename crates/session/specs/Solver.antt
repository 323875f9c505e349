-- A solver as contracts see it, and what it keeps.
use Rattle.std.specs.Prelude.{◌≡◌, ℕ, ◌≤◌, ◌==◌, Bool, true, false, if◌then◌else◌, List, []}
use Rattle.std.specs.Prelude.{length, map, filter, All, Contains, Option, None, Some}
use Rattle.std.specs.Prelude.{option_and_then}
use Rattle.sat_base.specs.declared.origins.Ref.{Ref}
use Rattle.sat_base.specs.declared.origins.Ref.TheVariants.{Input, Shared, Own}
use Rattle.sat_base.specs.Lit.{IsTautology, greatest_of, greatest_of_all, in_order}
use Rattle.sat_base.specs.Truth.{Entails}
use Rattle.trace_core.specs.Known.{Known, item_at}
use Rattle.trace_core.specs.Law.{clauses_up_to}
use Rattle.trace_core.specs.Trace.{AreOkSteps, known_of}
use Rattle.trace_core.specs.declared.derivation.Step.{Step}
use Rattle.clause_arena.specs.Arena.{ArenaClause}

-- The inputs, each with the number of the first job that has it; the number of the job that is
-- loaded; the clauses that are held; the own steps, and the numbers of those that are learnt
-- clauses; and the shared packet of each place that is known.
pub record Solver : Type 0 where
  pub inputs : List Known
  pub bound : ℕ
  pub held : List Known
  pub steps : List Step
  pub learnt : List ℕ
  pub packets : List (Option (List Step))

-- what a packet makes known, where its place is known
abbrev pub known_in : Option (List Step) → List Known
known_in None = []
known_in (Some packet) = map known_of packet

abbrev pub shared_by : List (Option (List Step)) → List (List Known)
shared_by packets = map known_in packets

abbrev pub clauses_of : List Known → List (List ℕ)
clauses_of knowns = map (λ one. one.clause) knowns

-- the packet of a place, counted from 1, if the place is known
abbrev pub packet_at : List (Option (List Step)) → ℕ → Option (List Step)
packet_at packets place = option_and_then (λ found. found) (item_at packets place)

-- of a packet its last step alone, the one whose clause is held
abbrev pub last_step_of : Option (List Step) → ℕ → Option Known
last_step_of None number = None
last_step_of (Some packet) number =
    if number == length packet then item_at (map known_of packet) number else None

-- what a reference names to a solver with these inputs, packets and steps
abbrev pub named_by : List Known → List (Option (List Step)) → List Step → Ref → Option Known
named_by inputs packets steps (Input number) = item_at inputs number
named_by inputs packets steps (Shared place number) = last_step_of (packet_at packets place) number
named_by inputs packets steps (Own number) = item_at (map known_of steps) number

-- the clause of that own step, counted from 1
abbrev pub IsStep : List Step → ℕ → Known → Type 0
IsStep steps number one = item_at (map known_of steps) number ≡ Some one

-- The variables of the clause, where it is no tautology, are at most the greatest one of the inputs
-- up to its tag.
abbrev pub IsWithinItsTag : List Known → Known → Type 0
IsWithinItsTag inputs one = (IsTautology one.clause → ⊥)
    → greatest_of one.clause ≤ greatest_of_all (clauses_up_to inputs one.tag)

-- What every solver keeps, whatever calls come: each input is held; each held clause is of
-- literals, follows from the inputs, stands under its name, has a tag up to the bound, and has no
-- greater variable than the inputs up to its tag; each own step is ok with exact tag over the
-- inputs, the steps of the known packets and the own steps before it, follows from the inputs, and
-- has no greater variable than the inputs up to its tag; and learnt steps and the last clauses of
-- the known packets are held.
pub record IsSound (solver : Solver) : Type 0 where
  pub inputs_held : All (Contains solver.held) solver.inputs
  pub named : All (λ one. (name : Ref) × (named_by solver.inputs solver.packets solver.steps name
      ≡ Some one)) solver.held
  pub literals : All (λ one. All (λ lit. 2 ≤ lit) one.clause) solver.held
  pub entailed : All (λ one. Entails (clauses_of solver.inputs) one.clause) solver.held
  pub bounded : All (λ one. one.tag ≤ solver.bound) solver.held
  pub within : All (IsWithinItsTag solver.inputs) solver.held
  pub steps_entailed : All (λ step. Entails (clauses_of solver.inputs) step.clause) solver.steps
  pub steps_within : All (λ step. IsWithinItsTag solver.inputs (known_of step)) solver.steps
  pub ok : AreOkSteps solver.inputs (shared_by solver.packets) [] solver.steps
  pub packets_held : (place number : ℕ) (one : Known)
      → last_step_of (packet_at solver.packets place) number ≡ Some one → Contains solver.held one
  pub learnt_held : All (λ number. (one : Known) × IsStep solver.steps number one
      × Contains solver.held one) solver.learnt

-- a clause as a set with its tag
abbrev pub known_clause : ArenaClause → Known
known_clause clause = record { clause = in_order clause.lits; tag = clause.tag }

abbrev pub is_input : Ref → Bool
is_input (Input number) = true
is_input (Shared packet step) = false
is_input (Own number) = false

-- the inputs are the clauses that are named as such
abbrev pub inputs_of : List ArenaClause → List Known
inputs_of clauses = map known_clause (filter (λ clause. is_input clause.origin) clauses)

abbrev pub held_of : List ArenaClause → List Known
held_of clauses = map known_clause clauses
