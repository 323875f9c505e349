-- What a session gives to the shared database.
use Rattle.std.specs.Prelude.{◌≡◌, ℕ, ◌≤◌, List, [], length, Option, Some, Contains}
use Rattle.sat_base.specs.Lit.{greatest_of, greatest_of_all}
use Rattle.sat_base.specs.declared.origins.Ref.{Ref}
use Rattle.sat_base.specs.declared.origins.Ref.TheVariants.{Shared}
use Rattle.trace_core.specs.Known.{Known, item_at}
use Rattle.trace_core.specs.Law.{clauses_up_to}
use Rattle.trace_core.specs.Trace.{AreOkSteps}
use Rattle.trace_core.specs.declared.derivation.Step.{Step}
use Rattle.trace_trim.specs.Packed.{AreNamesRight, AreNumbersPacked, AreOfOwn, ends_in, name_of}
use Rattle.session.specs.Solver.{Solver, shared_by}
use Rattle.session.specs.Sharing.{Knows}
use Rattle.session.specs.Session.{SessionView}

-- Only own steps have names, and each name is that of a step of a known packet, which has the own
-- step's clause and tag.
pub record AreNamesFit (solver : Solver) (names : List (Option Ref)) : Type 0 where
  pub right : AreNamesRight solver.inputs (shared_by solver.packets) solver.steps names
  pub few : length names ≤ length solver.steps

-- A packet that derives this clause, with its tag: its steps are ok over the inputs, the known
-- packets and its own earlier steps, and are own steps; no tag in it is above that of the clause,
-- and no variable of the clause above those of the inputs up to its tag.
pub record IsSharable (solver : Solver) (one : Known) (packet : List Step) : Type 0 where
  pub ok : AreOkSteps solver.inputs (shared_by solver.packets) [] packet
  pub ends : ends_in packet ≡ Some one
  pub of_own : AreOfOwn solver.steps packet
  pub tags : (step : Step) → Contains packet step → step.tag ≤ one.tag
  pub within : greatest_of one.clause ≤ greatest_of_all (clauses_up_to solver.inputs one.tag)

-- The own steps of these numbers, in order, are named as the steps of this place's packet; other
-- names stay.
pub record AreNamedAnew (old new : List (Option Ref)) (place : ℕ) (numbers : List ℕ) : Type 0 where
  pub named : (i number : ℕ) → item_at numbers i ≡ Some number
      → name_of new number ≡ Some (Shared place i)
  pub others : (number : ℕ) → (Contains numbers number → ⊥)
      → name_of new number ≡ name_of old number

-- The place is known, its packet's steps are the names of the own steps that were packed, and
-- nothing else changed.
pub record Publishes (old new : SessionView) (step place : ℕ) (packet : List Step) : Type 0 where
  pub knows : Knows old.solver new.solver place packet
  pub numbers : List ℕ
  pub packed : AreNumbersPacked old.solver.steps old.names step numbers
  pub names : AreNamedAnew old.names new.names place numbers
