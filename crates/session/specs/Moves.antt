-- What a search does next, where no clause is false or unit.
use Rattle.std.specs.Prelude.{ℕ, ◌≤◌, List, Contains}
use Rattle.sat_base.specs.Lit.{IsLit, variable}
use Rattle.trail_core.specs.UnderTrail.{IsFalseLit, IsUnassigned}
use Rattle.session.specs.OnTrail.{AreAssigned, IsChoice, IsCubeTrue}
use Rattle.session.specs.declared.moves.Move.{Move}
use Rattle.session.specs.declared.moves.Move.TheVariants.{Decide, Blame, Stop}

-- a decision: an unassigned literal of the cube, or of any variable where the cube is true
pub record IsDecidable (trues cube : List ℕ) (vars lit : ℕ) : Type 0 where
  pub is : IsLit lit
  pub within : variable lit ≤ vars
  pub free : IsUnassigned trues lit
  pub allowed : IsChoice cube trues lit

pub record IsToBlame (trues cube : List ℕ) (lit : ℕ) : Type 0 where
  pub stands : Contains cube lit
  pub refuted : IsFalseLit trues lit

pub record IsWhole (trues cube : List ℕ) (vars : ℕ) : Type 0 where
  pub holds : IsCubeTrue trues cube
  pub assigned : AreAssigned trues vars

-- where so many variables are in the order, and so many are reserved
abbrev pub IsMove : List ℕ → List ℕ → ℕ → ℕ → Move → Type 0
IsMove trues cube ordered reserved (Decide lit) = IsDecidable trues cube reserved lit
IsMove trues cube ordered reserved (Blame lit) = IsToBlame trues cube lit
IsMove trues cube ordered reserved Stop = IsWhole trues cube ordered
