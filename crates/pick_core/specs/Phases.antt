-- Saved phases as contracts see them.
use Rattle.std.specs.Prelude.{ℕ, ◌-◌, Bool, List, slice_index_or}

-- the phases of the variables from 1 on, that of any further one, and how many are reserved
pub record PhasesView : Type 0 where
  pub phases : List Bool
  pub first : Bool
  pub vars : ℕ

abbrev pub phase_of : PhasesView → ℕ → Bool
phase_of view var = slice_index_or view.phases (var - 1) view.first
