-- How a table keeps its steps: all literals, all hints, and a row for each step with the places
-- where its literals and its hints end. They begin where those of the row before end.
use Rattle.std.specs.Prelude.{◌≡◌, ℕ, ◌≤◌, List, [], ◌∷◌, length, slice_range, All}
use Rattle.sat_base.specs.Lit.{IsLitSet}
use Rattle.sat_base.specs.declared.origins.Ref.{Ref}
use Rattle.trace_core.specs.declared.derivation.Step.{Step}
use Rattle.step_table.specs.declared.table.Row.{Row}
use Rattle.step_table.specs.declared.table.Steps.TheInside.{Inside}

-- what stands before the first row
abbrev pub no_row : Row
no_row = record { lits_end = 0; hints_end = 0; tag = 0 }

-- the step of a row, behind the row before
abbrev pub step_behind : List ℕ → List Ref → Row → Row → Step
step_behind lits hints before row = record {
  clause = slice_range lits before.lits_end row.lits_end;
  hints = slice_range hints before.hints_end row.hints_end;
  tag = row.tag;
}

abbrev pub steps_behind : List ℕ → List Ref → Row → List Row → List Step
steps_behind lits hints before [] = []
steps_behind lits hints before (row ∷ rows) =
    step_behind lits hints before row ∷ steps_behind lits hints row rows

abbrev pub steps_of : Inside → List Step
steps_of a = steps_behind a.lits.items a.hints no_row a.rows.items

-- the places ascend, and the last ones are where the arrays end
abbrev pub FillsBehind : ℕ → ℕ → Row → List Row → Type 0
FillsBehind lits hints before [] = (before.lits_end ≡ lits) × (before.hints_end ≡ hints)
FillsBehind lits hints before (row ∷ rows) =
    (before.lits_end ≤ row.lits_end)
    × (before.hints_end ≤ row.hints_end)
    × FillsBehind lits hints row rows

pub record IsLaidOut (lits : List ℕ) (hints : List Ref) (rows : List Row) : Type 0 where
  pub fills : FillsBehind (length lits) (length hints) no_row rows
  pub few : length hints ≤ 4294967295
  pub sets : All (λ (step : Step). IsLitSet step.clause) (steps_behind lits hints no_row rows)

abbrev pub IsTable : Inside → Type 0
IsTable a = IsLaidOut a.lits.items a.hints a.rows.items
