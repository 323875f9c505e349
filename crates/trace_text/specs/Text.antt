-- Trace lines over so many inputs: how steps are numbered, and what a text of lines says.
use Rattle.std.specs.Prelude.{ℕ, ◌+◌, ◌-◌, ◌<◌, ◌≤◌, nat_le, nat_lt, ◌==◌, ◌&&◌, if◌then◌else◌}
use Rattle.std.specs.Prelude.{Bool, Option, Some, None, Result, Ok, Err, List, [], ◌∷◌, ◌++◌, map}
use Rattle.std.specs.Prelude.{length, slice_index, All, ◌^◌, ◌≡◌}
use Rattle.std.specs.List.{list_all}
use Rattle.sat_base.specs.Lit.{IsLitSet}
use Rattle.sat_base.specs.declared.origins.Ref.{Ref}
use Rattle.sat_base.specs.declared.origins.Ref.TheVariants.{Input, Shared, Own}
use Rattle.trace_core.specs.Trace.{greatest}
use Rattle.trace_core.specs.declared.derivation.Step.{Step}
use Rattle.trace_text.specs.Line.{Line, line_of, line_text}
use Rattle.trace_text.specs.declared.faults.TraceFault.{TraceFault}
use Rattle.trace_text.specs.declared.faults.TraceFault.TheVariants.{Form, Order}

-- Inputs have the numbers from 1 on, and the steps those behind them.
abbrev pub number_of_hint : ℕ → Ref → ℕ
number_of_hint inputs (Input number) = number
number_of_hint inputs (Shared packet step) = 0
number_of_hint inputs (Own number) = inputs + number

abbrev pub hint_of_number : ℕ → ℕ → Ref
hint_of_number inputs number = if nat_le number inputs then Input number else Own (number - inputs)

-- a hint that an input has, or one of so many steps
abbrev pub IsHintBelow : ℕ → ℕ → Ref → Type 0
IsHintBelow inputs steps (Input number) = (0 < number) × (number ≤ inputs)
IsHintBelow inputs steps (Shared packet step) = ⊥
IsHintBelow inputs steps (Own number) = (0 < number) × (number ≤ steps)

-- each hint of each step is an input or an earlier step, so many steps standing before them
abbrev pub CiteEarlier : ℕ → ℕ → List Step → Type 0
CiteEarlier inputs before [] = Unit {0}
CiteEarlier inputs before (step ∷ steps) =
    All (IsHintBelow inputs before) step.hints × CiteEarlier inputs (before + 1) steps

-- the line of a step behind so many steps
abbrev pub line_of_step : ℕ → ℕ → Step → Line
line_of_step inputs before step = record {
  id = inputs + (before + 1);
  lits = step.clause;
  hints = map (number_of_hint inputs) step.hints;
}

abbrev pub steps_text : ℕ → ℕ → List Step → List ℕ
steps_text inputs before [] = []
steps_text inputs before (step ∷ steps) =
    line_text (line_of_step inputs before step) ++ steps_text inputs (before + 1) steps

-- The identifier is the next number, and each hint is smaller.
abbrev pub is_in_order : ℕ → Line → Bool
is_in_order next line = line.id == next && list_all (λ hint. nat_lt hint line.id) line.hints

-- the greatest of the tags of so numbered inputs and steps
abbrev pub tag_of_hints : List ℕ → List ℕ → ℕ
tag_of_hints tags hints = greatest (map (λ hint. slice_index tags (hint - 1)) hints)

-- the tags of all inputs and of these steps, in the order of their numbers
abbrev pub tags_with : List ℕ → List Step → List ℕ
tags_with tags steps = tags ++ map (λ (step : Step). step.tag) steps

-- what the next line says, so numbered among the lines: a step with its exact tag over these tags,
-- or a fault
abbrev pub step_said : ℕ → ℕ → List ℕ → Option Line → Result Step TraceFault
step_said inputs number tags None = Err (Form number)
step_said inputs number tags (Some line) =
    if is_in_order (inputs + number) line
    then Ok (record {
      clause = line.lits;
      hints = map (hint_of_number inputs) line.hints;
      tag = tag_of_hints tags line.hints;
    })
    else Err (Order number)

-- what a line says behind these steps, where the tags are those of the inputs
abbrev pub next_step : List ℕ → List Step → List ℕ → Result Step TraceFault
next_step tags before line =
    step_said (length tags) (length before + 1) (tags_with tags before) (line_of line)

abbrev pub and_others : Result Step TraceFault → (Step → Result (List Step) TraceFault)
    → Result (List Step) TraceFault
and_others (Ok step) others = others step
and_others (Err fault) others = Err fault

-- The steps of the lines, behind those before, or the fault of the first wrong line. Nothing stands
-- behind the last line feed.
abbrev pub steps_of_lines : List ℕ → List Step → List (List ℕ) → Result (List Step) TraceFault
steps_of_lines tags before [] = Ok before
steps_of_lines tags before (line ∷ []) =
    if length line == 0 then Ok before else Err (Form (length before + 1))
steps_of_lines tags before (line ∷ next ∷ lines) =
    and_others (next_step tags before line)
    (λ step. steps_of_lines tags (before ++ step ∷ []) (next ∷ lines))

-- each step's tag is the greatest of the tags of its hints, over the tags of the inputs and of the
-- steps before
abbrev pub HaveExactTags : List ℕ → List Step → List Step → Type 0
HaveExactTags tags before [] = Unit {0}
HaveExactTags tags before (step ∷ steps) =
    (step.tag
    ≡ tag_of_hints (tags_with tags before)
    (map (number_of_hint (length tags)) step.hints)) × HaveExactTags tags (before
    ++ step ∷ []) steps

-- the text is the lines of these steps, over so many inputs
pub record ArePrinted (inputs : ℕ) (steps : List Step) (text : List ℕ) : Type 0 where
  pub lines : text ≡ steps_text inputs 0 steps
  pub earlier : CiteEarlier inputs 0 steps
  pub sets : All (λ (step : Step). IsLitSet step.clause) steps
  pub numbers : inputs + length steps < 2 ^ 64
