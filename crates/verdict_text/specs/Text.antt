-- A text of blocks, line by line: what each line leaves, and the first wrong line.
use Rattle.std.specs.Prelude.{ℕ, ◌+◌, ◌<◌, ◌≤◌, ◌==◌, ◌&&◌, nat_lt, if◌then◌else◌, Bool, false}
use Rattle.std.specs.Prelude.{Option, Some, None, Result, Ok, Err, List, [], ◌∷◌, ◌++◌, length}
use Rattle.std.specs.Prelude.{take, slice_index}
use Rattle.std.specs.Option.{option_map}
use Rattle.line_tokens.specs.Token.{lines_of}
use Rattle.trace_core.specs.declared.derivation.Step.{Step}
use Rattle.trace_text.specs.Text.{next_step}
use Rattle.trace_text.specs.declared.faults.TraceFault.{TraceFault}
use Rattle.verdict_text.specs.Line.{is_trace_line_of, job_line_of, model_line_of, part_line_of}
use Rattle.verdict_text.specs.declared.blocks.Printed.{Printed}
use Rattle.verdict_text.specs.declared.blocks.Shown.{Shown}
use Rattle.verdict_text.specs.declared.blocks.Shown.TheVariants as shown
use Rattle.verdict_text.specs.declared.faults.BlockFault.{BlockFault}
use Rattle.verdict_text.specs.declared.faults.BlockFault.TheVariants.{Form}
use Rattle.verdict_text.specs.declared.lines.JobLine.{JobLine}
use Rattle.verdict_text.specs.declared.lines.Status.{Status}
use Rattle.verdict_text.specs.declared.lines.Status.TheVariants as status
use Rattle.verdict_text.specs.declared.steps.Due.{Due}
use Rattle.verdict_text.specs.declared.steps.Due.TheVariants as due

-- the whole blocks so far, and what is due behind them
pub record Reading : Type 0 where
  pub done : List Printed
  pub due : Due

-- one more block, of the next job
abbrev pub with_block : List Printed → Shown → List Printed
with_block done shown = done ++ record { job = length done + 1; shown = shown } ∷ []

-- the tags of the inputs of the next job
abbrev pub tags_of_next : List ℕ → List ℕ → List Printed → List ℕ
tags_of_next tags sizes done = take (slice_index sizes (length done)) tags

-- what is due behind a first line
abbrev pub begun : List Printed → Status → Reading
begun done status.Satisfiable = record { done = done; due = due.Model }
begun done status.Unsatisfiable = record { done = done; due = due.Part }
begun done status.Unknown = record { done = with_block done shown.Unknown; due = due.Block }
begun done status.Cancelled = record { done = with_block done shown.Cancelled; due = due.Block }
begun done status.NoMemory = record { done = with_block done shown.NoMemory; due = due.Block }

abbrev pub is_number : Option ℕ → ℕ → Bool
is_number None expected = false
is_number (Some number) expected = number == expected

-- the first line of the next job, where there is one among so many
abbrev pub after_job_line : ℕ → List Printed → Option JobLine → Option Reading
after_job_line jobs done None = None
after_job_line jobs done (Some line) =
    if is_number line.number (length done + 1) && nat_lt (length done) jobs
    then Some (begun done line.status) else None

abbrev pub with_model : List Printed → Option (List Bool) → Option Reading
with_model done model =
    option_map
    (λ values. record { done = with_block done (shown.Model values); due = due.Block }) model

abbrev pub with_step : List Step → Result Step TraceFault → Option (List Step)
with_step steps (Ok step) = Some (steps ++ step ∷ [])
with_step steps (Err fault) = None

-- what a line leaves, nothing where it can't stand there
abbrev pub after_line : List ℕ → List ℕ → List Printed → Due → List ℕ → Option Reading
after_line tags sizes done due.Block line = after_job_line (length sizes) done (job_line_of line)
after_line tags sizes done due.Model line = with_model done (model_line_of line)
after_line tags sizes done due.Part line =
    option_map (λ part. record { done = done; due = due.Step part [] }) (part_line_of line)
after_line tags sizes done (due.Step part steps) line =
    if is_trace_line_of line
    then option_map (λ more. record { done = done; due = due.Step part more })
    (with_step steps (next_step (tags_of_next tags sizes done) steps line))
    else after_job_line (length sizes) (with_block done (shown.Refuted part steps))
    (job_line_of line)

-- the blocks of a text that ends here, where it may
abbrev pub finished : List Printed → Due → Option (List Printed)
finished done due.Block = Some done
finished done due.Model = None
finished done due.Part = None
finished done (due.Step part steps) = Some (with_block done (shown.Refuted part steps))

-- what is found, or else the fault of that line
abbrev pub or_form : {X : Type 0} → ℕ → Option X → (X → Result (List Printed) BlockFault)
    → Result (List Printed) BlockFault
or_form number None go_on = Err (Form number)
or_form number (Some found) go_on = go_on found

-- The blocks of the lines from the one of this number on, or the fault of the first wrong line.
-- Nothing stands behind the last line feed.
abbrev pub blocks_of_lines : List ℕ → List ℕ → ℕ → Reading → List (List ℕ)
    → Result (List Printed) BlockFault
blocks_of_lines tags sizes number reading [] = Err (Form number)
blocks_of_lines tags sizes number reading (line ∷ []) =
    if length line == 0
    then or_form number (finished reading.done reading.due) (λ blocks. Ok blocks)
    else Err (Form number)
blocks_of_lines tags sizes number reading (line ∷ next ∷ lines) =
    or_form number (after_line tags sizes reading.done reading.due line)
    (λ after. blocks_of_lines tags sizes (number + 1) after (next ∷ lines))

abbrev pub blocks_of_text : List ℕ → List ℕ → List ℕ → Result (List Printed) BlockFault
blocks_of_text tags sizes text =
    blocks_of_lines tags sizes 1 (record { done = []; due = due.Block }) (lines_of text)

-- there is a job for the block that is due
abbrev pub HasJob : ℕ → ℕ → Due → Type 0
HasJob jobs done due.Block = done ≤ jobs
HasJob jobs done due.Model = done < jobs
HasJob jobs done due.Part = done < jobs
HasJob jobs done (due.Step part steps) = done < jobs
