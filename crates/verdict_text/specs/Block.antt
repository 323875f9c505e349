-- Verdict blocks: what a block shows, and its text.
use Rattle.std.specs.Prelude.{ℕ, ◌+◌, ◌*◌, ◌≡◌, ◌≤◌, if◌then◌else◌, Bool, List, [], ◌∷◌, ◌++◌}
use Rattle.std.specs.Prelude.{length, codes, decimal}
use Rattle.std.specs.List.{flat_map}
use Rattle.std.specs.Arc.{arc_value}
use Rattle.sat_base.specs.Lit.{IsLitSet}
use Rattle.line_tokens.specs.Token.{lit_text}
use Rattle.trace_text.specs.Text.{ArePrinted, CiteEarlier, steps_text}
use Rattle.entry_core.specs.declared.answers.Answer.{Answer}
use Rattle.entry_core.specs.declared.answers.Answer.TheVariants as answer
use Rattle.entry_core.specs.declared.answers.Verdict.{Verdict}
use Rattle.entry_core.specs.declared.answers.Verdict.TheVariants as verdict
use Rattle.verdict_text.specs.declared.blocks.Printed.{Printed}
use Rattle.verdict_text.specs.declared.blocks.Shown.{Shown}
use Rattle.verdict_text.specs.declared.blocks.Shown.TheVariants as shown

-- what the block of an answer shows: the steps of a refuted part where traces are written
abbrev pub shown_of_answer : Bool → Answer → Shown
shown_of_answer trace (answer.Model values) = shown.Model values
shown_of_answer trace (answer.Refuted part steps) = shown.Refuted part (if trace then steps else [])

abbrev pub shown_of : Bool → Verdict → Shown
shown_of trace (verdict.Answered given) = shown_of_answer trace (arc_value given)
shown_of trace (verdict.Cancelled by) = shown.Cancelled
shown_of trace verdict.Spent = shown.Unknown
shown_of trace verdict.Starved = shown.NoMemory

-- the literal of a variable that this value makes true
abbrev pub lit_with : ℕ → Bool → ℕ
lit_with var value = if value then 2 * var else 2 * var + 1

-- the literals of this variable, the next one, and so on, that these values make true
abbrev pub model_lits : ℕ → List Bool → List ℕ
model_lits var [] = []
model_lits var (value ∷ values) = lit_with var value ∷ model_lits (var + 1) values

-- what stands behind the job's number, where the job has so many inputs
abbrev pub shown_text : ℕ → Shown → List ℕ
shown_text inputs (shown.Model values) =
    codes " SATISFIABLE\nv " ++ flat_map lit_text (model_lits 1 values) ++ codes "0\n"
shown_text inputs (shown.Refuted part steps) =
    codes " UNSATISFIABLE\nf " ++ flat_map lit_text part ++ codes "0\n" ++ steps_text inputs 0 steps
shown_text inputs shown.Unknown = codes " UNKNOWN\n"
shown_text inputs shown.Cancelled = codes " CANCELLED\n"
shown_text inputs shown.NoMemory = codes " NOMEMORY\n"

abbrev pub block_text : ℕ → Printed → List ℕ
block_text inputs printed = codes "j " ++ decimal printed.job ++ shown_text inputs printed.shown

-- What can be written: a model within the greatest variable, and steps whose hints are inputs and
-- earlier steps.
abbrev pub IsPrintable : ℕ → Shown → Type 0
IsPrintable inputs (shown.Model values) = length values ≤ 8388607
IsPrintable inputs (shown.Refuted part steps) = CiteEarlier inputs 0 steps
IsPrintable inputs _ = Unit {0}

-- what the types of a part and of steps keep besides
abbrev pub IsWellFormed : ℕ → Shown → Type 0
IsWellFormed inputs (shown.Model values) = length values ≤ 8388607
IsWellFormed inputs (shown.Refuted part steps) =
    IsLitSet part × ArePrinted inputs steps (steps_text inputs 0 steps)
IsWellFormed inputs _ = Unit {0}

-- the text is this block, over so many inputs
pub record IsBlock (inputs : ℕ) (printed : Printed) (text : List ℕ) : Type 0 where
  pub written : text ≡ block_text inputs printed
  pub formed : IsWellFormed inputs printed.shown
