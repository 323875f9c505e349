-- What the words of a run ask for.
use Rattle.std.specs.Prelude.{◌≤◌, ◌&&◌, ◌||◌, ℕ, Bool, false, not, List, Option, Some}
use Rattle.std.specs.Prelude.{None, codes, is_some, option_map, unwrap_or, if◌then◌else◌}
use Rattle.std.specs.Prelude.{string_bytes}
use Rattle.std.specs.Option.{option_map_or}
use Rattle.std.specs.Str.{bytes_eq}
use Rattle.std.specs.Str.Parse.{digits_value, without_leading_plus}
use Rattle.clap.specs.Walk.{is_empty}
use Rattle.clap.specs.Words.{Row, Text, fault_of, first_of, matches_of, one_of}
use Rattle.words.specs.Parser.{app}
use Rattle.words.specs.declared.command.Command.{Command}
use Rattle.words.specs.declared.command.Work.{Work}
use Rattle.words.specs.declared.command.Work.TheVariants as work

-- What a run works on: the jobs of the text of a file, given by the bytes of its name, or of
-- standard input; or those of the generated text of a number.
pub data Input : Type 0 where
  OfText : Option Text → Input
  OfSum : ℕ → Input

-- what a run is asked for
pub record Asked : Type 0 where
  pub workers : ℕ
  pub conflicts : ℕ
  pub attempts : ℕ
  pub first : Bool
  pub trace : Bool
  pub work : Input

abbrev pub input_of : Work → Input
input_of (work.Text name) = OfText (option_map string_bytes name)
input_of (work.Sum number) = OfSum number

-- what a command of the code asks for
abbrev pub asked : Command → Asked
asked command = record {
  workers = command.workers;
  conflicts = command.conflicts;
  attempts = command.attempts;
  first = command.first;
  trace = command.trace;
  work = input_of command.work;
}

-- ---- the values that a parse found

-- the number that a value writes, in decimal digits behind a plus at most
abbrev pub number_of : Text → ℕ
number_of value = digits_value 10 (without_leading_plus value)

-- the number behind an option, where the option is there
abbrev pub number_at : Text → List Row → Option ℕ
number_at name rows = option_map number_of (one_of name rows)

-- whether a flag is there
abbrev pub flag_at : Text → List Row → Bool
flag_at name rows = option_map_or (λ value. bytes_eq value (codes "true")) (one_of name rows) false

-- the name of the file, where one is there
abbrev pub file_at : List Row → Option Text
file_at = first_of (codes "file")

-- words on a text and its jobs
abbrev pub speaks_of_jobs : List Row → Bool
speaks_of_jobs rows = is_some (file_at rows) || (flag_at (codes "first") rows
    || (flag_at (codes "trace") rows || (is_some (number_at (codes "conflicts") rows)
    || is_some (number_at (codes "attempts") rows))))

-- the one rule that is tested after the parse: with `--sum` there are no words on a text
abbrev pub keeps_rule : List Row → Bool
keeps_rule rows = not (is_some (number_at (codes "sum") rows) && speaks_of_jobs rows)

abbrev pub input_in : List Row → Input
input_in rows = option_map_or OfSum (number_at (codes "sum") rows) (OfText (file_at rows))

-- where an option isn't there: 4 workers, the greatest number of clauses, one attempt
abbrev pub asked_in : List Row → Asked
asked_in rows = record {
  workers = unwrap_or (number_at (codes "workers") rows) 4;
  conflicts = unwrap_or (number_at (codes "conflicts") rows) 18446744073709551615;
  attempts = unwrap_or (number_at (codes "attempts") rows) 1;
  first = flag_at (codes "first") rows;
  trace = flag_at (codes "trace") rows;
  work = input_in rows;
}

-- ---- the words

-- the parse of the words finds no fault, and what it finds keeps the one rule
abbrev pub are_accepted : List Text → Bool
are_accepted words = is_empty (fault_of app words) && keeps_rule (matches_of app words)

-- What the words ask for, none where they aren't accepted.
abbrev pub accepted : List Text → Option Asked
accepted words = if are_accepted words then Some (asked_in (matches_of app words)) else None

-- the numbers of a command are within the limits of the words
pub record IsWithinLimits (command : Command) : Type 0 where
  pub workers : (1 ≤ command.workers) × (command.workers ≤ 64)
  pub conflicts : 1 ≤ command.conflicts
  pub attempts : (1 ≤ command.attempts) × (command.attempts ≤ 64)
