-- What stands among the words, before the one rule is tested.
use Rattle.std.specs.Prelude.{◌≡◌, ◌≤◌, ◌||◌, Bool, IfSome, List, codes, is_some}
use Rattle.std.specs.Prelude.{option_map}
use Rattle.clap.specs.Built.{IsParsedFrom}
use Rattle.clap.specs.Matches.{found_of}
use Rattle.clap.specs.Words.{Row, Text, app_of, matches_of, rows_of}
use Rattle.clap.specs.declared.builder.command.Command.{Command}
use Rattle.clap.specs.declared.parser.matches.ArgMatches.{ArgMatches}
use Rattle.words.specs.Accepted.{file_at, flag_at, number_at}
use Rattle.words.specs.Parser.{app}
use Rattle.words.specs.declared.given.Given.{Given}

-- the matches are those of a parse of the words by the command line
pub record IsParse (words : List Text) (matches : ArgMatches) : Type 0 where
  pub command : Command
  pub is_app : app_of command ≡ app
  pub parsed : IsParsedFrom command matches
  pub rows : rows_of (found_of matches) ≡ matches_of app words

-- the values are those that a parse found
pub record Tells (rows : List Row) (given : Given) : Type 0 where
  pub workers : given.workers ≡ number_at (codes "workers") rows
  pub conflicts : given.conflicts ≡ number_at (codes "conflicts") rows
  pub attempts : given.attempts ≡ number_at (codes "attempts") rows
  pub first : given.first ≡ flag_at (codes "first") rows
  pub trace : given.trace ≡ flag_at (codes "trace") rows
  pub sum : given.sum ≡ number_at (codes "sum") rows
  pub file : option_map (λ name. name.now) given.file ≡ file_at rows

-- and the numbers are within their limits
pub record IsWithin (given : Given) : Type 0 where
  pub workers : IfSome given.workers (λ number. (1 ≤ number) × (number ≤ 64))
  pub conflicts : IfSome given.conflicts (λ number. 1 ≤ number)
  pub attempts : IfSome given.attempts (λ number. (1 ≤ number) × (number ≤ 64))

-- words on a text and its jobs
abbrev pub is_on_jobs : Given → Bool
is_on_jobs given = is_some given.file || (given.first || (given.trace
    || (is_some given.conflicts || is_some given.attempts)))
