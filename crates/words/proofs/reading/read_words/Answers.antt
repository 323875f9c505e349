use Rattle.std.proofs.Common.{◌≡◌, List, map, string_bytes}
use Rattle.clap.specs.Faults.{fault_of}
use Rattle.clap.specs.Matches.{found_of}
use Rattle.clap.specs.Simple.{matches_of}
use Rattle.clap.specs.Walk.{Text, rows_of}
use Rattle.words.specs.Parser.{app}
use Rattle.words.proofs.Options.{has_fault, no_fault, rows_are}
use Rattle.words.proofs.Rule.{accepted_at, refused_at, refused_at_end}
use Rattle.words.proofs.reading.read_words.Goals as goal

pub returns-in_err-matches-clause-refused : goal.returns-in_err-matches-clause-refused
returns-in_err-matches-clause-refused c =
    let words : List Text = map string_bytes c.args.words.now in
    refused_at c.from_residual-in_err-matches.result c.in_err-matches.field-0.0 (fault_of app
    words) (matches_of app words)
    c.from_residual-in_err-matches.ensures.1
    (has_fault c.in_ok-parser.field-0 c.in_err-matches.field-0.0 words c.in_ok-parser.ensures
    c.in_err-matches.ensures.kinds)

pub new-requires : goal.new-requires
new-requires c =
    let words : List Text = map string_bytes c.args.words.now in
    record {
      parse = (
        words,
        record {
          command = c.in_ok-parser.field-0;
          is_app = c.in_ok-parser.ensures;
          parsed = c.in_ok-matches.ensures.parsed;
          rows = rows_are c.in_ok-parser.field-0 c.in_ok-matches.matches words
              c.in_ok-parser.ensures c.in_ok-matches.ensures.matches;
        },
      );
    }

pub returns-clause-command : goal.returns-clause-command
returns-clause-command c =
    let words : List Text = map string_bytes c.args.words.now in
    let rows : rows_of (found_of c.in_ok-matches.matches) ≡ matches_of app words =
    rows_are c.in_ok-parser.field-0 c.in_ok-matches.matches words c.in_ok-parser.ensures
    c.in_ok-matches.ensures.matches in
    accepted_at c.command.result (fault_of app words) (matches_of app words)
    (no_fault c.in_ok-parser.field-0 words c.in_ok-parser.ensures c.in_ok-matches.ensures.kinds)
    (c.command.ensures.command (matches_of app words) (rw rows at c.new.ensures.told))

pub returns-clause-refused : goal.returns-clause-refused
returns-clause-refused c =
    let words : List Text = map string_bytes c.args.words.now in
    let rows : rows_of (found_of c.in_ok-matches.matches) ≡ matches_of app words =
    rows_are c.in_ok-parser.field-0 c.in_ok-matches.matches words c.in_ok-parser.ensures
    c.in_ok-matches.ensures.matches in
    refused_at_end c.command.result (fault_of app words) (matches_of app words)
    (c.command.ensures.refused (matches_of app words) (rw rows at c.new.ensures.told))
