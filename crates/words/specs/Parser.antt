-- The words of a run, as the parser of command lines is told of them.
use Rattle.std.specs.Prelude.{Some, pos, true, codes}
use Rattle.clap.specs.Simple.{on_top}
use Rattle.clap.specs.Words.{App, Rule, Text, new_app, new_rule, with_rule}
use Rattle.clap.specs.declared.builder.action.ArgAction.TheVariants as action
use Rattle.clap.specs.declared.builder.value_parser.ValueParser.{ValueParser}
use Rattle.clap.specs.declared.builder.value_parser.ValueParser.TheVariants as value

-- an option `--name` with one value, which is a number that `parser` takes
abbrev pub option_rule : Text → ValueParser → Rule
option_rule name parser = record (new_rule name) {
  long = Some name;
  action = Some action.Set;
  value_names = 1;
  parser = Some parser;
}

-- a flag `--name`
abbrev pub flag_rule : Text → Rule
flag_rule name = record (new_rule name) {
  long = Some name;
  action = Some action.SetTrue;
}

-- FILE
abbrev pub file_rule : Rule
file_rule = record (new_rule (codes "file")) { value_names = 1 }

-- a command whose words begin with its arguments, and that knows no word for help
abbrev pub bare_app : App
bare_app = on_top (λ s. record s { no_binary_name = true; disable_help_flag = true })
    (new_app (codes "tarmo"))

-- The command line `[--workers N] [--conflicts B] [--attempts A] [--first] [--trace] [--sum N]
-- [FILE]`: N workers are 1 to 64, B is 1 to 2^64 - 1, A is 1 to 64, and the number of a sum is 0 to
-- 2^64 - 1.
abbrev pub app : App
app = with_rule (with_rule (with_rule (with_rule (with_rule (with_rule (with_rule bare_app
    (option_rule (codes "workers") (value.Signed (pos 1) (pos 64))))
    (option_rule (codes "conflicts") (value.Unsigned 1 18446744073709551615)))
    (option_rule (codes "attempts") (value.Signed (pos 1) (pos 64))))
    (flag_rule (codes "first")))
    (flag_rule (codes "trace")))
    (option_rule (codes "sum") (value.Unsigned 0 18446744073709551615)))
    file_rule
