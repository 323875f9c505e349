use Rattle.std.proofs.Common.{◌≡◌, ◌∙◌, false, ap, ap₂, codes}
use Rattle.std.specs.Prelude.{pos}
use Rattle.std.proofs.lemmas.Result.{IfOk-weaker}
use Rattle.clap.specs.Built.{AddsArg}
use Rattle.clap.specs.Simple.{App, app_of, with_rule}
use Rattle.clap.specs.Walk.{Rule, rule_of}
use Rattle.clap.specs.declared.builder.arg.Arg.{Arg}
use Rattle.clap.specs.declared.builder.command.Command.{Command}
use Rattle.clap.specs.declared.builder.value_parser.ValueParser.{ValueParser}
use Rattle.clap.specs.declared.builder.value_parser.ValueParser.TheVariants as vp
use Rattle.words.specs.Parser.{bare_app, file_rule, flag_rule, option_rule}
use Rattle.words.proofs.parser.parser.Goals as goal

-- one argument more
step : (old new : Command) (a : Arg) (r : Rule) (before : App) → AddsArg old a new →
    a.global ≡ false → rule_of a ≡ r
    → app_of old ≡ before → app_of new ≡ with_rule before r
step old new a r before added local is e = added.shape local ∙ ap₂ with_rule e is

abbrev few : ValueParser
few = vp.Signed (pos 1) (pos 64)

abbrev many : ValueParser
many = vp.Unsigned 1 18446744073709551615

abbrev any : ValueParser
any = vp.Unsigned 0 18446744073709551615

abbrev with_workers : App
with_workers = with_rule bare_app (option_rule (codes "workers") few)

abbrev with_conflicts : App
with_conflicts = with_rule with_workers (option_rule (codes "conflicts") many)

abbrev with_attempts : App
with_attempts = with_rule with_conflicts (option_rule (codes "attempts") few)

abbrev with_first : App
with_first = with_rule with_attempts (flag_rule (codes "first"))

abbrev with_trace : App
with_trace = with_rule with_first (flag_rule (codes "trace"))

abbrev with_sum : App
with_sum = with_rule with_trace (option_rule (codes "sum") any)

pub returns : goal.returns
returns c =
    let workers : app_of c.in_ok-arg.field-0 ≡ with_workers =
    step c.bare.result c.in_ok-arg.field-0 c.number.result (option_rule (codes "workers") few)
    bare_app c.in_ok-arg.ensures c.number.ensures.local (c.number.ensures.rule ∙ ap
    (option_rule (codes "workers")) c.few.ensures) c.bare.ensures in
    let conflicts : app_of c.in_ok-arg-2.field-0 ≡ with_conflicts =
    step c.in_ok-arg.field-0 c.in_ok-arg-2.field-0 c.number-2.result (option_rule (codes
    "conflicts") many) with_workers c.in_ok-arg-2.ensures c.number-2.ensures.local
    (c.number-2.ensures.rule ∙ ap (option_rule (codes "conflicts")) c.many.ensures) workers in
    let attempts : app_of c.in_ok-arg-3.field-0 ≡ with_attempts =
    step c.in_ok-arg-2.field-0 c.in_ok-arg-3.field-0 c.number-3.result (option_rule (codes
    "attempts") few) with_conflicts c.in_ok-arg-3.ensures c.number-3.ensures.local
    (c.number-3.ensures.rule ∙ ap (option_rule (codes "attempts")) c.few-2.ensures) conflicts in
    let first : app_of c.in_ok-arg-4.field-0 ≡ with_first =
    step c.in_ok-arg-3.field-0 c.in_ok-arg-4.field-0 c.flag.result (flag_rule (codes "first"))
    with_attempts c.in_ok-arg-4.ensures c.flag.ensures.local c.flag.ensures.rule attempts in
    let trace : app_of c.in_ok-arg-5.field-0 ≡ with_trace =
    step c.in_ok-arg-4.field-0 c.in_ok-arg-5.field-0 c.flag-2.result (flag_rule (codes "trace"))
    with_first c.in_ok-arg-5.ensures c.flag-2.ensures.local c.flag-2.ensures.rule first in
    let sum : app_of c.in_ok-arg-6.field-0 ≡ with_sum =
    step c.in_ok-arg-5.field-0 c.in_ok-arg-6.field-0 c.number-4.result (option_rule (codes "sum")
    any) with_trace c.in_ok-arg-6.ensures c.number-4.ensures.local (c.number-4.ensures.rule ∙
    ap (option_rule (codes "sum")) c.any.ensures) trace in
    IfOk-weaker c.arg-7.result _ _ (λ command added. step c.in_ok-arg-6.field-0 command
    c.file.result file_rule with_sum added c.file.ensures.local c.file.ensures.rule sum)
    c.arg-7.ensures
