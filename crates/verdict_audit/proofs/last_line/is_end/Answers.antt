use Rattle.std.proofs.Common.{◌∙◌, rules}
use Rattle.verdict_audit.proofs.EndLines.{one_token, two_tokens, three_tokens, four_tokens}
use Rattle.verdict_audit.proofs.last_line.is_end.Goals as goal

pub returns-in_default : goal.returns-in_default
returns-in_default c = one_token c.args.line.now (search rules)

pub returns-in_default-cut_at : goal.returns-in_default-cut_at
returns-in_default-cut_at c = c.is_count.ensures ∙ two_tokens c.args.line.now c.in-Some.word.now c.in-Some.rest.now (search rules) (search rules)

pub returns-in-Some-cut_at-2 : goal.returns-in-Some-cut_at-2
returns-in-Some-cut_at-2 c = four_tokens c.args.line.now c.in-Some.word.now c.in-Some.rest.now c.in-Some-cut_at.number.now c.in-Some-cut_at.reason.now c.in-Some-cut_at-2.field-0-0.now c.in-Some-cut_at-2.field-0-1.now (search rules) (search rules) (search rules)

pub returns : goal.returns
returns c = c.is_refusal.ensures ∙ three_tokens c.args.line.now c.in-Some.word.now c.in-Some.rest.now c.in-Some-cut_at.number.now c.in-Some-cut_at.reason.now (search rules) (search rules) (search rules)
