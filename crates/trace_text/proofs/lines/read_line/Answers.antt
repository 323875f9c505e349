use Rattle.std.proofs.Common.{rules}
use Rattle.trace_text.proofs.LineLemmas.{no_token, other_letter, no_id, bad_id, line_fields}
use Rattle.trace_text.proofs.lines.read_line.Goals as goal

pub returns-in_default-clause-value : goal.returns-in_default-clause-value
returns-in_default-clause-value c = no_token c.args.line.now (search rules)

pub returns-then-ne-clause-value : goal.returns-then-ne-clause-value
returns-then-ne-clause-value c = other_letter c.args.line.now c.in-Some.letter.now c.in-Some.tokens.now (search rules) (search rules)

pub returns-in_default-cut_at-clause-value : goal.returns-in_default-cut_at-clause-value
returns-in_default-cut_at-clause-value c = no_id c.args.line.now c.in-Some.letter.now c.in-Some.tokens.now (search rules) (search rules)

pub returns-in_default-read_number-clause-value : goal.returns-in_default-read_number-clause-value
returns-in_default-read_number-clause-value c = bad_id c.args.line.now c.in-Some.letter.now c.in-Some.tokens.now c.in-Some-cut_at.token.now c.in-Some-cut_at.fields.now (search rules) (search rules) (search rules)

pub returns-clause-value : goal.returns-clause-value
returns-clause-value c = rw (← line_fields c.args.line.now c.in-Some.letter.now c.in-Some.tokens.now c.in-Some-cut_at.token.now c.in-Some-cut_at.fields.now c.in-Some-read_number.id (search rules) (search rules) (search rules) (search rules)) c.read_fields.ensures.value
