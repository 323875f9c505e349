use Rattle.std.proofs.Common.{rules, sym}
use Rattle.std.specs.Prelude.{Some, None}
use Rattle.verdict_text.proofs.JobLines.{one_token, other_letter, two_tokens, other_number, four_tokens, three_tokens}
use Rattle.verdict_text.proofs.lines.read_job_line.Goals as goal

pub returns-in_default : goal.returns-in_default
returns-in_default c = sym (one_token c.args.line.now (search rules))

pub returns-then-ne : goal.returns-then-ne
returns-then-ne c = sym (other_letter c.args.line.now c.in-Some.letter.now c.in-Some.tokens.now (search rules) (search rules))

pub returns-in_default-cut_at : goal.returns-in_default-cut_at
returns-in_default-cut_at c = sym (two_tokens c.args.line.now c.in-Some.letter.now c.in-Some.tokens.now (search rules) (search rules))

pub returns-then-not-is_decimal : goal.returns-then-not-is_decimal
returns-then-not-is_decimal c = sym (other_number c.args.line.now c.in-Some.letter.now c.in-Some.tokens.now c.in-Some-cut_at.number.now c.in-Some-cut_at.word.now (search rules) (search rules) (search rules))

pub returns-in-Some-cut_at-2 : goal.returns-in-Some-cut_at-2
returns-in-Some-cut_at-2 c = sym (four_tokens c.args.line.now c.in-Some.letter.now c.in-Some.tokens.now c.in-Some-cut_at.number.now c.in-Some-cut_at.word.now c.in-Some-cut_at-2.field-0-0.now c.in-Some-cut_at-2.field-0-1.now (search rules) (search rules) (search rules))

pub returns-in_default-read_status : goal.returns-in_default-read_status
returns-in_default-read_status c = sym (three_tokens c.args.line.now c.in-Some.letter.now c.in-Some.tokens.now c.in-Some-cut_at.number.now c.in-Some-cut_at.word.now None (search rules) (search rules) (search rules) (search rules) (search rules) (search rules))

pub returns : goal.returns
returns c = rw c.read_number.ensures.value (sym (three_tokens c.args.line.now c.in-Some.letter.now c.in-Some.tokens.now c.in-Some-cut_at.number.now c.in-Some-cut_at.word.now (Some c.in-Some-read_status.status) (search rules) (search rules) (search rules) (search rules) (search rules) (search rules)))
