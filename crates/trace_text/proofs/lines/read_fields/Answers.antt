use Rattle.std.proofs.Common.{rules}
use Rattle.line_tokens.specs.Token.{tokens_of}
use Rattle.trace_text.proofs.LineLemmas.{no_lits, falling_lits, no_hints, fields}
use Rattle.trace_text.proofs.lines.read_fields.Goals as goal

pub returns-in_default-clause-value : goal.returns-in_default-clause-value
returns-in_default-clause-value c = no_lits c.args.id (tokens_of c.args.tokens.now) (search rules)

pub returns-then-not-is_strictly_ascending-clause-value : goal.returns-then-not-is_strictly_ascending-clause-value
returns-then-not-is_strictly_ascending-clause-value c = falling_lits c.args.id (tokens_of c.args.tokens.now) (record { items = c.in-Some.lits.items; rest = tokens_of c.in-Some.rest.now }) (search rules) (search rules)

pub returns-in_default-2-clause-value : goal.returns-in_default-2-clause-value
returns-in_default-2-clause-value c = no_hints c.args.id (tokens_of c.args.tokens.now) (record { items = c.in-Some.lits.items; rest = tokens_of c.in-Some.rest.now }) (search rules) (search rules) (search rules)

pub returns-clause-value : goal.returns-clause-value
returns-clause-value c = fields c.args.id (tokens_of c.args.tokens.now) (record { items = c.in-Some.lits.items; rest = tokens_of c.in-Some.rest.now }) c.in-Some-2.hints.items (search rules) (search rules) (search rules)
