use Rattle.std.proofs.Common.{◌==◌, rules}
use Rattle.line_tokens.specs.Token.{lit_of, tokens_of, until_zero}
use Rattle.line_tokens.proofs.Tokens.{until_found}
use Rattle.line_tokens.proofs.literals.lits_before_zero.Goals as goal

pub returns-then-eq : goal.returns-then-eq
returns-then-eq c = until_found lit_of (λ b. b == 32) c.loop-token.rest.now c.in-Some.token.now c.in-Some.more.now c.loop-token.lits.items (until_zero lit_of (tokens_of c.args.tokens.now))
    (search rules) (search rules) c.loop-token.invariant
