use Rattle.std.proofs.Common.{◌==◌, rules}
use Rattle.line_tokens.specs.Token.{lit_of, tokens_of, all_then_zero}
use Rattle.line_tokens.proofs.Tokens.{judged, refused}
use Rattle.line_tokens.proofs.literals.lits_then_zero.Goals as goal

pub returns-in_default-read_lit : goal.returns-in_default-read_lit
returns-in_default-read_lit c = refused lit_of (λ b. b == 32) c.loop-token.rest.now c.in-Some.token.now c.in-Some.more.now c.loop-token.lits.items (all_then_zero lit_of (tokens_of c.args.tokens.now))
    (search rules) (search rules) c.loop-token.invariant

pub loop-token-preserved : goal.loop-token-preserved
loop-token-preserved c = rw c.in_ok-push.ensures.items (judged lit_of (λ b. b == 32) c.loop-token.rest.now c.in-Some.token.now c.in-Some.more.now c.loop-token.lits.items c.in-Some-read_lit.lit (all_then_zero lit_of (tokens_of c.args.tokens.now))
    (search rules) (search rules) c.loop-token.invariant)
