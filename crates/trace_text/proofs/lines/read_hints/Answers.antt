use Rattle.std.proofs.Common.{◌==◌, rules}
use Rattle.line_tokens.specs.Token.{number_of, tokens_of, all_then_zero}
use Rattle.line_tokens.proofs.Tokens.{judged, refused}
use Rattle.trace_text.proofs.lines.read_hints.Goals as goal

pub returns-in_default-read_number : goal.returns-in_default-read_number
returns-in_default-read_number c = refused number_of (λ b. b == 32) c.loop-token.rest.now c.in-Some.token.now c.in-Some.more.now c.loop-token.hints.items (all_then_zero number_of (tokens_of c.args.tokens.now))
    (search rules) (search rules) c.loop-token.invariant

pub loop-token-preserved : goal.loop-token-preserved
loop-token-preserved c = rw c.in_ok-push.ensures.items (judged number_of (λ b. b == 32) c.loop-token.rest.now c.in-Some.token.now c.in-Some.more.now c.loop-token.hints.items c.in-Some-read_number.hint (all_then_zero number_of (tokens_of c.args.tokens.now))
    (search rules) (search rules) c.loop-token.invariant)
