use Rattle.std.proofs.Common.{◌≡◌, length}
use Rattle.line_tokens.specs.Token.{all_then_zero, number_of, tokens_of}
use Rattle.line_tokens.proofs.Tokens.{with_front}
use Rattle.trace_text.proofs.lines.read_hints.Given as goal

abbrev pub invariant-loop-token : goal.invariant-loop-token
invariant-loop-token l = with_front l.hints.items (all_then_zero number_of (tokens_of l.rest)) ≡ all_then_zero number_of (tokens_of l.tokens)

abbrev pub decreases-loop-token : goal.decreases-loop-token
decreases-loop-token l = length l.rest
