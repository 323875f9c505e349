use Rattle.std.proofs.Common.{◌≡◌, length}
use Rattle.line_tokens.specs.Token.{all_then_zero, lit_of, tokens_of}
use Rattle.line_tokens.proofs.Tokens.{with_front}
use Rattle.line_tokens.proofs.literals.lits_then_zero.Given as goal

abbrev pub invariant-loop-token : goal.invariant-loop-token
invariant-loop-token l = with_front l.lits.items (all_then_zero lit_of (tokens_of l.rest)) ≡ all_then_zero lit_of (tokens_of l.tokens)

abbrev pub decreases-loop-token : goal.decreases-loop-token
decreases-loop-token l = length l.rest
