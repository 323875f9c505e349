use Rattle.std.proofs.Common.{◌≡◌, length}
use Rattle.line_tokens.specs.Token.{until_zero, lit_of, tokens_of}
use Rattle.line_tokens.proofs.Tokens.{with_lead}
use Rattle.line_tokens.proofs.literals.lits_before_zero.Given as goal

abbrev pub invariant-loop-token : goal.invariant-loop-token
invariant-loop-token l = with_lead l.lits.items (until_zero lit_of (tokens_of l.rest)) ≡ until_zero lit_of (tokens_of l.tokens)

abbrev pub decreases-loop-token : goal.decreases-loop-token
decreases-loop-token l = length l.rest
