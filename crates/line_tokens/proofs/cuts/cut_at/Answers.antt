use Rattle.std.proofs.Common.{◌==◌, sym}
use Rattle.line_tokens.proofs.Tokens.{cut_here, cut_nowhere}
use Rattle.line_tokens.proofs.cuts.cut_at.Goals as goal

pub returns-in-None : goal.returns-in-None
returns-in-None c = cut_nowhere (λ b. b == c.args.byte) c.args.text.now (sym c.in-None.ensures)

pub returns-in-Some : goal.returns-in-Some
returns-in-Some c = cut_here (λ b. b == c.args.byte) c.args.text.now c.in-Some.at (sym c.in-Some.ensures)
