use Rattle.verdict_text.proofs.BlockLines.{joined}
use Rattle.verdict_text.proofs.printing.print_model.Goals as goal

pub returns : goal.returns
returns c = joined _ _ _ _ _ _ _ c.in_ok-extend_from_slice.ensures.items c.in_ok-print_values.ensures c.in_ok-extend_from_slice-2.ensures.items
