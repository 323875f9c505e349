use Rattle.icnf_text.proofs.WithinLimits.{each_within}
use Rattle.icnf_text.proofs.laws.each_text_is_within_limits.Goals as goal

pub returns : goal.returns
returns c = each_within
