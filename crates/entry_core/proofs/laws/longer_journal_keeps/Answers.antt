use Rattle.entry_core.proofs.LongerJournals.{longer_journal_keeps}
use Rattle.entry_core.proofs.laws.longer_journal_keeps.Goals as goal

pub returns : goal.returns
returns c = longer_journal_keeps
