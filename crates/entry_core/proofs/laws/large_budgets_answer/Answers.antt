use Rattle.entry_core.proofs.LargeBudgets.{large_budgets_answer}
use Rattle.entry_core.proofs.laws.large_budgets_answer.Goals as goal

pub returns : goal.returns
returns c = large_budgets_answer
