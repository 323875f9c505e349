-- Outcomes of verdicts.
use Rattle.std.specs.Arc.{arc_value}
use Rattle.entry_core.specs.declared.answers.Answer.{Answer}
use Rattle.entry_core.specs.declared.answers.Answer.TheVariants as answer
use Rattle.entry_core.specs.declared.answers.Verdict.{Verdict}
use Rattle.entry_core.specs.declared.answers.Verdict.TheVariants as verdict
use Rattle.entry_core.specs.declared.answers.Outcome.{Outcome}
use Rattle.entry_core.specs.declared.answers.Outcome.TheVariants as outcome

abbrev pub outcome_of_answer : Answer → Outcome
outcome_of_answer (answer.Model values) = outcome.Model
outcome_of_answer (answer.Refuted part steps) = outcome.Refuted

-- the verdict without its answer
abbrev pub outcome_of : Verdict → Outcome
outcome_of (verdict.Answered given) = outcome_of_answer (arc_value given)
outcome_of (verdict.Cancelled by) = outcome.Cancelled by
outcome_of verdict.Spent = outcome.Spent
outcome_of verdict.Starved = outcome.Starved
