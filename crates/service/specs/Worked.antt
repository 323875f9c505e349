-- An answer that the tests give.
use Rattle.std.specs.Prelude.{ℕ, List, [], ◌∷◌}
use Rattle.trace_core.specs.declared.derivation.Step.{Step}
use Rattle.entry_core.specs.declared.answers.Answer.{Answer}
use Rattle.entry_core.specs.declared.answers.Answer.TheVariants as answer

-- both literals of variable 1
abbrev pub both_literals : List ℕ
both_literals = 2 ∷ 3 ∷ []

-- the tautology of variable 1
abbrev pub tautology : Step
tautology = record { clause = both_literals; hints = []; tag = 0 }

-- both literals of variable 1 can't be true
abbrev pub contradiction : Answer
contradiction = answer.Refuted both_literals (tautology ∷ [])
