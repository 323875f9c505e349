-- What an attempt may end with: a right answer, or a spent list.
use Rattle.std.specs.Prelude.{◌≡◌, ℕ, ◌≤◌, Bool, true, false, List, [], length, All, AllPairs}
use Rattle.std.specs.Prelude.{Contains}
use Rattle.sat_base.specs.Lit.{IsTautology, greatest_of, variables}
use Rattle.sat_base.specs.Truth.{Entails, IsModelOf, IsRefutedPart}
use Rattle.trace_core.specs.Known.{Known}
use Rattle.trace_core.specs.Trace.{IsTrace}
use Rattle.trace_core.specs.declared.derivation.Step.{Step}
use Rattle.entry_core.specs.declared.answers.Answer.{Answer}
use Rattle.entry_core.specs.declared.answers.Answer.TheVariants as answer
use Rattle.entry_core.specs.declared.entries.Entry.{Entry}
use Rattle.entry_core.specs.Journal.{inputs_of, clauses_of, cube_of}

-- A refuted part has a trace from these inputs: the steps that are kept with it, or, where traces
-- aren't kept, one of which nothing is kept.
abbrev pub HasTrace : Bool → List Known → List ℕ → List Step → Type 0
HasTrace true inputs part steps = IsTrace inputs part steps
HasTrace false inputs part steps = (steps ≡ []) × (trace : List Step) × IsTrace inputs part trace

-- Right answers to a job: a model of it, or a refuted part of its cube that has a trace from its
-- clauses, which is kept or not.
abbrev pub IsRightAnswer : Bool → List Entry → ℕ → Answer → Type 0
IsRightAnswer traces journal job (answer.Model values) =
    IsModelOf (clauses_of journal job) (cube_of journal job) values
IsRightAnswer traces journal job (answer.Refuted part steps) =
    IsRefutedPart (clauses_of journal job) (cube_of journal job) part
    × HasTrace traces (inputs_of journal job) part steps

-- A clause subsumes each clause that has all of its literals.
abbrev pub Subsumes : List ℕ → List ℕ → Type 0
Subsumes clause other = All (Contains other) clause

-- The codes 0 and 1 are those of no literal.
abbrev pub AreLiterals : List ℕ → Type 0
AreLiterals clause = All (λ code. 2 ≤ code) clause

-- Evidence that a conflict budget was used up on new clauses alone: exactly that many clauses of
-- literals, each of them entailed and over the variables, none a tautology, none subsumed by a
-- given clause or by an earlier one of the list.
pub record IsSpent (clauses : List (List ℕ)) (most budget : ℕ)
    (learnt : List (List ℕ)) : Type 0 where
  pub number : length learnt ≡ budget
  pub literals : All AreLiterals learnt
  pub proper : All (λ clause. ¬ IsTautology clause) learnt
  pub new : All (λ clause. All (λ given. ¬ Subsumes given clause) clauses) learnt
  pub different : AllPairs (λ earlier later. ¬ Subsumes earlier later) learnt
  pub within : All (λ clause. greatest_of clause ≤ most) learnt
  pub entailed : All (Entails clauses) learnt

-- a list that is spent for a job
abbrev pub IsSpentFor : List Entry → ℕ → ℕ → List (List ℕ) → Type 0
IsSpentFor journal job budget learnt =
    IsSpent (clauses_of journal job)
    (variables (clauses_of journal job) (cube_of journal job)) budget learnt
