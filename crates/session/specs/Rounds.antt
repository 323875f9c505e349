-- What a round of the search does.
use Rattle.std.specs.Prelude.{◌≡◌, ℕ, ◌≤◌, max, List, [], ◌∷◌, ◌++◌, All, Contains}
use Rattle.trace_core.specs.declared.derivation.Step.{Step}
use Rattle.sat_base.specs.Lit.{IsLitSet, greatest_of}
use Rattle.trace_core.specs.Known.{Known}
use Rattle.session.specs.declared.search.Search.{Search}
use Rattle.session.specs.declared.rounds.Round.{Round}
use Rattle.session.specs.declared.rounds.Round.TheVariants.{Model, Refuted, Paused}
use Rattle.session.specs.Cubes.{IsOnCube}
use Rattle.session.specs.Solver.{IsStep}
use Rattle.session.specs.Searching.{IsSearching}

-- the variables of the inputs and the cube are the first ones, and reserved
pub record AreVariables (greatest reserved : ℕ) (cube : List ℕ) (vars : ℕ) : Type 0 where
  pub are : vars ≡ max greatest (greatest_of cube)
  pub low : vars ≤ reserved
  pub few : vars ≤ 8388607
  pub set : IsLitSet cube

-- What the functions of a round keep for its cube.
pub record IsInRound (search : Search) (cube : List ℕ) (vars : ℕ) : Type 0 where
  pub kept : IsSearching search
  pub on_cube : IsOnCube cube search
  pub variables : AreVariables search.greatest search.trail.vars cube vars

-- a clause that contains none of these
abbrev pub ContainsNone : List Known → Known → Type 0
ContainsNone held one = All (λ other. All (Contains one.clause) other.clause → ⊥) held

-- each contains none of the held ones and of those before it
abbrev pub AreNew : List Known → List Known → Type 0
AreNew held [] = Unit {0}
AreNew held (one ∷ more) = ContainsNone held one × AreNew (held ++ one ∷ []) more

-- the numbers are those of steps with these clauses
abbrev pub AreNamed : List Step → List ℕ → List Known → Type 0
AreNamed steps [] [] = Unit {0}
AreNamed steps [] (one ∷ more) = ⊥
AreNamed steps (number ∷ numbers) [] = ⊥
AreNamed steps (number ∷ numbers) (one ∷ more) = IsStep steps number one
    × AreNamed steps numbers more

-- the number of the step that an answer names
abbrev pub step_of_round : Round → List ℕ
step_of_round (Model values) = []
step_of_round (Refuted part number) = number ∷ []
step_of_round Paused = []
