-- The walk over the names of steps.
use Rattle.std.proofs.Common.{ℕ, List}
use Rattle.std.specs.Prelude.{IsSome}
use Rattle.sat_base.specs.declared.origins.Ref.{Ref}
use Rattle.sat_base.specs.declared.origins.Ref.TheVariants.{Own}
use Rattle.trace_core.specs.declared.derivation.Step.{Step}
use Rattle.trace_trim.specs.Names.{step_named, Cites, IsBefore, CiteEarlierSteps}
use Rattle.trace_trim.proofs.Order.{before_trans}
use Rattle.trace_trim.proofs.Walk.{IsWalk, LookBack}

abbrev pub IsThere : List (List Step) → List Step → Ref → Type 0
IsThere packets own name = IsSome (step_named packets own name)

abbrev pub IsNameWalk : List (List Step) → List Step → ℕ → List Ref → List Ref → Type 0
IsNameWalk packets own last names pending = IsWalk (Cites packets own) IsBefore (IsThere packets own) (Own last) names pending

pub look_back : (packets : List (List Step)) (own : List Step) → CiteEarlierSteps packets own → LookBack (Cites packets own) IsBefore (IsThere packets own)
look_back packets own earlier = record {
  composes = before_trans;
  there = λ user other cites. (earlier user other cites).0;
  earlier = λ user other cites. (earlier user other cites).1;
}
