-- A packet of a session can be shared.
use Rattle.std.proofs.Common.{◌≡◌, ◌∙◌, ℕ, ◌≤◌, List, map, Option, ap, sym, subst}
use Rattle.std.specs.Prelude.{Result, Ok, Err, IfOk, unwrap_or}
use Rattle.std.proofs.lemmas.List.Elements.{All-contains}
use Rattle.sat_base.specs.Lit.{IsTautology, greatest_of, greatest_of_all}
use Rattle.sat_base.specs.declared.origins.Ref.{Ref}
use Rattle.sat_base.proofs.Members.{Contains-from_map}
use Rattle.trace_core.specs.Known.{Known, item_at, tag_of}
use Rattle.trace_core.specs.Law.{clauses_up_to}
use Rattle.trace_core.specs.Trace.{known_of}
use Rattle.trace_core.specs.declared.derivation.Step.{Step}
use Rattle.trace_core.proofs.Items.{item_at-contains}
use Rattle.trace_trim.specs.Packed.{IsOkWhereOwnAreOk, HasGreatestTagLast, AreOfOwn, ends_in}
use Rattle.session.specs.Solver.{Solver, IsSound, IsStep, IsWithinItsTag, shared_by}
use Rattle.session.specs.Publishing.{AreNamesFit, IsSharable}

same_step : (solver : Solver) (step : ℕ) (one other : Known) → IsStep solver.steps step one
    → IsStep solver.steps step other → one ≡ other
same_step solver step one other first second = ap (λ (o : Option Known). unwrap_or o one)
    (sym first ∙ second)

pub sharable : {E : Type 0} (result : Result (List Step) E) (solver : Solver)
    (names : List (Option Ref)) (step : ℕ) → IsSound solver → AreNamesFit solver names
    → ((one : Known) × IsStep solver.steps step one × (IsTautology one.clause → ⊥))
    → IfOk result (IsOkWhereOwnAreOk solver.steps names)
    → IfOk result (λ packet. ends_in packet ≡ item_at (map known_of solver.steps) step)
    → IfOk result (HasGreatestTagLast solver.steps) → IfOk result (AreOfOwn solver.steps)
    → IfOk result (λ packet. (one : Known) → IsStep solver.steps step one
    → IsSharable solver one packet)
sharable (Ok packet) solver names step sound fit (own, own_is, proper) ok ends tags of_own = λ one is. record {
  ok = ok solver.inputs (shared_by solver.packets) sound.ok fit.right;
  ends = ends ∙ is;
  of_own = of_own;
  tags = λ other has. subst (λ n. other.tag ≤ n) (ap tag_of (ends ∙ is))
      (tags solver.inputs (shared_by solver.packets) sound.ok other has);
  within = within one is;
}
  where
    within : (one : Known) → IsStep solver.steps step one
        → greatest_of one.clause ≤ greatest_of_all (clauses_up_to solver.inputs one.tag)
    within one is =
        let from = Contains-from_map known_of solver.steps one
        (item_at-contains (map known_of solver.steps) step one is) in
        let low = All-contains (λ (s : Step). IsWithinItsTag solver.inputs
        (known_of s)) solver.steps from.0 sound.steps_within from.1 in
        subst (IsWithinItsTag solver.inputs) from.2 low
        (subst (λ (x : Known). IsTautology x.clause → ⊥)
        (same_step solver step own one own_is is) proper)
sharable (Err e) solver names step sound fit own ok ends tags of_own = ok
