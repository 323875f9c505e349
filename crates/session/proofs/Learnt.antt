-- Learnt steps, read by index.
use Rattle.std.proofs.Common.{◌≡◌, ◌∙◌, ℕ, ◌+◌, ◌-◌, ◌<◌, ◌≤◌, List, length, Some, ap, subst, arith}
use Rattle.std.proofs.Common.{get_or}
use Rattle.std.specs.Prelude.{Contains, option_map}
use Rattle.std.proofs.lemmas.List.Elements.{All-contains}
use Rattle.trace_core.specs.Known.{Known, item_at}
use Rattle.trace_core.specs.Trace.{known_of}
use Rattle.trace_core.specs.declared.derivation.Step.{Step}
use Rattle.trace_core.proofs.Items.{item_at-next}
use Rattle.session.specs.Solver.{Solver, IsSound, IsStep}
use Rattle.trace_core.proofs.Items.{item_at-map}
use Rattle.session.proofs.Renamed.{is_among}

-- the step of that number, as it is read
pub step_read : (steps : List Step) (number : ℕ) (found : Step) → 1 ≤ number
    → number ≤ length steps → get_or steps (number - 1) found ≡ found
    → IsStep steps number (known_of found)
step_read steps number found low high is =
    item_at-map known_of steps number ∙ ap (option_map known_of)
    (subst (λ n. item_at steps n ≡ Some found) (let e : number - 1 + 1
    ≡ number = omega (arith, low) in e) (item_at-next steps (number - 1) found
    (omega (arith, low, high)) is))

-- the clause of a learnt step is held
pub learnt_held : (solver : Solver) (i number : ℕ) → IsSound solver → i < length solver.learnt
    → get_or solver.learnt i 0 ≡ number → (one : Known) × IsStep solver.steps number one
    × Contains solver.held one
learnt_held solver i number sound lt is =
    All-contains (λ (n : ℕ). (one : Known) × IsStep solver.steps n one
    × Contains solver.held one) solver.learnt number sound.learnt_held
    (is_among solver.learnt i number lt is)
