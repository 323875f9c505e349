use Rattle.std.proofs.Common.{◌≡◌, take}
use Rattle.trace_core.specs.Trace.{greatest}
use Rattle.session.proofs.UnitSteps.{names_of, tags_of}
use Rattle.session.proofs.unit_steps.unit_step.Given as goal

abbrev pub invariant-loop-lit : goal.invariant-loop-lit
invariant-loop-lit l =
    (l.hints.items ≡ names_of l.units l.kept (take l.lit-index l.lit-items))
    × (l.tag ≡ greatest (tags_of l.tags l.kept (take l.lit-index l.lit-items)))
