-- Where a step stands: among the own steps, or in a packet.
use Rattle.trace_core.specs.declared.derivation.Step.{Step}
use Rattle.trace_trim.specs.declared.found_step.Place.{Place}
use Rattle.trace_trim.specs.declared.found_step.Place.TheVariants as place

-- the step that stands there
abbrev pub step_in : Place → Step
step_in (place.Own step) = step
step_in (place.Packet step) = step.now
