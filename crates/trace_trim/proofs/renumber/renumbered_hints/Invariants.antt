use Rattle.std.proofs.Common.{take}
use Rattle.std.specs.List.{AllZip}
use Rattle.trace_trim.specs.Trimmed.{IsRenumberedHint}
use Rattle.trace_trim.proofs.renumber.renumbered_hints.Given as goal

abbrev pub invariant-loop-place : goal.invariant-loop-place
invariant-loop-place l = AllZip (IsRenumberedHint l.names l.user) (take l.place l.step.hints) l.renumbered.items
