use Rattle.std.proofs.Common.{take}
use Rattle.std.specs.List.{AllZip}
use Rattle.trace_trim.specs.Packed.{IsPackedHint}
use Rattle.trace_trim.proofs.own_renumber.packed_hints.Given as goal

abbrev pub invariant-loop-place : goal.invariant-loop-place
invariant-loop-place l = AllZip (IsPackedHint l.names l.numbers) (take l.place l.step.hints) l.renumbered.items
