use Rattle.std.proofs.Common.{take}
use Rattle.std.specs.List.{AllZip}
use Rattle.trace_trim.specs.Packed.{IsPackedStep}
use Rattle.trace_trim.proofs.packing.pack.Given as goal

abbrev pub invariant-loop-number : goal.invariant-loop-number
invariant-loop-number l = AllZip (IsPackedStep l.own l.names l.number-items) (take l.number-index l.number-items) l.steps.items
