use Rattle.std.proofs.Common.{take, map}
use Rattle.std.specs.Arc.{arc_value}
use Rattle.std.specs.List.{AllZip}
use Rattle.trace_trim.specs.Trimmed.{IsRenumbered}
use Rattle.trace_trim.proofs.trimming.trim.Given as goal

abbrev pub invariant-loop-name : goal.invariant-loop-name
invariant-loop-name l = AllZip (IsRenumbered (map arc_value l.packets) l.own l.name-items) (take l.name-index l.name-items) l.steps.items
