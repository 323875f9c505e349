use Rattle.std.proofs.Common.{◌≡◌, ◌-◌, ◌++◌, map}
use Rattle.std.specs.List.{range_with_len}
use Rattle.icnf_gen.specs.Drawn.{implication}
use Rattle.icnf_gen.proofs.making.add_chain.Given as goal

abbrev pub invariant-loop-variable : goal.invariant-loop-variable
invariant-loop-variable l = l.list.items ≡ l.fn.list.items ++ map implication (range_with_len 101 (l.variable - 101))
