use Rattle.std.proofs.Common.{◌≡◌, ◌*◌, ◌++◌}
use Rattle.std.specs.List.{flat_map, range_with_len}
use Rattle.icnf_gen.specs.Draws.{state_after}
use Rattle.icnf_gen.specs.Drawn.{stretch}
use Rattle.icnf_gen.proofs.making.add_stretches.Given as goal

abbrev pub invariant-loop : goal.invariant-loop
invariant-loop l = record {
  state : l.draws ≡ state_after l.fn.draws (56 * l.counter);
  statements : l.list.items ≡ l.fn.list.items ++ flat_map (λ place. stretch l.fn.draws (56 * place)) (range_with_len 0 l.counter);
}
