use Rattle.std.proofs.Common.{◌≡◌, ℕ, ◌+◌, ◌*◌, ◌++◌, map}
use Rattle.std.specs.List.{range_with_len}
use Rattle.icnf_gen.specs.Draws.{state_after}
use Rattle.icnf_gen.specs.Drawn.{drawn_cube}
use Rattle.icnf_gen.proofs.making.add_cubes.Given as goal

abbrev pub invariant-loop : goal.invariant-loop
invariant-loop l =
    (seed before : ℕ) → l.fn.draws ≡ state_after seed before →
    (l.draws ≡ state_after seed (before + 2 * l.counter))
    × (l.list.items ≡ l.fn.list.items ++ map (λ place. drawn_cube seed (before + 2 * place)) (range_with_len 0 l.counter))
