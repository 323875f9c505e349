use Rattle.std.proofs.Common.{◌≡◌, ◌<◌, ℕ, List, ◌++◌, map, All}
use Rattle.turn_lock.specs.declared.view.Look.TheVariants.{Turn}
use Rattle.turn_lock.proofs.lock.TurnLock.enter.Given as goal

abbrev pub invariant-loop : goal.invariant-loop
invariant-loop g l = record {
  can : (goal.iterator-loop g).can_next l.iterator';
  ends : (goal.iterator-loop g).is_finite l.iterator';
  looks : (found : List ℕ) × All (λ word. 0 < word) found × (l.pass ≡ record l.initial.pass { looks = l.initial.pass.looks ++ map Turn found });
}
