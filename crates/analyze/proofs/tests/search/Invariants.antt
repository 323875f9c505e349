use Rattle.std.proofs.Common.{◌≡◌}
use Rattle.propagate.specs.Pairing.{IsSettled}
use Rattle.analyze.specs.Conflict.{IsReady}
use Rattle.analyze.proofs.tests.search.Given as goal

abbrev pub invariant-loop-lit : goal.invariant-loop-lit
invariant-loop-lit l = record {
  store_vars : l.store.vars ≡ l.fn.store.vars;
  vars : l.trail.vars ≡ l.fn.trail.vars;
  ready : IsReady l.store.clauses l.trail;
  settled : IsSettled l.store l.trail;
}
