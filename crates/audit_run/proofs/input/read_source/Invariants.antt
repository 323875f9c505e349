use Rattle.std.proofs.Common.{◌≡◌, ◌≤◌, ◌-◌, false, length}
use Rattle.run_io.specs.Bytes.{followed_by}
use Rattle.audit_run.proofs.input.read_source.Given as goal

abbrev pub invariant-loop-alloc : goal.invariant-loop-alloc
invariant-loop-alloc g l = record {
  read : g.S.Source.left l.fn.source ≡ followed_by l.text.items (g.S.Source.left l.source);
  faults : g.S.Source.faults l.source ≡ g.S.Source.faults l.fn.source;
  ended : g.S.Source.ended l.source ≡ false;
  limit : length l.text.items ≤ 4294967297;
}

abbrev pub decreases-loop-alloc : goal.decreases-loop-alloc
decreases-loop-alloc g l = 4294967297 - length l.text.items
