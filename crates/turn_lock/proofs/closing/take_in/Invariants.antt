use Rattle.std.proofs.Common.{◌≡◌, true, List, [], ◌++◌, map, All, vec_len}
use Rattle.turn_lock.specs.Turns.{keeper}
use Rattle.turn_lock.specs.Passes.{PassView, remembered}
use Rattle.turn_lock.proofs.closing.take_in.Given as goal

abbrev pub invariant-loop-pass : goal.invariant-loop-pass
invariant-loop-pass g l = record {
  taken : (gone : List (PassView g.row.T-Entry.Denot g.row.T-Ground.Denot)) × (l.initial.passes.items ≡ l.passes.items ++ gone)
      × (l.seat.me ≡ (keeper (map remembered gone ++ l.initial.seat.me.0.past), []));
  left : All (λ pass. (pass.lock ≡ l.shared.table_id) × (pass.idle ≡ true)) l.passes.items;
  table : l.seat.table_id ≡ l.shared.table_id;
}

abbrev pub decreases-loop-pass : goal.decreases-loop-pass
decreases-loop-pass g l = vec_len l.passes
