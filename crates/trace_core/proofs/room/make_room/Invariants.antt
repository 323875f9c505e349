use Rattle.std.proofs.Common.{◌≡◌, ℕ, ◌≤◌, take, vec_len}
use Rattle.trace_core.specs.Marking.{holds, HasRoom}
use Rattle.trace_core.proofs.room.make_room.Given as goal

abbrev pub invariant-loop-lit : goal.invariant-loop-lit
invariant-loop-lit l = record {
  room : HasRoom (vec_len l.marks) (take l.lit-index l.clause);
  grown : vec_len l.initial.marks ≤ vec_len l.marks;
  holding : (lit : ℕ) → holds l.marks.items lit ≡ holds l.initial.marks.items lit;
}
