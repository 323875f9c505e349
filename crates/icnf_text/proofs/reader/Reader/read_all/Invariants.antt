use Rattle.std.proofs.Common.{◌≡◌, ◌++◌, ◌-◌, ◌≤◌, take, length}
use Rattle.icnf_text.specs.Machine.{read_bytes, quiet}
use Rattle.icnf_text.proofs.reader.Reader.read_all.Given as goal

abbrev pub invariant-loop-at : goal.invariant-loop-at
invariant-loop-at l = record {
  within : l.at ≤ length l.piece;
  state : l.self ≡ (read_bytes (quiet l.fn.self) (take l.at l.piece)).state;
  given : l.given.items ≡ l.fn.given.items ++ (read_bytes (quiet l.fn.self) (take l.at l.piece)).given;
}

abbrev pub decreases-loop-at : goal.decreases-loop-at
decreases-loop-at l = length l.piece - l.at
