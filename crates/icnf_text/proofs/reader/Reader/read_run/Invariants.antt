use Rattle.std.proofs.Common.{◌≡◌, ◌+◌, ◌++◌, ◌-◌, ◌≤◌, take, length}
use Rattle.icnf_text.specs.Ahead.{IsBetween}
use Rattle.icnf_text.specs.Machine.{read_bytes, quiet}
use Rattle.icnf_text.proofs.reader.Reader.read_run.Given as goal

abbrev pub invariant-loop-at : goal.invariant-loop-at
invariant-loop-at l = record {
  within : l.at ≤ length l.bytes;
  state : l.self ≡ (read_bytes (quiet l.fn.self) (take l.at l.bytes)).state;
  given : l.given.items ≡ l.fn.given.items ++ (read_bytes (quiet l.fn.self) (take l.at l.bytes)).given;
  between : IsBetween l.self;
  room : l.self.bytes + (length l.bytes - l.at) ≤ 4294967296;
}

abbrev pub decreases-loop-at : goal.decreases-loop-at
decreases-loop-at l = length l.bytes - l.at
