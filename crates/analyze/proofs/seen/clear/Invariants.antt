use Rattle.std.proofs.Common.{ℕ, drop}
use Rattle.std.specs.Prelude.{Contains, IsTrue}
use Rattle.analyze.specs.Seen.{is_seen}
use Rattle.analyze.proofs.seen.clear.Given as goal

abbrev pub invariant-loop-place : goal.invariant-loop-place
invariant-loop-place l = (place : ℕ) → IsTrue (is_seen l.seen place)
    → Contains (drop l.place-index l.place-items) place
