use Rattle.std.proofs.Common.{ℕ, take}
use Rattle.std.specs.Prelude.{Contains, ◌↔◌, ◌⊎◌}
use Rattle.trace_trim.specs.Packed.{unnamed}
use Rattle.trace_trim.specs.Reached.{LeadTo}
use Rattle.trace_trim.proofs.own_reach.add_unnamed.Given as goal

abbrev pub invariant-loop-place : goal.invariant-loop-place
invariant-loop-place l = (number : ℕ) → Contains l.pending.keys number ↔ (Contains l.initial.pending.keys number ⊎ LeadTo (unnamed l.names) (take l.place l.step.hints) number)
