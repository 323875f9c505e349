use Rattle.std.proofs.Common.{take}
use Rattle.std.specs.Prelude.{Contains, ◌↔◌, ◌⊎◌}
use Rattle.sat_base.specs.declared.origins.Ref.{Ref}
use Rattle.trace_trim.specs.Names.{AreCiting}
use Rattle.trace_trim.proofs.reach.add_cited.Given as goal

abbrev pub invariant-loop-place : goal.invariant-loop-place
invariant-loop-place l = (name : Ref) → Contains l.pending.keys name ↔ (Contains l.initial.pending.keys name ⊎ AreCiting l.user (take l.place l.step.hints) name)
