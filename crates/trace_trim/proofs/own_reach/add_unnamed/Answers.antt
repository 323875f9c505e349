use Rattle.std.proofs.Common.{◌<◌, ℕ, length, rules, subst, sym, arith}
use Rattle.std.specs.Prelude.{Contains, ◌↔◌, ◌⊎◌}
use Rattle.std.specs.Ordering.{nat_cmp}
use Rattle.std.proofs.lemmas.List.{take_all}
use Rattle.sat_base.specs.declared.origins.Ref.TheVariants.{Own}
use Rattle.trace_trim.specs.Packed.{unnamed}
use Rattle.trace_trim.specs.Reached.{LeadTo}
use Rattle.trace_trim.proofs.Keys.{keys_more, keys_same}
use Rattle.trace_trim.proofs.Numbers.{number-from_equal}
use Rattle.trace_trim.proofs.own_reach.add_unnamed.Goals as goal
use Rattle.trace_trim.proofs.own_reach.add_unnamed.Goals.{in-Some+in_ok-insert, in_default}

pub loop-place-preserved : goal.loop-place-preserved
loop-place-preserved c =
    let within : c.loop-place.place < length c.args.step.now.hints =
    omega (arith, c.loop-place-test.true, c.count_hints-place-end.ensures) in
    elim c.match-unnamed.branch [
      | in-Some+in_ok-insert w ↦ keys_more nat_cmp number-from_equal (unnamed c.args.names.now) c.args.pending.now.keys c.loop-place.pending.keys c.match-unnamed.pending.keys c.args.step.now.hints c.loop-place.place (Own 0) c.hint.result w.in-Some.number
          within c.hint.ensures (sym w.in-Some.ensures) (search rules) c.loop-place.invariant
      | in_default w ↦ keys_same (unnamed c.args.names.now) c.args.pending.now.keys c.loop-place.pending.keys c.match-unnamed.pending.keys c.args.step.now.hints c.loop-place.place (Own 0) c.hint.result
          within c.hint.ensures (sym w.in_default.ensures) (search rules) c.loop-place.invariant
    ]

pub returns : goal.returns
returns c = subst (λ hints. (number : ℕ) → Contains c.loop-place.pending.keys number ↔ (Contains c.args.pending.now.keys number ⊎ LeadTo (unnamed c.args.names.now) hints number))
    (take_all c.loop-place.place c.args.step.now.hints (omega (arith, c.loop-place-test.false, c.count_hints-place-end.ensures))) c.loop-place.invariant
