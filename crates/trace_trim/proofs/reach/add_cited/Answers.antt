use Rattle.std.proofs.Common.{◌<◌, length, rules, subst, sym, arith}
use Rattle.std.specs.Prelude.{Contains, ◌↔◌, ◌⊎◌}
use Rattle.std.proofs.lemmas.List.{take_all}
use Rattle.sat_base.specs.contracts.origins.RefOrd.TheImpl as ref_ord
use Rattle.sat_base.specs.declared.origins.Ref.{Ref}
use Rattle.sat_base.specs.declared.origins.Ref.TheVariants.{Own}
use Rattle.trace_trim.specs.Names.{AreCiting, cited}
use Rattle.trace_trim.proofs.Keys.{keys_more, keys_same}
use Rattle.trace_trim.proofs.Order.{same-from_equal}
use Rattle.trace_trim.proofs.reach.add_cited.Goals as goal
use Rattle.trace_trim.proofs.reach.add_cited.Goals.{in-Some+in_ok-insert, in_default}

pub loop-place-preserved : goal.loop-place-preserved
loop-place-preserved c =
    let within : c.loop-place.place < length c.args.step.now.hints =
    omega (arith, c.loop-place-test.true, c.count_hints-place-end.ensures) in
    elim c.match-cited_by.branch [
      | in-Some+in_ok-insert w ↦ keys_more (ref_ord.cmp-value).it same-from_equal (cited c.args.user) c.args.pending.now.keys c.loop-place.pending.keys c.match-cited_by.pending.keys c.args.step.now.hints c.loop-place.place (Own 0) c.hint.result w.in-Some.name
          within c.hint.ensures (sym w.in-Some.ensures) (search rules) c.loop-place.invariant
      | in_default w ↦ keys_same (cited c.args.user) c.args.pending.now.keys c.loop-place.pending.keys c.match-cited_by.pending.keys c.args.step.now.hints c.loop-place.place (Own 0) c.hint.result
          within c.hint.ensures (sym w.in_default.ensures) (search rules) c.loop-place.invariant
    ]

pub returns : goal.returns
returns c = subst (λ hints. (name : Ref) → Contains c.loop-place.pending.keys name ↔ (Contains c.args.pending.now.keys name ⊎ AreCiting c.args.user hints name))
    (take_all c.loop-place.place c.args.step.now.hints (omega (arith, c.loop-place-test.false, c.count_hints-place-end.ensures))) c.loop-place.invariant
