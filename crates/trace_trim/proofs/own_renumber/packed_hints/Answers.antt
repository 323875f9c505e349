use Rattle.std.proofs.Common.{◌<◌, ◌++◌, ◌∷◌, [], length, take, subst, sym, arith}
use Rattle.std.specs.Prelude.{slice_index_or, Contains}
use Rattle.std.specs.List.{AllZip}
use Rattle.std.proofs.lemmas.List.{take_more, take_all}
use Rattle.std.proofs.lemmas.List.Elements.{AllZip-push, Contains-get_or}
use Rattle.sat_base.specs.declared.origins.Ref.TheVariants.{Own}
use Rattle.trace_trim.specs.Packed.{IsPackedHint}
use Rattle.trace_trim.proofs.own_renumber.packed_hints.Goals as goal

pub packed_hint-requires-clause-there : goal.packed_hint-requires-clause-there
packed_hint-requires-clause-there c =
    let within : c.loop-place.place < length c.args.step.now.hints =
    omega (arith, c.loop-place-test.true, c.count_hints-place-end.ensures) in
    λ number is. c.requires.there number (c.hint.result, subst (Contains c.args.step.now.hints) (sym c.hint.ensures) (Contains-get_or c.args.step.now.hints c.loop-place.place (Own 0) within), is)

pub loop-place-preserved : goal.loop-place-preserved
loop-place-preserved c =
    let within : c.loop-place.place < length c.args.step.now.hints =
    omega (arith, c.loop-place-test.true, c.count_hints-place-end.ensures) in
    subst (λ hints. AllZip (IsPackedHint c.args.names.now c.args.numbers.now) hints c.push.new.self.items) (sym (take_more c.args.step.now.hints c.loop-place.place (Own 0) within))
    (subst (AllZip (IsPackedHint c.args.names.now c.args.numbers.now) (take c.loop-place.place c.args.step.now.hints ++ slice_index_or c.args.step.now.hints c.loop-place.place (Own 0) ∷ [])) (sym c.in_ok-push.ensures.items)
    (AllZip-push (IsPackedHint c.args.names.now c.args.numbers.now) (take c.loop-place.place c.args.step.now.hints) c.loop-place.renumbered.items (slice_index_or c.args.step.now.hints c.loop-place.place (Own 0)) c.packed_hint.result c.loop-place.invariant
    (subst (λ hint. IsPackedHint c.args.names.now c.args.numbers.now hint c.packed_hint.result) c.hint.ensures c.packed_hint.ensures)))

pub returns : goal.returns
returns c = subst (λ hints. AllZip (IsPackedHint c.args.names.now c.args.numbers.now) hints c.loop-place.renumbered.items)
    (take_all c.loop-place.place c.args.step.now.hints (omega (arith, c.loop-place-test.false, c.count_hints-place-end.ensures))) c.loop-place.invariant
