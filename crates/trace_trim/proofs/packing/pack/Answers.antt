use Rattle.std.proofs.Common.{◌∙◌, ◌<◌, ◌++◌, ◌∷◌, [], take, subst, sym}
use Rattle.std.specs.Prelude.{slice_index_or, Contains}
use Rattle.std.specs.List.{AllZip}
use Rattle.std.proofs.lemmas.List.{take_more, take_all}
use Rattle.std.proofs.lemmas.List.Elements.{Contains-get_or}
use Rattle.trace_trim.specs.Packed.{RestsOn, AreNumbersPacked, IsPackedHint, IsPackedStep, IsPack}
use Rattle.trace_trim.specs.Trimmed.{IsStepWithHints}
use Rattle.trace_trim.proofs.OwnWalk.{IsThere, looks_back}
use Rattle.trace_trim.proofs.Packed.{packed_ok, packed_ends, packed_of_own, packed_tags}
use Rattle.trace_trim.proofs.Walk.{reached_there, cited_there}
use Rattle.trace_trim.proofs.Zips.{zip_push}
use Rattle.trace_trim.proofs.packing.pack.Goals as goal

pub own_step-step-requires : goal.own_step-step-requires
own_step-step-requires c = reached_there (RestsOn c.args.own.now c.args.names.now) (λ m n. m < n) (IsThere c.args.own.now) c.args.last c.deref-number-items.result.now (slice_index_or c.deref-number-items.result.now c.loop-number.number-index 0)
    (looks_back c.args.own.now c.args.names.now c.requires.earlier) c.requires.last
    (subst (AreNumbersPacked c.args.own.now c.args.names.now c.args.last) (sym c.deref-number-items.ensures.value) c.in_ok-numbers.ensures)
    (Contains-get_or c.deref-number-items.result.now c.loop-number.number-index 0 c.loop-number-test.true)

pub packed_step-requires-clause-there : goal.packed_step-requires-clause-there
packed_step-requires-clause-there c = λ number leads. subst (λ numbers. Contains numbers number) (c.deref-number-items.ensures.value ∙ sym c.deref.ensures.value)
    (cited_there (RestsOn c.args.own.now c.args.names.now) (λ m n. m < n) c.args.last c.deref-number-items.result.now (slice_index_or c.deref-number-items.result.now c.loop-number.number-index 0) number
    (subst (AreNumbersPacked c.args.own.now c.args.names.now c.args.last) (sym c.deref-number-items.ensures.value) c.in_ok-numbers.ensures)
    (Contains-get_or c.deref-number-items.result.now c.loop-number.number-index 0 c.loop-number-test.true) (c.own_step-step.result, c.own_step-step.ensures, leads))

pub loop-number-preserved : goal.loop-number-preserved
loop-number-preserved c = subst (λ numbers. AllZip (IsPackedStep c.args.own.now c.args.names.now c.deref-number-items.result.now) numbers c.push.new.self.items) (sym (take_more c.deref-number-items.result.now c.loop-number.number-index 0 c.loop-number-test.true))
    (subst (AllZip (IsPackedStep c.args.own.now c.args.names.now c.deref-number-items.result.now) (take c.loop-number.number-index c.deref-number-items.result.now ++ slice_index_or c.deref-number-items.result.now c.loop-number.number-index 0 ∷ [])) (sym c.in_ok-push.ensures.items)
    (zip_push (IsPackedStep c.args.own.now c.args.names.now c.deref-number-items.result.now) (take c.loop-number.number-index c.deref-number-items.result.now) c.loop-number.steps.items
    (slice_index_or c.deref-number-items.result.now c.loop-number.number-index 0) c.in_ok-packed_step.field-0 c.loop-number.invariant
    (c.own_step-step.result, c.own_step-step.ensures, subst (λ numbers. IsStepWithHints (IsPackedHint c.args.names.now numbers) c.own_step-step.result c.in_ok-packed_step.field-0) (c.deref.ensures.value ∙ sym c.deref-number-items.ensures.value) c.in_ok-packed_step.ensures)))

pub returns-clause-pack : goal.returns-clause-pack
returns-clause-pack c = subst (IsPack c.args.own.now c.args.names.now c.args.last) (sym c.of.ensures) (record {
  numbers = c.deref-number-items.result.now;
  reached = subst (AreNumbersPacked c.args.own.now c.args.names.now c.args.last) (sym c.deref-number-items.ensures.value) c.in_ok-numbers.ensures;
  packed = subst (λ numbers. AllZip (IsPackedStep c.args.own.now c.args.names.now c.deref-number-items.result.now) numbers c.loop-number.steps.items) (take_all c.loop-number.number-index c.deref-number-items.result.now c.loop-number-test.false) c.loop-number.invariant;
})

pub returns-clause-ok : goal.returns-clause-ok
returns-clause-ok c = packed_ok c.args.own.now c.args.names.now c.args.last c.of.result c.requires.earlier (returns-clause-pack c)

pub returns-clause-ends : goal.returns-clause-ends
returns-clause-ends c = packed_ends c.args.own.now c.args.names.now c.args.last c.of.result (returns-clause-pack c)

pub returns-clause-tags : goal.returns-clause-tags
returns-clause-tags c = packed_tags c.args.own.now c.args.names.now c.args.last c.of.result (returns-clause-pack c)

pub returns-clause-of_own : goal.returns-clause-of_own
returns-clause-of_own c = packed_of_own c.args.own.now c.args.names.now c.args.last c.of.result (returns-clause-pack c)
