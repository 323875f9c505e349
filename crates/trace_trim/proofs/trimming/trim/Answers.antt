use Rattle.std.proofs.Common.{◌∙◌, ◌++◌, ◌∷◌, [], map, take, subst, sym}
use Rattle.std.specs.Prelude.{slice_index_or, Contains}
use Rattle.std.specs.Arc.{arc_value}
use Rattle.std.specs.List.{AllZip}
use Rattle.std.proofs.lemmas.List.{take_more, take_all}
use Rattle.std.proofs.lemmas.List.Elements.{Contains-get_or}
use Rattle.sat_base.specs.declared.origins.Ref.TheVariants.{Input, Own}
use Rattle.trace_trim.specs.Names.{Cites, IsBefore}
use Rattle.trace_trim.specs.Trimmed.{AreNamesReached, IsRenumbered, IsStepRenumbered}
use Rattle.trace_trim.proofs.Zips.{zip_push}
use Rattle.trace_trim.proofs.NameWalk.{IsThere, look_back}
use Rattle.trace_trim.proofs.Walk.{reached_there, cited_there}
use Rattle.trace_trim.proofs.Traced.{traced}
use Rattle.trace_trim.proofs.trimming.trim.Goals as goal

pub step_of-step-requires : goal.step_of-step-requires
step_of-step-requires c = reached_there (Cites (map arc_value c.args.packets.now) c.args.own.now) IsBefore (IsThere (map arc_value c.args.packets.now) c.args.own.now) (Own c.args.last) c.deref-name-items.result.now (slice_index_or c.deref-name-items.result.now c.loop-name.name-index (Input 0)) (look_back (map arc_value c.args.packets.now) c.args.own.now c.requires.earlier) c.requires.last
    (subst (AreNamesReached (map arc_value c.args.packets.now) c.args.own.now c.args.last) (sym c.deref-name-items.ensures.value) c.in_ok-names.ensures)
    (Contains-get_or c.deref-name-items.result.now c.loop-name.name-index (Input 0) c.loop-name-test.true)

pub renumbered_step-requires-clause-there : goal.renumbered_step-requires-clause-there
renumbered_step-requires-clause-there c = λ name citing. subst (λ names. Contains names name) (c.deref-name-items.ensures.value ∙ sym c.deref.ensures.value)
    (cited_there (Cites (map arc_value c.args.packets.now) c.args.own.now) IsBefore (Own c.args.last) c.deref-name-items.result.now (slice_index_or c.deref-name-items.result.now c.loop-name.name-index (Input 0)) name
    (subst (AreNamesReached (map arc_value c.args.packets.now) c.args.own.now c.args.last) (sym c.deref-name-items.ensures.value) c.in_ok-names.ensures)
    (Contains-get_or c.deref-name-items.result.now c.loop-name.name-index (Input 0) c.loop-name-test.true) (c.step_of-step.result, c.step_of-step.ensures, citing))

pub loop-name-preserved : goal.loop-name-preserved
loop-name-preserved c = subst (λ names. AllZip (IsRenumbered (map arc_value c.args.packets.now) c.args.own.now c.deref-name-items.result.now) names c.push.new.self.items) (sym (take_more c.deref-name-items.result.now c.loop-name.name-index (Input 0) c.loop-name-test.true))
    (subst (AllZip (IsRenumbered (map arc_value c.args.packets.now) c.args.own.now c.deref-name-items.result.now) (take c.loop-name.name-index c.deref-name-items.result.now ++ slice_index_or c.deref-name-items.result.now c.loop-name.name-index (Input 0) ∷ [])) (sym c.in_ok-push.ensures.items)
    (zip_push (IsRenumbered (map arc_value c.args.packets.now) c.args.own.now c.deref-name-items.result.now) (take c.loop-name.name-index c.deref-name-items.result.now) c.loop-name.steps.items
    (slice_index_or c.deref-name-items.result.now c.loop-name.name-index (Input 0)) c.in_ok-renumbered_step.field-0 c.loop-name.invariant
    (c.step_of-step.result, c.step_of-step.ensures, subst (λ names. IsStepRenumbered names (slice_index_or c.deref-name-items.result.now c.loop-name.name-index (Input 0)) c.step_of-step.result c.in_ok-renumbered_step.field-0) (c.deref.ensures.value ∙ sym c.deref-name-items.ensures.value) c.in_ok-renumbered_step.ensures)))

pub returns-clause-reached : goal.returns-clause-reached
returns-clause-reached c = record {
  names = c.deref-name-items.result.now;
  reached = subst (AreNamesReached (map arc_value c.args.packets.now) c.args.own.now c.args.last) (sym c.deref-name-items.ensures.value) c.in_ok-names.ensures;
  renumbered = subst (λ names. AllZip (IsRenumbered (map arc_value c.args.packets.now) c.args.own.now c.deref-name-items.result.now) names c.loop-name.steps.items) (take_all c.loop-name.name-index c.deref-name-items.result.now c.loop-name-test.false) c.loop-name.invariant;
}

pub returns-clause-trace : goal.returns-clause-trace
returns-clause-trace c = traced (map arc_value c.args.packets.now) c.args.own.now c.args.last c.loop-name.steps.items c.requires.earlier (returns-clause-reached c)
