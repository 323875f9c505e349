use Rattle.std.proofs.Common.{◌∙◌, List, map, sym, subst}
use Rattle.std.specs.Prelude.{IsSome}
use Rattle.std.specs.Arc.{arc_value}
use Rattle.std.specs.declared.sync.Arc.{Arc}
use Rattle.std.specs.declared.alloc.Global.{Global}
use Rattle.trace_core.specs.Known.{item_at}
use Rattle.trace_core.specs.declared.derivation.Packet.{Packet}
use Rattle.trace_core.specs.declared.derivation.Step.{Step}
use Rattle.trace_trim.specs.Names.{CiteEarlierSteps}
use Rattle.trace_trim.specs.Trimmed.{IsTraceWhereOk}
use Rattle.entry_core.specs.declared.answers.Answer.TheVariants.{Refuted}
use Rattle.worker_loop.specs.Asked.{IsRightOver}
use Rattle.worker_loop.proofs.Traced.{looks_back, refuted, untraced}
use Rattle.worker_loop.proofs.attempts.refutation.Goals as goal

pub returns-then-not-traces : goal.returns-then-not-traces
returns-then-not-traces c = λ cube is.
    subst (λ traces. IsRightOver traces c.args.bench.now.session.solver.inputs cube (Refuted c.args.part c.of.result)) (sym c.if-not-traces.true)
    (untraced c.args.bench.now cube c.args.part c.args.number c.of.result c.requires.fits c.steps-own.ensures.sound (c.of.ensures ∙ c.new.ensures.items) is)

pub trim-requires-clause-last : goal.trim-requires-clause-last
trim-requires-clause-last c = subst (λ (own : List Step). IsSome (item_at own c.args.number)) (sym c.steps-own.ensures.value) c.requires.there

pub trim-requires-clause-earlier : goal.trim-requires-clause-earlier
trim-requires-clause-earlier c =
    subst (λ (packets : List (Arc Packet Global)). CiteEarlierSteps (map arc_value packets) c.steps-own.result.now) (sym c.deref.ensures.value)
    (looks_back c.args.bench.now c.steps-own.result.now c.requires.fits c.steps-own.ensures.sound c.steps-own.ensures.value)

pub returns : goal.returns
returns c = λ cube is.
    subst (λ traces. IsRightOver traces c.args.bench.now.session.solver.inputs cube (Refuted c.args.part c.of-2.result)) (sym c.if-not-traces.false)
    (refuted c.args.bench.now cube c.args.part c.args.number c.steps-own.result.now c.in_ok-steps.steps.items c.of-2.result
    c.requires.fits c.steps-own.ensures.sound c.steps-own.ensures.value c.of-2.ensures is
    (subst (λ (packets : List (Arc Packet Global)). IsTraceWhereOk (map arc_value packets) c.steps-own.result.now c.args.number c.in_ok-steps.steps.items) c.deref.ensures.value c.in_ok-steps.ensures.trace))
