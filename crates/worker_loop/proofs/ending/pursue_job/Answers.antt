use Rattle.std.proofs.Common.{◌∙◌, ap, subst, sym}
use Rattle.std.specs.Prelude.{IfOk}
use Rattle.std.proofs.lemmas.Result.{IfOk-weaker}
use Rattle.entry_core.specs.declared.rules.Rules.{Rules}
use Rattle.entry_core.specs.declared.segments.Segment.{Segment}
use Rattle.entry_core.specs.Journal.{cube_in, inputs_of}
use Rattle.worker_loop.specs.Asked.{IsEndOver}
use Rattle.worker_loop.specs.Ends.{IsEnd}
use Rattle.worker_loop.specs.Rounds.{HasPursued}
use Rattle.worker_loop.proofs.Asked.{end_for_job}
use Rattle.worker_loop.proofs.Keeping.{pursued}
use Rattle.worker_loop.proofs.ending.pursue_job.Goals as goal

pub returns-clause-end : goal.returns-clause-end
returns-clause-end c =
    subst (λ (r : Rules). IfOk c.pursue.result (IsEnd r c.args.board.now.journal c.args.job)) c.rules-rules.ensures.value
    (IfOk-weaker c.pursue.result (IsEndOver c.rules-rules.result.now.traces c.bring_to.new.bench.session.solver.inputs c.in_ok-cube.cube c.rules-rules.result.now.conflicts) (IsEnd c.rules-rules.result.now c.args.board.now.journal c.args.job)
    (λ end is. end_for_job c.rules-rules.result.now c.args.board.now.journal c.bring_to.new.bench.session.solver.inputs c.in_ok-cube.cube c.args.job end
    (c.in_ok-bring_to.ensures.fits.inputs ∙ ap (inputs_of c.args.board.now.journal) c.in_ok-bring_to.ensures.bound)
    (c.in_ok-cube.ensures ∙ ap (λ (s : Segment). s.cube) c.deref.ensures ∙ sym (ap cube_in c.in_ok-segment.ensures)) is)
    c.pursue.ensures.end)

pub returns-clause-pursued : goal.returns-clause-pursued
returns-clause-pursued c =
    subst (λ (r : Rules). IfOk c.pursue.result (HasPursued c.args.bench.now.session.solver c.pursue.new.bench.session.solver c.args.job r.conflicts)) c.rules-rules.ensures.value
    (pursued c.args.bench.now.session.solver c.bring_to.new.bench.session.solver c.pursue.new.bench.session.solver c.args.job c.rules-rules.result.now.conflicts _ c.pursue.new.attempt c.pursue.result
    c.bring_to.ensures.learnt c.new.ensures.items c.pursue.ensures.learnt c.pursue.ensures.spent)
