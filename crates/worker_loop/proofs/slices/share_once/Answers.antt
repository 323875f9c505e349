use Rattle.std.proofs.Common.{◌∙◌, ap, subst, sym}
use Rattle.service.specs.Passes.{Knows}
use Rattle.service.proofs.Made.{TookTurn}
use Rattle.worker_loop.proofs.Holding.{fits_seen, job_seen, shared_in_hold, sliced}
use Rattle.worker_loop.proofs.slices.share_once.Goals as goal

pub share_and_look-answer-requires-clause-fits : goal.share_and_look-answer-requires-clause-fits
share_and_look-answer-requires-clause-fits g c =
    fits_seen c.args.bench.now c.args.pass.now c.value.result.now (subst (λ b. Knows c.args.pass.now b) (sym c.value.ensures.value) c.hold-held.ensures.known) c.requires.fits

pub share_and_look-answer-requires-clause-job : goal.share_and_look-answer-requires-clause-job
share_and_look-answer-requires-clause-job g c =
    job_seen c.args.service.now.lock c.args.pass.now c.value.result.now c.args.job (subst (λ b. Knows c.args.pass.now b) (sym c.value.ensures.value) c.hold-held.ensures.known) c.requires.job

pub returns-clause-sliced : goal.returns-clause-sliced
returns-clause-sliced g c = λ number at.
    sliced c.args.service.now.lock c.args.pass.now c.hold-held.new.pass c.leave.new.pass c.value.result.now c.share_and_look-answer.new.board c.number.result number c.args.job c.requires.work
    (ap (λ b. b.rules) c.value.ensures.value ∙ c.hold-held.ensures.rules) (subst (λ b. Knows c.args.pass.now b) (sym c.value.ensures.value) c.hold-held.ensures.known)
    (subst (λ b. TookTurn c.args.pass.now c.hold-held.new.pass b.journal) (sym c.value.ensures.value) c.hold-held.ensures.pass)
    c.share_and_look-answer.ensures.more c.number.ensures.value c.leave.ensures.legal c.leave.ensures.keeps c.leave.ensures.pass at

pub returns-clause-hold : goal.returns-clause-hold
returns-clause-hold g c =
    shared_in_hold c.args.service.now.lock c.args.pass.now c.hold-held.new.pass c.leave.new.pass c.value.result.now c.share_and_look-answer.new.board c.number.result c.requires.work
    (ap (λ b. b.rules) c.value.ensures.value ∙ c.hold-held.ensures.rules) (subst (λ b. Knows c.args.pass.now b) (sym c.value.ensures.value) c.hold-held.ensures.known)
    (subst (λ b. TookTurn c.args.pass.now c.hold-held.new.pass b.journal) (sym c.value.ensures.value) c.hold-held.ensures.pass)
    c.share_and_look-answer.ensures.more c.number.ensures.value c.leave.ensures.legal c.leave.ensures.pass
