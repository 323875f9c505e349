use Rattle.std.proofs.Common.{◌∙◌, List, ap, map, refl, subst, sym}
use Rattle.std.specs.Prelude.{IfOk}
use Rattle.std.specs.Arc.{arc_value}
use Rattle.entry_core.specs.declared.entries.Entry.{Entry}
use Rattle.service.specs.Passes.{Knows}
use Rattle.service.proofs.Made.{TookTurn}
use Rattle.worker_loop.specs.declared.holds.Needs.{Needs}
use Rattle.worker_loop.specs.Segments.{AreSegments}
use Rattle.worker_loop.proofs.Holding.{fits_seen, job_seen, sliced}
use Rattle.worker_loop.proofs.Sharings.{shared_none}
use Rattle.worker_loop.proofs.holds.look_once.Goals as goal

pub look-answer-requires-clause-fits : goal.look-answer-requires-clause-fits
look-answer-requires-clause-fits g c = fits_seen c.args.bench.now c.args.pass.now c.value.result.now (subst (λ b. Knows c.args.pass.now b) (sym c.value.ensures.value) c.hold-held.ensures.known) c.requires.fits

pub look-answer-requires-clause-job : goal.look-answer-requires-clause-job
look-answer-requires-clause-job g c = job_seen c.args.service.now.lock c.args.pass.now c.value.result.now c.args.job (subst (λ b. Knows c.args.pass.now b) (sym c.value.ensures.value) c.hold-held.ensures.known) c.requires.job

pub returns-clause-on : goal.returns-clause-on
returns-clause-on g c = λ number at.
    (sliced c.args.service.now.lock c.args.pass.now c.hold-held.new.pass c.leave.new.pass c.value.result.now c.value.result.now c.hold-held.new.pass.number number c.args.job c.requires.work
    (ap (λ b. b.rules) c.value.ensures.value ∙ c.hold-held.ensures.rules) (subst (λ b. Knows c.args.pass.now b) (sym c.value.ensures.value) c.hold-held.ensures.known)
    (subst (λ b. TookTurn c.args.pass.now c.hold-held.new.pass b.journal) (sym c.value.ensures.value) c.hold-held.ensures.pass)
    (shared_none c.value.result.now c.hold-held.new.pass.number) refl c.leave.ensures.legal c.leave.ensures.keeps c.leave.ensures.pass at).on

pub returns-clause-unloaded : goal.returns-clause-unloaded
returns-clause-unloaded g c =
    subst (λ (entries : List Entry). IfOk c.look-answer.result (λ (needs : Needs). AreSegments entries c.args.bench.now.session.solver.bound (map arc_value needs.unloaded.items)))
    (sym (ap (λ p. p.seen) c.leave.ensures.pass)) c.look-answer.ensures.unloaded
