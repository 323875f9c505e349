use Rattle.std.proofs.Common.{◌∙◌, sym, ap, subst}
use Rattle.entry_core.specs.declared.entries.Event.TheVariants as event
use Rattle.service.specs.Passes.{Knows}
use Rattle.service.proofs.Made.{TookTurn, adds_own, has_cancelled}
use Rattle.service.proofs.service.Service.cancel.Goals as goal

pub put_back-requires-clause-added : goal.put_back-requires-clause-added
put_back-requires-clause-added g c =
    adds_own c.cancel-answer.result _ c.cancel-answer.new.self _ _ _ (event.Cancelled c.args.job) c.cancel-answer.ensures.ok c.cancel-answer.ensures.err
    (ap (λ p. p.seen) c.enter-held.ensures.pass.2 ∙ ap (λ b. b.journal) (sym c.value.ensures.value)) c.number.ensures.value

pub returns-clause-cancelled : goal.returns-clause-cancelled
returns-clause-cancelled g c =
    has_cancelled c.cancel-answer.result c.args.self.now.lock c.args.pass.now c.enter-held.new.pass c.put_back.new.pass c.value.result.now c.cancel-answer.new.self _ c.args.job c.cancel-answer.ensures.ok c.cancel-answer.ensures.unsettled
    c.requires.ready (ap (λ b. b.rules) c.value.ensures.value ∙ c.enter-held.ensures.basis) (subst (λ b. Knows c.args.pass.now b) (sym c.value.ensures.value) c.enter-held.ensures.shown)
    (subst (λ b. TookTurn c.args.pass.now c.enter-held.new.pass b.journal) (sym c.value.ensures.value) c.enter-held.ensures.pass) c.number.ensures.value c.put_back.ensures.legal c.put_back.ensures.pass
