use Rattle.std.proofs.Common.{◌∙◌, sym, ap, subst}
use Rattle.entry_core.specs.declared.entries.Event.TheVariants as event
use Rattle.service.specs.Passes.{Knows}
use Rattle.service.proofs.Made.{TookTurn, adds_own, has_closed}
use Rattle.service.proofs.service.Service.close_input.Goals as goal

pub put_back-requires-clause-added : goal.put_back-requires-clause-added
put_back-requires-clause-added g c =
    adds_own c.close_input-answer.result _ c.close_input-answer.new.self _ _ _ (event.Closed) c.close_input-answer.ensures.ok c.close_input-answer.ensures.err
    (ap (λ p. p.seen) c.enter-held.ensures.pass.2 ∙ ap (λ b. b.journal) (sym c.value.ensures.value)) c.number.ensures.value

pub returns-clause-closed : goal.returns-clause-closed
returns-clause-closed g c =
    has_closed c.close_input-answer.result c.args.self.now.lock c.args.pass.now c.enter-held.new.pass c.put_back.new.pass c.value.result.now c.close_input-answer.new.self _ c.close_input-answer.ensures.ok
    c.requires.ready (ap (λ b. b.rules) c.value.ensures.value ∙ c.enter-held.ensures.basis) (subst (λ b. Knows c.args.pass.now b) (sym c.value.ensures.value) c.enter-held.ensures.shown)
    (subst (λ b. TookTurn c.args.pass.now c.enter-held.new.pass b.journal) (sym c.value.ensures.value) c.enter-held.ensures.pass) c.number.ensures.value c.put_back.ensures.legal c.put_back.ensures.pass
