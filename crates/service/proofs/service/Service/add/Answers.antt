use Rattle.std.proofs.Common.{◌∙◌, sym, ap, subst}
use Rattle.entry_core.specs.declared.entries.Event.TheVariants as event
use Rattle.service.specs.Passes.{Knows}
use Rattle.service.proofs.Made.{TookTurn, adds_own, has_added}
use Rattle.service.proofs.service.Service.add.Goals as goal

pub put_back-requires-clause-added : goal.put_back-requires-clause-added
put_back-requires-clause-added g c =
    adds_own c.add-answer.result _ c.add-answer.new.self _ _ _ (event.Added c.in-Ok.segment) c.add-answer.ensures.ok c.add-answer.ensures.err
    (ap (λ p. p.seen) c.enter-held.ensures.pass.2 ∙ ap (λ b. b.journal) (sym c.value.ensures.value)) c.number.ensures.value

pub returns-clause-added : goal.returns-clause-added
returns-clause-added g c =
    has_added c.add-answer.result c.args.self.now.lock c.args.pass.now c.enter-held.new.pass c.put_back.new.pass c.value.result.now c.add-answer.new.self _ c.in-Ok.segment _ c.add-answer.ensures.ok c.add-answer.ensures.number c.add-answer.ensures.allowed c.in-Ok.ensures.ok
    c.requires.ready (ap (λ b. b.rules) c.value.ensures.value ∙ c.enter-held.ensures.basis) (subst (λ b. Knows c.args.pass.now b) (sym c.value.ensures.value) c.enter-held.ensures.shown)
    (subst (λ b. TookTurn c.args.pass.now c.enter-held.new.pass b.journal) (sym c.value.ensures.value) c.enter-held.ensures.pass) c.number.ensures.value c.put_back.ensures.legal c.put_back.ensures.pass
