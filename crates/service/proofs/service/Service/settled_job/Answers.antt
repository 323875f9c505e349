use Rattle.std.proofs.Common.{◌∙◌, sym, ap}
use Rattle.service.proofs.Made.{adds_none}
use Rattle.service.proofs.service.Service.settled_job.Goals as goal

pub put_back-requires-clause-added : goal.put_back-requires-clause-added
put_back-requires-clause-added g c =
    adds_none _ _ _ (ap (λ p. p.seen) c.enter-held.ensures.pass.2 ∙ ap (λ b. b.journal) (sym c.value.ensures.value))
