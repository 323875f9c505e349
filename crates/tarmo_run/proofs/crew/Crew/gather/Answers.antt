use Rattle.std.proofs.Common.{◌≡◌, ◌∙◌, ◌+◌, List, [], ◌∷◌, ap, arith, length, refl, sym}
use Rattle.entry_core.specs.declared.rules.Rules.{Rules}
use Rattle.service.specs.Passes.{BoardPass}
use Rattle.tarmo_run.specs.declared.writer.Writer.{Writer}
use Rattle.tarmo_run.proofs.Gathering.{both_popped, gathered}
use Rattle.tarmo_run.proofs.crew.Crew.gather.Goals as goal

pub returns-clause-gathered : goal.returns-clause-gathered
returns-clause-gathered c =
    let two = ap (λ (rules : Rules). rules.clients) c.in_ok-service.ensures.rules
    ∙ c.requires.clients in
    let passes : 2 + length c.in_ok-service.workers.items ≡ c.in_ok-service.service.lock.passes =
    omega (
      arith,
      c.in_ok-service.ensures.number,
      c.in_ok-service.ensures.lengths.1,
      c.requires.clients,
    ) in
    let list = both_popped c.in_ok-service.clients.items c.pop.new.self.items
    c.pop-2.new.self.items c.in-Some-pop.first c.in-Some.second c.in-Some.ensures.items
    c.in-Some-pop.ensures.items (c.in_ok-service.ensures.lengths.0 ∙ c.requires.clients)
    ∙ ap (λ (pass : BoardPass). c.in-Some-pop.first ∷ pass ∷ []) (sym c.new-printer.ensures.pass) in
    gathered _ c.in_ok-service.clients.items list two passes c.in_ok-service.ensures.passes
    c.in_ok-service.ensures.workers refl c.new.ensures
    (ap (λ (w : Writer). w.written) c.new-printer.ensures.writer ∙ c.new-2.ensures.written)
    (ap (λ (w : Writer). w.inputs) c.new-printer.ensures.writer ∙ c.new-2.ensures.inputs)
    c.new-printer.ensures.failed (c.in_ok-room.ensures.items, c.in_ok-room.ensures.len)
    c.in_ok-room.ensures.capacity
