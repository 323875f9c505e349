use Rattle.std.proofs.Common.{◌∙◌, Some, ap, subst, sym}
use Rattle.entry_core.specs.declared.entries.Event.TheVariants as event
use Rattle.entry_core.specs.declared.rules.Rules.{Rules}
use Rattle.entry_core.specs.Legal.{IsLegal}
use Rattle.service.specs.Passes.{Knows}
use Rattle.service.proofs.Made.{TookTurn}
use Rattle.worker_loop.specs.declared.ends.End.TheVariants.{Answered}
use Rattle.worker_loop.proofs.Served.{adds_own, ends_more, open_before, right_before}
use Rattle.worker_loop.proofs.tests.schedules.decide.Goals as goal

pub decide_open-decided-requires : goal.decide_open-decided-requires
decide_open-decided-requires g c = λ legal.
    let lock = c.args.service.now.lock in
    let old = c.args.found.pass in
    let mid = c.hold-held.new.pass in
    let before = c.value.result.now in
    let number = c.args.found.attempt.number in
    let job = c.args.found.attempt.job in
    let at = ap (λ b. b.rules) c.value.ensures.value ∙ c.hold-held.ensures.rules in
    let known = subst (λ b. Knows old b) (sym c.value.ensures.value) c.hold-held.ensures.known in
    let took = subst (λ b. TookTurn old mid b.journal) (sym c.value.ensures.value) c.hold-held.ensures.pass in
    let here = open_before lock old mid before c.number.result number job c.requires.work at known took c.number.ensures.value (subst (λ (r : Rules). IsLegal r before.journal) at legal) c.requires.open in
    record { own = here.own; right = right_before lock old before number job (Some (Answered c.args.found.answer)) at known c.requires.open here.at_job c.requires.right }

pub leave-requires-clause-added : goal.leave-requires-clause-added
leave-requires-clause-added g c =
    adds_own c.value.result.now c.decide_open-decided.new.board c.number.result c.hold-held.new.pass.number c.hold-held.new.pass.seen
    (ends_more c.value.result.now c.decide_open-decided.new.board c.number.result c.args.found.attempt.number (event.Decided c.args.found.attempt.number c.args.found.answer) c.decide_open-decided.ensures) c.number.ensures.value
    (ap (λ p. p.seen) c.hold-held.ensures.pass.2 ∙ ap (λ b. b.journal) (sym c.value.ensures.value))

pub leave-requires-clause-rules : goal.leave-requires-clause-rules
leave-requires-clause-rules g c =
    (ends_more c.value.result.now c.decide_open-decided.new.board c.number.result c.args.found.attempt.number (event.Decided c.args.found.attempt.number c.args.found.answer) c.decide_open-decided.ensures).rules
    ∙ ap (λ b. b.rules) c.value.ensures.value ∙ c.hold-held.ensures.rules
