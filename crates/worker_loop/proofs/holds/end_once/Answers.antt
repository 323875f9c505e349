use Rattle.std.proofs.Common.{◌∙◌, ap, subst, sym}
use Rattle.service.specs.Passes.{Knows}
use Rattle.service.proofs.Made.{TookTurn}
use Rattle.worker_loop.specs.Attempts.{event_of}
use Rattle.worker_loop.proofs.Served.{adds_own, ends_in_hold, ends_more, keeps_on, may_end, rests_when_ended, work_on}
use Rattle.worker_loop.proofs.holds.end_once.Goals as goal

pub leave-requires-clause-added : goal.leave-requires-clause-added
leave-requires-clause-added g c = adds_own c.value.result.now c.end_open.new.board c.number.result c.hold-held.new.pass.number c.hold-held.new.pass.seen (ends_more c.value.result.now c.end_open.new.board c.number.result c.args.number (event_of c.args.number c.args.end) c.end_open.ensures) c.number.ensures.value (ap (λ p. p.seen) c.hold-held.ensures.pass.2 ∙ ap (λ b. b.journal) (sym c.value.ensures.value))

pub end_open-requires : goal.end_open-requires
end_open-requires g c =
    may_end c.args.service.now.lock c.args.pass.now c.hold-held.new.pass c.value.result.now c.number.result c.args.number c.args.end c.requires.work
    (ap (λ b. b.rules) c.value.ensures.value ∙ c.hold-held.ensures.rules) (subst (λ b. Knows c.args.pass.now b) (sym c.value.ensures.value) c.hold-held.ensures.known)
    (subst (λ b. TookTurn c.args.pass.now c.hold-held.new.pass b.journal) (sym c.value.ensures.value) c.hold-held.ensures.pass) c.number.ensures.value c.requires.may

pub leave-requires-clause-rules : goal.leave-requires-clause-rules
leave-requires-clause-rules g c = (ends_more c.value.result.now c.end_open.new.board c.number.result c.args.number (event_of c.args.number c.args.end) c.end_open.ensures).rules ∙ ap (λ b. b.rules) c.value.ensures.value ∙ c.hold-held.ensures.rules

pub returns-clause-work : goal.returns-clause-work
returns-clause-work g c =
    work_on c.args.service.now.lock c.args.pass.now c.hold-held.new.pass c.leave.new.pass c.value.result.now c.end_open.new.board c.number.result c.requires.work (ap (λ b. b.rules) c.value.ensures.value ∙ c.hold-held.ensures.rules)
    (subst (λ b. TookTurn c.args.pass.now c.hold-held.new.pass b.journal) (sym c.value.ensures.value) c.hold-held.ensures.pass) (ends_more c.value.result.now c.end_open.new.board c.number.result c.args.number (event_of c.args.number c.args.end) c.end_open.ensures) c.leave.ensures.legal c.leave.ensures.keeps c.leave.ensures.pass

pub returns-clause-keeps : goal.returns-clause-keeps
returns-clause-keeps g c =
    keeps_on c.args.service.now.lock c.args.pass.now c.hold-held.new.pass c.leave.new.pass c.value.result.now c.end_open.new.board c.number.result (subst (λ b. Knows c.args.pass.now b) (sym c.value.ensures.value) c.hold-held.ensures.known)
    (subst (λ b. TookTurn c.args.pass.now c.hold-held.new.pass b.journal) (sym c.value.ensures.value) c.hold-held.ensures.pass) (ends_more c.value.result.now c.end_open.new.board c.number.result c.args.number (event_of c.args.number c.args.end) c.end_open.ensures) c.leave.ensures.keeps c.leave.ensures.pass

pub returns-clause-rests : goal.returns-clause-rests
returns-clause-rests g c =
    rests_when_ended c.args.service.now.lock c.args.pass.now c.hold-held.new.pass c.leave.new.pass c.value.result.now c.end_open.new.board c.number.result c.args.number c.args.end c.requires.work
    (ap (λ b. b.rules) c.value.ensures.value ∙ c.hold-held.ensures.rules) (subst (λ b. Knows c.args.pass.now b) (sym c.value.ensures.value) c.hold-held.ensures.known)
    (subst (λ b. TookTurn c.args.pass.now c.hold-held.new.pass b.journal) (sym c.value.ensures.value) c.hold-held.ensures.pass) c.number.ensures.value c.requires.may c.end_open.ensures c.leave.ensures.legal c.leave.ensures.pass

pub returns-clause-ended : goal.returns-clause-ended
returns-clause-ended g c =
    ends_in_hold c.args.service.now.lock c.args.pass.now c.hold-held.new.pass c.leave.new.pass c.value.result.now c.end_open.new.board c.number.result c.args.number (event_of c.args.number c.args.end) c.requires.work.ready
    (ap (λ b. b.rules) c.value.ensures.value ∙ c.hold-held.ensures.rules) (subst (λ b. Knows c.args.pass.now b) (sym c.value.ensures.value) c.hold-held.ensures.known)
    (subst (λ b. TookTurn c.args.pass.now c.hold-held.new.pass b.journal) (sym c.value.ensures.value) c.hold-held.ensures.pass) c.number.ensures.value c.end_open.ensures c.leave.ensures.legal c.leave.ensures.pass
