use Rattle.std.proofs.Common.{◌∙◌, ap, subst, sym}
use Rattle.service.specs.Passes.{Knows}
use Rattle.service.proofs.Made.{TookTurn}
use Rattle.worker_loop.proofs.Served.{adds_own, has_taken, keeps_on, looked_on, rests_on, takes_in_hold, took_own, wanted_on, work_on}
use Rattle.worker_loop.proofs.holds.take_once.Goals as goal

pub leave-requires-clause-added : goal.leave-requires-clause-added
leave-requires-clause-added g c = adds_own c.value.result.now c.take-answer.new.self c.number.result c.hold-held.new.pass.number c.hold-held.new.pass.seen (took_own c.value.result.now c.take-answer.new.self c.number.result c.take-answer.result c.take-answer.ensures.task c.take-answer.ensures.err) c.number.ensures.value (ap (λ p. p.seen) c.hold-held.ensures.pass.2 ∙ ap (λ b. b.journal) (sym c.value.ensures.value))

pub leave-requires-clause-rules : goal.leave-requires-clause-rules
leave-requires-clause-rules g c = (took_own c.value.result.now c.take-answer.new.self c.number.result c.take-answer.result c.take-answer.ensures.task c.take-answer.ensures.err).rules ∙ ap (λ b. b.rules) c.value.ensures.value ∙ c.hold-held.ensures.rules

pub returns-clause-work : goal.returns-clause-work
returns-clause-work g c =
    work_on c.args.service.now.lock c.args.pass.now c.hold-held.new.pass c.leave.new.pass c.value.result.now c.take-answer.new.self c.number.result c.requires.work (ap (λ b. b.rules) c.value.ensures.value ∙ c.hold-held.ensures.rules)
    (subst (λ b. TookTurn c.args.pass.now c.hold-held.new.pass b.journal) (sym c.value.ensures.value) c.hold-held.ensures.pass) (took_own c.value.result.now c.take-answer.new.self c.number.result c.take-answer.result c.take-answer.ensures.task c.take-answer.ensures.err) c.leave.ensures.legal c.leave.ensures.keeps c.leave.ensures.pass

pub returns-clause-keeps : goal.returns-clause-keeps
returns-clause-keeps g c =
    keeps_on c.args.service.now.lock c.args.pass.now c.hold-held.new.pass c.leave.new.pass c.value.result.now c.take-answer.new.self c.number.result (subst (λ b. Knows c.args.pass.now b) (sym c.value.ensures.value) c.hold-held.ensures.known)
    (subst (λ b. TookTurn c.args.pass.now c.hold-held.new.pass b.journal) (sym c.value.ensures.value) c.hold-held.ensures.pass) (took_own c.value.result.now c.take-answer.new.self c.number.result c.take-answer.result c.take-answer.ensures.task c.take-answer.ensures.err) c.leave.ensures.keeps c.leave.ensures.pass

pub returns-clause-taken : goal.returns-clause-taken
returns-clause-taken g c =
    has_taken c.args.service.now.lock c.args.pass.now c.hold-held.new.pass c.leave.new.pass c.value.result.now c.take-answer.new.self c.number.result c.take-answer.result c.requires.work c.requires.rests
    (ap (λ b. b.rules) c.value.ensures.value ∙ c.hold-held.ensures.rules) (subst (λ b. Knows c.args.pass.now b) (sym c.value.ensures.value) c.hold-held.ensures.known)
    (subst (λ b. TookTurn c.args.pass.now c.hold-held.new.pass b.journal) (sym c.value.ensures.value) c.hold-held.ensures.pass) c.number.ensures.value c.take-answer.ensures.task c.take-answer.ensures.err c.leave.ensures.pass

pub returns-clause-err : goal.returns-clause-err
returns-clause-err g c =
    rests_on c.args.service.now.lock c.args.pass.now c.hold-held.new.pass c.leave.new.pass c.value.result.now c.take-answer.new.self c.number.result c.take-answer.result c.requires.work c.requires.rests
    (ap (λ b. b.rules) c.value.ensures.value ∙ c.hold-held.ensures.rules) (subst (λ b. Knows c.args.pass.now b) (sym c.value.ensures.value) c.hold-held.ensures.known)
    (subst (λ b. TookTurn c.args.pass.now c.hold-held.new.pass b.journal) (sym c.value.ensures.value) c.hold-held.ensures.pass) c.number.ensures.value c.take-answer.ensures.err c.leave.ensures.pass

pub returns-clause-wanted : goal.returns-clause-wanted
returns-clause-wanted g c =
    wanted_on c.args.service.now.lock c.hold-held.new.pass c.leave.new.pass c.value.result.now c.take-answer.new.self c.take-answer.result
    (ap (λ b. b.rules) c.value.ensures.value ∙ c.hold-held.ensures.rules) c.take-answer.ensures.wanted c.take-answer.ensures.err c.leave.ensures.pass

pub returns-clause-looked : goal.returns-clause-looked
returns-clause-looked g c =
    looked_on c.args.service.now.lock c.args.pass.now c.hold-held.new.pass c.leave.new.pass c.value.result.now c.take-answer.new.self c.take-answer.result c.requires.work
    (ap (λ b. b.rules) c.value.ensures.value ∙ c.hold-held.ensures.rules) (subst (λ b. Knows c.args.pass.now b) (sym c.value.ensures.value) c.hold-held.ensures.known)
    (subst (λ b. TookTurn c.args.pass.now c.hold-held.new.pass b.journal) (sym c.value.ensures.value) c.hold-held.ensures.pass) c.take-answer.ensures.err c.leave.ensures.legal c.leave.ensures.pass

pub returns-clause-hold : goal.returns-clause-hold
returns-clause-hold g c =
    takes_in_hold c.args.service.now.lock c.args.pass.now c.hold-held.new.pass c.leave.new.pass c.value.result.now c.take-answer.new.self c.number.result c.take-answer.result c.requires.work
    (ap (λ b. b.rules) c.value.ensures.value ∙ c.hold-held.ensures.rules) (subst (λ b. Knows c.args.pass.now b) (sym c.value.ensures.value) c.hold-held.ensures.known)
    (subst (λ b. TookTurn c.args.pass.now c.hold-held.new.pass b.journal) (sym c.value.ensures.value) c.hold-held.ensures.pass) c.number.ensures.value c.take-answer.ensures.task c.leave.ensures.legal c.leave.ensures.pass
