use Rattle.std.proofs.Common.{◌≡◌, ◌∙◌, ap, inl, refl, subst, sym}
use Rattle.entry_core.specs.declared.rules.Rules.{Rules}
use Rattle.board_core.specs.State.{State}
use Rattle.tarmo_run.specs.Desk.{IsAlone}
use Rattle.tarmo_run.proofs.Finishing.{ran_in_part, ran_through}
use Rattle.tarmo_run.proofs.Resting.{ends_alone}
use Rattle.tarmo_run.proofs.Uncut.{done_by_status}
use Rattle.tarmo_run.proofs.alone.run_over.Goals as goal

pub new-desk-requires-clause-alone : goal.new-desk-requires-clause-alone
new-desk-requires-clause-alone g c = subst (λ (rules : Rules). IsAlone rules) (sym c.requires.rules)
    c.requires.alone

pub returns-in-Ok-clause-run : goal.returns-in-Ok-clause-run
returns-in-Ok-clause-run g c =
    let rules : c.new-desk.result.board.rules ≡ c.args.rules =
    ap (λ (board : State). board.rules) c.new-desk.ensures.board ∙ c.requires.rules in
    rw c.give_back.ensures.parts
    (ran_through c.args.rules c.in-Ok.ending _ _ _ _ c.solve.new.desk.board _ _
    c.status-status.result
    (c.solve.ensures.rules ∙ rules) c.give_back.ensures.legal c.status-status.ensures
    c.in-Ok.ensures.finished)

pub returns-in-Err-clause-run : goal.returns-in-Err-clause-run
returns-in-Err-clause-run g c =
    let rules : c.new-desk.result.board.rules ≡ c.args.rules =
    ap (λ (board : State). board.rules) c.new-desk.ensures.board ∙ c.requires.rules in
    rw c.give_back-in-Err.ensures.parts
    (ran_in_part c.args.rules _ _ _ _ c.solve.new.desk.board c.give_up.new.board _ _ 4
    (c.give_up.ensures.more.longer.rules ∙ c.solve.ensures.rules ∙ rules)
    c.give_back-in-Err.ensures.legal refl c.give_up.ensures.more c.give_up.ensures.settled
    c.in-Err.ensures.front)

pub returns-in-Ok-clause-closed : goal.returns-in-Ok-clause-closed
returns-in-Ok-clause-closed g c = rw c.give_back.ensures.parts c.in-Ok.ensures.closed

pub returns-in-Err-clause-closed : goal.returns-in-Err-clause-closed
returns-in-Err-clause-closed g c = rw c.give_back-in-Err.ensures.parts c.give_up.ensures.closed

pub returns-in-Ok-clause-none_open : goal.returns-in-Ok-clause-none_open
returns-in-Ok-clause-none_open g c =
    let rules : c.new-desk.result.board.rules ≡ c.args.rules =
    ap (λ (board : State). board.rules) c.new-desk.ensures.board ∙ c.requires.rules in
    rw c.give_back.ensures.parts
    (ends_alone c.solve.new.desk.board c.give_back.ensures.legal
    (subst IsAlone (sym (c.solve.ensures.rules ∙ rules)) c.requires.alone)
    c.solve.ensures.resting)

pub returns-in-Err-clause-none_open : goal.returns-in-Err-clause-none_open
returns-in-Err-clause-none_open g c =
    let rules : c.new-desk.result.board.rules ≡ c.args.rules =
    ap (λ (board : State). board.rules) c.new-desk.ensures.board ∙ c.requires.rules in
    rw c.give_back-in-Err.ensures.parts
    (ends_alone c.give_up.new.board c.give_back-in-Err.ensures.legal
    (subst IsAlone (sym (c.give_up.ensures.more.longer.rules ∙ c.solve.ensures.rules ∙ rules))
    c.requires.alone)
    (c.give_up.ensures.resting 2 c.solve.ensures.resting))

pub returns-in-Ok-clause-opened : goal.returns-in-Ok-clause-opened
returns-in-Ok-clause-opened g c =
    rw c.give_back.ensures.parts
    (λ three four six. done_by_status c.in-Ok.ending c.in-Ok.ending c.solve.new.desk.board
    c.status-status.result _ (inl refl) c.status-status.ensures c.in-Ok.ensures.opened three six)

pub returns-in-Err-clause-opened : goal.returns-in-Err-clause-opened
returns-in-Err-clause-opened g c =
    rw c.give_back-in-Err.ensures.parts (λ three four six. absurd (four refl))
