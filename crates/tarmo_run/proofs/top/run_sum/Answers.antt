use Rattle.std.proofs.Common.{◌∙◌, ap, arith, refl}
use Rattle.service.specs.Passes.{BoardLock}
use Rattle.tarmo_run.specs.declared.printer.Printer.{Printer}
use Rattle.tarmo_run.specs.Sides.{own_of}
use Rattle.tarmo_run.proofs.Resting.{ends_all}
use Rattle.tarmo_run.proofs.Sums.{asked_by, sum_statuses, summed, summed_in_part}
use Rattle.tarmo_run.proofs.top.run_sum.Goals as goal

pub returns-in-Ok-clause-run : goal.returns-in-Ok-clause-run
returns-in-Ok-clause-run g c =
    let left = c.disband-board.ensures.board in
    let crew = c.solve_sum-added.new.crew in
    let rules = left.rules
    ∙ ap (λ (lock : BoardLock). lock.basis) c.solve_sum-added.ensures.lock ∙ c.requires.rules in
    let well = ap (λ (p : Printer). p.failed) c.solve_sum-added.ensures.printer
    ∙ c.requires.gathered.well in
    rw c.hand_over.ensures.parts
    (summed c.args.number c.args.rules c.settled_if-settled.result c.in-Ok.ending
    c.disband-board.result.board c.close_input.new.board _ _ c.status-status.result
    (c.close_input.ensures.more.longer.rules ∙ rules) c.hand_over.ensures.legal
    c.status-status.ensures
    (asked_by c.settled_if-settled.result c.solve_sum-added.result c.args.number
    (own_of crew.service.lock crew.adder.pass) c.disband-board.result.board
    c.settled_if-settled.ensures c.solve_sum-added.ensures.sum left.jobs)
    c.close_input.ensures.more (c.close_input.ensures.cancelled ∙ left.none_cancelled well)
    c.in-Ok.ensures.ends c.in-Ok.ensures.took)

pub returns-in-Err-clause-run : goal.returns-in-Err-clause-run
returns-in-Err-clause-run g c =
    let left = c.disband-board.ensures.board in
    let crew = c.solve_sum-added.new.crew in
    let rules = left.rules
    ∙ ap (λ (lock : BoardLock). lock.basis) c.solve_sum-added.ensures.lock ∙ c.requires.rules in
    rw c.hand_over-in-Err.ensures.parts
    (summed_in_part c.args.number c.args.rules c.settled_if-settled.result
    c.disband-board.result.board c.close_input.new.board c.give_up.new.board _ _ 4
    (c.give_up.ensures.more.longer.rules ∙ c.close_input.ensures.more.longer.rules ∙ rules)
    c.hand_over-in-Err.ensures.legal refl
    (asked_by c.settled_if-settled.result c.solve_sum-added.result c.args.number
    (own_of crew.service.lock crew.adder.pass) c.disband-board.result.board
    c.settled_if-settled.ensures c.solve_sum-added.ensures.sum left.jobs)
    c.close_input.ensures.more c.give_up.ensures.more c.give_up.ensures.settled
    c.in-Err.ensures.front)

pub returns-in-Ok-clause-none_open : goal.returns-in-Ok-clause-none_open
returns-in-Ok-clause-none_open g c =
    rw c.hand_over.ensures.parts
    (ends_all c.close_input.new.board c.hand_over.ensures.legal
    (λ caller. c.close_input.ensures.resting caller
    (c.disband-board.ensures.board.none_open caller)))

pub returns-in-Err-clause-none_open : goal.returns-in-Err-clause-none_open
returns-in-Err-clause-none_open g c =
    rw c.hand_over-in-Err.ensures.parts
    (ends_all c.give_up.new.board c.hand_over-in-Err.ensures.legal
    (λ caller. c.give_up.ensures.resting caller
    (c.close_input.ensures.resting caller (c.disband-board.ensures.board.none_open caller))))

pub returns-in-Ok-clause-unread : goal.returns-in-Ok-clause-unread
returns-in-Ok-clause-unread g c =
    let none = sum_statuses c.settled_if-settled.result c.in-Ok.ending c.close_input.new.board
    c.status-status.result c.status-status.ensures c.in-Ok.ensures.ends in
    rw c.hand_over.ensures.parts (none.0, none.2)

pub returns-in-Ok-clause-sink : goal.returns-in-Ok-clause-sink
returns-in-Ok-clause-sink g c =
    let none = sum_statuses c.settled_if-settled.result c.in-Ok.ending c.close_input.new.board
    c.status-status.result c.status-status.ensures c.in-Ok.ensures.ends in
    rw c.hand_over.ensures.parts (
      λ broken. absurd (none.1 broken),
      λ rose. absurd (omega (arith, rose, c.in-Ok.ensures.cause.ok)),
    )
