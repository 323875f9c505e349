use Rattle.std.proofs.Common.{◌∙◌, ap, refl, sym}
use Rattle.service.specs.Passes.{BoardLock}
use Rattle.tarmo_run.proofs.Finishing.{finished_in_blocks, ran_in_part, ran_through}
use Rattle.tarmo_run.proofs.Finishing.{reads_in_part, reads_same}
use Rattle.tarmo_run.proofs.Gathering.{left_counted, left_front, left_written, none_printed}
use Rattle.tarmo_run.proofs.Resting.{ends_all}
use Rattle.tarmo_run.proofs.Uncut.{done_by_status}
use Rattle.tarmo_run.proofs.top.run_text.Goals as goal

pub returns-then-failed-clause-run : goal.returns-then-failed-clause-run
returns-then-failed-clause-run g c =
    let left = c.disband-board.ensures.board in
    let crew = c.solve_text-ending.new.crew in
    let rules = left.rules
    ∙ ap (λ (lock : BoardLock). lock.basis) c.solve_text-ending.ensures.lock ∙ c.requires.rules in
    let printed = c.solve_text-ending.ensures.prints (g.O.Sink.taken c.args.out.now)
    (none_printed c.args.rules.traces crew.service.lock c.args.crew.printer
    c.args.crew.printer.failed (g.O.Sink.taken c.args.out.now) c.requires.gathered.written
    c.requires.gathered.well) in
    rw c.hand_over.ensures.parts
    (ran_in_part c.args.rules _ _ _ _ c.disband-board.result.board c.give_up.new.board _ _ 4
    (c.give_up.ensures.more.longer.rules ∙ rules) c.hand_over.ensures.legal refl
    c.give_up.ensures.more c.give_up.ensures.settled
    (finished_in_blocks _ _ _ _ _ _ _ _
    (reads_in_part c.solve_text-ending.result _ _ _ _ _
    (reads_same _ _ _ _ _ _ _ left.jobs c.solve_text-ending.ensures.read.through))
    (left_front _ crew _ _ _ _ left (sym c.disband-board.ensures.failed ∙ c.if-failed.true)
    printed)))

pub finish_text-requires-clause-counted : goal.finish_text-requires-clause-counted
finish_text-requires-clause-counted g c =
    left_counted c.solve_text-ending.new.crew c.disband-board.result.board
    c.disband-board.result.writer c.solve_text-ending.ensures.whole
    c.disband-board.ensures.board c.disband-board.ensures.writer

pub returns-in-Ok-clause-run : goal.returns-in-Ok-clause-run
returns-in-Ok-clause-run g c =
    let left = c.disband-board.ensures.board in
    let crew = c.solve_text-ending.new.crew in
    let rules = left.rules
    ∙ ap (λ (lock : BoardLock). lock.basis) c.solve_text-ending.ensures.lock ∙ c.requires.rules in
    let well = sym c.disband-board.ensures.failed ∙ c.if-failed.false in
    let printed = c.solve_text-ending.ensures.prints (g.O.Sink.taken c.args.out.now)
    (none_printed c.args.rules.traces crew.service.lock c.args.crew.printer
    c.args.crew.printer.failed (g.O.Sink.taken c.args.out.now) c.requires.gathered.written
    c.requires.gathered.well) in
    rw c.hand_over-in-Ok.ensures.parts
    (ran_through c.args.rules c.in-Ok.told _ _ _ _ c.finish_text.new.board _ _
    c.status-status.result (c.finish_text.ensures.more.longer.rules ∙ rules)
    c.hand_over-in-Ok.ensures.legal c.status-status.ensures
    (c.in-Ok.ensures.finished _ _ _ _ _
    (reads_same _ _ _ _ _ _ _ left.jobs c.solve_text-ending.ensures.read.through)
    (left_written _ crew _ _ _ _ _ c.solve_text-ending.ensures.whole left
    c.disband-board.ensures.writer well printed)
    (left.none_cancelled well)))

pub returns-in-Err-clause-run : goal.returns-in-Err-clause-run
returns-in-Err-clause-run g c =
    let left = c.disband-board.ensures.board in
    let crew = c.solve_text-ending.new.crew in
    let rules = left.rules
    ∙ ap (λ (lock : BoardLock). lock.basis) c.solve_text-ending.ensures.lock ∙ c.requires.rules in
    let well = sym c.disband-board.ensures.failed ∙ c.if-failed.false in
    let printed = c.solve_text-ending.ensures.prints (g.O.Sink.taken c.args.out.now)
    (none_printed c.args.rules.traces crew.service.lock c.args.crew.printer
    c.args.crew.printer.failed (g.O.Sink.taken c.args.out.now) c.requires.gathered.written
    c.requires.gathered.well) in
    rw c.hand_over-in-Err.ensures.parts
    (ran_in_part c.args.rules _ _ _ _ c.finish_text.new.board c.give_up-in-Err.new.board _ _ 4
    (c.give_up-in-Err.ensures.more.longer.rules ∙ c.finish_text.ensures.more.longer.rules ∙ rules)
    c.hand_over-in-Err.ensures.legal refl c.give_up-in-Err.ensures.more
    c.give_up-in-Err.ensures.settled
    (c.in-Err.ensures.front _ _ _ _ _
    (reads_same _ _ _ _ _ _ _ left.jobs c.solve_text-ending.ensures.read.through)
    (left_written _ crew _ _ _ _ _ c.solve_text-ending.ensures.whole left
    c.disband-board.ensures.writer well printed)))

pub returns-then-failed-clause-none_open : goal.returns-then-failed-clause-none_open
returns-then-failed-clause-none_open g c =
    rw c.hand_over.ensures.parts
    (ends_all c.give_up.new.board c.hand_over.ensures.legal
    (λ caller. c.give_up.ensures.resting caller (c.disband-board.ensures.board.none_open caller)))

pub returns-in-Ok-clause-none_open : goal.returns-in-Ok-clause-none_open
returns-in-Ok-clause-none_open g c =
    rw c.hand_over-in-Ok.ensures.parts
    (ends_all c.finish_text.new.board c.hand_over-in-Ok.ensures.legal
    (λ caller. c.finish_text.ensures.resting caller
    (c.disband-board.ensures.board.none_open caller)))

pub returns-in-Err-clause-none_open : goal.returns-in-Err-clause-none_open
returns-in-Err-clause-none_open g c =
    rw c.hand_over-in-Err.ensures.parts
    (ends_all c.give_up-in-Err.new.board c.hand_over-in-Err.ensures.legal
    (λ caller. c.give_up-in-Err.ensures.resting caller
    (c.finish_text.ensures.resting caller (c.disband-board.ensures.board.none_open caller))))

pub returns-then-failed-clause-opened : goal.returns-then-failed-clause-opened
returns-then-failed-clause-opened g c =
    rw c.hand_over.ensures.parts (λ three four six. absurd (four refl))

pub returns-in-Ok-clause-opened : goal.returns-in-Ok-clause-opened
returns-in-Ok-clause-opened g c =
    rw c.hand_over-in-Ok.ensures.parts
    (λ three four six. done_by_status c.solve_text-ending.result c.in-Ok.told
    c.finish_text.new.board c.status-status.result _ c.in-Ok.ensures.which
    c.status-status.ensures c.solve_text-ending.ensures.read.named three six)

pub returns-in-Err-clause-opened : goal.returns-in-Err-clause-opened
returns-in-Err-clause-opened g c =
    rw c.hand_over-in-Err.ensures.parts (λ three four six. absurd (four refl))
