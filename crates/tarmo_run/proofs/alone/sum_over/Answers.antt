use Rattle.std.proofs.Common.{◌≡◌, ◌∙◌, ap, arith, refl, subst, sym}
use Rattle.entry_core.specs.declared.rules.Rules.{Rules}
use Rattle.board_core.specs.State.{State}
use Rattle.tarmo_run.specs.Desk.{IsAlone}
use Rattle.tarmo_run.proofs.Resting.{ends_alone}
use Rattle.tarmo_run.proofs.Sums.{sum_statuses, summed, summed_in_part}
use Rattle.tarmo_run.proofs.alone.sum_over.Goals as goal

pub new-desk-requires-clause-alone : goal.new-desk-requires-clause-alone
new-desk-requires-clause-alone g c = subst (λ (rules : Rules). IsAlone rules) (sym c.requires.rules)
    c.requires.alone

pub returns-in-Ok-clause-run : goal.returns-in-Ok-clause-run
returns-in-Ok-clause-run g c =
    let rules : c.new-desk.result.board.rules ≡ c.args.rules =
    ap (λ (board : State). board.rules) c.new-desk.ensures.board ∙ c.requires.rules in
    rw c.give_back.ensures.parts
    (summed c.args.number c.args.rules c.settle_sum-settled.result c.in-Ok.ending
    c.settle_sum-settled.new.desk.board c.close_input.new.board _ _ c.status-status.result
    (c.close_input.ensures.more.longer.rules ∙ c.settle_sum-settled.ensures.rules ∙ rules)
    c.give_back.ensures.legal c.status-status.ensures
    (record {
      begun = c.settle_sum-settled.ensures.first;
      all = c.settle_sum-settled.ensures.all;
      answered = c.settle_sum-settled.ensures.settled;
      right = c.settle_sum-settled.ensures.accepted;
    })
    c.close_input.ensures.more
    (c.close_input.ensures.cancelled ∙ c.settle_sum-settled.ensures.between.none_cancelled)
    c.in-Ok.ensures.ends c.in-Ok.ensures.took)

pub returns-in-Err-clause-run : goal.returns-in-Err-clause-run
returns-in-Err-clause-run g c =
    let rules : c.new-desk.result.board.rules ≡ c.args.rules =
    ap (λ (board : State). board.rules) c.new-desk.ensures.board ∙ c.requires.rules in
    rw c.give_back-in-Err.ensures.parts
    (summed_in_part c.args.number c.args.rules c.settle_sum-settled.result
    c.settle_sum-settled.new.desk.board c.close_input.new.board c.give_up.new.board _ _ 4
    (c.give_up.ensures.more.longer.rules ∙ c.close_input.ensures.more.longer.rules
    ∙ c.settle_sum-settled.ensures.rules ∙ rules)
    c.give_back-in-Err.ensures.legal refl
    (record {
      begun = c.settle_sum-settled.ensures.first;
      all = c.settle_sum-settled.ensures.all;
      answered = c.settle_sum-settled.ensures.settled;
      right = c.settle_sum-settled.ensures.accepted;
    })
    c.close_input.ensures.more c.give_up.ensures.more c.give_up.ensures.settled
    c.in-Err.ensures.front)

pub returns-in-Ok-clause-none_open : goal.returns-in-Ok-clause-none_open
returns-in-Ok-clause-none_open g c =
    rw c.give_back.ensures.parts
    (ends_alone c.close_input.new.board c.give_back.ensures.legal
    (subst IsAlone (sym c.close_input.ensures.more.longer.rules)
    c.settle_sum-settled.ensures.between.alone)
    (c.close_input.ensures.resting 2 c.settle_sum-settled.ensures.between.resting))

pub returns-in-Err-clause-none_open : goal.returns-in-Err-clause-none_open
returns-in-Err-clause-none_open g c =
    rw c.give_back-in-Err.ensures.parts
    (ends_alone c.give_up.new.board c.give_back-in-Err.ensures.legal
    (subst IsAlone (sym (c.give_up.ensures.more.longer.rules
    ∙ c.close_input.ensures.more.longer.rules)) c.settle_sum-settled.ensures.between.alone)
    (c.give_up.ensures.resting 2
    (c.close_input.ensures.resting 2 c.settle_sum-settled.ensures.between.resting)))

pub give_up-requires : goal.give_up-requires
give_up-requires g c = record {
  client = (
    omega arith,
    omega (
      arith,
      ap (λ (rules : Rules). rules.clients) c.close_input.ensures.more.longer.rules,
      c.settle_sum-settled.ensures.between.alone.clients,
    ),
  );
}

pub returns-in-Ok-clause-unread : goal.returns-in-Ok-clause-unread
returns-in-Ok-clause-unread g c =
    let none = sum_statuses c.settle_sum-settled.result c.in-Ok.ending c.close_input.new.board
    c.status-status.result c.status-status.ensures c.in-Ok.ensures.ends in
    rw c.give_back.ensures.parts (none.0, none.2)

pub returns-in-Ok-clause-sink : goal.returns-in-Ok-clause-sink
returns-in-Ok-clause-sink g c =
    let none = sum_statuses c.settle_sum-settled.result c.in-Ok.ending c.close_input.new.board
    c.status-status.result c.status-status.ensures c.in-Ok.ensures.ends in
    rw c.give_back.ensures.parts (
      λ broken. absurd (none.1 broken),
      λ rose. absurd (omega (arith, rose, c.in-Ok.ensures.cause.ok)),
    )
