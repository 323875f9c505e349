use Rattle.std.proofs.Common.{◌∙◌, ◌+◌, ◌<◌, ◌≤◌, [], ◌∷◌, ◌++◌, vec_len, vec_capacity, refl, sym, subst, ap, rules, arith}
use Rattle.std.specs.Arc.{arc_value}
use Rattle.entry_core.specs.Legal.{IsWorker, IsShareable}
use Rattle.entry_core.specs.declared.entries.Event.TheVariants as event
use Rattle.board_core.specs.Index.{room}
use Rattle.board_core.specs.State.{State}
use Rattle.board_core.proofs.Verdicts.{entry_by}
use Rattle.board_core.proofs.Keeping.{countable, kept_grown, kept_shared}
use Rattle.board_core.proofs.board.Board.share.Goals as goal

pub room-room-requires : goal.room-room-requires
room-room-requires c = countable c.self.inside c.self.invariant

pub invariant_of-self-in_err-reserve-2 : goal.invariant_of-self-in_err-reserve-2
invariant_of-self-in_err-reserve-2 c =
    kept_grown c.self.inside c.reserve-2.new.self c.self.inside.index.jobs c.self.inside.index.segments c.reserve.new.self c.self.inside.index.attempts c.self.inside.index.waiting c.self.invariant
    c.reserve-2.ensures.items c.reserve-2.ensures.capacity refl refl c.reserve.ensures.items refl refl

pub invariant_of-self-2 : goal.invariant_of-self-2
invariant_of-self-2 c =
    let few : vec_len c.self.inside.index.packets < 4194304 = omega arith in
    let spare : vec_len c.self.inside.journal + (room c.self.inside.index + 1) ≤ vec_capacity c.push_reserved.new.self =
    let made = c.in_ok-reserve-2.ensures.ok in let same = c.push_reserved.ensures.capacity in let owed = c.room-room.ensures in let size = c.reserve-2.ensures.len in omega arith in
    kept_shared c.self.inside c.push_reserved.new.self c.push_reserved-2.new.self c.args.caller c.args.packet c.in_ok-copy.copy c.self.invariant
    (subst (λ (board : State). IsWorker board.rules c.args.caller) (sym c.self.view_is) c.requires.worker)
    (subst (λ (board : State). IsShareable board.journal (arc_value c.args.packet)) (sym c.self.view_is) c.requires.shareable)
    few (c.push_reserved.ensures.items ∙ ap (λ xs. xs ++ entry_by c.args.caller (event.Shared c.args.packet) ∷ []) c.reserve-2.ensures.items) spare
    (c.push_reserved-2.ensures.items ∙ ap (λ xs. xs ++ c.in_ok-copy.copy ∷ []) c.reserve.ensures.items) (search rules)
