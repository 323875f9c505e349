use Rattle.std.proofs.Common.{rules, length, List, ◌≡◌, ◌<◌, ap, sym, subst}
use Rattle.std.specs.Prelude.{vec_len}
use Rattle.trace_core.specs.Known.{Known}
use Rattle.trace_core.specs.Marking.{HasRoom}
use Rattle.trace_core.specs.Ready.{IsReady}
use Rattle.trace_core.proofs.ReadyLemmas.{ready_grown, ready_input, set_is_short}
use Rattle.trace_core.proofs.checker.Checker.add_input.Goals as goal

pub invariant_of-self : goal.invariant_of-self
invariant_of-self c =
    let ready : IsReady c.make_room.new.marks.items c.self.inside.set.items c.self.inside.database.inputs c.self.inside.database.steps =
    ready_grown c.self.inside.marks.items c.make_room.new.marks.items c.self.inside.set.items c.self.inside.database.inputs c.self.inside.database.steps (search rules) c.make_room.ensures.holding c.self.invariant in
    ready

pub push-requires : goal.push-requires
push-requires c = subst (λ n. n < 4294967296) (sym (ap length c.lits-lits.ensures.value)) (set_is_short c.args.clause.now c.lits-lits.ensures.set)

pub invariant_of-self-in_err-push : goal.invariant_of-self-in_err-push
invariant_of-self-in_err-push c =
    let ready : IsReady c.make_room.new.marks.items c.self.inside.set.items c.self.inside.database.inputs c.self.inside.database.steps =
    ready_grown c.self.inside.marks.items c.make_room.new.marks.items c.self.inside.set.items c.self.inside.database.inputs c.self.inside.database.steps (search rules) c.make_room.ensures.holding c.self.invariant in
    subst (λ (inputs : List Known). IsReady c.make_room.new.marks.items c.self.inside.set.items inputs c.self.inside.database.steps) (sym c.in_err-push.ensures.err) ready

pub invariant_of-self-2 : goal.invariant_of-self-2
invariant_of-self-2 c =
    let ready : IsReady c.make_room.new.marks.items c.self.inside.set.items c.self.inside.database.inputs c.self.inside.database.steps =
    ready_grown c.self.inside.marks.items c.make_room.new.marks.items c.self.inside.set.items c.self.inside.database.inputs c.self.inside.database.steps (search rules) c.make_room.ensures.holding c.self.invariant in
    let size : vec_len c.make_room.new.marks ≡ length c.make_room.new.marks.items = search rules in
    let room : HasRoom (length c.make_room.new.marks.items) c.lits-lits.result.now = subst (λ n. HasRoom n c.lits-lits.result.now) size c.in_ok-make_room.ensures.room in
    ready_input c.make_room.new.marks.items c.self.inside.set.items c.self.inside.database.inputs c.push.new.self c.self.inside.database.steps
    (record { clause = c.lits-lits.result.now; tag = c.args.tag }) c.in_ok-push.ensures.ok room ready
