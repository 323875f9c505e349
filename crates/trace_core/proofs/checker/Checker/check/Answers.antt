use Rattle.std.proofs.Common.{rules, length, take, drop, List, true, false, ◌++◌, [], ◌≡◌, ◌<◌, ap, sym, subst}
use Rattle.std.specs.Prelude.{vec_len, IsTrue, ◌↔◌}
use Rattle.trace_core.specs.Known.{Known, known}
use Rattle.trace_core.specs.Trace.{IsOkStep}
use Rattle.trace_core.specs.Checked.{Checked}
use Rattle.trace_core.specs.Marking.{HasRoom}
use Rattle.trace_core.specs.Ready.{IsReady, HaveRoomFor}
use Rattle.trace_core.specs.declared.marks.Mark.{Mark}
use Rattle.trace_core.proofs.ReadyLemmas.{ready_grown, ready_step, ready_checked, room_checked, set_is_short}
use Rattle.trace_core.proofs.checker.Checker.check.Goals.{After-make_room, After-is_ok}
use Rattle.trace_core.proofs.checker.Checker.check.Goals as goal

-- the checker is ready with more marks
ready : (c : After-make_room) → IsReady c.make_room.new.marks.items c.self.inside.set.items
    c.self.inside.database.inputs c.self.inside.database.steps
ready c = ready_grown c.self.inside.marks.items c.make_room.new.marks.items c.self.inside.set.items
    c.self.inside.database.inputs c.self.inside.database.steps (search rules)
    c.make_room.ensures.holding c.self.invariant

-- the marks that the check of the step leaves
abbrev marks_after : After-is_ok → List Mark
marks_after c = take (vec_len c.make_room.new.marks)
    (c.is_ok.new.marks ++ drop (length c.is_ok.new.marks) c.make_room.new.marks.items)

-- the checker is ready behind the check of the step
checked : (c : After-is_ok) → IsReady (marks_after c) c.is_ok.new.set.items
    c.self.inside.database.inputs c.self.inside.database.steps
checked c =
    let size : vec_len c.make_room.new.marks ≡ length c.make_room.new.marks.items = search rules in
    let same : length c.is_ok.new.marks ≡ length c.make_room.new.marks.items = search rules in
    ready_checked c.make_room.new.marks.items c.is_ok.new.marks (vec_len c.make_room.new.marks)
    c.self.inside.set.items c.is_ok.new.set.items c.self.inside.database.inputs
    c.self.inside.database.steps size same c.is_ok.ensures.free c.is_ok.ensures.empty
    (ready_grown c.self.inside.marks.items c.make_room.new.marks.items c.self.inside.set.items
    c.self.inside.database.inputs c.self.inside.database.steps (search rules)
    c.make_room.ensures.holding c.self.invariant)

pub invariant_of-self : goal.invariant_of-self
invariant_of-self c = ready (goal.at.invariant_of-self c).After-make_room

pub is_ok-requires-clause-inputs_room : goal.is_ok-requires-clause-inputs_room
is_ok-requires-clause-inputs_room c =
    subst (λ (marks : _). HaveRoomFor (length marks) c.self.inside.database.inputs)
    (sym c.deref_mut.ensures.value)
    (ready (goal.at.is_ok-requires-clause-inputs_room c).After-make_room).inputs_room

pub is_ok-requires-clause-steps_room : goal.is_ok-requires-clause-steps_room
is_ok-requires-clause-steps_room c =
    subst (λ (marks : _). HaveRoomFor (length marks) c.self.inside.database.steps)
    (sym c.deref_mut.ensures.value)
    (ready (goal.at.is_ok-requires-clause-steps_room c).After-make_room).steps_room

pub invariant_of-self-in_err-is_ok : goal.invariant_of-self-in_err-is_ok
invariant_of-self-in_err-is_ok c = checked (goal.at.invariant_of-self-in_err-is_ok c).After-is_ok

pub invariant_of-self-then-not-branch : goal.invariant_of-self-then-not-branch
invariant_of-self-then-not-branch c =
    checked (goal.at.invariant_of-self-then-not-branch c).After-is_ok

pub returns-then-not-branch-clause-exact : goal.returns-then-not-branch-clause-exact
returns-then-not-branch-clause-exact c =
    let exact = rw c.if-not-branch.true at c.in_ok-is_ok.ensures.exact in
    subst (λ (checked : Checked). IsTrue false ↔ IsOkStep (known checked.inputs [] checked.steps) c.args.step.now) c.self.view_is exact

pub push-requires : goal.push-requires
push-requires c = subst (λ n. n < 4294967296) (sym (ap length c.lits-lits.ensures.value)) (set_is_short c.args.step.now.clause c.lits-lits.ensures.set)

pub invariant_of-self-in_err-push : goal.invariant_of-self-in_err-push
invariant_of-self-in_err-push c =
    let before = (goal.at.invariant_of-self-in_err-push c).After-is_ok in
    subst (λ (steps : List Known). IsReady (marks_after before) c.is_ok.new.set.items
    c.self.inside.database.inputs steps) (sym c.in_err-push.ensures.err) (checked before)

pub invariant_of-self-2 : goal.invariant_of-self-2
invariant_of-self-2 c =
    let before = (goal.at.invariant_of-self-2 c).After-is_ok in
    let size : vec_len c.make_room.new.marks ≡ length c.make_room.new.marks.items = search rules in
    let same : length c.is_ok.new.marks ≡ length c.make_room.new.marks.items = search rules in
    let room : HasRoom (length c.make_room.new.marks.items) c.lits-lits.result.now =
    subst (λ n. HasRoom n c.lits-lits.result.now) size c.in_ok-make_room.ensures.room in
    ready_step (marks_after before) c.is_ok.new.set.items c.self.inside.database.inputs
    c.self.inside.database.steps c.push.new.self
    (record { clause = c.lits-lits.result.now; tag = c.args.step.now.tag }) c.in_ok-push.ensures.ok
    (room_checked c.make_room.new.marks.items c.is_ok.new.marks (vec_len c.make_room.new.marks)
    c.lits-lits.result.now size same room) (checked before)

pub returns-clause-exact : goal.returns-clause-exact
returns-clause-exact c =
    let exact = rw c.if-not-branch.false at c.in_ok-is_ok.ensures.exact in
    subst (λ (checked : Checked). IsTrue true ↔ IsOkStep (known checked.inputs [] checked.steps) c.args.step.now) c.self.view_is exact
