use Rattle.std.proofs.Common.{◌≡◌, ◌<◌, ◌+◌, ◌-◌, length, get_or, [], refl, arith, subst, sym}
use Rattle.std.proofs.lemmas.Bool.{false≢true}
use Rattle.trace_core.specs.Marking.{HasRoom}
use Rattle.trace_core.specs.Checked.{hinted}
use Rattle.trace_core.proofs.UnitLemmas.{agree_kept}
use Rattle.trace_core.proofs.RunLemmas.{ran_more, ran_stops, ran_last, falsified, not_falsified, covered_last, room_at, at_hint, some_hint, length-hinted}
use Rattle.trace_core.proofs.unit_propagation.propagate.Goals.{After-lits_of, After-lits_of-2}
use Rattle.trace_core.proofs.unit_propagation.propagate.Goals as goal

-- the clause that was read is that of the hint
hint_at : (c : After-lits_of)
    → (c.loop-i.i + 1 < length
    (hinted c.args.database.now.inputs c.args.database.now.steps c.args.hints.now))
    × (c.lits_of.result.now ≡ get_or
    (hinted c.args.database.now.inputs c.args.database.now.steps c.args.hints.now) c.loop-i.i [])
hint_at c =
    let size = length-hinted c.args.database.now.inputs c.args.database.now.steps
    c.args.hints.now in (
      omega arith,
      at_hint c.args.database.now.inputs c.args.database.now.steps c.args.hints.now c.loop-i.i
          c.loop-i.i
          c.lits_of.result.now refl (omega arith) c.lits_of.ensures,
    )

-- the clause that was read last is that of the last hint
last_hint_at : (c : After-lits_of-2)
    → (c.loop-i.i + 1 ≡ length
    (hinted c.args.database.now.inputs c.args.database.now.steps c.args.hints.now))
    × (c.lits_of-2.result.now ≡ get_or
    (hinted c.args.database.now.inputs c.args.database.now.steps c.args.hints.now) c.loop-i.i [])
last_hint_at c =
    let size = length-hinted c.args.database.now.inputs c.args.database.now.steps
    c.args.hints.now in
    let some = some_hint (length c.args.hints.now) c.if-is_empty.ensures in (
      omega arith,
      at_hint c.args.database.now.inputs c.args.database.now.steps c.args.hints.now c.loop-i.i
          (length c.args.hints.now - 1) c.lits_of-2.result.now (omega arith) (omega arith)
          c.lits_of-2.ensures,
    )

pub advance-requires-clause-room : goal.advance-requires-clause-room
advance-requires-clause-room c =
    let clauses = hinted c.args.database.now.inputs c.args.database.now.steps c.args.hints.now in
    let (within, at) = hint_at (goal.at.advance-requires-clause-room c).After-lits_of in
    subst (λ n. HasRoom n c.lits_of.result.now) (sym c.loop-i.auto.marks) (room_at (length c.args.marks.now) clauses c.loop-i.i c.lits_of.result.now c.requires.room (omega arith) at)

pub returns-then-not-branch-clause-conflict : goal.returns-then-not-branch-clause-conflict
returns-then-not-branch-clause-conflict c =
    let clauses = hinted c.args.database.now.inputs c.args.database.now.steps c.args.hints.now in
    let (within, at) = hint_at (goal.at.returns-then-not-branch-clause-conflict c).After-lits_of in
    let never = rw c.if-not-branch.true at c.in_ok-advance.ensures.unit in
    (λ h. absurd (false≢true h), λ h. absurd (ran_stops clauses c.args.marks.now c.args.set.now.items c.loop-i.i c.loop-i.marks c.loop-i.set.items c.lits_of.result.now (omega arith) at c.loop-i.invariant never h))

pub loop-i-preserved : goal.loop-i-preserved
loop-i-preserved c =
    let clauses = hinted c.args.database.now.inputs c.args.database.now.steps c.args.hints.now in
    let (within, at) = hint_at (goal.at.loop-i-preserved c).After-lits_of in
    let unit = rw c.if-not-branch.false at c.in_ok-advance.ensures.unit in
    ran_more clauses c.args.marks.now c.args.set.now.items c.loop-i.i c.loop-i.marks c.advance.new.marks c.loop-i.set.items c.advance.new.set.items c.lits_of.result.now
    (omega arith) at c.loop-i.invariant c.in_ok-advance.ensures.agree c.in_ok-advance.ensures.covered unit

pub scan-requires : goal.scan-requires
scan-requires c =
    let clauses = hinted c.args.database.now.inputs c.args.database.now.steps c.args.hints.now in
    let (last_is, at) = last_hint_at (goal.at.scan-requires c).After-lits_of-2 in
    subst (λ n. HasRoom n c.lits_of-2.result.now) (sym c.loop-i.auto.marks) (room_at (length c.args.marks.now) clauses c.loop-i.i c.lits_of-2.result.now c.requires.room (omega arith) at)

pub returns-in-Nothing-clause-conflict : goal.returns-in-Nothing-clause-conflict
returns-in-Nothing-clause-conflict c =
    let clauses = hinted c.args.database.now.inputs c.args.database.now.steps c.args.hints.now in
    let (last_is, at) =
    last_hint_at (goal.at.returns-in-Nothing-clause-conflict c).After-lits_of-2 in
    let last = ran_last clauses c.args.marks.now c.args.set.now.items c.loop-i.i c.loop-i.marks c.loop-i.set.items c.lits_of-2.result.now (omega arith) at c.loop-i.invariant in
    (λ _. last.1 (falsified c.loop-i.marks c.loop-i.set.items c.lits_of-2.result.now c.in-Nothing.ensures.found c.loop-i.invariant.agree), λ _. refl)

pub returns-in-Nothing-clause-covered : goal.returns-in-Nothing-clause-covered
returns-in-Nothing-clause-covered c =
    let clauses = hinted c.args.database.now.inputs c.args.database.now.steps c.args.hints.now in
    let (last_is, at) =
    last_hint_at (goal.at.returns-in-Nothing-clause-covered c).After-lits_of-2 in
    λ _. covered_last clauses c.args.marks.now c.args.set.now.items c.loop-i.i c.loop-i.marks c.scan.new.marks c.loop-i.set.items c.lits_of-2.result.now (omega arith) at c.loop-i.invariant c.scan.ensures.covered

pub returns-in_default : goal.returns-in_default
returns-in_default c =
    let clauses = hinted c.args.database.now.inputs c.args.database.now.steps c.args.hints.now in
    let (last_is, at) = last_hint_at (goal.at.returns-in_default c).After-lits_of-2 in
    let last = ran_last clauses c.args.marks.now c.args.set.now.items c.loop-i.i c.loop-i.marks c.loop-i.set.items c.lits_of-2.result.now (omega arith) at c.loop-i.invariant in
    record {
      agree = agree_kept c.loop-i.marks c.scan.new.marks c.loop-i.set.items c.loop-i.invariant.agree c.scan.ensures.holding;
      conflict = (λ h. absurd (false≢true h), λ h. absurd (not_falsified c.loop-i.marks c.loop-i.set.items c.lits_of-2.result.now c.scan.result c.in_default.not-Nothing c.scan.ensures.found c.loop-i.invariant.agree (last.0 h)));
      covered = λ h. absurd (false≢true h);
    }
