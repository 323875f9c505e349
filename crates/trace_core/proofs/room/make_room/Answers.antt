use Rattle.std.proofs.Common.{rules, arith, vec_len, Vec, Global, ◌≡◌, ◌∙◌, ◌+◌, ◌*◌, ◌≤◌, ap}
use Rattle.trace_core.specs.declared.marks.Mark.{Mark}
use Rattle.trace_core.specs.Marking.{holds}
use Rattle.trace_core.proofs.RoomLemmas.{room_more, room_whole, holds_resized}
use Rattle.trace_core.proofs.room.make_room.Goals as goal
use Rattle.trace_core.proofs.room.make_room.Goals.{then-len-needed+in_ok-resize, else-len-needed}

pub loop-lit-preserved : goal.loop-lit-preserved
loop-lit-preserved c =
    elim c.if-len-needed.branch [
      | then-len-needed+in_ok-resize w ↦
          let size : vec_len c.if-len-needed.marks ≡ 2 * c.var.result + 2 = ap vec_len w.marks-is ∙ w.in_ok-resize.ensures.len in
          let more : vec_len c.loop-lit.marks ≤ vec_len c.if-len-needed.marks = omega (arith, w.if-len-needed.true) in
          record {
            room = room_more c.args.clause.now c.loop-lit.lit-index c.lit-item.result (vec_len c.loop-lit.marks) (vec_len c.if-len-needed.marks) c.loop-lit-test.true c.lit-item.is more (omega arith) c.loop-lit.invariant.room;
            grown = omega arith;
            holding = λ lit. ap (λ (v : Vec Mark Global). holds v.items lit) w.marks-is
                ∙ holds_resized c.loop-lit.marks.items w.resize.new.self.items (2 * c.var.result + 2) (vec_len c.loop-lit.marks) (search rules) (omega (arith, w.if-len-needed.true)) w.in_ok-resize.ensures.items lit
                ∙ c.loop-lit.invariant.holding lit;
          }
      | else-len-needed w ↦
          let same : vec_len c.if-len-needed.marks ≡ vec_len c.loop-lit.marks = ap vec_len w.marks-is in
          record {
            room = room_more c.args.clause.now c.loop-lit.lit-index c.lit-item.result (vec_len c.loop-lit.marks) (vec_len c.if-len-needed.marks) c.loop-lit-test.true c.lit-item.is (omega arith) (omega (arith, w.if-len-needed.false)) c.loop-lit.invariant.room;
            grown = omega arith;
            holding = λ lit. ap (λ (v : Vec Mark Global). holds v.items lit) w.marks-is ∙ c.loop-lit.invariant.holding lit;
          }
    ]

pub returns-clause-room : goal.returns-clause-room
returns-clause-room c = room_whole c.args.clause.now c.loop-lit.lit-index (vec_len c.loop-lit.marks) c.loop-lit-test.false c.loop-lit.invariant.room
