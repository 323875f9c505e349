use Rattle.std.proofs.Common.{rules, subst, sym, ◌++◌, ◌∷◌, []}
use Rattle.trace_core.specs.Marking.{IsFound}
use Rattle.trace_core.proofs.MarkLemmas.{scanned_none, scanned_free, scanned_held, scanned_shown, scanned_whole}
use Rattle.trace_core.proofs.marks.scan.Goals as goal
use Rattle.trace_core.proofs.marks.scan.Goals.{in-Free, in-Held, in-Uncovered}

pub loop-lit-init : goal.loop-lit-init
loop-lit-init c = scanned_none c.args.marks.now

pub loop-lit-preserved : goal.loop-lit-preserved
loop-lit-preserved c =
    elim c.match-marks-code.branch [
      | in-Free w ↦ scanned_free c.args.marks.now c.loop-lit.marks c.match-marks-code.marks c.args.hint.now c.loop-lit.lit-index c.lit-item.result c.code-code.result c.loop-lit.found c.match-marks-code.found
          c.loop-lit-test.true c.lit-item.is (search rules) w.in-Free.is w.marks-is
          (λ before seen is free. subst (IsFound before (seen ++ c.lit-item.result ∷ [])) (sym w.found-is) (w.with-found.ensures before seen is free))
          c.loop-lit.invariant
      | in-Held w ↦ scanned_held c.args.marks.now c.loop-lit.marks c.match-marks-code.marks c.args.hint.now c.loop-lit.lit-index c.lit-item.result c.code-code.result c.loop-lit.found c.match-marks-code.found
          c.loop-lit-test.true c.lit-item.is (search rules) w.in-Held.is w.marks-is w.found-is c.loop-lit.invariant
      | in-Uncovered w ↦ scanned_shown c.args.marks.now c.loop-lit.marks c.match-marks-code.marks c.args.hint.now c.loop-lit.lit-index c.lit-item.result c.code-code.result c.loop-lit.found c.match-marks-code.found
          c.loop-lit-test.true c.lit-item.is (search rules) w.in-Uncovered.is w.marks-is w.found-is c.loop-lit.invariant
    ]

pub returns-clause-found : goal.returns-clause-found
returns-clause-found c = (scanned_whole c.args.marks.now c.loop-lit.marks c.args.hint.now c.loop-lit.lit-index c.loop-lit.found c.loop-lit-test.false c.loop-lit.invariant).is_found

pub returns-clause-covered : goal.returns-clause-covered
returns-clause-covered c = (scanned_whole c.args.marks.now c.loop-lit.marks c.args.hint.now c.loop-lit.lit-index c.loop-lit.found c.loop-lit-test.false c.loop-lit.invariant).covered
