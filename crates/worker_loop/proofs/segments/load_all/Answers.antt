use Rattle.std.proofs.Common.{◌≡◌, ◌∙◌, ◌+◌, ◌≤◌, Some, ap, arith, length, refl, subst, sym}
use Rattle.std.specs.Prelude.{IsSome}
use Rattle.std.specs.Arc.{arc_value}
use Rattle.trace_core.specs.Known.{item_at}
use Rattle.trace_core.proofs.Items.{item_at-within}
use Rattle.entry_core.specs.declared.segments.Segment.{Segment}
use Rattle.entry_core.specs.Journal.{segments}
use Rattle.worker_loop.proofs.Fitting.{few_before, few_loaded}
use Rattle.worker_loop.proofs.Keeping.{kept_twice}
use Rattle.worker_loop.proofs.Segmented.{next_there}
use Rattle.worker_loop.proofs.segments.load_all.Goals as goal

pub load_next-requires-clause-clauses : goal.load_next-requires-clause-clauses
load_next-requires-clause-clauses c =
    let from = c.args.bench.now.session.solver.bound in
    let there = next_there c.requires.fits.journal from c.loop-segment.segment-index c.args.found.now c.segment-item.result c.loop-segment-test.true c.requires.fits.next in
    subst (λ (s : Segment). length c.loop-segment.bench.session.solver.inputs + length s.clauses ≤ 16777216) (sym (c.deref.ensures ∙ ap arc_value c.segment-item.is))
    (few_loaded c.requires.fits.rules c.requires.fits.journal c.loop-segment.bench (from + c.loop-segment.segment-index + 1) _ c.requires.fits.legal
    (c.loop-segment.invariant.fits c.requires.fits.journal c.requires.fits.fits c.requires.fits.next) (omega (arith, c.loop-segment.invariant.bound)) there)

pub load_next-requires-clause-jobs : goal.load_next-requires-clause-jobs
load_next-requires-clause-jobs c =
    let from = c.args.bench.now.session.solver.bound in
    let there = next_there c.requires.fits.journal from c.loop-segment.segment-index c.args.found.now c.segment-item.result c.loop-segment-test.true c.requires.fits.next in
    let within = item_at-within (segments c.requires.fits.journal) (from + c.loop-segment.segment-index + 1) (subst IsSome (sym there) refl) in
    few_before c.requires.fits.rules c.requires.fits.journal c.loop-segment.bench.session.solver.bound c.requires.fits.legal (omega (arith, c.loop-segment.invariant.bound, within.1))

pub loop-segment-preserved : goal.loop-segment-preserved
loop-segment-preserved c = record {
  fits = λ journal fits are.
      (let there = next_there journal c.args.bench.now.session.solver.bound c.loop-segment.segment-index c.args.found.now c.segment-item.result c.loop-segment-test.true are in
      c.in_ok-load_next.ensures.fits journal (c.loop-segment.invariant.fits journal fits are)
      (ap (item_at (segments journal)) (let e : c.loop-segment.bench.session.solver.bound + 1 ≡ c.args.bench.now.session.solver.bound + c.loop-segment.segment-index + 1 = omega (arith, c.loop-segment.invariant.bound) in e)
      ∙ there ∙ ap Some (sym (c.deref.ensures ∙ ap arc_value c.segment-item.is))));
  bound = omega (arith, c.in_ok-load_next.ensures.bound, c.loop-segment.invariant.bound);
  kept = kept_twice c.args.bench.now.session.solver c.loop-segment.bench.session.solver c.load_next.new.bench.session.solver c.loop-segment.invariant.kept c.load_next.ensures.kept;
  learnt = c.load_next.ensures.learnt ∙ c.loop-segment.invariant.learnt;
}
