use Rattle.std.proofs.Common.{arith}
use Rattle.sat_base.specs.Lit.{variable}
use Rattle.trail_core.specs.Trail.{StandsAt}
use Rattle.analyze.specs.Graph.{IsPlaceOf}
use Rattle.analyze.proofs.Grown.{grown_twice, grown_keeps, met_more, met_whole, place_of}
use Rattle.analyze.proofs.seen.analyze_clause.Goals as goal

pub loop-lit-preserved : goal.loop-lit-preserved
loop-lit-preserved c = record {
  agree = c.analyze_literal.ensures.agree;
  distinct = c.analyze_literal.ensures.distinct;
  few = omega (arith, c.in_ok-count.ensures.one);
  all_seen = met_more c.args.trail.now.entries c.args.clause.now c.loop-lit.lit-index
      c.lit-item.result c.loop-lit.analyzed.items c.analyze_literal.new.analyzed.items
      c.loop-lit-test.true c.lit-item.is
      (grown_keeps c.args.trail.now.entries c.args.trail.now.depth
      (StandsAt c.args.trail.now.entries (variable c.lit-item.result)) c.loop-lit.analyzed.items
      c.analyze_literal.new.analyzed.items c.in_ok-count.field-0 c.in_ok-count.ensures.grown)
      c.loop-lit.invariant.all_seen c.in_ok-count.ensures.all_seen;
  grown = grown_twice c.args.trail.now.entries c.args.trail.now.depth
      (IsPlaceOf c.args.trail.now.entries c.args.clause.now)
      (StandsAt c.args.trail.now.entries (variable c.lit-item.result))
      (IsPlaceOf c.args.trail.now.entries c.args.clause.now) c.args.analyzed.now.items
      c.loop-lit.analyzed.items c.analyze_literal.new.analyzed.items c.loop-lit.count
      c.in_ok-count.field-0
      (λ place is. is) (λ place at. place_of c.args.trail.now.entries c.args.clause.now
      c.loop-lit.lit-index c.lit-item.result place c.loop-lit-test.true c.lit-item.is at)
      c.loop-lit.invariant.grown c.in_ok-count.ensures.grown;
}

pub returns-clause-all_seen : goal.returns-clause-all_seen
returns-clause-all_seen c =
    met_whole c.args.trail.now.entries c.args.clause.now c.loop-lit.lit-index
    c.loop-lit.analyzed.items c.loop-lit-test.false c.loop-lit.invariant.all_seen
