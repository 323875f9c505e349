use Rattle.std.proofs.Common.{◌∙◌, ap, length, arith}
use Rattle.std.proofs.lemmas.List.{length-map}
use Rattle.trail_core.specs.Trail.{Entry}
use Rattle.session.specs.declared.search.Search.{Search}
use Rattle.session.proofs.Searches.{units_more}
use Rattle.session.proofs.naming.name_units.Goals as goal

pub loop-search-preserved : goal.loop-search-preserved
loop-search-preserved c =
    let old = c.args.search.now in
    let mid = c.loop-search.search in
    let new = c.name_next.new.search in
    let e = c.in_ok-name_next.ensures in
    let with_new : Search → Search = λ s. record s { units = new.units; tags = new.tags; named = new.named; steps = new.steps } in (
      e.kept,
      e.parts ∙ ap with_new c.loop-search.invariant.1,
      units_more old.steps mid.steps new.steps c.loop-search.invariant.2 e.steps,
      omega (arith, e.one, c.loop-search-test.true, ap length c.lits.ensures.value, length-map mid.trail.entries (λ (x : Entry). x.lit), ap (λ (s : Search). length s.trail.entries) c.loop-search.invariant.1),
    )

pub returns-in_err-name_next-clause-steps : goal.returns-in_err-name_next-clause-steps
returns-in_err-name_next-clause-steps c =
    units_more c.args.search.now.steps c.loop-search.search.steps c.name_next.new.search.steps c.loop-search.invariant.2 c.in_err-name_next.ensures.steps
