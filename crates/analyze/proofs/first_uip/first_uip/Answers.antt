use Rattle.std.proofs.Common.{◌≡◌, ℕ, ◌+◌, ◌-◌, ◌<◌, List, length, subst, arith}
use Rattle.std.specs.Prelude.{Contains}
use Rattle.std.proofs.lemmas.Bool.{both_ways}
use Rattle.clause_arena.specs.Arena.{clause_at, lits_of_each}
use Rattle.analyze.specs.Graph.{level_at, IsPlaceOf}
use Rattle.analyze.specs.Seen.{AreAllSeen, HasGrown, is_seen}
use Rattle.analyze.proofs.Forced.{Forced, forced}
use Rattle.analyze.proofs.ToFirstUip.{last_present, resolved_skip, resolved_next, under_way_skip}
use Rattle.analyze.proofs.ToFirstUip.{under_way_next, some_left, at_point}
use Rattle.analyze.proofs.first_uip.first_uip.Goals as goal

pub returns-in_default-clause-point : goal.returns-in_default-clause-point
returns-in_default-clause-point c =
    at_point c.args.trail.now (lits_of_each c.args.arena.now) c.loop-seen.place c.loop-seen.left
    (c.loop-seen.place - 1) c.loop-seen.analyzed.items c.lits-place.ensures.trail c.requires.deep
    c.requires.founded
    (omega (arith, c.loop-seen.invariant.under_way.below))
    (omega (arith, c.loop-seen.invariant.within, c.loop-seen.invariant.under_way.below))
    ((c.loop-seen.invariant.agree (c.loop-seen.place - 1)).0 c.if-seen-place.true)
    c.loop-seen.invariant.under_way c.in_default.ensures.none

pub overflow_sub-left : goal.overflow_sub-left
overflow_sub-left c =
    some_left c.args.trail.now.entries c.args.trail.now.depth c.loop-seen.place c.loop-seen.left
    c.loop-seen.analyzed.items c.loop-seen.invariant.under_way

pub lits-requires : goal.lits-requires
lits-requires c =
    let at : c.loop-seen.place - 1 + 1 ≡ c.loop-seen.place =
    omega (arith, c.loop-seen.invariant.under_way.below) in
    let within : c.loop-seen.place - 1 < length c.args.trail.now.entries =
    omega (arith, c.loop-seen.invariant.within) in
    let present : level_at c.args.trail.now.entries
    (c.loop-seen.place - 1) ≡ c.args.trail.now.depth =
    last_present c.args.trail.now c.loop-seen.place c.loop-seen.left (c.loop-seen.place - 1)
    c.loop-seen.analyzed.items c.lits-place.ensures.trail c.loop-seen.invariant.under_way at
    within in
    (forced c.args.arena.now c.args.trail.now.entries c.args.trail.now.depth (c.loop-seen.place - 1)
    c.in-Some.id c.requires.founded within (omega (arith, present, c.requires.deep))
    c.in-Some.ensures.some.1).known

pub loop-seen-preserved-then-seen-place : goal.loop-seen-preserved-then-seen-place
loop-seen-preserved-then-seen-place c =
    let at : c.loop-seen.place - 1 + 1 ≡ c.loop-seen.place =
    omega (arith, c.loop-seen.invariant.under_way.below) in
    let within : c.loop-seen.place - 1 < length c.args.trail.now.entries =
    omega (arith, c.loop-seen.invariant.within) in
    let has : Contains c.loop-seen.analyzed.items (c.loop-seen.place - 1) =
    (c.loop-seen.invariant.agree (c.loop-seen.place - 1)).0 c.if-seen-place.true in
    let present : level_at c.args.trail.now.entries
    (c.loop-seen.place - 1) ≡ c.args.trail.now.depth =
    last_present c.args.trail.now c.loop-seen.place c.loop-seen.left (c.loop-seen.place - 1)
    c.loop-seen.analyzed.items c.lits-place.ensures.trail c.loop-seen.invariant.under_way at
    within in
    let f : Forced c.args.arena.now c.args.trail.now.entries (c.loop-seen.place - 1) c.in-Some.id =
    forced c.args.arena.now c.args.trail.now.entries c.args.trail.now.depth (c.loop-seen.place - 1)
    c.in-Some.id c.requires.founded within (omega (arith, present, c.requires.deep))
    c.in-Some.ensures.some.1 in
    let all_seen : AreAllSeen c.args.trail.now.entries c.analyze_clause.new.analyzed.items
    (clause_at c.args.arena.now c.in-Some.id).lits =
    subst (AreAllSeen c.args.trail.now.entries c.analyze_clause.new.analyzed.items)
    c.lits.ensures.value c.in_ok-left.ensures.all_seen in
    let grown : HasGrown c.args.trail.now.entries c.args.trail.now.depth
    (IsPlaceOf c.args.trail.now.entries (clause_at c.args.arena.now c.in-Some.id).lits)
    c.loop-seen.analyzed.items c.analyze_clause.new.analyzed.items c.in_ok-left.field-0 =
    subst (λ (ls : List ℕ). HasGrown c.args.trail.now.entries c.args.trail.now.depth
    (IsPlaceOf c.args.trail.now.entries ls) c.loop-seen.analyzed.items
    c.analyze_clause.new.analyzed.items c.in_ok-left.field-0) c.lits.ensures.value
    c.in_ok-left.ensures.grown in
    record {
      agree = c.analyze_clause.ensures.agree;
      distinct = c.analyze_clause.ensures.distinct;
      within = omega (arith, c.loop-seen.invariant.within);
      resolved_from = resolved_next c.args.trail.now c.args.arena.now
          (clause_at c.args.arena.now c.args.conflict).lits c.loop-seen.place
          (c.loop-seen.place - 1) c.in-Some.id c.in_ok-left.field-0 c.loop-seen.analyzed.items
          c.analyze_clause.new.analyzed.items
          c.lits-place.ensures.trail at has present c.in-Some.ensures.some.1 f all_seen grown
          c.loop-seen.invariant.resolved_from;
      under_way = under_way_next c.args.trail.now c.args.arena.now c.loop-seen.place
          c.loop-seen.left (c.loop-seen.place - 1) c.in-Some.id c.in_ok-left.field-0
          c.loop-seen.analyzed.items c.analyze_clause.new.analyzed.items
          c.lits-place.ensures.trail c.requires.deep c.requires.complete at within has present f
          all_seen grown c.loop-seen.invariant.under_way;
    }

pub loop-seen-preserved : goal.loop-seen-preserved
loop-seen-preserved c =
    let at : c.loop-seen.place - 1 + 1 ≡ c.loop-seen.place =
    omega (arith, c.loop-seen.invariant.under_way.below) in
    let unmet : ¬ Contains c.loop-seen.analyzed.items (c.loop-seen.place - 1) =
    λ has. both_ways (is_seen c.loop-seen.seen (c.loop-seen.place - 1)) c.if-seen-place.false
    ((c.loop-seen.invariant.agree (c.loop-seen.place - 1)).1 has) in
    record {
      agree = c.loop-seen.invariant.agree;
      distinct = c.loop-seen.invariant.distinct;
      within = omega (arith, c.loop-seen.invariant.within);
      resolved_from = resolved_skip c.args.arena.now c.args.trail.now.entries c.args.trail.now.depth
          (clause_at c.args.arena.now c.args.conflict).lits c.loop-seen.place
          (c.loop-seen.place - 1) c.loop-seen.analyzed.items at unmet
          c.loop-seen.invariant.resolved_from;
      under_way = under_way_skip c.args.trail.now.entries c.args.trail.now.depth c.loop-seen.place
          c.loop-seen.left (c.loop-seen.place - 1) c.loop-seen.analyzed.items at unmet
          c.loop-seen.invariant.under_way;
    }
