use Rattle.std.proofs.Common.{ℕ, ◌+◌, ◌<◌, ◌≤◌, List, length, take, subst, sym, ap, arith, inl}
use Rattle.std.specs.Prelude.{Contains}
use Rattle.std.proofs.lemmas.List.{take_all}
use Rattle.std.proofs.lemmas.List.Elements.{Contains-get_or}
use Rattle.clause_arena.specs.Arena.{clause_at}
use Rattle.analyze.specs.Graph.{IsPlaceOf}
use Rattle.analyze.specs.Seen.{AreAllSeen, HasGrown}
use Rattle.analyze.proofs.Forced.{Forced, forced}
use Rattle.analyze.proofs.Classified.{parting_same, few_places, one_more, cut_keep, cut_resolve}
use Rattle.analyze.proofs.Classified.{cut_imply, adds_none}
use Rattle.analyze.proofs.classify.classify_all.Goals as goal
use Rattle.analyze.proofs.classify.classify_all.Goals.{in-Kept+in_ok-push-in-Kept}
use Rattle.analyze.proofs.classify.classify_all.Goals.{in-Resolved+in_ok-push-in-Resolved}
use Rattle.analyze.proofs.classify.classify_all.Goals.{in-Implied+in_ok-analyze_clause-in-Implied+in_ok-push-in-Implied}

pub role_of-requires-clause-within : goal.role_of-requires-clause-within
role_of-requires-clause-within c =
    c.loop-next.invariant.cut.within c.index-place.result.now
    (subst (Contains c.loop-next.analyzed.items) (sym c.index-place.ensures)
    (Contains-get_or c.loop-next.analyzed.items c.loop-next.next c.index-place.result.now
    (omega (arith, c.loop-next-test.true, c.len.ensures))))

pub lits-requires : goal.lits-requires
lits-requires c =
    let has : Contains c.loop-next.analyzed.items c.index-place.result.now =
    subst (Contains c.loop-next.analyzed.items) (sym c.index-place.ensures)
    (Contains-get_or c.loop-next.analyzed.items c.loop-next.next c.index-place.result.now
    (omega (arith, c.loop-next-test.true, c.len.ensures))) in
    let role = c.in-Implied.ensures.role c.loop-next.analyzed.items c.loop-next.invariant.agree has
    c.loop-next.invariant.cut.prepared in
    (forced c.args.arena.now c.args.trail.now.entries c.args.trail.now.depth
    c.index-place.result.now c.in-Implied.id c.requires.founded
    (c.loop-next.invariant.cut.within c.index-place.result.now has) role.2 role.1).known

pub loop-next-smaller : goal.loop-next-smaller
loop-next-smaller c =
    let few : length c.loop-next.analyzed.items ≤ length c.args.trail.now.entries =
    few_places c.loop-next.analyzed.items (length c.args.trail.now.entries)
    c.loop-next.invariant.distinct c.loop-next.invariant.cut.within in
    omega (
      arith,
      few,
      c.requires.room,
      c.role_of.ensures.trail.few,
      c.loop-next-test.true,
      c.len.ensures,
      c.loop-next.auto.seen,
      c.match-role_of.auto.seen,
    )

pub loop-next-preserved : goal.loop-next-preserved
loop-next-preserved c =
    let lt : c.loop-next.next < length c.loop-next.analyzed.items =
    omega (arith, c.loop-next-test.true, c.len.ensures) in
    let has : Contains c.loop-next.analyzed.items c.index-place.result.now =
    subst (Contains c.loop-next.analyzed.items) (sym c.index-place.ensures)
    (Contains-get_or c.loop-next.analyzed.items c.loop-next.next c.index-place.result.now lt) in
    elim c.match-role_of.branch [
      | in-Kept+in_ok-push-in-Kept w ↦
          parting_same c.args.arena.now c.args.trail.now.entries c.args.trail.now.depth c.args.rule
          c.args.analyzed.now.items c.loop-next.seen c.match-role_of.seen c.loop-next.analyzed.items
          c.match-role_of.analyzed.items
          w.push.new.self.items c.match-role_of.kept.items c.loop-next.resolved.items
          c.match-role_of.resolved.items (c.loop-next.next + 1) w.seen-is
          (ap (λ v. v.items) w.analyzed-is) (ap (λ v. v.items) w.kept-is)
          (ap (λ v. v.items) w.resolved-is)
          (record {
            agree = c.loop-next.invariant.agree;
            distinct = c.loop-next.invariant.distinct;
            within = omega (arith, lt);
            cut = cut_keep c.args.arena.now c.args.trail.now.entries c.args.trail.now.depth
                c.args.rule c.args.analyzed.now.items
                (take c.loop-next.next c.loop-next.analyzed.items)
                (take (c.loop-next.next + 1) c.loop-next.analyzed.items)
                c.loop-next.analyzed.items c.loop-next.kept.items w.push.new.self.items
                c.loop-next.resolved.items c.index-place.result.now
                (one_more c.loop-next.analyzed.items c.loop-next.analyzed.items c.loop-next.next
                c.index-place.result.now lt c.index-place.ensures c.loop-next.invariant.distinct
                (take_all (length c.loop-next.analyzed.items) c.loop-next.analyzed.items
                (omega arith)))
                w.in_ok-push-in-Kept.ensures.items
                (w.in-Kept.ensures.role c.loop-next.analyzed.items c.loop-next.invariant.agree has
                c.loop-next.invariant.cut.prepared) c.loop-next.invariant.cut;
          })
      | in-Resolved+in_ok-push-in-Resolved w ↦
          parting_same c.args.arena.now c.args.trail.now.entries c.args.trail.now.depth c.args.rule
          c.args.analyzed.now.items c.loop-next.seen c.match-role_of.seen c.loop-next.analyzed.items
          c.match-role_of.analyzed.items
          c.loop-next.kept.items c.match-role_of.kept.items w.push-in-Resolved.new.self.items
          c.match-role_of.resolved.items (c.loop-next.next + 1) w.seen-is
          (ap (λ v. v.items) w.analyzed-is) (ap (λ v. v.items) w.kept-is)
          (ap (λ v. v.items) w.resolved-is)
          (record {
            agree = c.loop-next.invariant.agree;
            distinct = c.loop-next.invariant.distinct;
            within = omega (arith, lt);
            cut = cut_resolve c.args.arena.now c.args.trail.now.entries c.args.trail.now.depth
                c.args.rule c.args.analyzed.now.items
                (take c.loop-next.next c.loop-next.analyzed.items)
                (take (c.loop-next.next + 1) c.loop-next.analyzed.items)
                c.loop-next.analyzed.items c.loop-next.analyzed.items c.loop-next.kept.items
                c.loop-next.resolved.items w.push-in-Resolved.new.self.items
                c.index-place.result.now
                (one_more c.loop-next.analyzed.items c.loop-next.analyzed.items c.loop-next.next
                c.index-place.result.now lt c.index-place.ensures c.loop-next.invariant.distinct
                (take_all (length c.loop-next.analyzed.items) c.loop-next.analyzed.items
                (omega arith)))
                w.in_ok-push-in-Resolved.ensures.items has (λ other h. h) (λ other h. inl h)
                (w.in-Resolved.ensures.role c.loop-next.analyzed.items c.loop-next.invariant.agree
                has c.loop-next.invariant.cut.prepared).0
                (w.in-Resolved.ensures.role c.loop-next.analyzed.items c.loop-next.invariant.agree
                has c.loop-next.invariant.cut.prepared).1 c.loop-next.invariant.cut.prepared
                (adds_none c.args.trail.now.entries c.args.rule c.loop-next.analyzed.items)
                c.loop-next.invariant.cut;
          })
      | in-Implied+in_ok-analyze_clause-in-Implied+in_ok-push-in-Implied w ↦
          let role = w.in-Implied.ensures.role c.loop-next.analyzed.items
          c.loop-next.invariant.agree has c.loop-next.invariant.cut.prepared in
          let f : Forced c.args.arena.now c.args.trail.now.entries c.index-place.result.now
          w.in-Implied.id =
          forced c.args.arena.now c.args.trail.now.entries c.args.trail.now.depth
          c.index-place.result.now w.in-Implied.id c.requires.founded
          (c.loop-next.invariant.cut.within c.index-place.result.now has) role.2 role.1 in
          let all_seen : AreAllSeen c.args.trail.now.entries w.analyze_clause.new.analyzed.items
          (clause_at c.args.arena.now w.in-Implied.id).lits =
          subst (AreAllSeen c.args.trail.now.entries w.analyze_clause.new.analyzed.items)
          w.lits.ensures.value w.in_ok-analyze_clause-in-Implied.ensures.all_seen in
          let grown : HasGrown c.args.trail.now.entries c.args.trail.now.depth
          (IsPlaceOf c.args.trail.now.entries (clause_at c.args.arena.now w.in-Implied.id).lits)
          c.loop-next.analyzed.items w.analyze_clause.new.analyzed.items
          w.in_ok-analyze_clause-in-Implied.field-0 =
          subst (λ (ls : List ℕ). HasGrown c.args.trail.now.entries c.args.trail.now.depth
          (IsPlaceOf c.args.trail.now.entries ls) c.loop-next.analyzed.items
          w.analyze_clause.new.analyzed.items w.in_ok-analyze_clause-in-Implied.field-0)
          w.lits.ensures.value w.in_ok-analyze_clause-in-Implied.ensures.grown in
          parting_same c.args.arena.now c.args.trail.now.entries c.args.trail.now.depth c.args.rule
          c.args.analyzed.now.items w.analyze_clause.new.seen c.match-role_of.seen
          w.analyze_clause.new.analyzed.items c.match-role_of.analyzed.items
          c.loop-next.kept.items c.match-role_of.kept.items w.push-in-Implied.new.self.items
          c.match-role_of.resolved.items (c.loop-next.next + 1) w.seen-is
          (ap (λ v. v.items) w.analyzed-is) (ap (λ v. v.items) w.kept-is)
          (ap (λ v. v.items) w.resolved-is)
          (record {
            agree = w.analyze_clause.ensures.agree;
            distinct = w.analyze_clause.ensures.distinct;
            within = omega (arith, lt, grown.longer);
            cut = cut_imply c.args.arena.now c.args.trail.now.entries c.args.trail.now.depth
                c.args.rule c.args.analyzed.now.items
                (take c.loop-next.next c.loop-next.analyzed.items)
                (take (c.loop-next.next + 1) w.analyze_clause.new.analyzed.items)
                c.loop-next.analyzed.items w.analyze_clause.new.analyzed.items
                c.loop-next.kept.items c.loop-next.resolved.items w.push-in-Implied.new.self.items
                c.index-place.result.now w.in-Implied.id w.in_ok-analyze_clause-in-Implied.field-0
                (one_more c.loop-next.analyzed.items w.analyze_clause.new.analyzed.items
                c.loop-next.next c.index-place.result.now lt c.index-place.ensures
                c.loop-next.invariant.distinct grown.front)
                w.in_ok-push-in-Implied.ensures.items has c.role_of.ensures.trail.once
                c.requires.deep role.0 role.1 role.2 f role.3 all_seen grown
                c.loop-next.invariant.cut;
          })
    ]
