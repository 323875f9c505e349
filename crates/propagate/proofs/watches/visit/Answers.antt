use Rattle.std.proofs.Common.{◌≡◌, ◌∙◌, ◌<◌, ◌+◌, ap, subst, arith, refl, length, ℕ, []}
use Rattle.std.specs.Prelude.{Option}
use Rattle.clause_arena.specs.Arena.{lits_of_each}
use Rattle.trail_core.specs.Trail.{entry_at}
use Rattle.propagate.specs.Pairing.{IsPaired}
use Rattle.propagate.specs.Walk.{IsUnderway}
use Rattle.propagate.proofs.Same.{propagated_none, propagated_twice}
use Rattle.propagate.proofs.Visits.{walk_start, walk_end, grown_entry, none_of}
use Rattle.propagate.proofs.watches.visit.Goals as goal

pub loop-here-init : goal.loop-here-init
loop-here-init c = record {
  underway = walk_start c.args.arena.now c.args.ring.now c.args.trail.now c.args.lit c.negated-gone.result c.first-here.result c.requires.connected c.requires.next c.requires.is c.negated-gone.ensures c.first-here.ensures.value;
  kept = propagated_none c.args.arena.now c.args.ring.now c.args.trail.now;
  looked = refl;
}

pub loop-here-preserved : goal.loop-here-preserved
loop-here-preserved c = record {
  underway = c.in-On.ensures.stepped.0;
  kept = propagated_twice c.args.arena.now c.args.ring.now c.args.trail.now c.loop-here.arena c.loop-here.ring c.loop-here.trail c.take_step.new.arena c.take_step.new.ring c.take_step.new.trail c.loop-here.invariant.kept c.take_step.ensures.kept;
  looked = c.take_step.ensures.looked ∙ c.loop-here.invariant.looked;
}

pub returns-in-Refuted-clause-kept : goal.returns-in-Refuted-clause-kept
returns-in-Refuted-clause-kept c =
    propagated_twice c.args.arena.now c.args.ring.now c.args.trail.now c.loop-here.arena c.loop-here.ring c.loop-here.trail c.take_step.new.arena c.take_step.new.ring c.take_step.new.trail c.loop-here.invariant.kept c.take_step.ensures.kept

pub returns-clause-paired : goal.returns-clause-paired
returns-clause-paired c =
    let i = c.loop-here.invariant in
    let next : c.loop-here.trail.looked < length c.loop-here.trail.entries = omega (arith, i.looked, c.requires.next, i.kept.grown.longer) in
    let at = grown_entry (lits_of_each c.args.arena.now) c.args.trail.now.depth c.args.trail.now.entries c.loop-here.trail.entries c.args.trail.now.looked i.kept.grown c.requires.next in
    let is : (entry_at c.loop-here.trail.entries c.loop-here.trail.looked).lit ≡ c.args.lit =
    ap (λ n. (entry_at c.loop-here.trail.entries n).lit) i.looked ∙ ap (λ e. e.lit) at ∙ c.requires.is in
    subst (λ n. IsPaired c.loop-here.arena [] c.loop-here.trail.entries (n + 1)) i.looked
    (walk_end c.loop-here.arena c.loop-here.ring c.loop-here.trail c.args.lit c.negated-gone.result c.loop-here.before
    (subst (λ (o : Option (ℕ × ℕ)). IsUnderway c.loop-here.arena c.loop-here.ring c.loop-here.trail c.negated-gone.result c.loop-here.before o) (none_of c.loop-here.here c.in_default.not-Some) i.underway)
    next is c.negated-gone.ensures)
