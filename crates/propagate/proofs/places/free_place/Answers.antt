use Rattle.std.proofs.Common.{subst, arith}
use Rattle.std.proofs.lemmas.List.{get_or_read}
use Rattle.trail_core.specs.Trail.{lits_of}
use Rattle.trail_core.specs.UnderTrail.{IsFalseLit}
use Rattle.propagate.proofs.Literals.{false_more}
use Rattle.propagate.proofs.places.free_place.Goals as goal

pub loop-place-preserved : goal.loop-place-preserved
loop-place-preserved c =
    false_more (lits_of c.args.trail.now.entries) c.args.lits.now c.args.from c.loop-place.place c.loop-place.invariant
    (subst (IsFalseLit (lits_of c.args.trail.now.entries)) (get_or_read c.args.lits.now c.loop-place.place c.index-lits-place.result c.loop-place-test.true c.index-lits-place.is 0)
    (c.is_false.ensures.yes c.if-not-is_false.false))

pub returns-clause-none : goal.returns-clause-none
returns-clause-none c = record { each = λ k from to. c.loop-place.invariant.each k from (omega (arith, to, c.loop-place-test.false)) }
