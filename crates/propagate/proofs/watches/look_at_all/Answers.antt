use Rattle.std.proofs.Common.{◌≡◌, ◌∙◌, ◌+◌, ap, sym, subst, arith, length, List, ℕ, []}
use Rattle.std.proofs.lemmas.List.{length-map}
use Rattle.trail_core.specs.Trail.{Entry}
use Rattle.propagate.specs.Pairing.{IsPaired}
use Rattle.propagate.proofs.Complete.{complete_paired}
use Rattle.propagate.proofs.Same.{propagated_none, propagated_twice}
use Rattle.propagate.proofs.Visits.{connected_marked, propagated_marked}
use Rattle.propagate.proofs.watches.look_at_all.Goals as goal

pub loop-lits-init : goal.loop-lits-init
loop-lits-init c = record {
  connected = c.requires;
  kept = propagated_none c.args.arena.now c.args.ring.now c.args.trail.now;
}

pub returns-then-n-lits-clause-complete : goal.returns-then-n-lits-clause-complete
returns-then-n-lits-clause-complete c =
    complete_paired c.loop-lits.arena c.loop-lits.trail c.looked-n.ensures.trail c.loop-lits.invariant.connected.paired
    (sym c.looked-n.ensures.value ∙ c.if-n-lits.true ∙ ap (λ (xs : List ℕ). length xs) c.lits-lits.ensures.value ∙ length-map c.loop-lits.trail.entries (λ (e : Entry). e.lit))
    c.len.ensures.distinct

pub returns-in-Some-clause-kept : goal.returns-in-Some-clause-kept
returns-in-Some-clause-kept c =
    propagated_twice c.args.arena.now c.args.ring.now c.args.trail.now c.loop-lits.arena c.loop-lits.ring c.loop-lits.trail c.visit.new.arena c.visit.new.ring c.visit.new.trail c.loop-lits.invariant.kept c.visit.ensures.kept

pub loop-lits-preserved : goal.loop-lits-preserved
loop-lits-preserved c =
    let n_is : c.looked-n.result ≡ c.loop-lits.trail.looked = c.looked-n.ensures.value in
    record {
      connected = connected_marked c.visit.new.arena c.visit.new.ring c.visit.new.trail c.mark.new.self (c.looked-n.result + 1) c.visit.ensures.connected
          (subst (λ n. IsPaired c.visit.new.arena [] c.visit.new.trail.entries (n + 1)) (sym n_is) c.in-None.ensures.paired)
          (omega (arith, n_is, c.visit.ensures.looked)) c.mark.ensures;
      kept = propagated_marked c.args.arena.now c.args.ring.now c.args.trail.now c.visit.new.arena c.visit.new.ring c.visit.new.trail c.mark.new.self (c.looked-n.result + 1)
          (propagated_twice c.args.arena.now c.args.ring.now c.args.trail.now c.loop-lits.arena c.loop-lits.ring c.loop-lits.trail c.visit.new.arena c.visit.new.ring c.visit.new.trail c.loop-lits.invariant.kept c.visit.ensures.kept)
          c.mark.ensures;
    }
