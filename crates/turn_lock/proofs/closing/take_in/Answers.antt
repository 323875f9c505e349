use Rattle.std.proofs.Common.{◌≡◌, ◌<◌, true, [], ◌∷◌, ◌++◌, map, IfSome, sym, ap, ◌∙◌, subst, append_assoc}
use Rattle.std.proofs.lemmas.List.Elements.{All-pop}
use Rattle.atomic_table.specs.Table.{Joins}
use Rattle.turn_lock.specs.Turns.{keeper, blank, remembering}
use Rattle.turn_lock.specs.Passes.{remembered}
use Rattle.turn_lock.proofs.Steps.{Rule}
use Rattle.turn_lock.proofs.TakenIn.{takes_in}
use Rattle.turn_lock.proofs.closing.take_in.Goals as goal

pub join_seat-requires : goal.join_seat-requires
join_seat-requires g c =
    let k = g.T.Kept in let key = c.args.shared.now.key in let pass = c.pass.inside.seat in
    let popped = All-pop (λ p. (p.lock ≡ c.args.shared.now.table_id) × (p.idle ≡ true)) c.loop-pass.passes.items c.pop.new.self.items c.pop.result c.pop.ensures.items c.loop-pass.invariant.left in
    let of = subst (λ r. IfSome r (λ p. (p.lock ≡ c.args.shared.now.table_id) × (p.idle ≡ true))) c.in-Some.is popped.1 in
    let idle = ap (λ p. p.idle) c.pass.view_is ∙ of.1 in (
      c.loop-pass.invariant.table,
      ap (λ p. p.lock) c.pass.view_is ∙ of.0,
      c.pass.invariant.resting idle,
      c.requires.words,
      subst (λ v. Joins (Rule k.entries k.caller k.count k.basis (k.basis key.value.value) key.passes) c.loop-pass.seat.id v pass.id pass.me.0 (remembering v pass.me.0) blank) (sym (ap (λ m. m.0) c.loop-pass.invariant.taken.2))
          (takes_in k.entries k.caller k.count k.basis (k.basis key.value.value) key.passes c.loop-pass.seat.id pass.id (map remembered c.loop-pass.invariant.taken.0 ++ c.args.seat.now.me.0.past) pass.me.0
          (subst (λ n. 0 < n) (sym c.pass.invariant.number_is) c.pass.invariant.least) idle),
    )

pub loop-pass-preserved : goal.loop-pass-preserved
loop-pass-preserved g c =
    let gone = c.loop-pass.invariant.taken in let pasts = map remembered gone.0 ++ c.args.seat.now.me.0.past in
    record {
      taken = (
        c.in-Some.pass ∷ gone.0,
        gone.1 ∙ (ap (λ l. l ++ gone.0) c.in-Some.ensures.items ∙ append_assoc c.pop.new.self.items (c.in-Some.pass ∷ []) gone.0),
        c.join_seat.ensures.2 ∙ (ap (λ m. (remembering m.0 c.pass.inside.seat.me.0, m.1)) gone.2 ∙ ap (λ p. (keeper (remembered p ∷ pasts), [])) c.pass.view_is),
      );
      left = (All-pop (λ p. (p.lock ≡ c.args.shared.now.table_id) × (p.idle ≡ true)) c.loop-pass.passes.items c.pop.new.self.items c.pop.result c.pop.ensures.items c.loop-pass.invariant.left).0;
      table = c.join_seat.ensures.0 ∙ c.loop-pass.invariant.table;
    }
