use Rattle.std.proofs.Common.{[], ◌∷◌, ◌++◌, Some, refl, sym, ap, ◌∙◌}
use Rattle.turn_lock.proofs.Numbered.{opens}
use Rattle.turn_lock.proofs.making.open.Goals as goal

pub new-requires : goal.new-requires
new-requires g c =
    let k = g.T.Kept in
    opens k.entries k.caller k.count k.basis (k.basis c.of.result.value) c.args.passes c.of.result.value c.count_now-count.result c.push_reserved.new.self.items
    (c.push_reserved.ensures.items ∙ (ap (λ l. l ++ Some c.args.value ∷ []) c.in_ok-slots.ensures.items ∙ ap (λ v. Some v ∷ []) (sym c.of.ensures)))
    (ap k.entries c.of.ensures ∙ c.requires.empty)
    refl
    (c.count_now-count.ensures ∙ ap k.count (sym c.of.ensures))
    c.requires.some
    c.requires.most
