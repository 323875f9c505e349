use Rattle.std.proofs.Common.{◌∙◌, ◌+◌, ◌∷◌, [], ◌++◌, List, None, ap, sym}
use Rattle.std.specs.Prelude.{replicate}
use Rattle.std.proofs.lemmas.List.{append_assoc}
use Rattle.std.proofs.lemmas.Grind.{replicate_next}
use Rattle.session.proofs.places.push_places.Goals as goal

pub loop-packets-preserved : goal.loop-packets-preserved
loop-packets-preserved c =
    let (count, are) = c.loop-packets.invariant in (
      count + 1,
      c.in_ok-push_place.ensures.ok ∙ ap (λ (xs : List _). xs ++ None ∷ []) are
          ∙ append_assoc c.args.packets.now.items (replicate count None) (None ∷ [])
          ∙ ap (λ (xs : List _). c.args.packets.now.items ++ xs) (sym (replicate_next count None)),
    )
