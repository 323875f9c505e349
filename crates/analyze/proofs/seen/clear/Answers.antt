use Rattle.std.proofs.Common.{ℕ, ◌<◌, List, length, get_or, subst, arith}
use Rattle.std.specs.Prelude.{Contains}
use Rattle.std.proofs.lemmas.List.Elements.{Contains-get_or}
use Rattle.analyze.proofs.SeenPlaces.{seen_within}
use Rattle.analyze.proofs.seen.clear.Goals as goal

pub bounds-seen-place : goal.bounds-seen-place
bounds-seen-place c =
    let place : ℕ = get_or c.deref-place-items.result.now c.loop-place.place-index 0 in
    let has : Contains c.deref-place-items.result.now place = Contains-get_or c.deref-place-items.result.now c.loop-place.place-index 0 c.loop-place-test.true in
    let within : place < length c.args.seen.now =
    seen_within c.args.seen.now place
    ((c.requires place).1
    (subst (λ (places : List ℕ). Contains places place) c.deref-place-items.ensures.value
    has)) in
    omega arith
