use Rattle.session.proofs.KnownPlaces.{front_with_more}
use Rattle.session.proofs.places.Places.reach.Goals as goal

pub invariant_of-self : goal.invariant_of-self
invariant_of-self c =
    let (count, are) = c.push_places.ensures.more in
    front_with_more c.self.inside.packets.items c.push_places.new.packets.items count
    c.self.inside.front are c.self.invariant
