use Rattle.std.proofs.Common.{◌≡◌, ◌∙◌, ◌+◌, ◌*◌, ◌<◌, length, ap, arith}
use Rattle.std.specs.Prelude.{None}
use Rattle.std.specs.Option.{option_map}
use Rattle.std.proofs.lemmas.List.{get_or_read}
use Rattle.watch_ring.specs.Link.{pair_of}
use Rattle.watch_ring.specs.Layout.{link_at}
use Rattle.watch_ring.proofs.Kept.{link_behind}
use Rattle.watch_ring.proofs.ring.WatchRing.next.Goals as goal

pub returns-clause-value : goal.returns-clause-value
returns-clause-value c = λ lit front back is.
    let lt : 2 * c.args.id + c.args.side < length c.self.inside.links.items = omega (arith, c.requires.clause, c.requires.side, c.self.invariant.room.links_for, ap (λ v. v.clauses) c.self.view_is) in
    let read : c.index.result.now ≡ link_at c.self.inside.links.items (2 * c.args.id + c.args.side) = get_or_read c.self.inside.links.items (2 * c.args.id + c.args.side) c.index.result.now lt c.index.ensures None in
    c.side.ensures ∙ ap (option_map pair_of) (read ∙ link_behind c.self.inside.heads.items c.self.inside.links.items c.self.inside.vars c.self.inside.clauses c.args.self.now lit (2 * c.args.id + c.args.side) front back c.self.invariant c.self.view_is is)
