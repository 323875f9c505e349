use Rattle.std.proofs.Common.{◌≡◌, rules, arith, length}
use Rattle.std.specs.Vec.{vec_len}
use Rattle.watch_ring.proofs.Cleared.{cleared_in}
use Rattle.watch_ring.proofs.ring.WatchRing.clear.Goals as goal

pub invariant_of-self : goal.invariant_of-self
invariant_of-self c =
    (cleared_in c.self.inside.heads.items c.fill.new.self.items c.self.inside.links.items c.none.result c.self.inside.vars c.self.inside.clauses _ c.self.invariant.room c.none.ensures (let e : vec_len c.self.inside.heads ≡ length c.self.inside.heads.items = omega arith in e) (c.fill.ensures.items (λ y h. search rules))).0

pub returns-clause-lists : goal.returns-clause-lists
returns-clause-lists c =
    (cleared_in c.self.inside.heads.items c.fill.new.self.items c.self.inside.links.items c.none.result c.self.inside.vars c.self.inside.clauses _ c.self.invariant.room c.none.ensures (let e : vec_len c.self.inside.heads ≡ length c.self.inside.heads.items = omega arith in e) (c.fill.ensures.items (λ y h. search rules))).1
