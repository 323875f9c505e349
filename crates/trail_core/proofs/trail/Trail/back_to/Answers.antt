use Rattle.std.proofs.Common.{◌∙◌, ◌≤◌, ap, sym, subst, arith, not, length, List}
use Rattle.std.specs.Prelude.{All}
use Rattle.trail_core.specs.Trail.{Entry}
use Rattle.trail_core.proofs.Levels.{up_to_front}
use Rattle.trail_core.proofs.trail.Trail.back_to.Goals as goal

pub set_depth-requires-clause-shallow : goal.set_depth-requires-clause-shallow
set_depth-requires-clause-shallow c = omega (arith, c.requires, c.loop-self.invariant.depth, c.ends_above.ensures.trail.shallow)

pub returns-clause-entries : goal.returns-clause-entries
returns-clause-entries c =
    let below : All (λ e. e.level ≤ c.args.level) c.loop-self.self.entries = c.ends_above.ensures.none (ap not c.loop-self-test.false) in
    ap (λ t. t.entries) c.set_depth.ensures
    ∙ c.loop-self.invariant.front
    ∙ sym (up_to_front c.args.level c.args.self.now.entries (length c.loop-self.self.entries) c.loop-self.invariant.within
    (subst (λ (xs : List Entry). All (λ e. e.level ≤ c.args.level) xs) c.loop-self.invariant.front below)
    c.loop-self.invariant.above)
