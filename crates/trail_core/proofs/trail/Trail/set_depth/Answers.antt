use Rattle.std.proofs.Common.{◌≤◌, ap, sym, subst, List}
use Rattle.std.specs.Prelude.{All}
use Rattle.trail_core.specs.Trail.{Entry}
use Rattle.trail_core.proofs.Levels.{at_depth}
use Rattle.trail_core.proofs.trail.Trail.set_depth.Goals as goal

pub invariant_of-self : goal.invariant_of-self
invariant_of-self c = record {
  laid = record {
    tables = at_depth c.self.inside.values.items c.self.inside.standings.items _ c.self.inside.depth c.self.inside.vars c.args.depth c.self.invariant.laid.tables
        (subst (λ (xs : List Entry). All (λ e. e.level ≤ c.args.depth) xs) (sym (ap (λ t. t.entries) c.self.view_is)) c.requires.below)
        (subst (λ v. c.args.depth ≤ v) (sym (ap (λ t. t.vars) c.self.view_is)) c.requires.shallow);
    lit_places = c.self.invariant.laid.lit_places;
    count_within = c.self.invariant.laid.count_within;
  };
  looked_at = c.self.invariant.looked_at;
}
