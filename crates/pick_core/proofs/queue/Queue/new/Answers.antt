use Rattle.std.proofs.Common.{List, [], subst, sym, refl, arith}
use Rattle.pick_core.specs.declared.links.Links.{Links}
use Rattle.pick_core.specs.Layout.{IsKeptIn}
use Rattle.pick_core.proofs.queue.Queue.new.Goals as goal

nothing : IsKeptIn [] 0 0
nothing = record {
  skipped = [];
  rest = [];
  laid = record {
    order = record {
      linked = (refl, refl);
      variables = record { once = tt; known = λ var h. absurd (omega (arith, h.1)); each = λ var low high. absurd (omega (arith, low, high)); size = refl };
      room = λ some. absurd (omega (arith, some));
    };
    cursor_is = refl;
    vars_is = refl;
    tight = omega arith;
  };
}

pub invariant_of-result : goal.invariant_of-result
invariant_of-result c = subst (λ (xs : List Links). IsKeptIn xs 0 0) (sym c.new.ensures.items) nothing
