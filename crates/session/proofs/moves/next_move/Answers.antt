use Rattle.std.proofs.Common.{inl, ◌≤◌}
use Rattle.std.proofs.lemmas.List.Elements.{All-contains}
use Rattle.sat_base.specs.Lit.{variable}
use Rattle.session.proofs.moves.next_move.Goals as goal

pub returns-in-None-clause-next : goal.returns-in-None-clause-next
returns-in-None-clause-next c =
    let some = c.in-Some.ensures.some in
    record {
      is = some.0;
      within = All-contains (λ lit. variable lit ≤ c.args.trail.now.vars) c.args.cube.now c.in-Some.lit c.requires.within some.1;
      free = c.in-None.ensures.value;
      allowed = inl some.1;
    }
