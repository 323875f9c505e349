-- What a search keeps for its cube, call after call.
use Rattle.std.proofs.Common.{◌≡◌, ℕ, ◌+◌, ◌<◌, List, [], ◌∷◌, ◌++◌, take, None, Some, sym, subst}
use Rattle.std.proofs.Common.{arith, Vec, Global}
use Rattle.std.proofs.lemmas.List.{length-take}
use Rattle.trail_core.specs.Trail.{Entry, TrailView, IsTrail, lits_of, up_to}
use Rattle.trail_core.specs.UnderTrail.{HasGrown}
use Rattle.propagate.specs.Store.{StoreView}
use Rattle.session.specs.declared.search.Cursor.{Cursor}
use Rattle.session.specs.declared.search.Search.{Search}
use Rattle.session.specs.declared.order.Order.{Order}
use Rattle.session.specs.OnTrail.{IsForCube, IsChoice}
use Rattle.session.specs.Cursors.{PassesTrue, cursor_at}
use Rattle.session.specs.Cubes.{IsOnCube, KeepsCubes}
use Rattle.session.specs.Searching.{IsSearching}
use Rattle.session.proofs.OnTrails.{cube_push, cube_back, cube_grown, cube_at_zero}
use Rattle.session.proofs.Cursor.{true_stays, cursors_grown, cursors_more, cursors_opened}
use Rattle.session.proofs.Cursor.{cursors_back, cursors_moved, cursors_at_zero}

-- propagation
pub on_cube_grown : (clauses : List (List ℕ)) (s : Search) (store : StoreView) (trail : TrailView)
    → HasGrown clauses s.trail.depth s.trail.entries trail.entries → trail.depth ≡ s.trail.depth
    → KeepsCubes s (record s { store = store; trail = trail })
on_cube_grown clauses s store trail grown depth_is cube on_cube = record {
  decisions = cube_grown clauses cube s.trail.entries trail.entries s.trail.depth grown on_cube.decisions;
  cursors = cursors_grown (PassesTrue cube) clauses s.trail trail s.cursor s.cursors.items
      (true_stays cube) grown depth_is on_cube.cursors;
}

-- a decision
pub on_cube_decided : (cube : List ℕ) (s : Search) (trail : TrailView) (cursors : Vec Cursor Global)
    (lit : ℕ) → IsSearching s → trail.entries ≡ s.trail.entries ++ record {
      lit = lit;
      level = s.trail.depth + 1;
      reason = None;
    } ∷ [] → trail.depth ≡ s.trail.depth + 1 → cursors.items ≡ s.cursors.items ++ s.cursor ∷ []
    → IsChoice cube (lits_of s.trail.entries) lit → IsOnCube cube s
    → IsOnCube cube (record s { trail = trail; cursors = cursors })
on_cube_decided cube s trail cursors lit kept entries_are depth_is opened allowed on_cube = record {
  decisions = subst (IsForCube cube) (sym entries_are)
      (cube_push cube s.trail.entries entry on_cube.decisions (λ _. allowed));
  cursors = cursors_opened (PassesTrue cube) s.trail trail entry s.cursor s.cursors.items cursors.items
      (true_stays cube) kept.trail.below kept.levels entries_are depth_is opened on_cube.cursors;
}
  where
    entry : Entry
    entry = record { lit = lit; level = s.trail.depth + 1; reason = None }

-- no decision, for want of memory
pub on_cube_undecided : (cube : List ℕ) (s : Search) (cursors : Vec Cursor Global)
    → cursors.items ≡ s.cursors.items → IsOnCube cube s
    → IsOnCube cube (record s { cursors = cursors })
on_cube_undecided cube s cursors same on_cube = record {
  decisions = on_cube.decisions;
  cursors = cursors_moved (PassesTrue cube) s.trail s.cursor s.cursor s.cursors.items cursors.items same on_cube.cursors.present on_cube.cursors;
}

-- a step
pub on_cube_stepped : (cube : List ℕ) (s new : Search) → new ≡ record s { steps = new.steps }
    → IsOnCube cube s → IsOnCube cube new
on_cube_stepped cube s new parts on_cube = subst (IsOnCube cube) (sym parts)
    (record { decisions = on_cube.decisions; cursors = on_cube.cursors })

-- a jump back
pub on_cube_back : (s : Search) (trail : TrailView) (level : ℕ) (cursor : Cursor)
    (cursors : Vec Cursor Global) (order : Order) → IsSearching s → level < s.trail.depth
    → trail.entries ≡ up_to level s.trail.entries → trail.depth ≡ level
    → cursor ≡ cursor_at s.cursors.items level → cursors.items ≡ take level s.cursors.items
    → KeepsCubes s (record s {
      trail = trail;
      cursor = cursor;
      cursors = cursors;
      order = order;
    })
on_cube_back s trail level cursor cursors order kept lt entries_are depth_is cursor_is cursors_are cube on_cube = record {
  decisions = subst (IsForCube cube) (sym entries_are)
      (cube_back cube s.trail.entries level kept.trail.ascending on_cube.decisions);
  cursors = cursors_back (PassesTrue cube) s.trail trail level s.cursor cursor s.cursors.items cursors.items kept.trail.ascending lt entries_are depth_is cursor_is cursors_are on_cube.cursors;
}

-- a literal that a clause forces
pub on_cube_taught : (s : Search) (store : StoreView) (trail : TrailView) (learnt : Vec ℕ Global)
    (lit id : ℕ) → trail.entries ≡ s.trail.entries ++ record {
      lit = lit;
      level = s.trail.depth;
      reason = Some id;
    } ∷ [] → trail.depth ≡ s.trail.depth
    → KeepsCubes s (record s { store = store; trail = trail; learnt = learnt })
on_cube_taught s store trail learnt lit id entries_are depth_is cube on_cube = record {
  decisions = subst (IsForCube cube) (sym entries_are)
      (cube_push cube s.trail.entries entry on_cube.decisions (λ free. absurd (cc)));
  cursors = cursors_more (PassesTrue cube) s.trail trail (entry ∷ []) s.cursor s.cursors.items
      (true_stays cube) entries_are depth_is on_cube.cursors;
}
  where
    entry : Entry
    entry = record { lit = lit; level = s.trail.depth; reason = Some id }

-- a round begins
pub on_cube_at_zero : (cube : List ℕ) (s : Search) → IsTrail s.trail → s.trail.depth ≡ 0
    → s.cursor.literals ≡ 0 → IsOnCube cube s
on_cube_at_zero cube s is zero none = record {
  decisions = cube_at_zero s.trail cube is zero;
  cursors = cursors_at_zero (PassesTrue cube) s.trail s.cursor s.cursors.items zero
      (λ i d lt. absurd (omega (arith, lt, none, length-take s.cursor.literals cube)));
}
