use Rattle.std.proofs.Common.{◌<◌, [], ◌∷◌, ◌++◌}
use Rattle.std.proofs.lemmas.List.Elements.{All-push}
use Rattle.turn_lock.proofs.Passes.{looks_more}
use Rattle.turn_lock.proofs.lock.TurnLock.enter.Goals as goal

pub loop-preserved : goal.loop-preserved
loop-preserved g c =
    let before = c.loop.invariant.looks in
    record {
      can = tt;
      ends = tt;
      looks = (
        before.0 ++ c.in-Err.found ∷ [],
        All-push (λ word. 0 < word) before.0 c.in-Err.found before.1 c.in-Err.ensures.refusal.0,
        looks_more _ _ _ before.0 c.in-Err.found before.2 c.in-Err.ensures.refused,
      );
    }
