use Rattle.std.proofs.Common.{ℕ, List, subst}
use Rattle.std.specs.Prelude.{IfSome, IfNone}
use Rattle.std.proofs.lemmas.Result.{IfOk-weaker}
use Rattle.session.specs.Searching.{solver_of}
use Rattle.session.specs.Descents.{Descends}
use Rattle.session.specs.Solving.{Concludes, LearnsOne}
use Rattle.session.proofs.Keeping.{none_learns_one_after, some_concludes_after}
use Rattle.session.proofs.rounds.learn_or_answer.Goals as goal

pub returns-in-Conflict-clause-ends : goal.returns-in-Conflict-clause-ends
returns-in-Conflict-clause-ends c =
    let old = solver_of c.args.search.now in
    let mid = solver_of c.descend.new.search in
    let new = solver_of c.resolve_conflict.new.search in
    let down = subst (Descends c.args.search.now c.descend.new.search c.args.cube.now) c.in-Conflict.is c.in_ok-round.ensures.descends in
    IfOk-weaker c.resolve_conflict.result (λ end. IfSome end
    (λ round. (any : List ℕ) → Concludes mid new any round))
    (λ end. IfSome end (Concludes old new c.args.cube.now))
    (λ end some. some_concludes_after old mid new c.args.cube.now end down.0 some) c.resolve_conflict.ensures.ends

pub returns-in-Conflict-clause-learns : goal.returns-in-Conflict-clause-learns
returns-in-Conflict-clause-learns c =
    let old = solver_of c.args.search.now in
    let mid = solver_of c.descend.new.search in
    let new = solver_of c.resolve_conflict.new.search in
    let down = subst (Descends c.args.search.now c.descend.new.search c.args.cube.now) c.in-Conflict.is c.in_ok-round.ensures.descends in
    IfOk-weaker c.resolve_conflict.result (λ end. IfNone end (LearnsOne mid new))
    (λ end. IfNone end (LearnsOne old new))
    (λ end none. none_learns_one_after old mid new end down.0 none) c.resolve_conflict.ensures.learns
