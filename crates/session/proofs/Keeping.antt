-- What a search does to its solver, call after call.
use Rattle.std.proofs.Common.{◌≡◌, ◌∙◌, ℕ, ◌<◌, ◌≤◌, List, [], ◌∷◌, ◌++◌, length, max, Bool, Option}
use Rattle.std.proofs.Common.{None, Some, refl, ap, sym, subst, arith, Vec, Global}
use Rattle.std.specs.Prelude.{IfSome, IfNone}
use Rattle.std.proofs.lemmas.List.{append-nil}
use Rattle.sat_base.specs.Lit.{greatest_of}
use Rattle.sat_base.specs.Truth.{IsModelOf}
use Rattle.trail_core.specs.Trail.{TrailView, lits_of}
use Rattle.session.specs.declared.search.Cursor.{Cursor}
use Rattle.propagate.specs.Store.{StoreView, HasSameClauses}
use Rattle.trace_core.specs.Known.{Known}
use Rattle.session.specs.declared.search.Search.{Search}
use Rattle.session.specs.declared.rounds.Round.{Round}
use Rattle.session.specs.declared.rounds.Round.TheVariants.{Model, Refuted, Paused}
use Rattle.session.specs.declared.rounds.Descent.{Descent}
use Rattle.session.specs.declared.rounds.Descent.TheVariants.{Conflict, Ended}
use Rattle.session.specs.Fronts.{IsFront}
use Rattle.session.specs.Cursors.{PassesTrue}
use Rattle.session.specs.declared.order.Order.{Order}
use Rattle.session.specs.declared.restarts.Restarts.{Restarts}
use Rattle.session.specs.Orders.{IsOrderOf}
use Rattle.session.specs.Cubes.{IsOnCube}
use Rattle.session.specs.Solver.{Solver, clauses_of, inputs_of}
use Rattle.session.specs.Searching.{IsSearching, HasSameVariables, HasStepsMore, HasUnitsMore}
use Rattle.session.specs.Searching.{solver_of}
use Rattle.session.specs.Rounds.{IsInRound, step_of_round}
use Rattle.session.specs.Refutations.{IsRefutation}
use Rattle.session.specs.Descents.{Descends}
use Rattle.session.specs.Solving.{Concludes, Ends, IsRight, Keeps, Learns, LearnsOne, Solves}
use Rattle.session.proofs.SameClauses.{inputs_same, held_same}
use Rattle.session.proofs.Settled.{front_twice, pairs_of, same_front}
use Rattle.session.proofs.Steps.{steps_front, units_steps}
use Rattle.session.proofs.Cursor.{cursors_moved}
use Rattle.session.proofs.OnCubes.{on_cube_stepped}
use Rattle.session.proofs.Repeats.{learns_none, learns_then}

-- Learning.
pub learns_keeps : (old new : Solver) (more : List Known) (last : List ℕ)
    → Learns old new more last → Keeps old new
learns_keeps old new more last l = record {
  inputs = l.inputs;
  bound = l.bound;
  packets = l.packets;
  held = record { more = more; is = l.held };
  steps = steps_front old.steps new.steps (l.names ++ last) l.steps;
  learnt = record { more = l.names; is = l.learnt };
}

pub keeps_twice : (old mid new : Solver) → Keeps old mid → Keeps mid new → Keeps old new
keeps_twice old mid new a b = record {
  inputs = b.inputs ∙ a.inputs;
  bound = b.bound ∙ a.bound;
  packets = b.packets ∙ a.packets;
  held = front_twice old.held mid.held new.held a.held b.held;
  steps = front_twice old.steps mid.steps new.steps a.steps b.steps;
  learnt = front_twice old.learnt mid.learnt new.learnt a.learnt b.learnt;
}

pub keeps_steps : (old new : Solver) → new ≡ record old { steps = new.steps }
    → IsFront old.steps new.steps → Keeps old new
keeps_steps old new same front = record {
  inputs = ap (λ (x : Solver). x.inputs) same;
  bound = ap (λ (x : Solver). x.bound) same;
  packets = ap (λ (x : Solver). x.packets) same;
  held = subst (λ (x : Solver). IsFront old.held x.held) (sym same) (same_front old.held);
  steps = front;
  learnt = subst (λ (x : Solver). IsFront old.learnt x.learnt) (sym same) (same_front old.learnt);
}

pub learns_steps : (old new : Solver) (last : List ℕ) → new ≡ record old { steps = new.steps }
    → HasStepsMore old.steps new.steps last → Learns old new [] last
learns_steps old new last parts steps = record {
  inputs = ap (λ (x : Solver). x.inputs) parts;
  bound = ap (λ (x : Solver). x.bound) parts;
  packets = ap (λ (x : Solver). x.packets) parts;
  held = ap (λ (x : Solver). x.held) parts ∙ sym (append-nil old.held);
  names = [];
  learnt = ap (λ (x : Solver). x.learnt) parts ∙ sym (append-nil old.learnt);
  named = tt;
  steps = steps;
  fresh = tt;
  proper = λ i d lt. absurd (omega (arith, lt));
}

pub concludes_after : (old mid new : Solver) (cube : List ℕ) (round : Round) → Learns old mid [] []
    → Concludes mid new cube round → Concludes old new cube round
concludes_after old mid new cube round a b = record {
  learns = learns_then old mid new [] []
      (step_of_round round) a b.learns;
  right = b.right;
}

pub learns_one_after : (old mid new : Solver) → Learns old mid [] [] → LearnsOne mid new
    → LearnsOne old new
learns_one_after old mid new a b = record {
  one = b.one;
  learns = learns_then old mid new [] (b.one ∷ []) [] a b.learns;
}

-- propagation learns nothing
pub learns_propagated : (s : Search) (store : StoreView) (trail : TrailView) → IsSearching s
    → HasSameClauses s.store.clauses store.clauses
    → Learns (solver_of s) (solver_of (record s { store = store; trail = trail })) [] []
learns_propagated s store trail kept same =
    subst (λ (solver : Solver). Learns (solver_of s) solver [] [])
    (ap (λ inputs. record (solver_of s) { inputs = inputs })
    (inputs_same s.store.clauses store.clauses (pairs_of s store kept same))
    ∙ ap (λ held. record (solver_of s) { inputs = inputs_of store.clauses; held = held })
    (held_same s.store.clauses store.clauses (pairs_of s store kept same)))
    (learns_none (solver_of s))

-- unit clauses that got their names
pub learns_named : (s new : Search) → new ≡ record s {
  units = new.units;
  tags = new.tags;
  named = new.named;
  steps = new.steps;
} → HasUnitsMore s.steps new.steps
    → Learns (solver_of s) (solver_of new) [] []
learns_named s new parts more = learns_steps (solver_of s) (solver_of new) [] (ap solver_of parts)
    (units_steps s.steps new.steps more)

-- A round.
pub round_stays : (old new : Search) (cube : List ℕ) (vars : ℕ) → IsInRound old cube vars
    → IsSearching new → HasSameVariables old new → IsOnCube cube new → IsInRound new cube vars
round_stays old new cube vars round kept same on_cube = record {
  kept = kept;
  on_cube = on_cube;
  variables = record {
    are = round.variables.are ∙ ap (λ n. max n (greatest_of cube)) (sym same.greatest);
    low = omega (arith, round.variables.low, same.vars);
    few = round.variables.few;
    set = round.variables.set;
  };
}

pub round_stepped : (s new : Search) (cube : List ℕ) (vars : ℕ) → IsInRound s cube vars
    → new ≡ record s { steps = new.steps } → IsSearching new → IsInRound new cube vars
round_stepped s new cube vars round parts kept =
    round_stays s new cube vars round kept (record {
      greatest = ap
          (λ (x : Search). x.greatest) parts;
      vars = ap (λ (x : Search). x.trail.vars) parts;
    })
    (on_cube_stepped cube s new parts round.on_cube)

pub round_decided : (s new : Search) (cube : List ℕ) (vars : ℕ) → IsInRound s cube vars
    → new ≡ record s { trail = new.trail; cursors = new.cursors } → new.trail.vars ≡ s.trail.vars
    → IsSearching new → IsOnCube cube new → IsInRound new cube vars
round_decided s new cube vars round parts same kept on_cube =
    round_stays s new cube vars round kept (record {
      greatest = ap
          (λ (x : Search). x.greatest) parts;
      vars = same;
    }) on_cube

-- the cursor and the order move, and cursors may find another place in memory
pub search_moved : (s : Search) (cursor : Cursor) (cursors : Vec Cursor Global) (order : Order)
    → IsSearching s → cursors.items ≡ s.cursors.items → IsOrderOf s.greatest s.trail order
    → IsSearching (record s { cursor = cursor; cursors = cursors; order = order })
search_moved s cursor cursors order kept same ordered = record {
  stock = kept.stock;
  room = kept.room;
  counted = kept.counted;
  trail = kept.trail;
  on = kept.on;
  named = kept.named;
  all_named = kept.all_named;
  watched = kept.watched;
  levels = ap length same ∙ kept.levels;
  order = ordered;
}

pub round_moved : (s : Search) (cursor : Cursor) (order : Order) (cube : List ℕ) (vars : ℕ)
    → IsInRound s cube vars → PassesTrue cube (lits_of s.trail.entries) cursor
    → IsOrderOf s.greatest s.trail order
    → IsInRound (record s { cursor = cursor; order = order }) cube vars
round_moved s cursor order cube vars round passed ordered = record {
  kept = search_moved s cursor s.cursors order round.kept refl ordered;
  on_cube = record {
    decisions = round.on_cube.decisions;
    cursors = cursors_moved (PassesTrue cube) s.trail s.cursor cursor s.cursors.items s.cursors.items refl passed round.on_cube.cursors;
  };
  variables = round.variables;
}

-- the cursor and the order move, and a decision may come
pub round_chosen : (s new : Search) (cursor : Cursor) (order : Order) (cube : List ℕ) (vars : ℕ)
    → IsInRound s cube vars → PassesTrue cube (lits_of s.trail.entries) cursor
    → IsOrderOf s.greatest s.trail order
    → new ≡ record s {
      cursor = cursor;
      trail = new.trail;
      cursors = new.cursors;
      order = order;
    } → new.trail.vars ≡ s.trail.vars → IsSearching new
    → (IsOnCube cube (record s { cursor = cursor; order = order }) → IsOnCube cube new)
    → IsInRound new cube vars
round_chosen s new cursor order cube vars round passed ordered parts same kept on_cube =
    let moved = round_moved s cursor order cube vars round passed ordered in
    round_decided (record s { cursor = cursor; order = order }) new cube vars moved parts same kept
    (on_cube moved.on_cube)

-- restarts are counted
pub search_counted : (s : Search) (restarts : Restarts) → IsSearching s
    → IsSearching (record s { restarts = restarts })
search_counted s restarts kept = record {
  stock = kept.stock;
  room = kept.room;
  counted = kept.counted;
  trail = kept.trail;
  on = kept.on;
  named = kept.named;
  all_named = kept.all_named;
  watched = kept.watched;
  levels = kept.levels;
  order = kept.order;
}

-- a step came behind those that were there
pub keeps_stepped : (s new : Search) → new ≡ record s { steps = new.steps }
    → IsFront s.steps new.steps → Keeps (solver_of s) (solver_of new)
keeps_stepped s new parts front = keeps_steps (solver_of s) (solver_of new)
    (ap solver_of parts) front

pub keeps_named : (s new : Search) → new ≡ record s {
  units = new.units;
  tags = new.tags;
  named = new.named;
  steps = new.steps;
} → IsFront s.steps new.steps
    → Keeps (solver_of s) (solver_of new)
keeps_named s new parts front = keeps_steps (solver_of s) (solver_of new) (ap solver_of parts) front

pub keeps_itself : (solver : Solver) → Keeps solver solver
keeps_itself solver = learns_keeps solver solver [] [] (learns_none solver)

-- decisions change no solver
pub learns_decided : (s new : Search) → new ≡ record s { trail = new.trail; cursors = new.cursors }
    → Learns (solver_of s) (solver_of new) [] []
learns_decided s new parts = subst (λ (solver : Solver). Learns (solver_of s) solver [] [])
    (sym (ap solver_of parts)) (learns_none (solver_of s))

pub refuted_concludes : (old new : Solver) (cube part : List ℕ) (number : ℕ)
    → new ≡ record old { steps = new.steps } → HasStepsMore old.steps new.steps (number ∷ [])
    → IsRefutation old.inputs new.steps cube part number
    → Concludes old new cube (Refuted part number)
refuted_concludes old new cube part number same steps right = record {
  learns = learns_steps old new (number ∷ []) same steps;
  right = subst (λ (inputs : List Known). IsRefutation inputs new.steps cube part number)
      (sym (ap (λ (x : Solver). x.inputs) same)) right;
}

pub model_concludes : (solver : Solver) (cube : List ℕ) (values : List Bool)
    → IsModelOf (clauses_of solver.inputs) cube values → Concludes solver solver cube (Model values)
model_concludes solver cube values right = record { learns = learns_none solver; right = right }

-- A descent, after propagation or decisions.
descends_after : (old mid new : Search) (cube : List ℕ) (descent : Descent)
    → Learns (solver_of old) (solver_of mid) [] [] → Descends mid new cube descent
    → Descends old new cube descent
descends_after old mid new cube (Conflict id) learns d =
    (learns_then (solver_of old) (solver_of mid) (solver_of new) [] [] [] learns d.0, d.1)
descends_after old mid new cube (Ended round) learns d = concludes_after (solver_of old)
    (solver_of mid) (solver_of new) cube round learns d

pub some_descends_after : (old mid new : Search) (cube : List ℕ) (end : Option Descent)
    → Learns (solver_of old) (solver_of mid) [] [] → IfSome end (Descends mid new cube)
    → IfSome end (Descends old new cube)
some_descends_after old mid new cube None learns d = d
some_descends_after old mid new cube
    (Some descent) learns d = descends_after old mid new cube descent learns d

pub none_learns_after : (old mid new : Solver) (end : Option Descent) → Learns old mid [] []
    → IfNone end (Learns mid new [] []) → IfNone end (Learns old new [] [])
none_learns_after old mid new None learns later = learns_then old mid new [] [] [] learns later
none_learns_after old mid new (Some descent) learns later = later

pub none_longer_after : (before between after : ℕ) (end : Option Descent) → before ≤ between
    → IfNone end (between < after) → IfNone end (before < after)
none_longer_after before between after None le later = omega (arith, le, later)
none_longer_after before between after (Some descent) le later = later

pub descent_behind : (old mid new : Search) (cube : List ℕ) (end : Option Descent)
    (descent : Descent) → Learns (solver_of old) (solver_of mid) [] [] → end ≡ Some descent
    → IfSome end (Descends mid new cube) → Descends old new cube descent
descent_behind old mid new cube end descent learns is d = descends_after old mid new cube descent learns (subst (λ found. IfSome found (Descends mid new cube)) is d)

-- What resolving a conflict comes to, after a descent.
pub some_concludes_after : (old mid new : Solver) (cube : List ℕ) (end : Option Round)
    → Learns old mid [] [] → IfSome end (λ round. (any : List ℕ) → Concludes mid new any round)
    → IfSome end (Concludes old new cube)
some_concludes_after old mid new cube None learns c = c
some_concludes_after old mid new cube
    (Some round) learns c = concludes_after old mid new cube round learns (c cube)

pub none_learns_one_after : (old mid new : Solver) (end : Option Round) → Learns old mid [] []
    → IfNone end (LearnsOne mid new) → IfNone end (LearnsOne old new)
none_learns_one_after old mid new None learns later = learns_one_after old mid new learns later
none_learns_one_after old mid new (Some round) learns later = later

-- Rounds until the limit.
pub solves_now : (old mid new : Solver) (cube : List ℕ) (limit count : ℕ) (more : List Known)
    (end : Option Round) (round : Round) → Learns old mid more [] → length more ≡ count
    → count < limit → end ≡ Some round → IfSome end (Concludes mid new cube)
    → Solves old new cube limit round
solves_now old mid new cube limit count more end round learns size low is some =
    let c = subst (λ found. IfSome found (Concludes mid new cube)) is some in
    let all = learns_then old mid new more [] (step_of_round round) learns c.learns in
    record {
      more = more;
      learns = subst (λ (xs : List Known). Learns old new xs (step_of_round round))
          (append-nil more) all;
      ends = ends_now new cube limit (length more) round c.right (omega (arith, size, low));
    }
  where
    ends_now : (solver : Solver) (cube : List ℕ) (limit count : ℕ) (round : Round)
        → IsRight solver cube round → count < limit → Ends solver cube limit count round
    ends_now solver cube limit count (Model values) right lt = (right, lt)
    ends_now solver cube limit count (Refuted part number) right lt = (right, lt)
    ends_now solver cube limit count Paused right lt = absurd right

pub learns_next : (old mid new : Solver) (more : List Known) (end : Option Round)
    → Learns old mid more [] → end ≡ None → IfNone end (LearnsOne mid new)
    → (one : Known) × Learns old new (more ++ one ∷ []) []
learns_next old mid new more end learns is later =
    let next = subst (λ found. IfNone found (LearnsOne mid new)) is later in
    (next.one, learns_then old mid new more (next.one ∷ []) [] learns next.learns)
