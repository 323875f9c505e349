use Rattle.std.proofs.Common.{◌<◌, subst, sym, arith, length, get_or, ℕ, List}
use Rattle.sat_base.specs.Lit.{variable}
use Rattle.clause_arena.specs.Arena.{ArenaClause, clause_at}
use Rattle.trail_core.specs.Trail.{StandsAt, lits_of}
use Rattle.trail_core.specs.UnderTrail.{IsFalseLit, IsFalseClause}
use Rattle.propagate.specs.Store.{AreWithin}
use Rattle.propagate.specs.Places.{IsFreePlace, AreFalseFrom, IsTopPlace, AreNotAtFrom}
use Rattle.propagate.specs.Choice.{IsRearranged}
use Rattle.propagate.proofs.Same.{lits_within}
use Rattle.propagate.proofs.Swaps.{IsSwap, lits_swapped, rearranged_swap, rearranged_none, rearranged_twice}
use Rattle.propagate.proofs.Choices.{ready_same, all_false_from, one_left_none, one_left_top, first_left, two_left, later_false, first_stays}
use Rattle.propagate.proofs.new_clauses.choose.Goals as goal
use Rattle.propagate.proofs.new_clauses.choose.Goals.{After-swap}

pub returns-in_default-clause-rearranged : goal.returns-in_default-clause-rearranged
returns-in_default-clause-rearranged c = rearranged_none c.args.arena.now c.args.id

pub returns-in_default-clause-chosen : goal.returns-in_default-clause-chosen
returns-in_default-clause-chosen c =
    subst (IsFalseClause (lits_of c.args.trail.now.entries)) c.lits.ensures.value
    (all_false_from (lits_of c.args.trail.now.entries) c.lits.result.now c.in_default.ensures.none)

-- after the first swap
free_first : (c : After-swap) → IsFreePlace (lits_of c.args.trail.now.entries) (clause_at c.args.arena.now c.args.id).lits 0 c.in-Some.first
free_first c = subst (λ (xs : List ℕ). IsFreePlace (lits_of c.args.trail.now.entries) xs 0 c.in-Some.first) c.lits.ensures.value c.in-Some.ensures.found

rearranged_first : (c : After-swap) → IsRearranged c.args.arena.now c.swap.new.self c.args.id
rearranged_first c =
    let w = (free_first c).within in
    subst (λ (xs : List ArenaClause). IsRearranged c.args.arena.now xs c.args.id) (sym c.swap.ensures)
    (rearranged_swap c.args.arena.now c.args.id 0 c.in-Some.first c.requires.known (omega (arith, w)) w)

left_first : (c : After-swap) → (IsFalseLit (lits_of c.args.trail.now.entries) (get_or (clause_at c.swap.new.self c.args.id).lits 0 0) → ⊥) × (0 < length (clause_at c.swap.new.self c.args.id).lits)
left_first c =
    let w = (free_first c).within in
    first_left (lits_of c.args.trail.now.entries) (clause_at c.args.arena.now c.args.id).lits (clause_at c.swap.new.self c.args.id).lits c.in-Some.first
    (subst (λ (xs : List ArenaClause). IsSwap (clause_at c.args.arena.now c.args.id).lits (clause_at xs c.args.id).lits 0 c.in-Some.first) (sym c.swap.ensures)
    (lits_swapped c.args.arena.now c.args.id 0 c.in-Some.first c.requires.known (omega (arith, w)) w))
    (free_first c)

known_first : (c : After-swap) → c.args.id < length c.swap.new.self
known_first c = omega (arith, c.requires.known, (rearranged_first c).count)

pub free_place-requires-2 : goal.free_place-requires-2
free_place-requires-2 c =
    let s = (goal.at.free_place-requires-2 c).After-swap in
    subst (AreWithin c.args.trail.now.vars) (sym c.lits-2.ensures.value)
    (lits_within c.args.trail.now.vars (clause_at c.args.arena.now c.args.id) (clause_at c.swap.new.self c.args.id) (rearranged_first s).here c.requires.within)

-- the second swap, for a literal that isn't false
free_second : (c : goal.After-swap-in-Some-free_place) → IsFreePlace (lits_of c.args.trail.now.entries) (clause_at c.swap.new.self c.args.id).lits 1 c.in-Some-free_place.second
free_second c = subst (λ (xs : List ℕ). IsFreePlace (lits_of c.args.trail.now.entries) xs 1 c.in-Some-free_place.second) c.lits-2.ensures.value c.in-Some-free_place.ensures.found

pub returns-in-Some-free_place-clause-rearranged : goal.returns-in-Some-free_place-clause-rearranged
returns-in-Some-free_place-clause-rearranged c =
    let s = (goal.at.returns-in-Some-free_place-clause-rearranged c).After-swap in
    let f = free_second c in
    let w = f.within in
    let b = f.behind in
    rearranged_twice c.args.arena.now c.swap.new.self c.swap-in-Some-free_place.new.self c.args.id (rearranged_first s)
    (subst (λ (xs : List ArenaClause). IsRearranged c.swap.new.self xs c.args.id) (sym c.swap-in-Some-free_place.ensures)
    (rearranged_swap c.swap.new.self c.args.id 1 c.in-Some-free_place.second (known_first s) (omega (arith, w, b)) w))

pub returns-in-Some-free_place-clause-chosen : goal.returns-in-Some-free_place-clause-chosen
returns-in-Some-free_place-clause-chosen c =
    let s = (goal.at.returns-in-Some-free_place-clause-chosen c).After-swap in
    let f = free_second c in
    let w = f.within in
    let b = f.behind in
    two_left (lits_of c.args.trail.now.entries) (clause_at c.swap.new.self c.args.id).lits (clause_at c.swap-in-Some-free_place.new.self c.args.id).lits c.in-Some-free_place.second
    (subst (λ (xs : List ArenaClause). IsSwap (clause_at c.swap.new.self c.args.id).lits (clause_at xs c.args.id).lits 1 c.in-Some-free_place.second) (sym c.swap-in-Some-free_place.ensures)
    (lits_swapped c.swap.new.self c.args.id 1 c.in-Some-free_place.second (known_first s) (omega (arith, w, b)) w))
    f (left_first s).0

-- the second swap, for a false literal at the depth
top_second : (c : goal.After-swap-in-Some-top_place) → IsTopPlace c.args.trail.now.entries (clause_at c.swap.new.self c.args.id).lits c.args.trail.now.depth c.in-Some-top_place.second
top_second c = subst (λ (xs : List ℕ). IsTopPlace c.args.trail.now.entries xs c.args.trail.now.depth c.in-Some-top_place.second) c.lits-3.ensures.value c.in-Some-top_place.ensures.found

rearranged_top : (c : goal.After-swap-in-Some-top_place) → IsRearranged c.swap.new.self c.swap-in-Some-top_place.new.self c.args.id
rearranged_top c =
    let s = (goal.at.returns-in-Some-top_place-clause-rearranged c).After-swap in
    let f = top_second c in
    let w = f.within in
    let b = f.behind in
    subst (λ (xs : List ArenaClause). IsRearranged c.swap.new.self xs c.args.id) (sym c.swap-in-Some-top_place.ensures)
    (rearranged_swap c.swap.new.self c.args.id 1 c.in-Some-top_place.second (known_first s) (omega (arith, w, b)) w)

pub returns-in-Some-top_place-clause-rearranged : goal.returns-in-Some-top_place-clause-rearranged
returns-in-Some-top_place-clause-rearranged c =
    let s = (goal.at.returns-in-Some-top_place-clause-rearranged c).After-swap in
    rearranged_twice c.args.arena.now c.swap.new.self c.swap-in-Some-top_place.new.self c.args.id (rearranged_first s) (rearranged_top c)

pub returns-in-Some-top_place-clause-chosen : goal.returns-in-Some-top_place-clause-chosen
returns-in-Some-top_place-clause-chosen c =
    let s = (goal.at.returns-in-Some-top_place-clause-chosen c).After-swap in
    let f = top_second c in
    let w = f.within in
    let b = f.behind in
    let trues : List ℕ = lits_of c.args.trail.now.entries in
    let old : List ℕ = (clause_at c.swap.new.self c.args.id).lits in
    let new : List ℕ = (clause_at c.swap-in-Some-top_place.new.self c.args.id).lits in
    let swap : IsSwap old new 1 c.in-Some-top_place.second =
    subst (λ (xs : List ArenaClause). IsSwap old (clause_at xs c.args.id).lits 1 c.in-Some-top_place.second) (sym c.swap-in-Some-top_place.ensures)
    (lits_swapped c.swap.new.self c.args.id 1 c.in-Some-top_place.second (known_first s) (omega (arith, w, b)) w) in
    let others = subst (λ (xs : List ℕ). AreFalseFrom trues xs 1) c.lits-2.ensures.value c.in_default-free_place.ensures.none in
    let whole = rearranged_twice c.args.arena.now c.swap.new.self c.swap-in-Some-top_place.new.self c.args.id (rearranged_first s) (rearranged_top c) in
    one_left_top c.args.trail.now new c.depth.ensures.trail (omega (arith, w, swap.size))
    (first_stays trues old new c.in-Some-top_place.second swap b (left_first s).0)
    (later_false trues old new c.in-Some-top_place.second swap b w others)
    (ready_same c.args.trail.now.entries c.args.trail.now.depth (clause_at c.args.arena.now c.args.id) (clause_at c.swap-in-Some-top_place.new.self c.args.id) whole.here c.requires.ready)
    (λ at stands. f.is at (subst (λ lit. StandsAt c.args.trail.now.entries (variable lit) at) swap.first stands))

-- no second swap
pub returns-clause-rearranged : goal.returns-clause-rearranged
returns-clause-rearranged c = rearranged_first (goal.at.returns-clause-rearranged c).After-swap

pub returns-clause-chosen : goal.returns-clause-chosen
returns-clause-chosen c =
    let s = (goal.at.returns-clause-chosen c).After-swap in
    let trues : List ℕ = lits_of c.args.trail.now.entries in
    one_left_none c.args.trail.now (clause_at c.swap.new.self c.args.id).lits c.depth.ensures.trail (left_first s).1 (left_first s).0
    (subst (λ (xs : List ℕ). AreFalseFrom trues xs 1) c.lits-2.ensures.value c.in_default-free_place.ensures.none)
    (ready_same c.args.trail.now.entries c.args.trail.now.depth (clause_at c.args.arena.now c.args.id) (clause_at c.swap.new.self c.args.id) (rearranged_first s).here c.requires.ready)
    (subst (λ (xs : List ℕ). AreNotAtFrom c.args.trail.now.entries xs c.args.trail.now.depth 1 (length xs)) c.lits-3.ensures.value c.in_default-top_place.ensures.none)
