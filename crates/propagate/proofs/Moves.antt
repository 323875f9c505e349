-- A side that moves into the list of another literal.
use Rattle.std.proofs.Common.{◌≡◌, ◌≢◌, ◌∙◌, ℕ, ◌+◌, ◌-◌, ◌*◌, ◌/◌, ◌%◌, ◌<◌, ◌≤◌, ◌==◌, List, [], ◌∷◌, length, refl, ap, subst, sym, inl, inr, arith, get_or, not}
use Rattle.std.specs.Prelude.{◌⊎◌, Contains, Option, Some}
use Rattle.std.proofs.lemmas.Bool.{cases_eq}
use Rattle.std.proofs.lemmas.List.Elements.{Contains-append_left}
use Rattle.sat_base.specs.Lit.{opposite}
use Rattle.clause_arena.specs.Arena.{ArenaClause, HasNoRepeat, clause_at, lits_of_each, with_places_swapped}
use Rattle.trail_core.specs.Trail.{TrailView, IsTrail, entry_at, lits_of}
use Rattle.trail_core.specs.UnderTrail.{IsFalseLit}
use Rattle.watch_ring.specs.Ring.{RingView, list_of, without, IsOnce}
use Rattle.watch_ring.proofs.Lists.{here, there, split, from_without, without_split, keeps_other}
use Rattle.propagate.specs.Store.{AreAllWithin, HasSameClauses}
use Rattle.propagate.specs.Pairing.{IsOld, IsSide, IsTrueUpTo, IsPaired, watched, other_side}
use Rattle.propagate.specs.Choice.{IsRearranged}
use Rattle.propagate.specs.Lists.{IsConnected, HasPropagated, IsWatched}
use Rattle.propagate.specs.Walk.{IsUnderway}
use Rattle.propagate.proofs.Keeps.{contains_filter}
use Rattle.propagate.proofs.Grown.{grown_none}
use Rattle.propagate.proofs.Literals.{watched_is, false_at, up_true}
use Rattle.propagate.proofs.Same.{same_back, within_same}
use Rattle.propagate.proofs.Swaps.{IsSwap, lits_swapped, rearranged_swap, same_rearranged}
use Rattle.propagate.proofs.Walks.{IsNext, at_side}

-- a side that moves from one list to another, for a literal that isn't false
pub record IsMove (clauses : List ArenaClause) (ring ring' : RingView) (trail : TrailView) (gone id side place to : ℕ) : Type 0 where
  pub known : id < length clauses
  pub side_in : side < 2
  pub behind : 2 ≤ place
  pub within : place < length (clause_at clauses id).lits
  pub to_is : get_or (clause_at clauses id).lits place 0 ≡ to
  pub distinct : HasNoRepeat (clause_at clauses id).lits
  pub is : get_or (clause_at clauses id).lits side 0 ≡ gone
  pub stands : Contains (list_of ring gone) (2 * id + side)
  pub left : IsFalseLit (lits_of trail.entries) to → ⊥
  pub gone_false : IsFalseLit (lits_of trail.entries) gone
  pub leaves : list_of ring' gone ≡ without (2 * id + side) (list_of ring gone)
  pub joins : list_of ring' to ≡ (2 * id + side) ∷ list_of ring to
  pub others : (lit : ℕ) → lit ≢ gone → lit ≢ to → list_of ring' lit ≡ list_of ring lit
  pub vars : ring'.vars ≡ ring.vars
  pub clauses_are : ring'.clauses ≡ ring.clauses

pub differ : (clauses : List ArenaClause) (ring ring' : RingView) (trail : TrailView) (gone id side place to : ℕ) → IsMove clauses ring ring' trail gone id side place to → to ≢ gone
differ clauses ring ring' trail gone id side place to m e =
    let lt = m.side_in in
    let low = m.behind in
    let within = m.within in
    let same : place ≡ side = m.distinct.each place side within (omega (arith, lt, low, within)) (m.to_is ∙ e ∙ sym m.is) in
    omega (arith, same, lt, low)

pub old_same : (a b : List ArenaClause) (fresh : List ℕ) (id : ℕ) → HasSameClauses a b → IsOld a fresh id → IsOld b fresh id
old_same a b fresh id s o = record { known = omega (arith, o.known, s.count); not_new = o.not_new }

pub side_same : (a b : List ArenaClause) (fresh : List ℕ) (side : ℕ) → HasSameClauses a b → IsSide a fresh side → IsSide b fresh side
side_same a b fresh side s is = record {
  clause = old_same a b fresh (side / 2) s is.clause;
  wide = omega (arith, is.wide, (s.each (side / 2) is.clause.known).size);
}

-- the clauses after the swap
move_rearranged : (clauses : List ArenaClause) (ring ring' : RingView) (trail : TrailView) (gone id side place to : ℕ) → IsMove clauses ring ring' trail gone id side place to → IsRearranged clauses (with_places_swapped clauses id side place) id
move_rearranged clauses ring ring' trail gone id side place to m =
    rearranged_swap clauses id side place m.known (let lt = m.side_in in let low = m.behind in let within = m.within in omega (arith, lt, low, within)) m.within

pub move_same : (clauses : List ArenaClause) (ring ring' : RingView) (trail : TrailView) (gone id side place to : ℕ) → IsMove clauses ring ring' trail gone id side place to → HasSameClauses clauses (with_places_swapped clauses id side place)
move_same clauses ring ring' trail gone id side place to m =
    same_rearranged clauses (with_places_swapped clauses id side place) id (move_rearranged clauses ring ring' trail gone id side place to m)

move_swap : (clauses : List ArenaClause) (ring ring' : RingView) (trail : TrailView) (gone id side place to : ℕ) → IsMove clauses ring ring' trail gone id side place to → IsSwap (clause_at clauses id).lits (clause_at (with_places_swapped clauses id side place) id).lits side place
move_swap clauses ring ring' trail gone id side place to m =
    lits_swapped clauses id side place m.known (let lt = m.side_in in let low = m.behind in let within = m.within in omega (arith, lt, low, within)) m.within

-- what is watched after the swap
watched_new : (clauses : List ArenaClause) (ring ring' : RingView) (trail : TrailView) (gone id side place to : ℕ) → IsMove clauses ring ring' trail gone id side place to → watched (with_places_swapped clauses id side place) (2 * id + side) ≡ to
watched_new clauses ring ring' trail gone id side place to m =
    watched_is (with_places_swapped clauses id side place) id side m.side_in
    ∙ (move_swap clauses ring ring' trail gone id side place to m).first
    ∙ m.to_is

pub watched_kept : (clauses : List ArenaClause) (ring ring' : RingView) (trail : TrailView) (gone id side place to : ℕ) → IsMove clauses ring ring' trail gone id side place to → (other : ℕ) → other ≢ 2 * id + side → watched (with_places_swapped clauses id side place) other ≡ watched clauses other
watched_kept clauses ring ring' trail gone id side place to m other n = at (cases_eq (other / 2) id)
  where
    new : List ArenaClause
    new = with_places_swapped clauses id side place

    at : (other / 2 ≡ id) ⊎ (other / 2 ≢ id) → watched new other ≡ watched clauses other
    at (inl e) =
        let lt = m.side_in in
        let low = m.behind in
        let k_not_side : other % 2 ≢ side = λ s. n (omega (arith, s, e)) in
        let k_not_place : other % 2 ≢ place = λ p. absurd (omega (arith, p, low)) in
        ap (λ i. get_or (clause_at new i).lits (other % 2) 0) e
        ∙ (move_swap clauses ring ring' trail gone id side place to m).rest (other % 2) k_not_side k_not_place
        ∙ sym (ap (λ i. get_or (clause_at clauses i).lits (other % 2) 0) e)
    at (inr apart) = ap (λ (c : ArenaClause). get_or c.lits (other % 2) 0) ((move_rearranged clauses ring ring' trail gone id side place to m).others (other / 2) apart)

watched_old : (clauses : List ArenaClause) (ring ring' : RingView) (trail : TrailView) (gone id side place to : ℕ) → IsMove clauses ring ring' trail gone id side place to → watched clauses (2 * id + side) ≡ gone
watched_old clauses ring ring' trail gone id side place to m = watched_is clauses id side m.side_in ∙ m.is

-- the lists after the move
kept_in : (clauses : List ArenaClause) (ring ring' : RingView) (trail : TrailView) (gone id side place to : ℕ) → IsMove clauses ring ring' trail gone id side place to → (lit other : ℕ) → other ≢ 2 * id + side → Contains (list_of ring lit) other → Contains (list_of ring' lit) other
kept_in clauses ring ring' trail gone id side place to m lit other n c = at (cases_eq lit gone) (cases_eq lit to)
  where
    w : ℕ
    w = 2 * id + side

    at : (lit ≡ gone) ⊎ (lit ≢ gone) → (lit ≡ to) ⊎ (lit ≢ to) → Contains (list_of ring' lit) other
    at (inl e) _ =
        subst (λ l. Contains (list_of ring' l) other) (sym e)
        (subst (λ (xs : List ℕ). Contains xs other) (sym m.leaves)
        (contains_filter (λ x. not (x == w)) (list_of ring gone) other (subst (λ l. Contains (list_of ring l) other) e c) (keeps_other other w n)))
    at (inr a) (inl e) =
        subst (λ l. Contains (list_of ring' l) other) (sym e)
        (subst (λ (xs : List ℕ). Contains xs other) (sym m.joins)
        (there w other (list_of ring to) (subst (λ l. Contains (list_of ring l) other) e c)))
    at (inr a) (inr b) = subst (λ (xs : List ℕ). Contains xs other) (sym (m.others lit a b)) c

-- the side that moved, or another one
abbrev IsMovedOrOld : RingView → ℕ → ℕ → ℕ → ℕ → Type 0
IsMovedOrOld ring w to lit other = ((w ≡ other) × (lit ≡ to)) ⊎ ((other ≢ w) × Contains (list_of ring lit) other)

from_in : (clauses : List ArenaClause) (ring ring' : RingView) (trail : TrailView) (gone id side place to : ℕ) → IsMove clauses ring ring' trail gone id side place to → IsWatched clauses [] (list_of ring) → (lit other : ℕ) → Contains (list_of ring' lit) other → IsMovedOrOld ring (2 * id + side) to lit other
from_in clauses ring ring' trail gone id side place to m l lit other c = at (cases_eq lit gone) (cases_eq lit to)
  where
    w : ℕ
    w = 2 * id + side

    -- what stands in another list isn't the side
    apart : lit ≢ gone → Contains (list_of ring lit) other → other ≢ w
    apart n old e = n (sym (l.only lit other old) ∙ ap (watched clauses) e ∙ watched_old clauses ring ring' trail gone id side place to m)

    joined : lit ≢ gone → lit ≡ to → (w ≡ other) ⊎ Contains (list_of ring to) other → IsMovedOrOld ring w to lit other
    joined n e (inl same) = inl (same, e)
    joined n e (inr old) = let c : Contains (list_of ring lit) other = subst (λ t. Contains (list_of ring t) other) (sym e) old in inr (apart n c, c)

    at : (lit ≡ gone) ⊎ (lit ≢ gone) → (lit ≡ to) ⊎ (lit ≢ to) → IsMovedOrOld ring w to lit other
    at (inl e) _ =
        let r = from_without w other (list_of ring gone) (subst (λ (xs : List ℕ). Contains xs other) m.leaves (subst (λ t. Contains (list_of ring' t) other) e c)) in
        inr (r.1, subst (λ t. Contains (list_of ring t) other) (sym e) r.0)
    at (inr n) (inl e) = joined n e (split w other (list_of ring to) (subst (λ (xs : List ℕ). Contains xs other) m.joins (subst (λ t. Contains (list_of ring' t) other) e c)))
    at (inr n) (inr k) = let old = subst (λ (xs : List ℕ). Contains xs other) (m.others lit n k) c in inr (apart n old, old)

lists_moved : (clauses : List ArenaClause) (ring ring' : RingView) (trail : TrailView) (gone id side place to : ℕ) → IsMove clauses ring ring' trail gone id side place to → IsWatched clauses [] (list_of ring) → IsWatched (with_places_swapped clauses id side place) [] (list_of ring')
lists_moved clauses ring ring' trail gone id side place to m l = record {
  stands = λ other s. stands_at other (cases_eq other w) (l.stands other (side_same new clauses [] other (same_back clauses new same) s));
  known = λ lit other c. known_at lit other (from_in clauses ring ring' trail gone id side place to m l lit other c);
  only = λ lit other c. only_at lit other (from_in clauses ring ring' trail gone id side place to m l lit other c);
}
  where
    w : ℕ
    w = 2 * id + side

    new : List ArenaClause
    new = with_places_swapped clauses id side place

    same : HasSameClauses clauses new
    same = move_same clauses ring ring' trail gone id side place to m

    stands_at : (other : ℕ) → (other ≡ w) ⊎ (other ≢ w) → Contains (list_of ring (watched clauses other)) other → Contains (list_of ring' (watched new other)) other
    stands_at other (inl e) c =
        subst (λ n. Contains (list_of ring' (watched new n)) n) (sym e)
        (subst (λ lit. Contains (list_of ring' lit) w) (sym (watched_new clauses ring ring' trail gone id side place to m))
        (subst (λ (xs : List ℕ). Contains xs w) (sym m.joins) (here w (list_of ring to))))
    stands_at other (inr n) c =
        subst (λ lit. Contains (list_of ring' lit) other) (sym (watched_kept clauses ring ring' trail gone id side place to m other n))
        (kept_in clauses ring ring' trail gone id side place to m (watched clauses other) other n c)

    known_at : (lit other : ℕ) → IsMovedOrOld ring w to lit other → IsSide new [] other
    known_at lit other (inl (e, _)) = subst (IsSide new []) e (side_same clauses new [] w same (l.known gone w m.stands))
    known_at lit other (inr (n, c)) = side_same clauses new [] other same (l.known lit other c)

    only_at : (lit other : ℕ) → IsMovedOrOld ring w to lit other → watched new other ≡ lit
    only_at lit other (inl (e, t)) = ap (watched new) (sym e) ∙ watched_new clauses ring ring' trail gone id side place to m ∙ sym t
    only_at lit other (inr (n, c)) = watched_kept clauses ring ring' trail gone id side place to m other n ∙ l.only lit other c

paired_moved : (clauses : List ArenaClause) (ring ring' : RingView) (trail : TrailView) (gone id side place to : ℕ) → IsMove clauses ring ring' trail gone id side place to → IsTrail trail → IsPaired clauses [] trail.entries trail.looked → IsPaired (with_places_swapped clauses id side place) [] trail.entries trail.looked
paired_moved clauses ring ring' trail gone id side place to m t p = record {
  pairs = λ other at s lt is. pairs_at other at (side_same new clauses [] other (same_back clauses new same) s) lt is (cases_eq other w) (cases_eq (other_side other) w);
  single = λ other o one. single_at other (old_same new clauses [] other (same_back clauses new same) o) one (cases_eq other id);
  some = λ other o. let old = old_same new clauses [] other (same_back clauses new same) o in
      omega (arith, p.some other old, (same.each other old.known).size);
}
  where
    w : ℕ
    w = 2 * id + side

    new : List ArenaClause
    new = with_places_swapped clauses id side place

    same : HasSameClauses clauses new
    same = move_same clauses ring ring' trail gone id side place to m

    kept : (other : ℕ) → other ≢ w → watched new other ≡ watched clauses other
    kept = watched_kept clauses ring ring' trail gone id side place to m

    pairs_at : (other at : ℕ) → IsSide clauses [] other → at < trail.looked → (entry_at trail.entries at).lit ≡ opposite (watched new other) → (other ≡ w) ⊎ (other ≢ w) → (other_side other ≡ w) ⊎ (other_side other ≢ w) → IsTrueUpTo trail.entries (watched new (other_side other)) (entry_at trail.entries at).level
    pairs_at other at s lt is (inl e) _ =
        absurd (m.left (false_at trail.entries at to (omega (arith, lt, t.looked_at))
        (is ∙ ap (λ n. opposite (watched new n)) e ∙ ap opposite (watched_new clauses ring ring' trail gone id side place to m))))
    pairs_at other at s lt is (inr n) (inl e) =
        let old = p.pairs other at s lt (is ∙ ap opposite (kept other n)) in
        let gone_true = up_true trail.entries gone _ (subst (λ lit. IsTrueUpTo trail.entries lit (entry_at trail.entries at).level) (ap (watched clauses) e ∙ watched_old clauses ring ring' trail gone id side place to m) old) in
        absurd (t.consistent gone gone_true.stands m.gone_false.stands)
    pairs_at other at s lt is (inr n) (inr k) =
        subst (λ lit. IsTrueUpTo trail.entries lit (entry_at trail.entries at).level) (sym (kept (other_side other) k))
        (p.pairs other at s lt (is ∙ ap opposite (kept other n)))

    single_at : (other : ℕ) → IsOld clauses [] other → length (clause_at new other).lits ≡ 1 → (other ≡ id) ⊎ (other ≢ id) → IsTrueUpTo trail.entries (get_or (clause_at new other).lits 0 0) 0
    single_at other o one (inl e) =
        let size = (same.each other o.known).size in
        let low = m.behind in
        let within = m.within in
        absurd (omega (arith, one, size, low, within, ap (λ n. length (clause_at clauses n).lits) e))
    single_at other o one (inr n) =
        let re = (move_rearranged clauses ring ring' trail gone id side place to m).others other n in
        subst (λ (c : ArenaClause). IsTrueUpTo trail.entries (get_or c.lits 0 0) 0) (sym re)
        (p.single other o (sym (ap (λ (c : ArenaClause). length c.lits) re) ∙ one))

pub connected_moved : (clauses : List ArenaClause) (ring ring' : RingView) (trail : TrailView) (gone id side place to : ℕ) → IsMove clauses ring ring' trail gone id side place to → IsTrail trail → IsConnected clauses [] ring trail → IsConnected (with_places_swapped clauses id side place) [] ring' trail
connected_moved clauses ring ring' trail gone id side place to m t c =
    let same = move_same clauses ring ring' trail gone id side place to m in
    let new : List ArenaClause = with_places_swapped clauses id side place in
    record {
      lists = lists_moved clauses ring ring' trail gone id side place to m c.lists;
      paired = paired_moved clauses ring ring' trail gone id side place to m t c.paired;
      ready = λ k d lt. absurd (omega (arith, lt));
      pending = c.pending;
      within = within_same trail.vars clauses new same c.within;
      reserved = subst (λ v. AreAllWithin v new) (sym m.vars) (within_same ring.vars clauses new same c.reserved);
      sides = omega (arith, c.sides, same.count, m.clauses_are);
    }

pub propagated_moved : (clauses : List ArenaClause) (ring ring' : RingView) (trail : TrailView) (gone id side place to : ℕ) → IsMove clauses ring ring' trail gone id side place to → HasPropagated clauses ring trail (with_places_swapped clauses id side place) ring' trail
propagated_moved clauses ring ring' trail gone id side place to m = record {
  same = move_same clauses ring ring' trail gone id side place to m;
  ring_vars = m.vars;
  ring_clauses = m.clauses_are;
  vars = refl;
  depth = refl;
  grown = grown_none (lits_of_each clauses) trail.depth trail.entries;
  founded = λ f. f;
}

pub walk_moved : (clauses : List ArenaClause) (ring ring' : RingView) (trail : TrailView) (gone id side place to : ℕ) (before next : Option (ℕ × ℕ)) → IsMove clauses ring ring' trail gone id side place to → IsTrail trail → IsOnce (list_of ring gone) → (u : IsUnderway clauses ring trail gone before (Some (id, side))) → IsNext ring id side next → IsUnderway (with_places_swapped clauses id side place) ring' trail gone before next
walk_moved clauses ring ring' trail gone id side place to before next m t once u next_is =
    let a = at_side clauses ring trail gone id side before u in
    record {
      connected = connected_moved clauses ring ring' trail gone id side place to m t u.connected;
      front = u.front;
      back = a.rest;
      list_is = m.leaves ∙ ap (without (2 * id + side)) a.list_is ∙ without_split (2 * id + side) u.front a.rest (subst IsOnce a.list_is once);
      here_is = next_is gone u.front a.rest a.list_is;
      before_is = u.before_is;
      done = λ other c.
          subst (λ lit. IsTrueUpTo trail.entries lit trail.depth) (sym (watched_kept clauses ring ring' trail gone id side place to m (other_side other) (beside other c)))
          (u.done other c);
      gone_false = u.gone_false;
    }
  where
    -- the side beside it stands in another list
    beside : (other : ℕ) → Contains u.front other → other_side other ≢ 2 * id + side
    beside other c e =
        let lt = m.side_in in
        let is : other ≡ 2 * id + (1 - side) = omega (arith, e, lt) in
        let in_list : Contains (list_of ring gone) other = subst (λ (xs : List ℕ). Contains xs other) (sym u.list_is) (Contains-append_left u.front u.back other c) in
        let lit_is : get_or (clause_at clauses id).lits (1 - side) 0 ≡ gone =
        sym (watched_is clauses id (1 - side) (omega arith)) ∙ ap (watched clauses) (sym is) ∙ u.connected.lists.only gone other in_list in
        let within = m.within in
        let low = m.behind in
        let same : 1 - side ≡ side = m.distinct.each (1 - side) side (omega (arith, within, low, lt)) (omega (arith, within, low, lt)) (lit_is ∙ sym m.is) in
        omega (arith, same, lt)
