-- A new clause that is taken into the lists.
use Rattle.std.proofs.Common.{◌≡◌, ◌≢◌, ◌∙◌, ℕ, ◌+◌, ◌*◌, ◌/◌, ◌%◌, ◌<◌, ◌≤◌, List, ◌∷◌, length, refl, ap, subst, sym, inl, inr, arith, get_or}
use Rattle.std.specs.Prelude.{◌⊎◌, All, Contains}
use Rattle.std.proofs.lemmas.Bool.{cases_eq, cases_lt}
use Rattle.std.proofs.lemmas.List.{get_or_default}
use Rattle.std.proofs.lemmas.List.Elements.{All-head, All-tail, All-from_get_or, All-get_or, Contains-get_or}
use Rattle.sat_base.specs.Lit.{opposite}
use Rattle.clause_arena.specs.Arena.{ArenaClause, clause_at, lits_of_each}
use Rattle.trail_core.specs.Trail.{Entry, TrailView, IsTrail, entry_at, lits_of}
use Rattle.trail_core.specs.UnderTrail.{IsFalseLit, HasOthersFalse}
use Rattle.watch_ring.specs.Ring.{RingView, list_of, StandsNowhere}
use Rattle.watch_ring.proofs.Lists.{here, there, split}
use Rattle.propagate.specs.Store.{AreAllWithin}
use Rattle.propagate.specs.Pairing.{IsOld, IsSide, IsTrueUpTo, IsPaired, IsReady, watched, other_side}
use Rattle.propagate.specs.Lists.{IsConnected, HasPropagated, IsWatched, new_from}
use Rattle.propagate.specs.Choice.{IsRearranged, IsOneLeft, AreTwoLeft}
use Rattle.propagate.proofs.Grown.{grown_none}
use Rattle.propagate.proofs.Fresh.{old_below, below_old, new_cons, new_same}
use Rattle.propagate.proofs.Same.{within_same}
use Rattle.propagate.proofs.Swaps.{same_rearranged}
use Rattle.propagate.proofs.Literals.{watched_is, watched_other, false_at}
use Rattle.propagate.proofs.Choices.{ready_same}

-- Into the lists.

pub nowhere_new : (clauses : List ArenaClause) (ring : RingView) (id side : ℕ) → side < 2 → IsWatched clauses (new_from id clauses) (list_of ring) → StandsNowhere ring (2 * id + side)
nowhere_new clauses ring id side side_in l = record {
  out = λ lit c.
      let lt = old_below id clauses ((2 * id + side) / 2) (l.known lit (2 * id + side) c).clause in
      omega (arith, lt, side_in);
}

pub nowhere_next : (clauses : List ArenaClause) (ring ring' : RingView) (id lit : ℕ) → IsWatched clauses (new_from id clauses) (list_of ring) → list_of ring' lit ≡ (2 * id + 0) ∷ list_of ring lit → ((other : ℕ) → other ≢ lit → list_of ring' other ≡ list_of ring other) → StandsNowhere ring' (2 * id + 1)
nowhere_next clauses ring ring' id lit l front others = record { out = λ other c. at other c (cases_eq other lit) }
  where
    out : (other : ℕ) → Contains (list_of ring other) (2 * id + 1) → ⊥
    out = (nowhere_new clauses ring id 1 (omega arith) l).out

    in_front : (2 * id + 0 ≡ 2 * id + 1) ⊎ Contains (list_of ring lit) (2 * id + 1) → ⊥
    in_front (inl e) = omega (arith, e)
    in_front (inr c) = out lit c

    at : (other : ℕ) → Contains (list_of ring' other) (2 * id + 1) → (other ≡ lit) ⊎ (other ≢ lit) → ⊥
    at other c (inl e) = in_front (split (2 * id + 0) (2 * id + 1) (list_of ring lit) (subst (λ (xs : List ℕ). Contains xs (2 * id + 1)) (ap (list_of ring') e ∙ front) c))
    at other c (inr n) = out other (subst (λ (xs : List ℕ). Contains xs (2 * id + 1)) (others other n) c)

-- a side that isn't new once this clause isn't
side_next : (clauses : List ArenaClause) (id side : ℕ) → id < length clauses → IsSide clauses (new_from (id + 1) clauses) side → (side / 2 ≡ id) ⊎ IsSide clauses (new_from id clauses) side
side_next clauses id side known s = at (cases_eq (side / 2) id)
  where
    at : (side / 2 ≡ id) ⊎ (side / 2 ≢ id) → (side / 2 ≡ id) ⊎ IsSide clauses (new_from id clauses) side
    at (inl e) = inl e
    at (inr n) =
        let lt = old_below (id + 1) clauses (side / 2) s.clause in
        inr (record { clause = below_old id clauses (side / 2) (omega (arith, lt, n)) (omega (arith, known)); wide = s.wide })

pub old_next : (clauses : List ArenaClause) (id other : ℕ) → id < length clauses → IsOld clauses (new_from (id + 1) clauses) other → (other ≡ id) ⊎ IsOld clauses (new_from id clauses) other
old_next clauses id other known o = at (cases_eq other id)
  where
    at : (other ≡ id) ⊎ (other ≢ id) → (other ≡ id) ⊎ IsOld clauses (new_from id clauses) other
    at (inl e) = inl e
    at (inr n) = let lt = old_below (id + 1) clauses other o in inr (below_old id clauses other (omega (arith, lt, n)) (omega (arith, known)))

old_more : (clauses : List ArenaClause) (id other : ℕ) → id < length clauses → IsOld clauses (new_from id clauses) other → IsOld clauses (new_from (id + 1) clauses) other
old_more clauses id other known o = let lt = old_below id clauses other o in below_old (id + 1) clauses other (omega (arith, lt)) (omega (arith, known))

-- a clause that has no two literals stands in no list
pub watched_short : (clauses : List ArenaClause) (list : ℕ → List ℕ) (id : ℕ) → id < length clauses → length (clause_at clauses id).lits < 2 → IsWatched clauses (new_from id clauses) list → IsWatched clauses (new_from (id + 1) clauses) list
watched_short clauses list id known short l = record {
  stands = λ side s. at side s (side_next clauses id side known s);
  known = λ lit side c. let s = l.known lit side c in record { clause = old_more clauses id (side / 2) known s.clause; wide = s.wide };
  only = l.only;
}
  where
    at : (side : ℕ) → IsSide clauses (new_from (id + 1) clauses) side → (side / 2 ≡ id) ⊎ IsSide clauses (new_from id clauses) side → Contains (list (watched clauses side)) side
    at side s (inl e) = absurd (omega (arith, s.wide, short, ap (λ n. length (clause_at clauses n).lits) e))
    at side s (inr old) = l.stands side old

-- both sides joined
pub record AreJoined (clauses : List ArenaClause) (ring mid ring' : RingView) (id first second : ℕ) : Type 0 where
  pub known : id < length clauses
  pub wide : 2 ≤ length (clause_at clauses id).lits
  pub first_is : get_or (clause_at clauses id).lits 0 0 ≡ first
  pub second_is : get_or (clause_at clauses id).lits 1 0 ≡ second
  pub front : list_of mid first ≡ (2 * id + 0) ∷ list_of ring first
  pub others : (lit : ℕ) → lit ≢ first → list_of mid lit ≡ list_of ring lit
  pub front' : list_of ring' second ≡ (2 * id + 1) ∷ list_of mid second
  pub others' : (lit : ℕ) → lit ≢ second → list_of ring' lit ≡ list_of mid lit

-- what is in a list after a join
joined_from : (old new : RingView) (lit w : ℕ) → list_of new lit ≡ w ∷ list_of old lit → ((other : ℕ) → other ≢ lit → list_of new other ≡ list_of old other) → (other side : ℕ) → Contains (list_of new other) side → ((w ≡ side) × (other ≡ lit)) ⊎ Contains (list_of old other) side
joined_from old new lit w front others other side c = at (cases_eq other lit)
  where
    cases : other ≡ lit → (w ≡ side) ⊎ Contains (list_of old lit) side → ((w ≡ side) × (other ≡ lit)) ⊎ Contains (list_of old other) side
    cases e (inl s) = inl (s, e)
    cases e (inr m) = inr (subst (λ l. Contains (list_of old l) side) (sym e) m)

    at : (other ≡ lit) ⊎ (other ≢ lit) → ((w ≡ side) × (other ≡ lit)) ⊎ Contains (list_of old other) side
    at (inl e) = cases e (split w side (list_of old lit) (subst (λ (xs : List ℕ). Contains xs side) (ap (list_of new) e ∙ front) c))
    at (inr n) = inr (subst (λ (xs : List ℕ). Contains xs side) (others other n) c)

joined_to : (old new : RingView) (lit w : ℕ) → list_of new lit ≡ w ∷ list_of old lit → ((other : ℕ) → other ≢ lit → list_of new other ≡ list_of old other) → (other side : ℕ) → Contains (list_of old other) side → Contains (list_of new other) side
joined_to old new lit w front others other side c = at (cases_eq other lit)
  where
    at : (other ≡ lit) ⊎ (other ≢ lit) → Contains (list_of new other) side
    at (inl e) = subst (λ (xs : List ℕ). Contains xs side) (sym (ap (list_of new) e ∙ front)) (there w side (list_of old lit) (subst (λ l. Contains (list_of old l) side) e c))
    at (inr n) = subst (λ (xs : List ℕ). Contains xs side) (sym (others other n)) c

joined_here : (old new : RingView) (lit w : ℕ) → list_of new lit ≡ w ∷ list_of old lit → Contains (list_of new lit) w
joined_here old new lit w front = subst (λ (xs : List ℕ). Contains xs w) (sym front) (here w (list_of old lit))

pub watched_joined : (clauses : List ArenaClause) (ring mid ring' : RingView) (id first second : ℕ) → AreJoined clauses ring mid ring' id first second → IsWatched clauses (new_from id clauses) (list_of ring) → IsWatched clauses (new_from (id + 1) clauses) (list_of ring')
watched_joined clauses ring mid ring' id first second j l = record {
  stands = λ side s. stands_at side (side_next clauses id side j.known s);
  known = λ lit side c. known_at lit side (in_list lit side c);
  only = λ lit side c. only_at lit side (in_list lit side c);
}
  where
    lit_first : watched clauses (2 * id + 0) ≡ first
    lit_first = watched_is clauses id 0 (omega arith) ∙ j.first_is

    lit_second : watched clauses (2 * id + 1) ≡ second
    lit_second = watched_is clauses id 1 (omega arith) ∙ j.second_is

    up : (lit side : ℕ) → Contains (list_of ring lit) side → Contains (list_of ring' lit) side
    up lit side c = joined_to mid ring' second (2 * id + 1) j.front' j.others' lit side (joined_to ring mid first (2 * id + 0) j.front j.others lit side c)

    at_first : Contains (list_of ring' first) (2 * id + 0)
    at_first = joined_to mid ring' second (2 * id + 1) j.front' j.others' first (2 * id + 0) (joined_here ring mid first (2 * id + 0) j.front)

    at_second : Contains (list_of ring' second) (2 * id + 1)
    at_second = joined_here mid ring' second (2 * id + 1) j.front'

    own : (side : ℕ) → side / 2 ≡ id → (side ≡ 2 * id + 0) ⊎ (side ≢ 2 * id + 0) → Contains (list_of ring' (watched clauses side)) side
    own side e (inl z) =
        subst (λ n. Contains (list_of ring' (watched clauses n)) n) (sym z) (subst (λ lit. Contains (list_of ring' lit) (2 * id + 0)) (sym lit_first) at_first)
    own side e (inr n) =
        let o : side ≡ 2 * id + 1 = omega (arith, e, n) in
        subst (λ n. Contains (list_of ring' (watched clauses n)) n) (sym o) (subst (λ lit. Contains (list_of ring' lit) (2 * id + 1)) (sym lit_second) at_second)

    stands_at : (side : ℕ) → (side / 2 ≡ id) ⊎ IsSide clauses (new_from id clauses) side → Contains (list_of ring' (watched clauses side)) side
    stands_at side (inl e) = own side e (cases_eq side (2 * id + 0))
    stands_at side (inr s) = up (watched clauses side) side (l.stands side s)

    Where : ℕ → ℕ → Type 0
    Where lit side = ((side / 2 ≡ id) × (watched clauses side ≡ lit)) ⊎ Contains (list_of ring lit) side

    lower : (lit side : ℕ) → ((2 * id + 0 ≡ side) × (lit ≡ first)) ⊎ Contains (list_of ring lit) side → Where lit side
    lower lit side (inl (e, f)) = inl (omega (arith, e), ap (watched clauses) (sym e) ∙ lit_first ∙ sym f)
    lower lit side (inr c) = inr c

    upper : (lit side : ℕ) → ((2 * id + 1 ≡ side) × (lit ≡ second)) ⊎ Contains (list_of mid lit) side → Where lit side
    upper lit side (inl (e, f)) = inl (omega (arith, e), ap (watched clauses) (sym e) ∙ lit_second ∙ sym f)
    upper lit side (inr c) = lower lit side (joined_from ring mid first (2 * id + 0) j.front j.others lit side c)

    in_list : (lit side : ℕ) → Contains (list_of ring' lit) side → Where lit side
    in_list lit side c = upper lit side (joined_from mid ring' second (2 * id + 1) j.front' j.others' lit side c)

    known_at : (lit side : ℕ) → Where lit side → IsSide clauses (new_from (id + 1) clauses) side
    known_at lit side (inl (e, _)) = record {
      clause = below_old (id + 1) clauses (side / 2) (omega (arith, e)) (omega (arith, j.known));
      wide = subst (λ n. 2 ≤ length (clause_at clauses n).lits) (sym e) j.wide;
    }
    known_at lit side (inr c) = let s = l.known lit side c in record { clause = old_more clauses id (side / 2) j.known s.clause; wide = s.wide }

    only_at : (lit side : ℕ) → Where lit side → watched clauses side ≡ lit
    only_at lit side (inl (_, e)) = e
    only_at lit side (inr c) = l.only lit side c

-- Its own pairing.

pub record IsOwnPaired (clauses : List ArenaClause) (id : ℕ) (entries : List Entry) (looked : ℕ) : Type 0 where
  pub first : 2 ≤ length (clause_at clauses id).lits → (place : ℕ) → place < looked → (entry_at entries place).lit ≡ opposite (get_or (clause_at clauses id).lits 0 0) → IsTrueUpTo entries (get_or (clause_at clauses id).lits 1 0) (entry_at entries place).level
  pub second : 2 ≤ length (clause_at clauses id).lits → (place : ℕ) → place < looked → (entry_at entries place).lit ≡ opposite (get_or (clause_at clauses id).lits 1 0) → IsTrueUpTo entries (get_or (clause_at clauses id).lits 0 0) (entry_at entries place).level
  pub alone : length (clause_at clauses id).lits ≡ 1 → IsTrueUpTo entries (get_or (clause_at clauses id).lits 0 0) 0
  pub some : 0 < length (clause_at clauses id).lits

pub paired_settled : (clauses : List ArenaClause) (id : ℕ) (entries : List Entry) (looked : ℕ) → id < length clauses → IsOwnPaired clauses id entries looked → IsPaired clauses (new_from id clauses) entries looked → IsPaired clauses (new_from (id + 1) clauses) entries looked
paired_settled clauses id entries looked known own p = record {
  pairs = λ side place s lt is. pairs_at side place s (side_next clauses id side known s) lt is (cases_eq side (2 * id + 0));
  single = λ other o one. single_at other (old_next clauses id other known o) one;
  some = λ other o. some_at other (old_next clauses id other known o);
}
  where
    pairs_at : (side place : ℕ) → IsSide clauses (new_from (id + 1) clauses) side → (side / 2 ≡ id) ⊎ IsSide clauses (new_from id clauses) side → place < looked → (entry_at entries place).lit ≡ opposite (watched clauses side) → (side ≡ 2 * id + 0) ⊎ (side ≢ 2 * id + 0) → IsTrueUpTo entries (watched clauses (other_side side)) (entry_at entries place).level
    pairs_at side place s (inr old) lt is _ = p.pairs side place old lt is
    pairs_at side place s (inl e) lt is (inl z) =
        subst (λ lit. IsTrueUpTo entries lit (entry_at entries place).level) (sym (ap (λ n. watched clauses (other_side n)) z ∙ watched_other clauses id 0 (omega arith)))
        (own.first (subst (λ n. 2 ≤ length (clause_at clauses n).lits) e s.wide) place lt (is ∙ ap (λ n. opposite (watched clauses n)) z ∙ ap opposite (watched_is clauses id 0 (omega arith))))
    pairs_at side place s (inl e) lt is (inr n) =
        let o : side ≡ 2 * id + 1 = omega (arith, e, n) in
        subst (λ lit. IsTrueUpTo entries lit (entry_at entries place).level) (sym (ap (λ n. watched clauses (other_side n)) o ∙ watched_other clauses id 1 (omega arith)))
        (own.second (subst (λ n. 2 ≤ length (clause_at clauses n).lits) e s.wide) place lt (is ∙ ap (λ n. opposite (watched clauses n)) o ∙ ap opposite (watched_is clauses id 1 (omega arith))))

    single_at : (other : ℕ) → (other ≡ id) ⊎ IsOld clauses (new_from id clauses) other → length (clause_at clauses other).lits ≡ 1 → IsTrueUpTo entries (get_or (clause_at clauses other).lits 0 0) 0
    single_at other (inr o) one = p.single other o one
    single_at other (inl e) one =
        subst (λ n. IsTrueUpTo entries (get_or (clause_at clauses n).lits 0 0) 0) (sym e)
        (own.alone (subst (λ n. length (clause_at clauses n).lits ≡ 1) e one))

    some_at : (other : ℕ) → (other ≡ id) ⊎ IsOld clauses (new_from id clauses) other → 0 < length (clause_at clauses other).lits
    some_at other (inr o) = p.some other o
    some_at other (inl e) = subst (λ n. 0 < length (clause_at clauses n).lits) (sym e) own.some

-- two literals aren't false: nothing is owed
pub own_two : (clauses : List ArenaClause) (id : ℕ) (trail : TrailView) → IsTrail trail → AreTwoLeft (lits_of trail.entries) (clause_at clauses id).lits → IsOwnPaired clauses id trail.entries trail.looked
own_two clauses id trail t two = record {
  first = λ wide place lt is. absurd (two.first (false_at trail.entries place _ (omega (arith, lt, t.looked_at)) is));
  second = λ wide place lt is. absurd (two.second (false_at trail.entries place _ (omega (arith, lt, t.looked_at)) is));
  alone = λ one. let w = two.wide in absurd (omega (arith, one, w));
  some = let w = two.wide in omega (arith, w);
}

-- One literal isn't false, and is true once the trail has grown: `old` is the trail before.
pub own_one : (clauses : List ArenaClause) (id : ℕ) (old new : TrailView) → IsTrail old → IsOneLeft old.entries old.depth (clause_at clauses id).lits → IsTrueUpTo new.entries (get_or (clause_at clauses id).lits 0 0) old.depth → new.looked ≡ old.looked → ((place : ℕ) → place < length old.entries → entry_at new.entries place ≡ entry_at old.entries place) → IsOwnPaired clauses id new.entries new.looked
own_one clauses id old new t one is_true looked same = record {
  first = λ wide place lt is.
      let place_in : place < length old.entries = omega (arith, lt, looked, t.looked_at) in
      absurd (one.left (false_at old.entries place _ place_in (sym (ap (λ (e : Entry). e.lit) (same place place_in)) ∙ is)));
  second = λ wide place lt is.
      let place_in : place < length old.entries = omega (arith, lt, looked, t.looked_at) in
      let e = same place place_in in
      let level = one.top wide place place_in (sym (ap (λ (x : Entry). x.lit) e) ∙ is) in
      subst (IsTrueUpTo new.entries (get_or (clause_at clauses id).lits 0 0)) (sym (ap (λ (x : Entry). x.level) e ∙ level)) is_true;
  alone = λ single. subst (IsTrueUpTo new.entries (get_or (clause_at clauses id).lits 0 0)) (one.alone single) is_true;
  some = one.some;
}

-- All together.

pub connected_settled : (clauses : List ArenaClause) (ring ring' : RingView) (trail : TrailView) (id : ℕ) → id < length clauses → IsConnected clauses (new_from id clauses) ring trail → ring'.vars ≡ ring.vars → ring'.clauses ≡ ring.clauses → IsWatched clauses (new_from (id + 1) clauses) (list_of ring') → IsOwnPaired clauses id trail.entries trail.looked → IsConnected clauses (new_from (id + 1) clauses) ring' trail
connected_settled clauses ring ring' trail id known c vars sides lists own = record {
  lists = lists;
  paired = paired_settled clauses id trail.entries trail.looked known own c.paired;
  ready =
      let P : ℕ → Type 0 = λ n. IsReady trail.entries trail.depth (clause_at clauses n).lits in
      All-tail P id (new_from (id + 1) clauses) (subst (All P) (new_cons id clauses known) c.ready);
  pending = c.pending;
  within = c.within;
  reserved = subst (λ v. AreAllWithin v clauses) (sym vars) c.reserved;
  sides = omega (arith, sides, c.sides);
}

pub ready_first : (clauses : List ArenaClause) (ring : RingView) (trail : TrailView) (id : ℕ) → id < length clauses → IsConnected clauses (new_from id clauses) ring trail → IsReady trail.entries trail.depth (clause_at clauses id).lits
ready_first clauses ring trail id known c =
    let P : ℕ → Type 0 = λ n. IsReady trail.entries trail.depth (clause_at clauses n).lits in
    All-head P id (new_from (id + 1) clauses) (subst (All P) (new_cons id clauses known) c.ready)

-- the literals of the first new clause in other places
pub connected_rearranged : (old new : List ArenaClause) (ring : RingView) (trail : TrailView) (id : ℕ) → id < length old → IsRearranged old new id → IsConnected old (new_from id old) ring trail → IsConnected new (new_from id new) ring trail
connected_rearranged old new ring trail id known r c =
    subst (λ (xs : List ℕ). IsConnected new xs ring trail) (sym (new_same id old new r.count)) (record {
      lists = record {
        stands = λ side s. let o = side_old side s in subst (λ lit. Contains (list_of ring lit) side) (sym (watched_at side o)) (c.lists.stands side o);
        known = λ lit side h. side_new side (c.lists.known lit side h);
        only = λ lit side h. watched_at side (c.lists.known lit side h) ∙ c.lists.only lit side h;
      };
      paired = record {
        pairs = λ side place s lt is.
            let o = side_old side s in
            let half : other_side side / 2 ≡ side / 2 = omega arith in
            let beside : clause_at new (other_side side / 2) ≡ clause_at old (other_side side / 2) = r.others (other_side side / 2) (λ e. apart (side / 2) o.clause (sym half ∙ e)) in
            subst (λ (x : ArenaClause). IsTrueUpTo trail.entries (get_or x.lits (other_side side % 2) 0) (entry_at trail.entries place).level) (sym beside)
            (c.paired.pairs side place o lt (is ∙ ap opposite (watched_at side o)));
        single = λ other o one.
            let old_is = old_of other o in
            let same = r.others other (apart other old_is) in
            subst (λ (x : ArenaClause). IsTrueUpTo trail.entries (get_or x.lits 0 0) 0) (sym same)
            (c.paired.single other old_is (sym (ap (λ (x : ArenaClause). length x.lits) same) ∙ one));
        some = λ other o.
            let old_is = old_of other o in
            subst (λ (x : ArenaClause). 0 < length x.lits) (sym (r.others other (apart other old_is))) (c.paired.some other old_is);
      };
      ready = All-from_get_or (λ (n : ℕ). IsReady trail.entries trail.depth (clause_at new n).lits) (new_from id old) 0
          (λ k lt. ready_at (get_or (new_from id old) k 0) (All-get_or (λ (n : ℕ). IsReady trail.entries trail.depth (clause_at old n).lits) (new_from id old) k 0 lt c.ready));
      pending = c.pending;
      within = within_same trail.vars old new (same_rearranged old new id r) c.within;
      reserved = within_same ring.vars old new (same_rearranged old new id r) c.reserved;
      sides = omega (arith, c.sides, r.count);
    })
  where
    apart : (other : ℕ) → IsOld old (new_from id old) other → other ≢ id
    apart other o e = let lt = old_below id old other o in omega (arith, lt, e)

    old_of : (other : ℕ) → IsOld new (new_from id old) other → IsOld old (new_from id old) other
    old_of other o = record { known = omega (arith, o.known, r.count); not_new = o.not_new }

    side_old : (side : ℕ) → IsSide new (new_from id old) side → IsSide old (new_from id old) side
    side_old side s =
        let o = old_of (side / 2) s.clause in
        record { clause = o; wide = subst (λ (x : ArenaClause). 2 ≤ length x.lits) (r.others (side / 2) (apart (side / 2) o)) s.wide }

    side_new : (side : ℕ) → IsSide old (new_from id old) side → IsSide new (new_from id old) side
    side_new side s = record {
      clause = record { known = omega (arith, s.clause.known, r.count); not_new = s.clause.not_new };
      wide = subst (λ (x : ArenaClause). 2 ≤ length x.lits) (sym (r.others (side / 2) (apart (side / 2) s.clause))) s.wide;
    }

    watched_at : (side : ℕ) → IsSide old (new_from id old) side → watched new side ≡ watched old side
    watched_at side s = ap (λ (x : ArenaClause). get_or x.lits (side % 2) 0) (r.others (side / 2) (apart (side / 2) s.clause))

    ready_at : (n : ℕ) → IsReady trail.entries trail.depth (clause_at old n).lits → IsReady trail.entries trail.depth (clause_at new n).lits
    ready_at n h = by (cases_eq n id)
      where
        by : (n ≡ id) ⊎ (n ≢ id) → IsReady trail.entries trail.depth (clause_at new n).lits
        by (inl e) = subst (λ m. IsReady trail.entries trail.depth (clause_at new m).lits) (sym e)
            (ready_same trail.entries trail.depth (clause_at old id) (clause_at new id) r.here (subst (λ m. IsReady trail.entries trail.depth (clause_at old m).lits) e h))
        by (inr m) = subst (λ (x : ArenaClause). IsReady trail.entries trail.depth x.lits) (sym (r.others n m)) h

-- the other literals of a clause with one left are false
pub one_others : (entries : List Entry) (depth : ℕ) (lits : List ℕ) → IsOneLeft entries depth lits → HasOthersFalse (lits_of entries) lits (get_or lits 0 0)
one_others entries depth lits one = record {
  stands = Contains-get_or lits 0 0 one.some;
  others = λ other c n. at other n c.0 c.1 (get_or_default lits c.0 0 other c.1 ∙ c.2) (cases_lt 0 c.0);
}
  where
    at : (other : ℕ) → other ≢ get_or lits 0 0 → (k : ℕ) → k < length lits → get_or lits k 0 ≡ other → (0 < k) ⊎ (k ≤ 0) → IsFalseLit (lits_of entries) other
    at other n k lt is (inl some) = subst (IsFalseLit (lits_of entries)) is (one.others.each k (omega (arith, some)) lt)
    at other n k lt is (inr none) = let z : k ≡ 0 = omega arith in absurd (n (sym is ∙ ap (λ i. get_or lits i 0) z))

pub propagated_rearranged : (old new : List ArenaClause) (ring ring' : RingView) (trail : TrailView) (id : ℕ) → IsRearranged old new id → ring'.vars ≡ ring.vars → ring'.clauses ≡ ring.clauses → HasPropagated old ring trail new ring' trail
propagated_rearranged old new ring ring' trail id r vars sides = record {
  same = same_rearranged old new id r;
  ring_vars = vars;
  ring_clauses = sides;
  vars = refl;
  depth = refl;
  grown = grown_none (lits_of_each old) trail.depth trail.entries;
  founded = λ f. f;
}
