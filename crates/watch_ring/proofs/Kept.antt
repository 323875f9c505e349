-- The ring's own fields after each of its writes.
use Rattle.std.proofs.Common.{◌≡◌, ◌∙◌, ℕ, ◌+◌, ◌*◌, ◌<◌, ◌≤◌, min, max, List, [], ◌∷◌, ◌++◌, length, refl, ap, subst, sym, inl, inr, arith, set}
use Rattle.std.specs.Prelude.{◌⊎◌, Contains, Option, None, Some}
use Rattle.std.proofs.lemmas.Bool.{cases_lt}
use Rattle.std.proofs.lemmas.List.Elements.{Contains-append_left}
use Rattle.sat_base.specs.Lit.{variable, IsLit}
use Rattle.watch_ring.specs.Ring.{RingView, list_of, StandsNowhere, StandsAfter, first_of, without, last_behind}
use Rattle.watch_ring.specs.Layout.{link_at, linked, IsKeptIn, HasRoom, IsChain, AreChains}
use Rattle.watch_ring.proofs.Lists.{in_split, last_in, last_none, from_without}
use Rattle.watch_ring.proofs.Chains.{chain_back}
use Rattle.watch_ring.proofs.Steps.{in_range, with_front, joined, left_first, left_behind, extended, lists_are}

pub chains_of : (heads links : List (Option ℕ)) (vars clauses : ℕ) (view : RingView) → IsKeptIn heads links vars clauses → linked heads links vars clauses ≡ view → AreChains heads links (list_of view) clauses
chains_of heads links vars clauses view k view_is = subst (λ (v : RingView). AreChains heads links (list_of v) clauses) view_is k.chains

pub head_in : (heads links : List (Option ℕ)) (vars clauses lit : ℕ) → HasRoom heads links vars clauses → IsLit lit → variable lit ≤ vars → lit < length heads
head_in heads links vars clauses lit room is le = room.heads_for lit (omega (arith, is.within, le)) is.not_zero

pub same_room : (heads links heads_new links_new : List (Option ℕ)) (vars clauses : ℕ) → HasRoom heads links vars clauses → length heads_new ≡ length heads → length links_new ≡ length links → HasRoom heads_new links_new vars clauses
same_room heads links heads_new links_new vars clauses room h l = record {
  heads_for = λ lit lt ge. let r = room.heads_for lit lt ge in omega arith;
  links_for = omega (arith, room.links_for);
  few = omega (arith, room.few);
}

pub joined_in : (heads links : List (Option ℕ)) (vars clauses : ℕ) (view : RingView) (lit head w : ℕ) (to first : Option ℕ) → IsKeptIn heads links vars clauses → linked heads links vars clauses ≡ view → head ≡ lit → lit < length heads → w < 2 * clauses → StandsNowhere view w → to ≡ Some w → first ≡ link_at heads head → AreChains (set heads head to) (set links w first) (with_front (list_of view) lit w) clauses
joined_in heads links vars clauses view lit head w to first k view_is h lt below nowhere e f =
    subst (λ n. AreChains (set heads n to) (set links w first) (with_front (list_of view) lit w) clauses) (sym h)
    (subst (λ t. AreChains (set heads lit t) (set links w first) (with_front (list_of view) lit w) clauses) (sym e)
    (subst (λ t. AreChains (set heads lit (Some w)) (set links w t) (with_front (list_of view) lit w) clauses) (sym (f ∙ ap (link_at heads) h))
    (joined heads links (list_of view) clauses lit w (chains_of heads links vars clauses view k view_is) lt below (omega (arith, below, k.room.links_for)) nowhere.out)))

pub stands : (list : ℕ → List ℕ) (from : ℕ) (before : Option ℕ) (w : ℕ) → StandsAfter (list from) before w → Contains (list from) w
stands list from before w place = subst (λ (xs : List ℕ). Contains xs w) (sym place.is) (in_split w place.front place.back)

pub known : (heads links : List (Option ℕ)) (vars clauses : ℕ) (view : RingView) (from : ℕ) (before : Option ℕ) (w : ℕ) → IsKeptIn heads links vars clauses → linked heads links vars clauses ≡ view → StandsAfter (list_of view from) before w → w < 2 * clauses
known heads links vars clauses view from before w k view_is place =
    (chains_of heads links vars clauses view k view_is).disjoint.below from w (stands (list_of view) from before w place)

pub before_known : (heads links : List (Option ℕ)) (vars clauses : ℕ) (view : RingView) (from p w : ℕ) → IsKeptIn heads links vars clauses → linked heads links vars clauses ≡ view → StandsAfter (list_of view from) (Some p) w → p < 2 * clauses
before_known heads links vars clauses view from p w k view_is place =
    (chains_of heads links vars clauses view k view_is).disjoint.below from p (by place.front place.back place.is place.last)
  where
    by : (front back : List ℕ) → list_of view from ≡ front ++ w ∷ back → last_behind None front ≡ Some p → Contains (list_of view from) p
    by [] back is last = absurd (grind arith)
    by (x ∷ front) back is last =
        subst (λ (xs : List ℕ). Contains xs p) (sym is) (Contains-append_left (x ∷ front) (w ∷ back) p (last_in x p front last))

pub from_in : (heads links : List (Option ℕ)) (vars clauses : ℕ) (view : RingView) (from w : ℕ) → IsKeptIn heads links vars clauses → linked heads links vars clauses ≡ view → StandsAfter (list_of view from) None w → from < length heads
from_in heads links vars clauses view from w k view_is place = by place.front place.back place.is place.last
  where
    by : (front back : List ℕ) → list_of view from ≡ front ++ w ∷ back → last_behind None front ≡ None → from < length heads
    by [] back is last =
        let c = subst (IsChain links (link_at heads from)) is ((chains_of heads links vars clauses view k view_is).chained from) in
        in_range heads from (link_at heads from) w refl c.0
    by (x ∷ front) back is last = absurd (last_none x front last)

pub left_first_in : (heads links : List (Option ℕ)) (vars clauses : ℕ) (view : RingView) (from code w : ℕ) (after : Option ℕ) → IsKeptIn heads links vars clauses → linked heads links vars clauses ≡ view → code ≡ from → StandsAfter (list_of view from) None w → after ≡ link_at links w → AreChains (set heads code after) links (λ l. without w (list_of view l)) clauses
left_first_in heads links vars clauses view from code w after k view_is h place f =
    subst (λ n. AreChains (set heads n after) links (λ l. without w (list_of view l)) clauses) (sym h)
    (subst (λ t. AreChains (set heads from t) links (λ l. without w (list_of view l)) clauses) (sym f) (by place.front place.back place.is place.last))
  where
    by : (front back : List ℕ) → list_of view from ≡ front ++ w ∷ back → last_behind None front ≡ None → AreChains (set heads from (link_at links w)) links (λ l. without w (list_of view l)) clauses
    by [] back is last = left_first heads links (list_of view) clauses from w back (chains_of heads links vars clauses view k view_is) (from_in heads links vars clauses view from w k view_is place) is
    by (x ∷ front) back is last = absurd (last_none x front last)

pub left_behind_in : (heads links : List (Option ℕ)) (vars clauses : ℕ) (view : RingView) (from p w : ℕ) (after : Option ℕ) → IsKeptIn heads links vars clauses → linked heads links vars clauses ≡ view → StandsAfter (list_of view from) (Some p) w → after ≡ link_at links w → AreChains heads (set links p after) (λ l. without w (list_of view l)) clauses
left_behind_in heads links vars clauses view from p w after k view_is place f =
    subst (λ t. AreChains heads (set links p t) (λ l. without w (list_of view l)) clauses) (sym f) (by place.front place.back place.is place.last)
  where
    by : (front back : List ℕ) → list_of view from ≡ front ++ w ∷ back → last_behind None front ≡ Some p → AreChains heads (set links p (link_at links w)) (λ l. without w (list_of view l)) clauses
    by [] back is last = absurd (grind arith)
    by (x ∷ front) back is last =
        let lt = before_known heads links vars clauses view from p w k view_is place in
        left_behind heads links (list_of view) clauses from w p x front back (chains_of heads links vars clauses view k view_is) (omega (arith, lt, k.room.links_for)) is last

pub nowhere_left : (heads links : List (Option ℕ)) (vars clauses w : ℕ) (list : ℕ → List ℕ) → AreChains heads links (λ l. without w (list l)) clauses → 2 * clauses ≤ length links → StandsNowhere (linked heads links vars clauses) w
nowhere_left heads links vars clauses w list chains room = record {
  out = λ l h. (from_without w w (list l) (subst (λ (xs : List ℕ). Contains xs w) (lists_are heads links vars clauses (λ m. without w (list m)) chains room l) h)).1 refl;
}

pub chain_first : (links : List (Option ℕ)) (link : Option ℕ) (back : List ℕ) → IsChain links link back → link ≡ first_of back
chain_first links link [] c = c
chain_first links link (x ∷ back) c = c.0

pub link_behind : (heads links : List (Option ℕ)) (vars clauses : ℕ) (view : RingView) (lit w : ℕ) (front back : List ℕ) → IsKeptIn heads links vars clauses → linked heads links vars clauses ≡ view → list_of view lit ≡ front ++ w ∷ back → link_at links w ≡ first_of back
link_behind heads links vars clauses view lit w front back k view_is is =
    chain_first links (link_at links w) back (chain_back links (link_at heads lit) front w back
    (subst (IsChain links (link_at heads lit)) is ((chains_of heads links vars clauses view k view_is).chained lit)))

pub extended_in : (heads links heads_new links_new : List (Option ℕ)) (vars clauses more : ℕ) (view : RingView) → IsKeptIn heads links vars clauses → linked heads links vars clauses ≡ view → clauses ≤ more → ((i : ℕ) → link_at heads_new i ≡ link_at heads i) → ((i : ℕ) → link_at links_new i ≡ link_at links i) → AreChains heads_new links_new (list_of view) more
extended_in heads links heads_new links_new vars clauses more view k view_is le h l =
    extended heads links heads_new links_new (list_of view) clauses more le h l (chains_of heads links vars clauses view k view_is)

pub longer_room : (heads links heads_new links_new : List (Option ℕ)) (vars clauses : ℕ) → HasRoom heads links vars clauses → length heads ≤ length heads_new → length links ≤ length links_new → length links_new ≤ 4294967294 → HasRoom heads_new links_new vars clauses
longer_room heads links heads_new links_new vars clauses room h l few = record {
  heads_for = λ lit lt ge. let r = room.heads_for lit lt ge in omega arith;
  links_for = omega (arith, room.links_for);
  few = few;
}

pub more_room : (heads links : List (Option ℕ)) (vars clauses v n vars_new clauses_new : ℕ) → HasRoom heads links vars clauses → 2 * min v 8388607 + 2 ≤ length heads → 2 * n ≤ length links → vars_new ≡ max vars v → clauses_new ≡ max clauses n → HasRoom heads links vars_new clauses_new
more_room heads links vars clauses v n vars_new clauses_new room h l vs cs = record {
  heads_for = λ lit lt ge. by lit lt ge (cases_lt lit (2 * min vars 8388607 + 2));
  links_for = omega (arith, room.links_for, l, cs);
  few = room.few;
}
  where
    by : (lit : ℕ) → lit < 2 * min vars_new 8388607 + 2 → 2 ≤ lit → (lit < 2 * min vars 8388607 + 2) ⊎ (2 * min vars 8388607 + 2 ≤ lit) → lit < length heads
    by lit lt ge (inl old) = room.heads_for lit old ge
    by lit lt ge (inr far) = omega (arith, lt, far, vs, h)
