-- The lists after each of the ring's writes.
use Rattle.std.proofs.Common.{◌≡◌, ◌∙◌, ℕ, zero, suc, ◌*◌, ◌<◌, ◌≤◌, List, [], ◌∷◌, ◌++◌, length, map, cond, refl, ap, subst, sym, true, false, inl, inr, arith, get_or, set}
use Rattle.std.specs.Prelude.{◌⊎◌, Contains, Option, None, Some, ◌==◌}
use Rattle.std.proofs.lemmas.Bool.{cases_eq, cases_lt}
use Rattle.std.proofs.lemmas.Bool.Decides.{nat_tests}
use Rattle.std.proofs.lemmas.List.{get_or-set_same, get_or-set_other}
use Rattle.std.proofs.lemmas.List.Elements.{Contains-append_left}
use Rattle.std.proofs.Math.ListN.{get_or-map, get_or-eq_default}
use Rattle.watch_ring.specs.Ring.{IsOnce, without, last_behind, AreDisjoint, list_of}
use Rattle.watch_ring.specs.Layout.{link_at, walk, IsChain, AreChains, linked, HasRoom, IsKeptIn}
use Rattle.watch_ring.proofs.Lists.{here, split, few, in_split, last_in, from_without, once_without, without_absent, without_split}
use Rattle.watch_ring.proofs.Chains.{chain_walk, chain_same, chain_set, chain_back, chain_cut}

walk_none : (links : List (Option ℕ)) (n : ℕ) → walk links n None ≡ []
walk_none links zero = refl
walk_none links (suc n) = refl

list_is : (heads links : List (Option ℕ)) (vars clauses lit : ℕ) → list_of (linked heads links vars clauses) lit ≡ walk links (length links) (link_at heads lit)
list_is heads links vars clauses lit =
    subst (λ (xs : List ℕ). get_or (map (walk links (length links)) heads) lit xs ≡ walk links (length links) (link_at heads lit)) (walk_none links (length links))
    (get_or-map (walk links (length links)) heads lit None)

-- the ring has the lists that its links go through
pub lists_are : (heads links : List (Option ℕ)) (vars clauses : ℕ) (list : ℕ → List ℕ) → AreChains heads links list clauses → 2 * clauses ≤ length links → (lit : ℕ) → list_of (linked heads links vars clauses) lit ≡ list lit
lists_are heads links vars clauses list chains room lit =
    let short = few (2 * clauses) (list lit) (chains.disjoint.once lit) (chains.disjoint.below lit) in
    list_is heads links vars clauses lit ∙ chain_walk links (link_at heads lit) (list lit) (length links) (chains.chained lit) (omega arith)

pub same_disjoint : (list new : ℕ → List ℕ) (clauses : ℕ) → ((lit : ℕ) → new lit ≡ list lit) → AreDisjoint list clauses → AreDisjoint new clauses
same_disjoint list new clauses same d = record {
  below = λ lit number h. d.below lit number (subst (λ (xs : List ℕ). Contains xs number) (same lit) h);
  once = λ lit. subst IsOnce (sym (same lit)) (d.once lit);
  apart = λ lit other number h k. d.apart lit other number (subst (λ (xs : List ℕ). Contains xs number) (same lit) h) (subst (λ (xs : List ℕ). Contains xs number) (same other) k);
}

pub same_chains : (heads links : List (Option ℕ)) (list new : ℕ → List ℕ) (clauses : ℕ) → ((lit : ℕ) → new lit ≡ list lit) → AreChains heads links list clauses → AreChains heads links new clauses
same_chains heads links list new clauses same chains = record {
  chained = λ lit. subst (IsChain links (link_at heads lit)) (sym (same lit)) (chains.chained lit);
  disjoint = same_disjoint list new clauses same chains.disjoint;
}

pub kept : (heads links : List (Option ℕ)) (vars clauses : ℕ) (list : ℕ → List ℕ) → AreChains heads links list clauses → HasRoom heads links vars clauses → IsKeptIn heads links vars clauses
kept heads links vars clauses list chains room = record {
  chains = same_chains heads links list (list_of (linked heads links vars clauses)) clauses (lists_are heads links vars clauses list chains room.links_for) chains;
  room = room;
}

pub in_range : (links : List (Option ℕ)) (i : ℕ) (to : Option ℕ) (w : ℕ) → link_at links i ≡ to → to ≡ Some w → i < length links
in_range links i to w is some = by (cases_lt i (length links))
  where
    by : (i < length links) ⊎ (length links ≤ i) → i < length links
    by (inl lt) = lt
    by (inr le) =
        let e : None ≡ Some w = sym (get_or-eq_default links None le) ∙ is ∙ some in
        absurd (grind arith)

-- a side in front of one list
abbrev pub with_front : (ℕ → List ℕ) → ℕ → ℕ → ℕ → List ℕ
with_front list lit w other = cond (other == lit) (w ∷ list lit) (list other)

pub front_same : (list : ℕ → List ℕ) (lit w : ℕ) → with_front list lit w lit ≡ w ∷ list lit
front_same list lit w = ap (λ b. cond b (w ∷ list lit) (list lit)) (same lit)
  where
    same : (n : ℕ) → (n == n) ≡ true
    same n = grind (arith, nat_tests)

pub front_other : (list : ℕ → List ℕ) (lit w other : ℕ) → (other ≡ lit → ⊥) → with_front list lit w other ≡ list other
front_other list lit w other n = ap (λ b. cond b (w ∷ list lit) (list other)) (differs n)
  where
    differs : (other ≡ lit → ⊥) → (other == lit) ≡ false
    differs m = grind (arith, nat_tests)

in_front : (list : ℕ → List ℕ) (lit w other y : ℕ) → Contains (with_front list lit w other) y → Contains (list other) y ⊎ ((other ≡ lit) × (w ≡ y))
in_front list lit w other y h = by (cases_eq other lit)
  where
    in_cons : other ≡ lit → (w ≡ y) ⊎ Contains (list lit) y → Contains (list other) y ⊎ ((other ≡ lit) × (w ≡ y))
    in_cons e (inl is) = inr (e, is)
    in_cons e (inr m) = inl (subst (λ n. Contains (list n) y) (sym e) m)

    by : (other ≡ lit) ⊎ (other ≡ lit → ⊥) → Contains (list other) y ⊎ ((other ≡ lit) × (w ≡ y))
    by (inl e) = in_cons e (split w y (list lit) (subst (λ (xs : List ℕ). Contains xs y) (ap (with_front list lit w) e ∙ front_same list lit w) h))
    by (inr n) = inl (subst (λ (xs : List ℕ). Contains xs y) (front_other list lit w other n) h)

pub disjoint_front : (list : ℕ → List ℕ) (clauses lit w : ℕ) → AreDisjoint list clauses → w < 2 * clauses → ((l : ℕ) → Contains (list l) w → ⊥) → AreDisjoint (with_front list lit w) clauses
disjoint_front list clauses lit w d lt nowhere = record {
  below = λ l y h. below l y (in_front list lit w l y h);
  once = λ l. once l (cases_eq l lit);
  apart = λ l m y h k. apart l m y (in_front list lit w l y h) (in_front list lit w m y k);
}
  where
    below : (l y : ℕ) → Contains (list l) y ⊎ ((l ≡ lit) × (w ≡ y)) → y < 2 * clauses
    below l y (inl h) = d.below l y h
    below l y (inr e) = omega (arith, e.1, lt)

    once : (l : ℕ) → (l ≡ lit) ⊎ (l ≡ lit → ⊥) → IsOnce (with_front list lit w l)
    once l (inl e) = subst IsOnce (sym (ap (with_front list lit w) e ∙ front_same list lit w)) (nowhere lit, d.once lit)
    once l (inr n) = subst IsOnce (sym (front_other list lit w l n)) (d.once l)

    apart : (l m y : ℕ) → Contains (list l) y ⊎ ((l ≡ lit) × (w ≡ y)) → Contains (list m) y ⊎ ((m ≡ lit) × (w ≡ y)) → l ≡ m
    apart l m y (inl h) (inl k) = d.apart l m y h k
    apart l m y (inl h) (inr e) = absurd (nowhere l (subst (Contains (list l)) (sym e.1) h))
    apart l m y (inr e) (inl k) = absurd (nowhere m (subst (Contains (list m)) (sym e.1) k))
    apart l m y (inr e) (inr f) = e.0 ∙ sym f.0

pub joined : (heads links : List (Option ℕ)) (list : ℕ → List ℕ) (clauses lit w : ℕ) → AreChains heads links list clauses → lit < length heads → w < 2 * clauses → w < length links → ((l : ℕ) → Contains (list l) w → ⊥) → AreChains (set heads lit (Some w)) (set links w (link_at heads lit)) (with_front list lit w) clauses
joined heads links list clauses lit w chains lt below w_in nowhere = record {
  chained = λ l. at l (cases_eq l lit);
  disjoint = disjoint_front list clauses lit w chains.disjoint below nowhere;
}
  where
    new : List (Option ℕ)
    new = set links w (link_at heads lit)

    rest : (l : ℕ) → IsChain new (link_at heads l) (list l)
    rest l = chain_set links (link_at heads l) (list l) w (link_at heads lit) (nowhere l) (chains.chained l)

    at : (l : ℕ) → (l ≡ lit) ⊎ (l ≡ lit → ⊥) → IsChain new (link_at (set heads lit (Some w)) l) (with_front list lit w l)
    at l (inl e) =
        subst (λ n. IsChain new (link_at (set heads lit (Some w)) n) (with_front list lit w n)) (sym e)
        (subst (IsChain new (link_at (set heads lit (Some w)) lit)) (sym (front_same list lit w)) (
          get_or-set_same heads lit (Some w) None lt,
          subst (λ k. IsChain new k (list lit)) (sym (get_or-set_same links w (link_at heads lit) None w_in)) (rest lit),
        ))
    at l (inr n) =
        subst (IsChain new (link_at (set heads lit (Some w)) l)) (sym (front_other list lit w l n))
        (subst (λ k. IsChain new k (list l)) (sym (get_or-set_other heads lit l (Some w) None n)) (rest l))

-- a side that has left
pub disjoint_without : (list : ℕ → List ℕ) (clauses w : ℕ) → AreDisjoint list clauses → AreDisjoint (λ l. without w (list l)) clauses
disjoint_without list clauses w d = record {
  below = λ l y h. d.below l y (from_without w y (list l) h).0;
  once = λ l. once_without w (list l) (d.once l);
  apart = λ l m y h k. d.apart l m y (from_without w y (list l) h).0 (from_without w y (list m) k).0;
}

pub others_without : (list : ℕ → List ℕ) (clauses from w l : ℕ) → AreDisjoint list clauses → Contains (list from) w → (l ≡ from → ⊥) → without w (list l) ≡ list l
others_without list clauses from w l d has n = without_absent w (list l) (λ h. n (d.apart l from w h has))

pub left_first : (heads links : List (Option ℕ)) (list : ℕ → List ℕ) (clauses from w : ℕ) (back : List ℕ) → AreChains heads links list clauses → from < length heads → list from ≡ w ∷ back → AreChains (set heads from (link_at links w)) links (λ l. without w (list l)) clauses
left_first heads links list clauses from w back chains lt is = record {
  chained = λ l. at l (cases_eq l from);
  disjoint = disjoint_without list clauses w chains.disjoint;
}
  where
    gone : without w (list from) ≡ back
    gone = ap (without w) is ∙ without_split w [] back (subst IsOnce is (chains.disjoint.once from))

    has : Contains (list from) w
    has = subst (λ (xs : List ℕ). Contains xs w) (sym is) (here w back)

    at : (l : ℕ) → (l ≡ from) ⊎ (l ≡ from → ⊥) → IsChain links (link_at (set heads from (link_at links w)) l) (without w (list l))
    at l (inl e) =
        subst (λ n. IsChain links (link_at (set heads from (link_at links w)) n) (without w (list n))) (sym e)
        (subst (λ k. IsChain links k (without w (list from))) (sym (get_or-set_same heads from (link_at links w) None lt))
        (subst (IsChain links (link_at links w)) (sym gone)
        (chain_back links (link_at heads from) [] w back (subst (IsChain links (link_at heads from)) is (chains.chained from)))))
    at l (inr n) =
        subst (λ k. IsChain links k (without w (list l))) (sym (get_or-set_other heads from l (link_at links w) None n))
        (subst (IsChain links (link_at heads l)) (sym (others_without list clauses from w l chains.disjoint has n)) (chains.chained l))

pub left_behind : (heads links : List (Option ℕ)) (list : ℕ → List ℕ) (clauses from w p x : ℕ) (front back : List ℕ) → AreChains heads links list clauses → p < length links → list from ≡ x ∷ front ++ w ∷ back → last_behind (Some x) front ≡ Some p → AreChains heads (set links p (link_at links w)) (λ l. without w (list l)) clauses
left_behind heads links list clauses from w p x front back chains lt is last = record {
  chained = λ l. at l (cases_eq l from);
  disjoint = disjoint_without list clauses w chains.disjoint;
}
  where
    once : IsOnce (x ∷ front ++ w ∷ back)
    once = subst IsOnce is (chains.disjoint.once from)

    gone : without w (list from) ≡ x ∷ front ++ back
    gone = ap (without w) is ∙ without_split w (x ∷ front) back once

    has : Contains (list from) w
    has = subst (λ (xs : List ℕ). Contains xs w) (sym is) (in_split w (x ∷ front) back)

    has_last : Contains (list from) p
    has_last = subst (λ (xs : List ℕ). Contains xs p) (sym is) (Contains-append_left (x ∷ front) (w ∷ back) p (last_in x p front last))

    new : List (Option ℕ)
    new = set links p (link_at links w)

    at : (l : ℕ) → (l ≡ from) ⊎ (l ≡ from → ⊥) → IsChain new (link_at heads l) (without w (list l))
    at l (inl e) =
        subst (λ n. IsChain new (link_at heads n) (without w (list n))) (sym e)
        (subst (IsChain new (link_at heads from)) (sym gone)
        (chain_cut links (link_at heads from) x front w back p lt last once (subst (IsChain links (link_at heads from)) is (chains.chained from))))
    at l (inr n) =
        subst (IsChain new (link_at heads l)) (sym (others_without list clauses from w l chains.disjoint has n))
        (chain_set links (link_at heads l) (list l) p (link_at links w) (λ h. n (chains.disjoint.apart l from p h has_last)) (chains.chained l))

-- more links, to nothing
pub extended : (heads links heads_new links_new : List (Option ℕ)) (list : ℕ → List ℕ) (clauses more : ℕ) → clauses ≤ more → ((i : ℕ) → link_at heads_new i ≡ link_at heads i) → ((i : ℕ) → link_at links_new i ≡ link_at links i) → AreChains heads links list clauses → AreChains heads_new links_new list more
extended heads links heads_new links_new list clauses more le same_heads same_links chains = record {
  chained = λ lit. subst (λ k. IsChain links_new k (list lit)) (sym (same_heads lit)) (chain_same links links_new (link_at heads lit) (list lit) same_links (chains.chained lit));
  disjoint = record {
    below = λ lit number h. let lt = chains.disjoint.below lit number h in omega arith;
    once = chains.disjoint.once;
    apart = chains.disjoint.apart;
  };
}
