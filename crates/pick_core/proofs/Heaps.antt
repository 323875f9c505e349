-- Heaps, and what an exchange leaves of them.
use Rattle.std.proofs.Common.{◌≡◌, ◌∙◌, ℕ, zero, suc, ◌+◌, ◌*◌, ◌/◌, ◌<◌, ◌≤◌, List, length, refl, ap, subst, sym, inl, inr, arith}
use Rattle.std.specs.Prelude.{◌⊎◌}
use Rattle.std.proofs.lemmas.Bool.{cases_eq}
use Rattle.pick_core.specs.declared.heap.Item.{Item}
use Rattle.pick_core.specs.Heap.{score_at, rank_at, place_at, var_at, weight_at, weight_in, HasSameKeys, IsPlaced, IsPut, IsExchanged, IsIn, IsHeaped, IsHeapedBelow, IsHeapedAbove, IsHeap, IsUpHeap, IsDownHeap, IsBestChild}

pub same_weight : (old new : List Item) (var : ℕ) → HasSameKeys old new → weight_at new var ≡ weight_at old var
same_weight old new var k = ap (λ s. 4294967296 * s + rank_at new var) (k.score var) ∙ ap (λ r. 4294967296 * score_at old var + r) (k.rank var)

pub same_keys : (old mid new : List Item) → HasSameKeys old mid → HasSameKeys mid new → HasSameKeys old new
same_keys old mid new a b = record {
  size = b.size ∙ a.size;
  score = λ v. b.score v ∙ a.score v;
  rank = λ v. b.rank v ∙ a.rank v;
}

pub no_change : (items : List Item) → HasSameKeys items items
no_change items = record { size = refl; score = λ v. refl; rank = λ v. refl }

-- weights after an exchange
pub record AreExchanged (old new : ℕ → ℕ) (first second : ℕ) : Type 0 where
  pub first_is : new first ≡ old second
  pub second_is : new second ≡ old first
  pub others : (k : ℕ) → (k ≡ first → ⊥) → (k ≡ second → ⊥) → new k ≡ old k

pub weights : (items : List Item) (order : List ℕ) (items' : List Item) (order' : List ℕ) (first second : ℕ) → IsExchanged items order items' order' first second → AreExchanged (weight_in items order) (weight_in items' order') first second
weights items order items' order' first second x = record {
  first_is = ap (weight_at items') x.first_is ∙ same_weight items items' (var_at order second) x.keys;
  second_is = ap (weight_at items') x.second_is ∙ same_weight items items' (var_at order first) x.keys;
  others = λ k n m. ap (weight_at items') (x.others k n m) ∙ same_weight items items' (var_at order k) x.keys;
}

-- one step up
pub raised : (old new : ℕ → ℕ) (count at parent : ℕ) → IsHeapedBelow old count at → AreExchanged old new at parent → 2 * parent + 1 ≤ at → at ≤ 2 * parent + 2 → at < count → old parent < old at → IsHeapedBelow new count parent
raised old new count at parent h x low high within less = record {
  each = λ a j l u lt n. each a j l u lt n (cases_eq j at) (cases_eq a at) (cases_eq a parent);
  around = λ a j pl pu l u lt. around a j pl pu l u lt (cases_eq j at);
}
  where
    each : (a j : ℕ) → 2 * a + 1 ≤ j → j ≤ 2 * a + 2 → j < count → (j ≡ parent → ⊥) → (j ≡ at) ⊎ (j ≡ at → ⊥) → (a ≡ at) ⊎ (a ≡ at → ⊥) → (a ≡ parent) ⊎ (a ≡ parent → ⊥) → new j ≤ new a
    each a j l u lt n (inl e) _ _ =
        let p : a ≡ parent = omega (arith, l, u, e, low, high) in
        omega (arith, ap new e, x.first_is, ap new p, x.second_is, less)
    each a j l u lt n (inr m) (inl e) _ =
        let o = h.around parent j low high (omega (arith, l, e)) (omega (arith, u, e)) lt in
        omega (arith, x.others j m n, ap new e, x.first_is, o)
    each a j l u lt n (inr m) (inr k) (inl e) =
        let o = h.each parent j (omega (arith, l, e)) (omega (arith, u, e)) lt m in
        omega (arith, x.others j m n, ap new e, x.second_is, o, less)
    each a j l u lt n (inr m) (inr k) (inr q) =
        let o = h.each a j l u lt m in
        omega (arith, x.others j m n, x.others a k q, o)

    around : (a j : ℕ) → 2 * a + 1 ≤ parent → parent ≤ 2 * a + 2 → 2 * parent + 1 ≤ j → j ≤ 2 * parent + 2 → j < count → (j ≡ at) ⊎ (j ≡ at → ⊥) → new j ≤ new a
    around a j pl pu l u lt (inl e) =
        let o = h.each a parent pl pu (omega (arith, low, within)) (λ f. omega (arith, f, low)) in
        let s = x.others a (λ f. omega (arith, f, pl, low)) (λ f. omega (arith, f, pl)) in
        omega (arith, ap new e, x.first_is, s, o)
    around a j pl pu l u lt (inr m) =
        let o = h.each a parent pl pu (omega (arith, low, within)) (λ f. omega (arith, f, low)) in
        let r = h.each parent j l u lt m in
        let s = x.others a (λ f. omega (arith, f, pl, low)) (λ f. omega (arith, f, pl)) in
        let t = x.others j m (λ f. omega (arith, f, l)) in
        omega (arith, s, t, o, r)

-- one step down
pub lowered : (old new : ℕ → ℕ) (count at child : ℕ) → IsHeapedAbove old count at → AreExchanged old new child at → 2 * at + 1 ≤ child → child ≤ 2 * at + 2 → child < count → old at < old child → ((other : ℕ) → 2 * at + 1 ≤ other → other ≤ 2 * at + 2 → other < count → old other ≤ old child) → IsHeapedAbove new count child
lowered old new count at child h x low high within less best = record {
  each = λ a j l u lt n. each a j l u lt n (cases_eq a at) (cases_eq j child) (cases_eq j at);
  around = λ a j pl pu l u lt. around a j pl pu l u lt;
}
  where
    each : (a j : ℕ) → 2 * a + 1 ≤ j → j ≤ 2 * a + 2 → j < count → (a ≡ child → ⊥) → (a ≡ at) ⊎ (a ≡ at → ⊥) → (j ≡ child) ⊎ (j ≡ child → ⊥) → (j ≡ at) ⊎ (j ≡ at → ⊥) → new j ≤ new a
    each a j l u lt n (inl e) (inl f) _ = omega (arith, ap new e, x.second_is, ap new f, x.first_is, less)
    each a j l u lt n (inl e) (inr m) (inl f) = omega (arith, e, f, l)
    each a j l u lt n (inl e) (inr m) (inr k) =
        let o = best j (omega (arith, l, e)) (omega (arith, u, e)) lt in
        omega (arith, ap new e, x.second_is, x.others j m k, o)
    each a j l u lt n (inr q) (inl f) _ = absurd (q (omega (arith, f, l, u, low, high)))
    each a j l u lt n (inr q) (inr m) (inl f) =
        let o = h.around a child (omega (arith, l, f)) (omega (arith, u, f)) low high within in
        omega (arith, ap new f, x.second_is, x.others a n q, o)
    each a j l u lt n (inr q) (inr m) (inr k) =
        let o = h.each a j l u lt q in
        omega (arith, x.others j m k, x.others a n q, o)

    around : (a j : ℕ) → 2 * a + 1 ≤ child → child ≤ 2 * a + 2 → 2 * child + 1 ≤ j → j ≤ 2 * child + 2 → j < count → new j ≤ new a
    around a j pl pu l u lt =
        let e : a ≡ at = omega (arith, pl, pu, low, high) in
        let o = h.each child j l u lt (λ f. omega (arith, f, low)) in
        let s = x.others j (λ f. omega (arith, f, l)) (λ f. omega (arith, f, l, low)) in
        omega (arith, ap new e, x.second_is, s, o)

-- the first one weighs most
pub first_most : (weight : ℕ → ℕ) (count n i : ℕ) → IsHeaped weight count → i ≤ n → i < count → weight i ≤ weight 0
first_most weight count n zero h le lt = omega arith
first_most weight count zero (suc k) h le lt = absurd (omega (arith, le))
first_most weight count (suc n) (suc k) h le lt =
    let up = h (k / 2) (suc k) (omega arith) (omega arith) lt in
    let rest = first_most weight count n (k / 2) h (omega (arith, le)) (omega (arith, lt)) in
    omega (arith, up, rest)

-- nothing is above its parent once the one that may be is the first, or isn't above it
pub up_at_first : (weight : ℕ → ℕ) (count : ℕ) → IsHeapedBelow weight count 0 → IsHeaped weight count
up_at_first weight count h = λ a j l u lt. h.each a j l u lt (λ e. omega (arith, e, l))

pub up_done : (weight : ℕ → ℕ) (count at parent : ℕ) → IsHeapedBelow weight count at → 2 * parent + 1 ≤ at → at ≤ 2 * parent + 2 → weight at ≤ weight parent → IsHeaped weight count
up_done weight count at parent h low high le = λ a j l u lt. by a j l u lt (cases_eq j at)
  where
    by : (a j : ℕ) → 2 * a + 1 ≤ j → j ≤ 2 * a + 2 → j < count → (j ≡ at) ⊎ (j ≡ at → ⊥) → weight j ≤ weight a
    by a j l u lt (inl e) =
        let p : a ≡ parent = omega (arith, e, l, u, low, high) in
        omega (arith, ap weight e, ap weight p, le)
    by a j l u lt (inr n) = h.each a j l u lt n

pub down_done : (weight : ℕ → ℕ) (count at : ℕ) → IsHeapedAbove weight count at → ((j : ℕ) → 2 * at + 1 ≤ j → j ≤ 2 * at + 2 → j < count → weight j ≤ weight at) → IsHeaped weight count
down_done weight count at h best = λ a j l u lt. by a j l u lt (cases_eq a at)
  where
    by : (a j : ℕ) → 2 * a + 1 ≤ j → j ≤ 2 * a + 2 → j < count → (a ≡ at) ⊎ (a ≡ at → ⊥) → weight j ≤ weight a
    by a j l u lt (inl e) =
        let b = best j (omega (arith, l, e)) (omega (arith, u, e)) lt in
        omega (arith, ap weight e, b)
    by a j l u lt (inr n) = h.each a j l u lt n

-- what stands at a place, and where a variable stands
record HasVar (items : List Item) (order : List ℕ) (count k : ℕ) : Type 0 where
  low : 1 ≤ var_at order k
  high : var_at order k ≤ count
  known : place_at items (var_at order k) ≡ k

record HasPlace (items : List Item) (order : List ℕ) (count v : ℕ) : Type 0 where
  within : place_at items v < count
  stands : var_at order (place_at items v) ≡ v

has_var : (items : List Item) (order : List ℕ) (count k v : ℕ) → var_at order k ≡ v → 1 ≤ v → v ≤ count → place_at items v ≡ k → HasVar items order count k
has_var items order count k v e low high known = record {
  low = subst (λ n. 1 ≤ n) (sym e) low;
  high = subst (λ n. n ≤ count) (sym e) high;
  known = ap (place_at items) e ∙ known;
}

has_place : (items : List Item) (order : List ℕ) (count v k : ℕ) → place_at items v ≡ k → k < count → var_at order k ≡ v → HasPlace items order count v
has_place items order count v k e lt stands = record {
  within = subst (λ n. n < count) (sym e) lt;
  stands = ap (var_at order) e ∙ stands;
}

-- an exchange of two places
pub exchanged : (items : List Item) (order : List ℕ) (items1 : List Item) (order1 : List ℕ) (items' : List Item) (order' : List ℕ) (first second : ℕ) → IsPlaced items order → first < length items → second < length items → IsPut items order items1 order1 first (var_at order second) → IsPut items1 order1 items' order' second (var_at order first) → IsExchanged items order items' order' first second
exchanged items order items1 order1 items' order' first second p f_in s_in a b = record {
  first_is = first_is (cases_eq first second);
  second_is = b.var_is;
  others = λ k n m. b.other_vars k m ∙ a.other_vars k n;
  keys = keys;
  placed = record {
    low = λ k lt. (vars k (omega (arith, lt, keys.size)) (cases_eq k second) (cases_eq k first)).low;
    high = λ k lt. subst (λ n. var_at order' k ≤ n) (sym keys.size) (vars k (omega (arith, lt, keys.size)) (cases_eq k second) (cases_eq k first)).high;
    known = λ k lt. (vars k (omega (arith, lt, keys.size)) (cases_eq k second) (cases_eq k first)).known;
    within = λ v l h. subst (λ n. place_at items' v < n) (sym keys.size) (places v l (omega (arith, h, keys.size)) (cases_eq v (var_at order first)) (cases_eq v (var_at order second))).within;
    stands = λ v l h. (places v l (omega (arith, h, keys.size)) (cases_eq v (var_at order first)) (cases_eq v (var_at order second))).stands;
    room = omega (arith, p.room, keys.size, a.room, b.room);
    few = omega (arith, p.few, keys.size);
    ranked = λ v. subst (λ n. n < 4294967296) (sym (keys.rank v)) (p.ranked v);
  };
}
  where
    keys : HasSameKeys items items'
    keys = same_keys items items1 items' a.keys b.keys

    first_is : (first ≡ second) ⊎ (first ≡ second → ⊥) → var_at order' first ≡ var_at order second
    first_is (inl e) = ap (var_at order') e ∙ b.var_is ∙ ap (var_at order) e
    first_is (inr n) = b.other_vars first n ∙ a.var_is

    apart : (j k : ℕ) → j < length items → k < length items → (j ≡ k → ⊥) → var_at order j ≡ var_at order k → ⊥
    apart j k j_in k_in n e = n (sym (p.known j j_in) ∙ ap (place_at items) e ∙ p.known k k_in)

    vars : (k : ℕ) → k < length items → (k ≡ second) ⊎ (k ≡ second → ⊥) → (k ≡ first) ⊎ (k ≡ first → ⊥) → HasVar items' order' (length items) k
    vars k lt (inl e) _ = has_var items' order' (length items) k (var_at order first) (ap (var_at order') e ∙ b.var_is) (p.low first f_in) (p.high first f_in) (b.place_is ∙ sym e)
    vars k lt (inr n) (inl f) =
        has_var items' order' (length items) k (var_at order second) (b.other_vars k n ∙ ap (var_at order1) f ∙ a.var_is) (p.low second s_in) (p.high second s_in)
        (b.other_places (var_at order second) (p.low second s_in) (apart second first s_in f_in (λ g. n (f ∙ sym g))) ∙ a.place_is ∙ sym f)
    vars k lt (inr n) (inr m) =
        has_var items' order' (length items) k (var_at order k) (b.other_vars k n ∙ a.other_vars k m) (p.low k lt) (p.high k lt)
        (b.other_places (var_at order k) (p.low k lt) (apart k first lt f_in m) ∙ a.other_places (var_at order k) (p.low k lt) (apart k second lt s_in n) ∙ p.known k lt)

    places : (v : ℕ) → 1 ≤ v → v ≤ length items → (v ≡ var_at order first) ⊎ (v ≡ var_at order first → ⊥) → (v ≡ var_at order second) ⊎ (v ≡ var_at order second → ⊥) → HasPlace items' order' (length items) v
    places v l h (inl e) _ = has_place items' order' (length items) v second (ap (place_at items') e ∙ b.place_is) s_in (b.var_is ∙ sym e)
    places v l h (inr n) (inl f) = has_place items' order' (length items) v first (b.other_places v l n ∙ ap (place_at items1) f ∙ a.place_is) f_in (first_is (cases_eq first second) ∙ sym f)
    places v l h (inr n) (inr m) =
        has_place items' order' (length items) v (place_at items v) (b.other_places v l n ∙ a.other_places v l m) (p.within v l h)
        (b.other_vars (place_at items v) (λ g. m (sym (p.stands v l h) ∙ ap (var_at order) g)) ∙ a.other_vars (place_at items v) (λ g. n (sym (p.stands v l h) ∙ ap (var_at order) g)) ∙ p.stands v l h)

-- where a variable is after an exchange
place_after : (items : List Item) (order : List ℕ) (items' : List Item) (order' : List ℕ) (first second v k : ℕ) → IsExchanged items order items' order' first second → k < length items → var_at order' k ≡ v → place_at items' v ≡ k
place_after items order items' order' first second v k x lt e = ap (place_at items') (sym e) ∙ x.placed.known k (omega (arith, lt, x.keys.size))

is_in : (items items' : List Item) (count v k : ℕ) → HasSameKeys items items' → 1 ≤ v → v ≤ length items → place_at items' v ≡ k → k < count → IsIn items' count v
is_in items items' count v k keys low high e lt = record { low = low; high = omega (arith, high, keys.size); front = subst (λ n. n < count) (sym e) lt }

pub still_in : (items : List Item) (order : List ℕ) (items' : List Item) (order' : List ℕ) (first second count v : ℕ) → IsPlaced items order → IsExchanged items order items' order' first second → first < count → second < count → count ≤ length items → IsIn items count v → IsIn items' count v
still_in items order items' order' first second count v p x f_in s_in le i = by (cases_eq (place_at items v) first) (cases_eq (place_at items v) second)
  where
    stands : var_at order (place_at items v) ≡ v
    stands = p.stands v i.low i.high

    by : (place_at items v ≡ first) ⊎ (place_at items v ≡ first → ⊥) → (place_at items v ≡ second) ⊎ (place_at items v ≡ second → ⊥) → IsIn items' count v
    by (inl e) _ = is_in items items' count v second x.keys i.low i.high (place_after items order items' order' first second v second x (omega (arith, s_in, le)) (x.second_is ∙ ap (var_at order) (sym e) ∙ stands)) s_in
    by (inr n) (inl e) = is_in items items' count v first x.keys i.low i.high (place_after items order items' order' first second v first x (omega (arith, f_in, le)) (x.first_is ∙ ap (var_at order) (sym e) ∙ stands)) f_in
    by (inr n) (inr m) = is_in items items' count v (place_at items v) x.keys i.low i.high (place_after items order items' order' first second v (place_at items v) x (p.within v i.low i.high) (x.others (place_at items v) n m ∙ stands)) i.front

-- the last of the heap changes places with the first, which leaves
pub others_in : (items : List Item) (order : List ℕ) (items' : List Item) (order' : List ℕ) (last v : ℕ) → IsPlaced items order → IsExchanged items order items' order' 0 last → last < length items → (v ≡ var_at order 0 → ⊥) → IsIn items (last + 1) v → IsIn items' last v
others_in items order items' order' last v p x lt other i = by (cases_eq (place_at items v) last)
  where
    stands : var_at order (place_at items v) ≡ v
    stands = p.stands v i.low i.high

    first : place_at items v ≡ 0 → ⊥
    first e = other (sym stands ∙ ap (var_at order) e)

    by : (place_at items v ≡ last) ⊎ (place_at items v ≡ last → ⊥) → IsIn items' last v
    by (inl e) = is_in items items' last v 0 x.keys i.low i.high (place_after items order items' order' 0 last v 0 x (omega (arith, lt)) (x.first_is ∙ ap (var_at order) (sym e) ∙ stands)) (nonzero first e)
      where
        nonzero : (place_at items v ≡ 0 → ⊥) → place_at items v ≡ last → 0 < last
        nonzero f g = omega (arith, f, g)
    by (inr n) = is_in items items' last v (place_at items v) x.keys i.low i.high (place_after items order items' order' 0 last v (place_at items v) x (p.within v i.low i.high) (x.others (place_at items v) first n ∙ stands)) (below i.front n)
      where
        below : place_at items v < last + 1 → (place_at items v ≡ last → ⊥) → place_at items v < last
        below h m = omega (arith, h, m)

pub down_after : (items : List Item) (order : List ℕ) (items' : List Item) (order' : List ℕ) (count last : ℕ) → IsHeap items order count → last + 1 ≡ count → IsExchanged items order items' order' 0 last → IsDownHeap items' order' last 0
down_after items order items' order' count last h e x = record {
  placed = x.placed;
  count_within = omega (arith, h.count_within, e, x.keys.size);
  at_within = omega arith;
  heaped = record {
    each = λ a j l u lt n.
        let o = h.heaped a j l u (omega (arith, lt, e)) in
        omega (arith, o, w.others a n (λ f. omega (arith, f, l, lt)), w.others j (λ f. omega (arith, f, l)) (λ f. omega (arith, f, lt)));
    around = λ a j pl pu l u lt. absurd (omega (arith, pl));
  };
}
  where
    w : AreExchanged (weight_in items order) (weight_in items' order') 0 last
    w = weights items order items' order' 0 last x

-- a variable behind the heap changes places with the first that isn't in it
pub up_after : (items : List Item) (order : List ℕ) (items' : List Item) (order' : List ℕ) (count place : ℕ) → IsHeap items order count → count ≤ place → place < length items → IsExchanged items order items' order' place count → IsUpHeap items' order' (count + 1) count
up_after items order items' order' count place h le lt x = record {
  placed = x.placed;
  count_within = omega (arith, le, lt, x.keys.size);
  at_within = omega arith;
  heaped = record {
    each = λ a j l u j_in n.
        let o = h.heaped a j l u (omega (arith, j_in, n)) in
        omega (arith, o, w.others a (λ f. omega (arith, f, l, j_in, n, le)) (λ f. omega (arith, f, l, j_in, n)), w.others j (λ f. omega (arith, f, j_in, n, le)) n);
    around = λ a j pl pu l u j_in. absurd (omega (arith, l, j_in));
  };
}
  where
    w : AreExchanged (weight_in items order) (weight_in items' order') place count
    w = weights items order items' order' place count x

pub pushed_in : (items : List Item) (order : List ℕ) (items' : List Item) (order' : List ℕ) (count var : ℕ) → IsPlaced items order → 1 ≤ var → var ≤ length items → count ≤ place_at items var → IsExchanged items order items' order' (place_at items var) count → IsIn items' (count + 1) var
pushed_in items order items' order' count var p low high le x =
    let within = p.within var low high in
    is_in items items' (count + 1) var count x.keys low high (place_after items order items' order' (place_at items var) count var count x (omega (arith, le, within)) (x.second_is ∙ p.stands var low high)) (omega arith)

pub older_in : (items : List Item) (order : List ℕ) (items' : List Item) (order' : List ℕ) (count place v : ℕ) → IsPlaced items order → count ≤ place → IsExchanged items order items' order' place count → IsIn items count v → IsIn items' (count + 1) v
older_in items order items' order' count place v p le x i =
    is_in items items' (count + 1) v (place_at items v) x.keys i.low i.high (place_after items order items' order' place count v (place_at items v) x (p.within v i.low i.high) (x.others (place_at items v) (λ e. omega (arith, e, i.front, le)) (λ e. omega (arith, e, i.front)) ∙ p.stands v i.low i.high)) (omega (arith, i.front))

-- a variable in the heap doesn't weigh more than the first
pub first_is_most : (items : List Item) (order : List ℕ) (count v : ℕ) → IsHeap items order count → IsIn items count v → weight_at items v ≤ weight_at items (var_at order 0)
first_is_most items order count v h i =
    subst (λ n. weight_at items n ≤ weight_at items (var_at order 0)) (h.placed.stands v i.low i.high)
    (first_most (weight_in items order) count (place_at items v) (place_at items v) h.heaped (omega arith) i.front)

pub raise_step : (items : List Item) (order : List ℕ) (items' : List Item) (order' : List ℕ) (count at parent : ℕ) → IsUpHeap items order count at → IsExchanged items order items' order' at parent → 2 * parent + 1 ≤ at → at ≤ 2 * parent + 2 → weight_in items order parent < weight_in items order at → IsUpHeap items' order' count parent
raise_step items order items' order' count at parent u x low high less = record {
  placed = x.placed;
  count_within = omega (arith, u.count_within, x.keys.size);
  at_within = omega (arith, u.at_within, low);
  heaped = raised (weight_in items order) (weight_in items' order') count at parent u.heaped (weights items order items' order' at parent x) low high u.at_within less;
}

pub raise_first : (items : List Item) (order : List ℕ) (count at : ℕ) → IsUpHeap items order count at → at ≡ 0 → IsHeap items order count
raise_first items order count at u e = record {
  placed = u.placed;
  count_within = u.count_within;
  heaped = up_at_first (weight_in items order) count (subst (IsHeapedBelow (weight_in items order) count) e u.heaped);
}

pub raise_done : (items : List Item) (order : List ℕ) (count at parent : ℕ) → IsUpHeap items order count at → 2 * parent + 1 ≤ at → at ≤ 2 * parent + 2 → weight_in items order at ≤ weight_in items order parent → IsHeap items order count
raise_done items order count at parent u low high le = record {
  placed = u.placed;
  count_within = u.count_within;
  heaped = up_done (weight_in items order) count at parent u.heaped low high le;
}

pub lower_step : (items : List Item) (order : List ℕ) (items' : List Item) (order' : List ℕ) (count at child : ℕ) → IsDownHeap items order count at → IsExchanged items order items' order' child at → IsBestChild items order count at child → weight_in items order at < weight_in items order child → IsDownHeap items' order' count child
lower_step items order items' order' count at child d x b less = record {
  placed = x.placed;
  count_within = omega (arith, d.count_within, x.keys.size);
  at_within = omega (arith, b.within);
  heaped = lowered (weight_in items order) (weight_in items' order') count at child d.heaped (weights items order items' order' child at x) b.low b.high b.within less b.best;
}

pub lower_done : (items : List Item) (order : List ℕ) (count at child : ℕ) → IsDownHeap items order count at → IsBestChild items order count at child → weight_in items order child ≤ weight_in items order at → IsHeap items order count
lower_done items order count at child d b le = record {
  placed = d.placed;
  count_within = d.count_within;
  heaped = down_done (weight_in items order) count at d.heaped (λ j l u lt. let k = b.best j l u lt in omega (arith, k, le));
}

pub lower_last : (items : List Item) (order : List ℕ) (count at : ℕ) → IsDownHeap items order count at → count ≤ 2 * at + 1 → IsHeap items order count
lower_last items order count at d le = record {
  placed = d.placed;
  count_within = d.count_within;
  heaped = down_done (weight_in items order) count at d.heaped (λ j l u lt. absurd (omega (arith, l, lt, le)));
}
