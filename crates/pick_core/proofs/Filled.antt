-- A heap with room for new variables.
use Rattle.std.proofs.Common.{◌≡◌, ◌∙◌, ℕ, ◌+◌, ◌-◌, ◌*◌, ◌<◌, ◌≤◌, List, ◌++◌, length, take, ap, sym, inl, inr, arith, true, false, Bool, get_or}
use Rattle.std.specs.Prelude.{◌⊎◌}
use Rattle.std.proofs.lemmas.Bool.{cases_lt}
use Rattle.std.proofs.lemmas.List.{get_or_append_left, get_or-take, length-take}
use Rattle.std.proofs.Math.ListN.{get_or-eq_default}
use Rattle.pick_core.specs.declared.heap.Item.{Item}
use Rattle.pick_core.specs.Heap.{item_in, place_at, rank_at, var_at, weight_at, weight_in, IsPlaced, IsHeap, entry_rank}

pub front : {X : Type 0} (xs ys : List X) (m i : ℕ) (d : X) → i < m → i < length xs → get_or (take m xs ++ ys) i d ≡ get_or xs i d
front xs ys m i d lt within = get_or_append_left (take m xs) ys d i (omega (arith, lt, within, length-take m xs)) ∙ get_or-take m xs i d lt

-- what is told of the longer tables
pub record IsLonger (items : List Item) (order : List ℕ) (items' : List Item) (order' : List ℕ) (vars : ℕ) (at_end : Bool) : Type 0 where
  pub size : length items' ≡ vars
  pub more : length items ≤ vars
  pub few : vars ≤ 2147483647
  pub room : vars ≤ length order'
  pub old : (i : ℕ) → i < length items → item_in items' i ≡ item_in items i
  pub old_var : (i : ℕ) → i < length items → var_at order' i ≡ var_at order i
  pub rank : (i : ℕ) → length items ≤ i → i < vars → (item_in items' i).rank ≡ entry_rank at_end (i + 1)
  pub place : (i : ℕ) → length items ≤ i → i < vars → (item_in items' i).place ≡ i
  pub var : (i : ℕ) → length items ≤ i → i < vars → var_at order' i ≡ i + 1

entry_fits : (at_end : Bool) (var : ℕ) → var ≤ 2147483647 → entry_rank at_end var < 4294967296
entry_fits true var le = omega (arith, le)
entry_fits false var le = omega arith

pub longer_heap : (items : List Item) (order : List ℕ) (items' : List Item) (order' : List ℕ) (vars count : ℕ) (at_end : Bool) → IsHeap items order count → IsLonger items order items' order' vars at_end → IsHeap items' order' count
longer_heap items order items' order' vars count at_end h g = record {
  placed = record {
    low = λ k lt. low k (omega (arith, lt, g.size)) (cases_lt k (length items));
    high = λ k lt. high k (omega (arith, lt, g.size)) (cases_lt k (length items));
    known = λ k lt. known k (omega (arith, lt, g.size)) (cases_lt k (length items));
    within = λ v l u. within v l (omega (arith, u, g.size)) (cases_lt (v - 1) (length items));
    stands = λ v l u. stands v l (omega (arith, u, g.size)) (cases_lt (v - 1) (length items));
    room = omega (arith, g.room, g.size);
    few = omega (arith, g.few, g.size);
    ranked = λ v. ranked v (cases_lt (v - 1) (length items)) (cases_lt (v - 1) vars);
  };
  count_within = omega (arith, h.count_within, g.more, g.size);
  heaped = λ a j l u lt.
      let o = h.heaped a j l u lt in
      omega (arith, o, weight a (omega (arith, l, lt, h.count_within)), weight j (omega (arith, lt, h.count_within)));
}
  where
    p : IsPlaced items order
    p = h.placed

    low : (k : ℕ) → k < vars → (k < length items) ⊎ (length items ≤ k) → 1 ≤ var_at order' k
    low k lt (inl o) = let b = p.low k o in omega (arith, g.old_var k o, b)
    low k lt (inr n) = omega (arith, g.var k n lt)

    high : (k : ℕ) → k < vars → (k < length items) ⊎ (length items ≤ k) → var_at order' k ≤ length items'
    high k lt (inl o) = let b = p.high k o in omega (arith, g.old_var k o, b, g.size, g.more)
    high k lt (inr n) = omega (arith, g.var k n lt, lt, g.size)

    new_place : (v k : ℕ) → v ≡ k + 1 → length items ≤ k → k < vars → place_at items' v ≡ k
    new_place v k e n lt =
        let i : v - 1 ≡ k = omega (arith, e) in
        ap (λ m. (item_in items' m).place) i ∙ g.place k n lt

    old_place : (v : ℕ) → v - 1 < length items → place_at items' v ≡ place_at items v
    old_place v o = ap (λ (x : Item). x.place) (g.old (v - 1) o)

    known : (k : ℕ) → k < vars → (k < length items) ⊎ (length items ≤ k) → place_at items' (var_at order' k) ≡ k
    known k lt (inl o) =
        let a = p.low k o in
        let b = p.high k o in
        ap (place_at items') (g.old_var k o) ∙ old_place (var_at order k) (omega (arith, a, b)) ∙ p.known k o
    known k lt (inr n) = new_place (var_at order' k) k (g.var k n lt) n lt

    within : (v : ℕ) → 1 ≤ v → v ≤ vars → (v - 1 < length items) ⊎ (length items ≤ v - 1) → place_at items' v < length items'
    within v l u (inl o) = let b = p.within v l (omega (arith, l, o)) in omega (arith, old_place v o, b, g.more, g.size)
    within v l u (inr n) = let b = new_place v (v - 1) (omega (arith, l)) n (omega (arith, l, u)) in omega (arith, b, l, u, g.size)

    stands : (v : ℕ) → 1 ≤ v → v ≤ vars → (v - 1 < length items) ⊎ (length items ≤ v - 1) → var_at order' (place_at items' v) ≡ v
    stands v l u (inl o) =
        let high : v ≤ length items = omega (arith, l, o) in
        ap (var_at order') (old_place v o) ∙ g.old_var (place_at items v) (p.within v l high) ∙ p.stands v l high
    stands v l u (inr n) =
        let last : v - 1 + 1 ≡ v = omega (arith, l) in
        ap (var_at order') (new_place v (v - 1) (sym last) n (omega (arith, l, u))) ∙ g.var (v - 1) n (omega (arith, l, u)) ∙ last

    ranked : (v : ℕ) → (v - 1 < length items) ⊎ (length items ≤ v - 1) → (v - 1 < vars) ⊎ (vars ≤ v - 1) → rank_at items' v < 4294967296
    ranked v (inl o) _ = let b = p.ranked v in omega (arith, ap (λ (x : Item). x.rank) (g.old (v - 1) o), b)
    ranked v (inr n) (inl lt) = let b = entry_fits at_end (v - 1 + 1) (omega (arith, lt, g.few)) in omega (arith, g.rank (v - 1) n lt, b)
    ranked v (inr n) (inr ge) =
        let none : Item = record { score = 0; rank = 0; place = 0 } in
        let e = get_or-eq_default items' none (fits ge) in
        omega (arith, ap (λ (x : Item). x.rank) e)
      where
        fits : vars ≤ v - 1 → length items' ≤ v - 1
        fits h = omega (arith, h, g.size)

    weight : (k : ℕ) → k < length items → weight_in items' order' k ≡ weight_in items order k
    weight k o =
        let a = p.low k o in
        let b = p.high k o in
        ap (weight_at items') (g.old_var k o) ∙ ap (λ (x : Item). 4294967296 * x.score + x.rank) (g.old (var_at order k - 1) (omega (arith, a, b)))
