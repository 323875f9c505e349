-- A store's own fields after each of its steps.
use Rattle.std.proofs.Common.{◌≡◌, ◌∙◌, ℕ, zero, suc, ◌+◌, ◌-◌, ◌/◌, ◌%◌, ◌<◌, ◌≤◌, min, List, [], ◌∷◌, ◌++◌, length, take, ap, subst, sym, inl, inr, arith, get_or, cond}
use Rattle.std.specs.Prelude.{◌⊎◌, Contains, Result, Ok, Err, OnOk, OnErr, nat_lt}
use Rattle.std.specs.List.{range_with_len, filter}
use Rattle.std.proofs.lemmas.Bool.{cases_lt, lt-ltb, le-ltb}
use Rattle.std.proofs.lemmas.List.{length_push, length-take, get_or-take, get_or_append_left}
use Rattle.std.proofs.lemmas.List.Elements.{All-weaker, All-push, All-from_get_or, All-get_or}
use Rattle.sat_base.specs.Lit.{variable}
use Rattle.clause_arena.specs.Arena.{ArenaClause, clause_at, no_clause}
use Rattle.watch_ring.specs.Ring.{RingView, list_of}
use Rattle.propagate.specs.Store.{AreWithin, AreAllWithin}
use Rattle.propagate.specs.Pairing.{watched}
use Rattle.propagate.specs.Lists.{IsWatched, new_from}
use Rattle.propagate.specs.Layout.{IsKept}
use Rattle.propagate.proofs.Fresh.{old_below, below_old, from_new}

pub all_within_more : (vars more : ℕ) (clauses : List ArenaClause) → vars ≤ more → AreAllWithin vars clauses → AreAllWithin more clauses
all_within_more vars more clauses le all =
    All-weaker (λ (c : ArenaClause). AreWithin vars c.lits) (λ (c : ArenaClause). AreWithin more c.lits)
    (λ c h. All-weaker (λ (lit : ℕ). variable lit ≤ vars) (λ (lit : ℕ). variable lit ≤ more) (λ lit k. omega (arith, k, le)) c.lits h) clauses all

-- the same lists
pub lists_same : (clauses : List ArenaClause) (fresh : List ℕ) (list list' : ℕ → List ℕ) → ((lit : ℕ) → list' lit ≡ list lit) → IsWatched clauses fresh list → IsWatched clauses fresh list'
lists_same clauses fresh list list' same l = record {
  stands = λ side s. subst (λ (xs : List ℕ). Contains xs side) (sym (same (watched clauses side))) (l.stands side s);
  known = λ lit side c. l.known lit side (subst (λ (xs : List ℕ). Contains xs side) (same lit) c);
  only = λ lit side c. l.only lit side (subst (λ (xs : List ℕ). Contains xs side) (same lit) c);
}

-- other clauses behind those that stand in the lists
pub lists_front : (a b : List ArenaClause) (number : ℕ) (list : ℕ → List ℕ) → number ≤ length a → number ≤ length b → ((id : ℕ) → id < number → clause_at b id ≡ clause_at a id) → IsWatched a (new_from number a) list → IsWatched b (new_from number b) list
lists_front a b number list in_a in_b same l = record {
  stands = λ side s.
      let lt = old_below number b (side / 2) s.clause in
      subst (λ lit. Contains (list lit) side) (sym (watched_at side lt)) (l.stands side (record {
        clause = below_old number a (side / 2) lt in_a;
        wide = subst (λ (c : ArenaClause). 2 ≤ length c.lits) (same (side / 2) lt) s.wide;
      }));
  known = λ lit side c.
      let s = l.known lit side c in
      let lt = old_below number a (side / 2) s.clause in
      record {
        clause = below_old number b (side / 2) lt in_b;
        wide = subst (λ (c : ArenaClause). 2 ≤ length c.lits) (sym (same (side / 2) lt)) s.wide;
      };
  only = λ lit side c.
      let lt = old_below number a (side / 2) (l.known lit side c).clause in
      watched_at side lt ∙ l.only lit side c;
}
  where
    watched_at : (side : ℕ) → side / 2 < number → watched b side ≡ watched a side
    watched_at side lt = ap (λ (c : ArenaClause). get_or c.lits (side % 2) 0) (same (side / 2) lt)

-- more is reserved in the ring
pub kept_ring : (clauses : List ArenaClause) (ring ring' : RingView) (number vars : ℕ) → IsKept clauses ring number vars → ((lit : ℕ) → list_of ring' lit ≡ list_of ring lit) → ring.vars ≤ ring'.vars → ring.clauses ≤ ring'.clauses → IsKept clauses ring' number vars
kept_ring clauses ring ring' number vars k lists more sides = record {
  within = k.within;
  known = k.known;
  lists = lists_same clauses (new_from number clauses) (list_of ring) (list_of ring') lists k.lists;
  vars_in = omega (arith, k.vars_in, more);
  sides = omega (arith, k.sides, sides);
}

pub kept_vars : (clauses : List ArenaClause) (ring : RingView) (number vars more : ℕ) → IsKept clauses ring number vars → vars ≤ more → more ≤ ring.vars → IsKept clauses ring number more
kept_vars clauses ring number vars more k le room = record {
  within = all_within_more vars more clauses le k.within;
  known = k.known;
  lists = k.lists;
  vars_in = room;
  sides = k.sides;
}

pub kept_add : (clauses clauses' : List ArenaClause) (clause : ArenaClause) (ring : RingView) (number vars : ℕ) → IsKept clauses ring number vars → length clauses + 1 ≤ ring.clauses → AreWithin vars clause.lits → (clauses' ≡ clauses ++ clause ∷ []) ⊎ (clauses' ≡ clauses) → IsKept clauses' ring number vars
kept_add clauses clauses' clause ring number vars k room within (inr same) = subst (λ (xs : List ArenaClause). IsKept xs ring number vars) (sym same) k
kept_add clauses clauses' clause ring number vars k room within (inl is) = subst (λ (xs : List ArenaClause). IsKept xs ring number vars) (sym is) (record {
  within = All-push (λ (c : ArenaClause). AreWithin vars c.lits) clauses clause k.within within;
  known = omega (arith, k.known, size);
  lists = lists_front clauses (clauses ++ clause ∷ []) number (list_of ring) k.known (omega (arith, k.known, size))
      (λ id lt. get_or_append_left clauses (clause ∷ []) no_clause id (omega (arith, lt, k.known))) k.lists;
  vars_in = k.vars_in;
  sides = omega (arith, room, size);
})
  where
    size : length (clauses ++ clause ∷ []) ≡ length clauses + 1
    size = length_push clauses clause

-- the clauses from a number on are new
abbrev pub AreCutNew : List ArenaClause → ℕ → ℕ → Type 0
AreCutNew clauses number len = (id : ℕ) → len ≤ id → id < length clauses → Contains (new_from number clauses) id

cut_known : (clauses : List ArenaClause) (number len : ℕ) → number ≤ length clauses → AreCutNew clauses number len → number ≤ length (take len clauses)
cut_known clauses number len known cut = at (cases_lt len (length clauses))
  where
    size : length (take len clauses) ≡ min len (length clauses)
    size = length-take len clauses

    at : (len < length clauses) ⊎ (length clauses ≤ len) → number ≤ length (take len clauses)
    at (inl lt) = let h = (from_new number clauses len (cut len (omega arith) lt)).0 in omega (arith, h, size, lt)
    at (inr ge) = omega (arith, known, size, ge)

pub kept_truncate : (clauses : List ArenaClause) (ring : RingView) (number vars len : ℕ) → IsKept clauses ring number vars → AreCutNew clauses number len → IsKept (take len clauses) ring number vars
kept_truncate clauses ring number vars len k cut = record {
  within = All-from_get_or (λ (c : ArenaClause). AreWithin vars c.lits) (take len clauses) no_clause
      (λ id lt. subst (λ (c : ArenaClause). AreWithin vars c.lits) (sym (get_or-take len clauses id no_clause (omega (arith, lt, size))))
      (All-get_or (λ (c : ArenaClause). AreWithin vars c.lits) clauses id no_clause (omega (arith, lt, size)) k.within));
  known = cut_known clauses number len k.known cut;
  lists = lists_front clauses (take len clauses) number (list_of ring) k.known (cut_known clauses number len k.known cut)
      (λ id lt. let h = cut_known clauses number len k.known cut in get_or-take len clauses id no_clause (omega (arith, lt, h, size))) k.lists;
  vars_in = k.vars_in;
  sides = omega (arith, k.sides, size);
}
  where
    size : length (take len clauses) ≡ min len (length clauses)
    size = length-take len clauses

-- The numbers of new clauses.

range_more : (a n j : ℕ) → a + n ≡ j → range_with_len a (n + 1) ≡ range_with_len a n ++ j ∷ []
range_more a zero j e = let s : a ≡ j = omega (arith, e) in ap (λ x. x ∷ []) s
range_more a (suc n) j e =
    let size : suc n + 1 ≡ suc (n + 1) = omega arith in
    ap (range_with_len a) size ∙ ap (λ (xs : List ℕ). a ∷ xs) (range_more (a + 1) n j (omega (arith, e)))

pub new_add : (clauses : List ArenaClause) (clause : ArenaClause) (number : ℕ) → number ≤ length clauses → new_from number (clauses ++ clause ∷ []) ≡ new_from number clauses ++ length clauses ∷ []
new_add clauses clause number known =
    let size : length (clauses ++ clause ∷ []) - number ≡ (length clauses - number) + 1 = omega (arith, known, length_push clauses clause) in
    ap (range_with_len number) size ∙ range_more number (length clauses - number) (length clauses) (omega (arith, known))

filter_range : (len a n : ℕ) → filter (λ id. nat_lt id len) (range_with_len a n) ≡ range_with_len a (min n (len - a))
filter_range len a zero = let none : 0 ≡ min 0 (len - a) = omega arith in ap (range_with_len a) none
filter_range len a (suc n) = at (cases_lt a len) (filter_range len (a + 1) n)
  where
    rest : List ℕ
    rest = filter (λ id. nat_lt id len) (range_with_len (a + 1) n)

    at : (a < len) ⊎ (len ≤ a) → rest ≡ range_with_len (a + 1) (min n (len - (a + 1))) → cond (nat_lt a len) (a ∷ rest) rest ≡ range_with_len a (min (suc n) (len - a))
    at (inl lt) more =
        let size : min (suc n) (len - a) ≡ suc (min n (len - (a + 1))) = omega (arith, lt) in
        ap (λ b. cond b (a ∷ rest) rest) (lt-ltb a len lt) ∙ ap (λ (xs : List ℕ). a ∷ xs) more ∙ sym (ap (range_with_len a) size)
    at (inr ge) more =
        let none : min n (len - (a + 1)) ≡ 0 = omega (arith, ge) in
        let empty : min (suc n) (len - a) ≡ 0 = omega (arith, ge) in
        ap (λ b. cond b (a ∷ rest) rest) (le-ltb a len ge) ∙ more ∙ ap (range_with_len (a + 1)) none ∙ sym (ap (range_with_len a) empty)

pub new_truncate : (clauses : List ArenaClause) (number len : ℕ) → new_from number (take len clauses) ≡ filter (λ id. nat_lt id len) (new_from number clauses)
new_truncate clauses number len =
    let size : length (take len clauses) - number ≡ min (length clauses - number) (len - number) = omega (arith, length-take len clauses) in
    ap (range_with_len number) size ∙ sym (filter_range len number (length clauses - number))

-- Results.

pub on_either : {T E : Type 0} (r : Result T E) (P Q : Type 0) → OnOk r P → OnErr r Q → P ⊎ Q
on_either (Ok x) P Q p q = inl p
on_either (Err e) P Q p q = inr q

pub on_ok : {T E : Type 0} (r : Result T E) (P Q : Type 0) → (P → Q) → OnOk r P → OnOk r Q
on_ok (Ok x) P Q f p = f p
on_ok (Err e) P Q f p = p
