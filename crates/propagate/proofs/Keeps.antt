-- What keeps a store and a trail paired, its new clauses ready, and what isn't looked at at the
-- depth.
use Rattle.std.proofs.Common.{◌≡◌, ◌∙◌, ℕ, zero, suc, ◌/◌, ◌%◌, ◌<◌, ◌≤◌, min}
use Rattle.std.proofs.Common.{List, [], ◌∷◌, ◌++◌, length, take, refl, ap, subst, sym, inl, inr, arith, cond}
use Rattle.std.specs.Prelude.{◌⊎◌, All, Contains, Bool, true, false, nat_lt, slice_index}
use Rattle.std.specs.List.{filter}
use Rattle.std.proofs.lemmas.Bool.{cases_lt, cases_eq, lt-ltb, false≢true}
use Rattle.std.proofs.lemmas.List.{length_push, length-take, length-take-le, get_or-take, get_or_append_left}
use Rattle.std.proofs.lemmas.List.{get_or_push, map_push}
use Rattle.std.proofs.lemmas.List.Elements.{All-from_get_or, All-push}
use Rattle.std.proofs.lemmas.List.Elements.{Contains-append_left, Contains-push, Contains-push_cases}
use Rattle.sat_base.specs.Lit.{opposite}
use Rattle.clause_arena.specs.Arena.{ArenaClause, clause_at, no_clause}
use Rattle.trail_core.specs.Trail.{Entry, TrailView, IsTrail, no_entry, entry_at, lits_of, up_to}
use Rattle.trail_core.specs.UnderTrail.{IsFalseLit}
use Rattle.trail_core.proofs.Levels.{up_to_front}
use Rattle.watch_ring.proofs.Lists.{here, there, split}
use Rattle.propagate.specs.Pairing.{IsOld, IsTrueUpTo, IsPaired, HasFalseAt}
use Rattle.propagate.specs.Pairing.{IsReady, AreReady, ArePendingAt, watched, other_side}
use Rattle.propagate.proofs.Grown.{old_entry, new_entry}

-- One more entry.

pub true_more : (entries : List Entry) (e : Entry) (lit level : ℕ) → IsTrueUpTo entries lit level → IsTrueUpTo (entries ++ e ∷ []) lit level
true_more entries e lit level t =
    let same = old_entry entries e t.place t.within in
    record {
      place = t.place;
      within = omega (arith, t.within, length_push entries e);
      is = ap (λ (x : Entry). x.lit) same ∙ t.is;
      no_later = omega (arith, t.no_later, ap (λ (x : Entry). x.level) same);
    }

pub paired_assign : (clauses : List ArenaClause) (fresh : List ℕ) (entries : List Entry) (looked : ℕ) (e : Entry) → looked ≤ length entries → IsPaired clauses fresh entries looked → IsPaired clauses fresh (entries ++ e ∷ []) looked
paired_assign clauses fresh entries looked e within p = record {
  pairs = λ side place s lt is.
      let same = old_entry entries e place (omega (arith, lt, within)) in
      subst (λ (x : Entry). IsTrueUpTo (entries ++ e ∷ []) (watched clauses (other_side side)) x.level) (sym same)
      (true_more entries e _ _ (p.pairs side place s lt (sym (ap (λ (x : Entry). x.lit) same) ∙ is)));
  single = λ id o one. true_more entries e _ _ (p.single id o one);
  some = p.some;
}

pub pending_assign : (entries : List Entry) (looked level : ℕ) (e : Entry) → ArePendingAt entries looked level → e.level ≡ level → ArePendingAt (entries ++ e ∷ []) looked level
pending_assign entries looked level e p is = record {
  each = λ place from to. at place from to (cases_lt place (length entries));
}
  where
    at : (place : ℕ) → looked ≤ place → place < length (entries ++ e ∷ []) → (place < length entries) ⊎ (length entries ≤ place) → (entry_at (entries ++ e ∷ []) place).level ≡ level
    at place from to (inl lt) = ap (λ (x : Entry). x.level) (old_entry entries e place lt) ∙ p.each place from lt
    at place from to (inr ge) = ap (λ (x : Entry). x.level) (new_entry entries e place (omega (arith, ge, to, length_push entries e))) ∙ is

-- a literal that isn't false yet is so after one more entry only by this one
left_more : (entries : List Entry) (e : Entry) (lit : ℕ) → (IsFalseLit (lits_of entries) lit → ⊥) → (opposite lit ≡ e.lit) ⊎ (IsFalseLit (lits_of (entries ++ e ∷ [])) lit → ⊥)
left_more entries e lit not_yet = at (cases_eq (opposite lit) e.lit)
  where
    split : Contains (lits_of entries) (opposite lit) ⊎ (e.lit ≡ opposite lit) → (opposite lit ≡ e.lit → ⊥) → ⊥
    split (inl c) n = not_yet (record { stands = c })
    split (inr s) n = n (sym s)

    at : (opposite lit ≡ e.lit) ⊎ (opposite lit ≡ e.lit → ⊥) → (opposite lit ≡ e.lit) ⊎ (IsFalseLit (lits_of (entries ++ e ∷ [])) lit → ⊥)
    at (inl k) = inl k
    at (inr n) = inr (λ f. split (Contains-push_cases (lits_of entries) e.lit (opposite lit) (subst (λ (xs : List ℕ). Contains xs (opposite lit)) (map_push (λ (x : Entry). x.lit) entries e) f.stands)) n)

false_new : (entries : List Entry) (e : Entry) (clause : List ℕ) (lit : ℕ) → Contains clause lit → opposite lit ≡ e.lit → HasFalseAt (entries ++ e ∷ []) clause e.level
false_new entries e clause lit stands is =
    let here = new_entry entries e (length entries) refl in
    record {
      place = length entries;
      within = omega (arith, length_push entries e);
      stands =
          let lit_is : lit ≡ opposite (entry_at (entries ++ e ∷ []) (length entries)).lit = omega (arith, is, ap (λ (x : Entry). x.lit) here) in
          subst (Contains clause) lit_is stands;
      is = ap (λ (x : Entry). x.level) here;
    }

pub ready_more : (entries : List Entry) (depth : ℕ) (e : Entry) (clause : List ℕ) → e.level ≡ depth → IsReady entries depth clause → IsReady (entries ++ e ∷ []) depth clause
ready_more entries depth e clause level (inr (inr zero_is)) = inr (inr zero_is)
ready_more entries depth e clause level (inr (inl f)) =
    let same = old_entry entries e f.place f.within in
    inr (inl (record {
      place = f.place;
      within = omega (arith, f.within, length_push entries e);
      stands = subst (λ (x : Entry). Contains clause (opposite x.lit)) (sym same) f.stands;
      is = ap (λ (x : Entry). x.level) same ∙ f.is;
    }))
ready_more entries depth e clause level (inl two) = at (left_more entries e two.first two.first_left) (left_more entries e two.second two.second_left)
  where
    new : (lit : ℕ) → Contains clause lit → opposite lit ≡ e.lit → IsReady (entries ++ e ∷ []) depth clause
    new lit stands is = inr (inl (subst (HasFalseAt (entries ++ e ∷ []) clause) level (false_new entries e clause lit stands is)))

    at : (opposite two.first ≡ e.lit) ⊎ (IsFalseLit (lits_of (entries ++ e ∷ [])) two.first → ⊥) → (opposite two.second ≡ e.lit) ⊎ (IsFalseLit (lits_of (entries ++ e ∷ [])) two.second → ⊥) → IsReady (entries ++ e ∷ []) depth clause
    at (inl k) _ = new two.first two.first_in k
    at (inr n) (inl k) = new two.second two.second_in k
    at (inr n) (inr m) = inl (record {
      first = two.first;
      second = two.second;
      first_in = two.first_in;
      second_in = two.second_in;
      differ = two.differ;
      first_left = n;
      second_left = m;
    })

pub ready_assign : (clauses : List ArenaClause) (fresh : List ℕ) (entries : List Entry) (depth : ℕ) (e : Entry) → e.level ≡ depth → AreReady clauses fresh entries depth → AreReady clauses fresh (entries ++ e ∷ []) depth
ready_assign clauses fresh entries depth e level ready = λ k d lt. ready_more entries depth e _ level (ready k d lt)

-- A jump back.

-- a front of exactly the entries up to the level
record IsUpTo (entries : List Entry) (level n : ℕ) : Type 0 where
  within : n ≤ length entries
  low : (k : ℕ) → k < n → (entry_at entries k).level ≤ level
  high : (k : ℕ) → n ≤ k → k < length entries → level < (entry_at entries k).level

abbrev Ascends : List Entry → Type 0
Ascends entries = (i j : ℕ) → i ≤ j → j < length entries → (entry_at entries i).level ≤ (entry_at entries j).level

front_up_to : (entries : List Entry) (level : ℕ) → Ascends entries → (n : ℕ) × IsUpTo entries level n
front_up_to [] level up = (
  0,
  record {
    within = omega arith;
    low = λ k lt. absurd (omega (arith, lt));
    high = λ k from to. absurd (omega (arith, to));
  },
)
front_up_to (e ∷ es) level up = at (cases_lt level e.level) (front_up_to es level (λ i j le lt. up (suc i) (suc j) (omega (arith, le)) (omega (arith, lt))))
  where
    at : (level < e.level) ⊎ (e.level ≤ level) → ((n : ℕ) × IsUpTo es level n) → (n : ℕ) × IsUpTo (e ∷ es) level n
    at (inl above) _ = (
      0,
      record {
        within = omega arith;
        low = λ k lt. absurd (omega (arith, lt));
        high = λ k from to. let h = up 0 k (omega arith) to in omega (arith, above, h);
      },
    )
    at (inr below) (n, front) = (
      suc n,
      record {
        within = omega (arith, front.within);
        low = λ k lt. low_at k lt;
        high = λ k from to. high_at k from to;
      },
    )
      where
        low_at : (k : ℕ) → k < suc n → (entry_at (e ∷ es) k).level ≤ level
        low_at zero lt = below
        low_at (suc k) lt = front.low k (omega (arith, lt))

        high_at : (k : ℕ) → suc n ≤ k → k < length (e ∷ es) → level < (entry_at (e ∷ es) k).level
        high_at zero from to = absurd (omega (arith, from))
        high_at (suc k) from to = front.high k (omega (arith, from)) (omega (arith, to))

up_to_is : (entries : List Entry) (level n : ℕ) → IsUpTo entries level n → up_to level entries ≡ take n entries
up_to_is entries level n front =
    up_to_front level entries n front.within
    (All-from_get_or (λ (e : Entry). e.level ≤ level) (take n entries) no_entry (λ k lt.
    let k_in : k < n = omega (arith, lt, length-take-le n entries front.within) in
    subst (λ (e : Entry). e.level ≤ level) (sym (get_or-take n entries k no_entry k_in)) (front.low k k_in)))
    front.high

true_front : (entries : List Entry) (level n lit high : ℕ) → IsUpTo entries level n → high ≤ level → IsTrueUpTo entries lit high → IsTrueUpTo (take n entries) lit high
true_front entries level n lit high front le t = at (cases_lt t.place n)
  where
    at : (t.place < n) ⊎ (n ≤ t.place) → IsTrueUpTo (take n entries) lit high
    at (inl lt) =
        let same = get_or-take n entries t.place no_entry lt in
        record {
          place = t.place;
          within = omega (arith, lt, length-take-le n entries front.within);
          is = ap (λ (x : Entry). x.lit) same ∙ t.is;
          no_later = omega (arith, t.no_later, ap (λ (x : Entry). x.level) same);
        }
    at (inr ge) = let h = front.high t.place ge t.within in absurd (omega (arith, h, t.no_later, le))

paired_front : (clauses : List ArenaClause) (fresh : List ℕ) (entries : List Entry) (looked level n now : ℕ) → IsUpTo entries level n → now ≤ looked → now ≤ n → IsPaired clauses fresh entries looked → IsPaired clauses fresh (take n entries) now
paired_front clauses fresh entries looked level n now front le le_n p = record {
  pairs = λ side place s lt is.
      let place_in : place < n = omega (arith, lt, le_n) in
      let same = get_or-take n entries place no_entry place_in in
      let low = front.low place place_in in
      subst (λ (x : Entry). IsTrueUpTo (take n entries) (watched clauses (other_side side)) x.level) (sym same)
      (true_front entries level n _ _ front low (p.pairs side place s (omega (arith, lt, le)) (sym (ap (λ (x : Entry). x.lit) same) ∙ is)));
  single = λ id o one. true_front entries level n _ _ front (omega arith) (p.single id o one);
  some = p.some;
}

-- after a jump back to a level, with `looked` lowered to what is left
pub paired_back : (clauses : List ArenaClause) (fresh : List ℕ) (trail : TrailView) (level : ℕ) → IsTrail trail → IsPaired clauses fresh trail.entries trail.looked → IsPaired clauses fresh (up_to level trail.entries) (min trail.looked (length (up_to level trail.entries)))
paired_back clauses fresh trail level is p =
    let f = front_up_to trail.entries level is.ascending in
    let e = up_to_is trail.entries level f.0 f.1 in
    subst (λ (xs : List Entry). IsPaired clauses fresh xs (min trail.looked (length xs))) (sym e)
    (paired_front clauses fresh trail.entries trail.looked level f.0 _ f.1 (omega arith) (omega (arith, length-take-le f.0 trail.entries f.1.within)) p)

pub pending_back : (trail : TrailView) (level : ℕ) → IsTrail trail → level ≤ trail.depth → ArePendingAt trail.entries trail.looked trail.depth → ArePendingAt (up_to level trail.entries) (min trail.looked (length (up_to level trail.entries))) level
pending_back trail level is le p =
    let f = front_up_to trail.entries level is.ascending in
    let e = up_to_is trail.entries level f.0 f.1 in
    let size = length-take-le f.0 trail.entries f.1.within in
    subst (λ (xs : List Entry). ArePendingAt xs (min trail.looked (length xs)) level) (sym e)
    (record {
      each = λ place from to.
          let place_in : place < f.0 = omega (arith, to, size) in
          let was = p.each place (omega (arith, from, to)) (omega (arith, place_in, f.1.within)) in
          let low = f.1.low place place_in in
          ap (λ (x : Entry). x.level) (get_or-take f.0 trail.entries place no_entry place_in)
          ∙ (let level_is : (entry_at trail.entries place).level ≡ level = omega (arith, was, low, le) in level_is);
    })

-- All was looked at.

pub pending_none : (entries : List Entry) (looked level : ℕ) → looked ≡ length entries → ArePendingAt entries looked level
pending_none entries looked level all = record { each = λ place from to. absurd (omega (arith, from, to, all)) }

-- Other clauses.

pub paired_none : (fresh : List ℕ) (entries : List Entry) (looked : ℕ) → IsPaired [] fresh entries looked
paired_none fresh entries looked = record {
  pairs = λ side place s lt is. let h = s.clause.known in absurd (omega (arith, h));
  single = λ id o one. let h = o.known in absurd (omega (arith, h));
  some = λ id o. let h = o.known in absurd (omega (arith, h));
}

-- one more clause, which is new
old_clause : (clauses : List ArenaClause) (fresh : List ℕ) (clause : ArenaClause) (id : ℕ) → IsOld (clauses ++ clause ∷ []) (fresh ++ length clauses ∷ []) id → IsOld clauses fresh id
old_clause clauses fresh clause id o = record {
  known = at (cases_eq id (length clauses));
  not_new = λ c. o.not_new (Contains-append_left fresh (length clauses ∷ []) id c);
}
  where
    at : (id ≡ length clauses) ⊎ (id ≡ length clauses → ⊥) → id < length clauses
    at (inl e) = absurd (o.not_new (subst (Contains (fresh ++ length clauses ∷ [])) (sym e) (Contains-push fresh (length clauses))))
    at (inr n) = let h = o.known in let size = length_push clauses clause in elim (cases_lt id (length clauses)) [
      | inl lt ↦ lt
      | inr ge ↦ absurd (n (omega (arith, h, size, ge)))
    ]

pub clause_old : (clauses : List ArenaClause) (clause : ArenaClause) (id : ℕ) → id < length clauses → clause_at (clauses ++ clause ∷ []) id ≡ clause_at clauses id
clause_old clauses clause id lt = get_or_append_left clauses (clause ∷ []) no_clause id lt

pub paired_add : (clauses : List ArenaClause) (fresh : List ℕ) (entries : List Entry) (looked : ℕ) (clause : ArenaClause) → IsPaired clauses fresh entries looked → IsPaired (clauses ++ clause ∷ []) (fresh ++ length clauses ∷ []) entries looked
paired_add clauses fresh entries looked clause p = record {
  pairs = λ side place s lt is.
      let o = old_clause clauses fresh clause (side / 2) s.clause in
      let same = clause_old clauses clause (side / 2) o.known in
      let other_is : other_side side / 2 ≡ side / 2 = omega arith in
      let other_same = clause_old clauses clause (other_side side / 2) (omega (arith, other_is, o.known)) in
      subst (λ (c : ArenaClause). IsTrueUpTo entries (lit_in c (other_side side % 2)) (entry_at entries place).level) (sym other_same)
      (p.pairs side place (record { clause = o; wide = subst (λ (c : ArenaClause). 2 ≤ length c.lits) same s.wide }) lt (is ∙ ap (λ (c : ArenaClause). opposite (lit_in c (side % 2))) same));
  single = λ id o one.
      let old = old_clause clauses fresh clause id o in
      let same = clause_old clauses clause id old.known in
      subst (λ (c : ArenaClause). IsTrueUpTo entries (lit_in c 0) 0) (sym same)
      (p.single id old (sym (ap (λ (c : ArenaClause). length c.lits) same) ∙ one));
  some = λ id o.
      let old = old_clause clauses fresh clause id o in
      subst (λ (c : ArenaClause). 0 < length c.lits) (sym (clause_old clauses clause id old.known)) (p.some id old);
}
  where
    lit_in : ArenaClause → ℕ → ℕ
    lit_in c n = slice_index c.lits n

pub ready_add : (clauses : List ArenaClause) (fresh : List ℕ) (entries : List Entry) (depth : ℕ) (clause : ArenaClause) → All (λ id. id < length clauses) fresh → AreReady clauses fresh entries depth → IsReady entries depth clause.lits → AreReady (clauses ++ clause ∷ []) (fresh ++ length clauses ∷ []) entries depth
ready_add clauses fresh entries depth clause known ready new =
    All-push (λ (id : ℕ). IsReady entries depth (clause_at (clauses ++ clause ∷ []) id).lits) fresh (length clauses)
    (λ k d lt. subst (λ (c : ArenaClause). IsReady entries depth c.lits) (sym (clause_old clauses clause _ (known k d lt))) (ready k d lt))
    (subst (λ (c : ArenaClause). IsReady entries depth c.lits) (sym (get_or_push clauses clause no_clause (length clauses) refl)) new)

pub ready_zero : (clauses : List ArenaClause) (fresh : List ℕ) (entries : List Entry) (depth : ℕ) → depth ≡ 0 → AreReady clauses fresh entries depth
ready_zero clauses fresh entries depth zero_is = λ k d lt. inr (inr zero_is)

pub ready_none : (clauses : List ArenaClause) (fresh : List ℕ) (entries : List Entry) (depth : ℕ) → fresh ≡ [] → AreReady clauses fresh entries depth
ready_none clauses fresh entries depth none = λ k d lt. absurd (omega (arith, lt, ap length none))

pub contains_filter : (p : ℕ → Bool) (xs : List ℕ) (x : ℕ) → Contains xs x → p x ≡ true → Contains (filter p xs) x
contains_filter p [] x c e = c
contains_filter p (y ∷ xs) x c e = by (p y) refl (split y x xs c) (λ r. contains_filter p xs x r e)
  where
    by : (b : Bool) → p y ≡ b → (y ≡ x) ⊎ Contains xs x → (Contains xs x → Contains (filter p xs) x) → Contains (cond b (y ∷ filter p xs) (filter p xs)) x
    by true is (inl s) rest = subst (Contains (y ∷ filter p xs)) s (here y (filter p xs))
    by true is (inr r) rest = there y x (filter p xs) (rest r)
    by false is (inl s) rest = absurd (false≢true (sym is ∙ ap p s ∙ e))
    by false is (inr r) rest = rest r

-- the clauses from a number on are taken back
pub paired_truncate : (clauses : List ArenaClause) (fresh : List ℕ) (entries : List Entry) (looked len : ℕ) → IsPaired clauses fresh entries looked → IsPaired (take len clauses) (filter (λ id. nat_lt id len) fresh) entries looked
paired_truncate clauses fresh entries looked len p = record {
  pairs = λ side place s lt is.
      let o = old_front clauses fresh len (side / 2) s.clause in
      let same = clause_front clauses len (side / 2) (in_front clauses fresh len (side / 2) s.clause) in
      let other_is : other_side side / 2 ≡ side / 2 = omega arith in
      let h = in_front clauses fresh len (side / 2) s.clause in
      let other_same = clause_front clauses len (other_side side / 2) (omega (arith, other_is, h)) in
      subst (λ (c : ArenaClause). IsTrueUpTo entries (slice_index c.lits (other_side side % 2)) (entry_at entries place).level) (sym other_same)
      (p.pairs side place (record { clause = o; wide = subst (λ (c : ArenaClause). 2 ≤ length c.lits) same s.wide }) lt (is ∙ ap (λ (c : ArenaClause). opposite (slice_index c.lits (side % 2))) same));
  single = λ id o one.
      let same = clause_front clauses len id (in_front clauses fresh len id o) in
      subst (λ (c : ArenaClause). IsTrueUpTo entries (slice_index c.lits 0) 0) (sym same)
      (p.single id (old_front clauses fresh len id o) (sym (ap (λ (c : ArenaClause). length c.lits) same) ∙ one));
  some = λ id o.
      subst (λ (c : ArenaClause). 0 < length c.lits) (sym (clause_front clauses len id (in_front clauses fresh len id o)))
      (p.some id (old_front clauses fresh len id o));
}
  where
    in_front : (clauses : List ArenaClause) (fresh : List ℕ) (len id : ℕ) → IsOld (take len clauses) (filter (λ id. nat_lt id len) fresh) id → id < len
    in_front clauses fresh len id o = let h = o.known in omega (arith, h, length-take len clauses)

    clause_front : (clauses : List ArenaClause) (len id : ℕ) → id < len → clause_at (take len clauses) id ≡ clause_at clauses id
    clause_front clauses len id lt = get_or-take len clauses id no_clause lt

    old_front : (clauses : List ArenaClause) (fresh : List ℕ) (len id : ℕ) → IsOld (take len clauses) (filter (λ id. nat_lt id len) fresh) id → IsOld clauses fresh id
    old_front clauses fresh len id o = record {
      known = let h = o.known in omega (arith, h, length-take len clauses);
      not_new = λ c. o.not_new (contains_filter (λ (n : ℕ). nat_lt n len) fresh id c (lt-ltb _ _ (in_front clauses fresh len id o)));
    }
