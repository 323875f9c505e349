-- The walk along a list, step by step.
use Rattle.std.proofs.Common.{◌≡◌, ◌∙◌, ℕ, suc, ◌+◌, ◌-◌, ◌*◌, ◌/◌, ◌%◌, ◌<◌, ◌≤◌, ◌==◌, List, [], ◌∷◌, ◌++◌, length, refl, ap, subst, sym, inl, inr, arith, get_or, cond, true, false}
use Rattle.std.specs.Prelude.{◌⊎◌, Contains, Option, None, Some}
use Rattle.std.specs.Option.{option_map}
use Rattle.std.proofs.lemmas.Bool.Decides.{nat_tests}
use Rattle.std.proofs.lemmas.List.{append_assoc}
use Rattle.std.proofs.lemmas.List.Elements.{Contains-push_cases, Contains-append_left}
use Rattle.clause_arena.specs.Arena.{ArenaClause, clause_at}
use Rattle.trail_core.specs.Trail.{TrailView, lits_of}
use Rattle.trail_core.specs.UnderTrail.{IsFalseLit}
use Rattle.watch_ring.specs.Link.{pair_of, number_of}
use Rattle.watch_ring.specs.Ring.{RingView, list_of, first_of, last_behind, IsOnce}
use Rattle.watch_ring.proofs.Lists.{here, there, in_split, once_parts}
use Rattle.propagate.specs.Pairing.{IsTrueUpTo, watched, other_side}
use Rattle.propagate.specs.Lists.{IsConnected}
use Rattle.propagate.specs.Walk.{IsUnderway, left_behind, left_from}
use Rattle.propagate.proofs.Literals.{watched_is, watched_other}

-- the number of what is there
abbrev pub flag : Option (ℕ × ℕ) → ℕ
flag None = 0
flag (Some pair) = 1

abbrev first_part : Option (ℕ × ℕ) → ℕ
first_part None = 0
first_part (Some pair) = pair.0

abbrev second_part : Option (ℕ × ℕ) → ℕ
second_part None = 0
second_part (Some pair) = pair.1

-- the side that comes first
pub record ComesFirst (back : List ℕ) (id side : ℕ) : Type 0 where
  pub rest : List ℕ
  pub back_is : back ≡ (2 * id + side) ∷ rest
  pub side_in : side < 2

pub first_is : (back : List ℕ) (id side : ℕ) → Some (id, side) ≡ option_map pair_of (first_of back) → ComesFirst back id side
first_is [] id side e = let f : flag (Some (id, side)) ≡ flag None = ap flag e in absurd (omega (arith, f))
first_is (w ∷ rest) id side e =
    let i : id ≡ w / 2 = ap first_part e in
    let s : side ≡ w % 2 = ap second_part e in
    let is : w ≡ 2 * id + side = omega (arith, i, s) in
    record {
      rest = rest;
      back_is = ap (λ n. n ∷ rest) is;
      side_in = omega (arith, s);
    }

pub last_push : (before : Option ℕ) (front : List ℕ) (w : ℕ) → last_behind before (front ++ w ∷ []) ≡ Some w
last_push before [] w = refl
last_push before (x ∷ front) w = last_push (Some x) front w

-- what holds where the walk stands
pub record IsAtSide (clauses : List ArenaClause) (ring : RingView) (gone id side : ℕ) (before : Option (ℕ × ℕ)) (front : List ℕ) : Type 0 where
  pub rest : List ℕ
  pub list_is : list_of ring gone ≡ front ++ (2 * id + side) ∷ rest
  pub before_is : last_behind None front ≡ option_map number_of before
  pub side_in : side < 2
  pub known : id < length clauses
  pub wide : 2 ≤ length (clause_at clauses id).lits
  pub stands : Contains (list_of ring gone) (2 * id + side)
  pub is : get_or (clause_at clauses id).lits side 0 ≡ gone

pub at_side : (clauses : List ArenaClause) (ring : RingView) (trail : TrailView) (gone id side : ℕ) (before : Option (ℕ × ℕ)) → (u : IsUnderway clauses ring trail gone before (Some (id, side))) → IsAtSide clauses ring gone id side before u.front
at_side clauses ring trail gone id side before u =
    let f = first_is u.back id side u.here_is in
    let list_is : list_of ring gone ≡ u.front ++ (2 * id + side) ∷ f.rest = u.list_is ∙ ap (λ (xs : List ℕ). u.front ++ xs) f.back_is in
    let stands = subst (λ (xs : List ℕ). Contains xs (2 * id + side)) (sym list_is) (in_split (2 * id + side) u.front f.rest) in
    let s = u.connected.lists.known gone (2 * id + side) stands in
    let half : (2 * id + side) / 2 ≡ id = let lt = f.side_in in omega (arith, lt) in
    record {
      rest = f.rest;
      list_is = list_is;
      before_is = u.before_is;
      side_in = f.side_in;
      known = subst (λ n. n < length clauses) half s.clause.known;
      wide = subst (λ n. 2 ≤ length (clause_at clauses n).lits) half s.wide;
      stands = stands;
      is = sym (watched_is clauses id side f.side_in) ∙ u.connected.lists.only gone (2 * id + side) stands;
    }

-- the side behind a side
abbrev pub IsNext : RingView → ℕ → ℕ → Option (ℕ × ℕ) → Type 0
IsNext ring id side next = (lit : ℕ) (front back : List ℕ) → list_of ring lit ≡ front ++ (2 * id + side) ∷ back → next ≡ option_map pair_of (first_of back)

-- the literal beside the side is true now, and the walk goes on
pub walk_on : (clauses : List ArenaClause) (ring : RingView) (trail trail' : TrailView) (gone id side : ℕ) (before next : Option (ℕ × ℕ)) → IsUnderway clauses ring trail gone before (Some (id, side)) → IsConnected clauses [] ring trail' → ((lit : ℕ) → IsTrueUpTo trail.entries lit trail.depth → IsTrueUpTo trail'.entries lit trail'.depth) → IsTrueUpTo trail'.entries (get_or (clause_at clauses id).lits (1 - side) 0) trail'.depth → IsFalseLit (lits_of trail'.entries) gone → IsNext ring id side next → IsUnderway clauses ring trail' gone (Some (id, side)) next
walk_on clauses ring trail trail' gone id side before next u connected kept beside gone_false next_is =
    let a = at_side clauses ring trail gone id side before u in
    record {
      connected = connected;
      front = u.front ++ (2 * id + side) ∷ [];
      back = a.rest;
      list_is = a.list_is ∙ sym (append_assoc u.front ((2 * id + side) ∷ []) a.rest);
      here_is = next_is gone u.front a.rest a.list_is;
      before_is = last_push None u.front (2 * id + side);
      done = λ other c. at other a.side_in (Contains-push_cases u.front (2 * id + side) other c);
      gone_false = gone_false;
    }
  where
    at : (other : ℕ) → side < 2 → Contains u.front other ⊎ (2 * id + side ≡ other) → IsTrueUpTo trail'.entries (watched clauses (other_side other)) trail'.depth
    at other side_in (inl c) = kept _ (u.done other c)
    at other side_in (inr e) = subst (λ lit. IsTrueUpTo trail'.entries lit trail'.depth) (sym (watched_other clauses id side side_in) ∙ ap (λ n. watched clauses (other_side n)) e) beside

-- How much of the list is left.

left_at : (w : ℕ) (front back : List ℕ) → (Contains front w → ⊥) → left_behind w (front ++ w ∷ back) ≡ suc (length back)
left_at w [] back never = let t : (w == w) ≡ true = grind (arith, nat_tests) in ap (λ b. cond b (suc (length back)) (left_behind w back)) t
left_at w (x ∷ front) back never =
    let n : x ≡ w → ⊥ = λ e. never (subst (Contains (x ∷ front)) e (here x front)) in
    let f : (x == w) ≡ false = grind (arith, nat_tests) in
    ap (λ b. cond b (suc (length (front ++ w ∷ back))) (left_behind w (front ++ w ∷ back))) f
    ∙ left_at w front back (λ c. never (there x w front c))

left_pair : (id side : ℕ) (front rest : List ℕ) → IsOnce (front ++ (2 * id + side) ∷ rest) → left_from (Some (id, side)) (front ++ (2 * id + side) ∷ rest) ≡ suc (length rest)
left_pair id side front rest once = left_at (2 * id + side) front rest (once_parts (2 * id + side) front rest once).0

left_next : (next : Option (ℕ × ℕ)) (front rest : List ℕ) → ((w : ℕ) (more : List ℕ) → rest ≡ w ∷ more → Contains front w → ⊥) → next ≡ option_map pair_of (first_of rest) → left_from next (front ++ rest) ≤ length rest
left_next next front [] never e = let z : left_from next (front ++ []) ≡ 0 = ap (λ o. left_from o (front ++ [])) e in omega (arith, z)
left_next next front (w ∷ rest) never e =
    let back : 2 * (w / 2) + w % 2 ≡ w = omega arith in
    let z : left_from next (front ++ w ∷ rest) ≡ suc (length rest) =
    ap (λ o. left_from o (front ++ w ∷ rest)) e ∙ ap (λ n. left_behind n (front ++ w ∷ rest)) back ∙ left_at w front rest (never w rest refl) in
    omega (arith, z)

-- where the list stays
pub less_next : (ring : RingView) (gone id side : ℕ) (next : Option (ℕ × ℕ)) (front rest : List ℕ) → list_of ring gone ≡ front ++ (2 * id + side) ∷ rest → IsOnce (list_of ring gone) → IsNext ring id side next → left_from next (list_of ring gone) < left_from (Some (id, side)) (list_of ring gone)
less_next ring gone id side next front rest is once next_is =
    let w : ℕ = 2 * id + side in
    let whole : list_of ring gone ≡ (front ++ w ∷ []) ++ rest = is ∙ sym (append_assoc front (w ∷ []) rest) in
    let more = left_next next (front ++ w ∷ []) rest
    (λ v more rest_is c. (once_parts v (front ++ w ∷ []) more (subst IsOnce (whole ∙ ap (λ (xs : List ℕ). (front ++ w ∷ []) ++ xs) rest_is) once)).0 c)
    (next_is gone front rest is) in
    let now = left_pair id side front rest (subst IsOnce is once) in
    omega (arith, more, now, ap (left_from next) whole, ap (left_from (Some (id, side))) is)

-- where the side left the list
pub less_moved : (old new : List ℕ) (id side : ℕ) (next : Option (ℕ × ℕ)) (front rest : List ℕ) → old ≡ front ++ (2 * id + side) ∷ rest → new ≡ front ++ rest → IsOnce old → next ≡ option_map pair_of (first_of rest) → left_from next new < left_from (Some (id, side)) old
less_moved old new id side next front rest is new_is once next_is =
    let w : ℕ = 2 * id + side in
    let whole : old ≡ (front ++ w ∷ []) ++ rest = is ∙ sym (append_assoc front (w ∷ []) rest) in
    let more = left_next next front rest
    (λ v more rest_is c. (once_parts v (front ++ w ∷ []) more (subst IsOnce (whole ∙ ap (λ (xs : List ℕ). (front ++ w ∷ []) ++ xs) rest_is) once)).0 (Contains-append_left front (w ∷ []) v c))
    next_is in
    let now = left_pair id side front rest (subst IsOnce is once) in
    omega (arith, more, now, ap (left_from next) new_is, ap (left_from (Some (id, side))) is)
