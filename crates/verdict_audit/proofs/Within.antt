-- Whether an ascending list stands within another one: one pass over the other one tells.
use Rattle.std.proofs.Common.{◌≡◌, ◌∙◌, ℕ, ◌+◌, ◌-◌, ◌<◌, ◌≤◌, List, [], ◌∷◌, length, drop, get_or, Bool, true, false, cond, refl, sym, subst, ap, arith, add-one, inl, inr}
use Rattle.std.specs.Prelude.{◌↔◌, ◌⊎◌, ◌==◌, ◌&&◌, nat_lt, All, Contains, IsTrue}
use Rattle.std.proofs.Math.ListN.{drop_of_length-le}
use Rattle.std.proofs.Math.Seq.{drop-cons}
use Rattle.std.proofs.lemmas.List.{get_or_default}
use Rattle.std.proofs.lemmas.Bool.{and_from, cases_Bool, eqb-true, eqb-false, lt-ltb, ltb-true}
use Rattle.std.proofs.lemmas.Bool.Decides.{nat_tests}
use Rattle.std.proofs.lemmas.List.Elements.{All-cons, All-head, All-nil, All-tail}
use Rattle.sat_base.specs.Lit.{IsLitSet, ascends_above}
use Rattle.sat_base.proofs.Ascending.{member_above}
use Rattle.sat_base.proofs.Members.{Contains-here, Contains-there, Contains-cases, All-from_members}

-- the first list is left over from the second one, in order
abbrev pub is_front : List ℕ → List ℕ → Bool
is_front [] others = true
is_front (lit ∷ lits) [] = false
is_front (lit ∷ lits) (other ∷ others) = cond (lit == other) (is_front lits others) (is_front (lit ∷ lits) others)

next : (xs : List ℕ) (i x : ℕ) → i < length xs → x ≡ get_or xs i x → drop i xs ≡ x ∷ drop (i + 1) xs
next xs i x within is = subst (λ n. drop i xs ≡ get_or xs i x ∷ drop n xs) (sym (add-one i)) (drop-cons xs i x within) ∙ ap (λ y. y ∷ drop (i + 1) xs) (sym is)

-- one literal of the second list more: it is the next one of the first list, or not
pub found : (part cube : List ℕ) (at i lit : ℕ) (whole : Bool) → at < length part → lit ≡ get_or part at lit → i < length cube → lit ≡ get_or cube i lit → is_front (drop at part) (drop i cube) ≡ whole → is_front (drop (at + 1) part) (drop (i + 1) cube) ≡ whole
found part cube at i lit whole within is there same before =
    sym (ap (λ (ps : List ℕ). is_front ps (drop i cube)) (next part at lit within is) ∙ ap (λ (cs : List ℕ). is_front (lit ∷ drop (at + 1) part) cs) (next cube i lit there same)
    ∙ ap (λ b. cond b (is_front (drop (at + 1) part) (drop (i + 1) cube)) (is_front (lit ∷ drop (at + 1) part) (drop (i + 1) cube))) (itself lit))
    ∙ before
  where
    itself : (n : ℕ) → (n == n) ≡ true
    itself n = grind (arith, nat_tests)

pub passed : (part cube : List ℕ) (at i first lit : ℕ) (whole : Bool) → at < length part → first ≡ get_or part at first → i < length cube → lit ≡ get_or cube i lit → (first == lit) ≡ false → is_front (drop at part) (drop i cube) ≡ whole → is_front (drop at part) (drop (i + 1) cube) ≡ whole
passed part cube at i first lit whole within is there same differs before =
    ap (λ (ps : List ℕ). is_front ps (drop (i + 1) cube)) (next part at first within is)
    ∙ sym (ap (λ (ps : List ℕ). is_front ps (drop i cube)) (next part at first within is) ∙ ap (λ (cs : List ℕ). is_front (first ∷ drop (at + 1) part) cs) (next cube i lit there same)
    ∙ ap (λ b. cond b (is_front (drop (at + 1) part) (drop (i + 1) cube)) (is_front (first ∷ drop (at + 1) part) (drop (i + 1) cube))) differs)
    ∙ before

-- ---- sets

fronts_by : (lit other : ℕ) (lits others : List ℕ) → (is_front lits others ≡ true → All (Contains others) lits) → (is_front (lit ∷ lits) others ≡ true → All (Contains others) (lit ∷ lits))
    → cond (lit == other) (is_front lits others) (is_front (lit ∷ lits) others) ≡ true → All (Contains (other ∷ others)) (lit ∷ lits)
fronts_by lit other lits others taken skipped h = by_truth (cases_Bool (lit == other))
  where
    by_truth : ((lit == other) ≡ true) ⊎ ((lit == other) ≡ false) → All (Contains (other ∷ others)) (lit ∷ lits)
    by_truth (inl same) =
        let rest = taken (sym (ap (λ b. cond b (is_front lits others) (is_front (lit ∷ lits) others)) same) ∙ h) in
        All-cons (Contains (other ∷ others)) lit lits (subst (Contains (other ∷ others)) (sym (eqb-true lit other same)) (Contains-here other others)) (λ k d within. Contains-there other (get_or lits k d) others (rest k d within))
    by_truth (inr differs) =
        let rest = skipped (sym (ap (λ b. cond b (is_front lits others) (is_front (lit ∷ lits) others)) differs) ∙ h) in
        λ k d within. Contains-there other (get_or (lit ∷ lits) k d) others (rest k d within)

fronts : (part cube : List ℕ) → is_front part cube ≡ true → All (Contains cube) part
fronts [] cube h = All-nil (Contains cube)
fronts (lit ∷ lits) [] h = cc
fronts (lit ∷ lits) (other ∷ others) h = fronts_by lit other lits others (fronts lits others) (fronts (lit ∷ lits) others) h

-- literals above the first one of a list, each of which stands in it, stand in its rest
behind : (bound other : ℕ) (lits others : List ℕ) → IsTrue (ascends_above bound lits) → other ≤ bound → All (Contains (other ∷ others)) lits → All (Contains others) lits
behind bound other lits others up low all = All-from_members (Contains others) lits (λ lit has. by_place lit (member_above bound lits lit up has) (Contains-cases other lit others (member all has)))
  where
    member : {lit : ℕ} → All (Contains (other ∷ others)) lits → Contains lits lit → Contains (other ∷ others) lit
    member {lit} each has = subst (Contains (other ∷ others)) has.2 (each has.0 lit has.1)

    by_place : (lit : ℕ) → bound < lit → (other ≡ lit) ⊎ Contains others lit → Contains others lit
    by_place lit above (inl same) = absurd (omega (arith, above, low, same))
    by_place lit above (inr there) = there

both : (b c : Bool) → (b && c) ≡ true → (b ≡ true) × (c ≡ true)
both true c h = (refl, h)
both false c h = cc

fronts_back_by : (part_bound bound lit other : ℕ) (lits others : List ℕ) → IsTrue (ascends_above part_bound (lit ∷ lits)) → IsTrue (ascends_above bound (other ∷ others)) → All (Contains (other ∷ others)) (lit ∷ lits)
    → (IsTrue (ascends_above lit lits) → IsTrue (ascends_above other others) → All (Contains others) lits → is_front lits others ≡ true)
    → (IsTrue (ascends_above other others) → All (Contains others) (lit ∷ lits) → is_front (lit ∷ lits) others ≡ true)
    → cond (lit == other) (is_front lits others) (is_front (lit ∷ lits) others) ≡ true
fronts_back_by part_bound bound lit other lits others up others_up all taken skipped = by_truth (cases_Bool (lit == other))
  where
    first : (nat_lt part_bound lit ≡ true) × (ascends_above lit lits ≡ true)
    first = both (nat_lt part_bound lit) (ascends_above lit lits) up

    second : (nat_lt bound other ≡ true) × (ascends_above other others ≡ true)
    second = both (nat_lt bound other) (ascends_above other others) others_up

    positive : 0 < lit
    positive = let h = ltb-true part_bound lit first.0 in omega (arith, h)

    reached : (lit ≡ other → ⊥) → (other ≡ lit) ⊎ Contains others lit → Contains others lit
    reached unequal (inl same) = absurd (unequal (sym same))
    reached unequal (inr there) = there

    lower : (lit ≡ other → ⊥) → other ≤ lit - 1
    lower unequal = let h = member_above other others lit second.1 (reached unequal (Contains-cases other lit others (All-head (Contains (other ∷ others)) lit lits all))) in omega (arith, h)

    above : IsTrue (ascends_above (lit - 1) (lit ∷ lits))
    above = and_from (nat_lt (lit - 1) lit) (ascends_above lit lits) (lt-ltb (lit - 1) lit (omega (arith, positive))) first.1

    by_truth : ((lit == other) ≡ true) ⊎ ((lit == other) ≡ false) → cond (lit == other) (is_front lits others) (is_front (lit ∷ lits) others) ≡ true
    by_truth (inl same) =
        let equal = eqb-true lit other same in
        ap (λ b. cond b (is_front lits others) (is_front (lit ∷ lits) others)) same ∙ taken first.1 second.1 (behind lit other lits others first.1 (omega (arith, equal)) (All-tail (Contains (other ∷ others)) lit lits all))
    by_truth (inr differs) =
        ap (λ b. cond b (is_front lits others) (is_front (lit ∷ lits) others)) differs ∙ skipped second.1 (behind (lit - 1) other (lit ∷ lits) others above (lower (eqb-false lit other differs)) all)

fronts_back : (part_bound bound : ℕ) (part cube : List ℕ) → IsTrue (ascends_above part_bound part) → IsTrue (ascends_above bound cube) → All (Contains cube) part → is_front part cube ≡ true
fronts_back part_bound bound [] cube up others_up all = refl
fronts_back part_bound bound (lit ∷ lits) [] up others_up all = absurd (nowhere (All-head (Contains []) lit lits all))
  where
    nowhere : Contains [] lit → ⊥
    nowhere has = let h = has.1 in absurd (omega (arith, h))
fronts_back part_bound bound (lit ∷ lits) (other ∷ others) up others_up all =
    fronts_back_by part_bound bound lit other lits others up others_up all (λ rest rest_up some. fronts_back lit other lits others rest rest_up some) (λ rest_up some. fronts_back part_bound other (lit ∷ lits) others up rest_up some)

pub is_front_within : (part cube : List ℕ) → IsLitSet part → IsLitSet cube → IsTrue (is_front part cube) ↔ All (Contains cube) part
is_front_within part cube set others = (fronts part cube, fronts_back 0 0 part cube set.ascending others.ascending)

default_free : (xs : List ℕ) (i d : ℕ) → i < length xs → get_or xs i d ≡ get_or xs i (get_or xs i d)
default_free xs i d within = get_or_default xs i d (get_or xs i d) within

-- the pass has ended
pub passed_all : (part cube : List ℕ) (at i : ℕ) (b : Bool) → at ≤ length part → length cube ≤ i → b ≡ (at == length part) → is_front (drop at part) (drop i cube) ≡ is_front part cube → b ≡ is_front part cube
passed_all part cube at i b within ended is whole = is ∙ by_rest (cases_Bool (at == length part)) ∙ whole
  where
    none_left : drop i cube ≡ []
    none_left = drop_of_length-le cube ended

    by_rest : ((at == length part) ≡ true) ⊎ ((at == length part) ≡ false) → (at == length part) ≡ is_front (drop at part) (drop i cube)
    by_rest (inl same) = same ∙ sym (ap (λ (ps : List ℕ). is_front ps (drop i cube)) (drop_of_length-le part (let h = eqb-true at (length part) same in omega (arith, h))))
    by_rest (inr differs) =
        differs ∙ sym (ap (λ (ps : List ℕ). is_front ps (drop i cube)) (next part at (get_or part at 0) inside (default_free part at 0 inside)) ∙ ap (λ (cs : List ℕ). is_front (get_or part at 0 ∷ drop (at + 1) part) cs) none_left)
      where
        inside : at < length part
        inside = let h = eqb-false at (length part) differs in by_order h within
          where
            by_order : (at ≡ length part → ⊥) → at ≤ length part → at < length part
            by_order unequal low = grind arith
