-- Where own steps come from.
use Rattle.std.proofs.Common.{◌≡◌, ◌∙◌, ℕ, zero, suc, ◌+◌, ◌-◌, ◌<◌, ◌≤◌, List, [], ◌∷◌, ◌++◌}
use Rattle.std.proofs.Common.{length, map, None, Some, Bool, true, false, refl, ap, sym, subst, inl}
use Rattle.std.proofs.Common.{inr, arith}
use Rattle.std.specs.Prelude.{◌⊎◌, ◌==◌, Contains, cond, slice_get}
use Rattle.std.proofs.lemmas.Bool.{cases_lt}
use Rattle.std.proofs.lemmas.Bool.Decides.{nat_tests}
use Rattle.std.proofs.lemmas.List.{append-nil, append_assoc, map-append, length-append, length_push}
use Rattle.std.proofs.lemmas.List.{length-map}
use Rattle.std.proofs.lemmas.List.Elements.{All-contains, Contains-append_left}
use Rattle.std.proofs.lemmas.List.Elements.{Contains-append_right}
use Rattle.sat_base.proofs.Members.{Contains-here, Contains-there, Contains-from_map}
use Rattle.trace_core.specs.Known.{Known, item_at}
use Rattle.trace_core.specs.Trace.{known_of}
use Rattle.trace_core.specs.declared.derivation.Step.{Step}
use Rattle.session.specs.Solver.{IsStep}
use Rattle.session.specs.Searching.{AscendBetween, HasStepsMore, HasUnitsMore}
use Rattle.session.specs.Fronts.{IsFront}

slice_get-within : {X : Type 0} (xs : List X) (i : ℕ) (x : X) → slice_get xs i ≡ Some x
    → i < length xs
slice_get-within [] i x is = absurd (cc)
slice_get-within (y ∷ xs) zero x is = omega arith
slice_get-within (y ∷ xs) (suc i) x is = let h = slice_get-within xs i x is in omega (arith, h)

slice_get-front : {X : Type 0} (xs ys : List X) (i : ℕ) (x : X) → i < length xs
    → slice_get (xs ++ ys) i ≡ Some x → slice_get xs i ≡ Some x
slice_get-front [] ys i x lt is = absurd (omega (arith, lt))
slice_get-front (y ∷ xs) ys zero x lt is = is
slice_get-front (y ∷ xs) ys (suc i) x lt is = slice_get-front xs ys i x (omega (arith, lt)) is

slice_get-has : {X : Type 0} (xs : List X) (i : ℕ) (x : X) → slice_get xs i ≡ Some x → Contains xs x
slice_get-has [] i x is = absurd (cc)
slice_get-has (y ∷ xs) zero x is = subst (Contains (y ∷ xs)) (cc) (Contains-here y xs)
slice_get-has (y ∷ xs) (suc i) x is = Contains-there y x xs (slice_get-has xs i x is)

slice_get-behind : {X : Type 0} (xs ys : List X) (i : ℕ) (x : X) → length xs ≤ i
    → slice_get (xs ++ ys) i ≡ Some x → Contains ys x
slice_get-behind [] ys i x le is = slice_get-has ys i x is
slice_get-behind (y ∷ xs) ys zero x le is = absurd (omega (arith, le))
slice_get-behind (y ∷ xs) ys (suc i) x le is = slice_get-behind xs ys i x (omega (arith, le)) is

-- the place of an item, counted from 1
item_at-get : {X : Type 0} (xs : List X) (place : ℕ) (x : X) → item_at xs place ≡ Some x
    → (0 < place) × (slice_get xs (place - 1) ≡ Some x)
item_at-get {X} xs place x is = at (place == 0) refl is
  where
    at : (b : Bool) → (place == 0) ≡ b → cond b None (slice_get xs (place - 1)) ≡ Some x
        → (0 < place) × (slice_get xs (place - 1) ≡ Some x)
    at true zero_is got = absurd (cc)
    at false other got = (grind (arith, nat_tests, other), got)

item_at-from : {X : Type 0} (xs : List X) (place : ℕ) (x : X) → 0 < place
    → slice_get xs (place - 1) ≡ Some x → item_at xs place ≡ Some x
item_at-from {X} xs place x pos got = at (place == 0) refl
  where
    at : (b : Bool) → (place == 0) ≡ b → cond b None (slice_get xs (place - 1)) ≡ Some x
    at true zero_is = absurd (grind (arith, nat_tests, pos, zero_is))
    at false _ = got

pub step_within : (steps : List Step) (number : ℕ) (one : Known) → IsStep steps number one
    → number ≤ length steps
step_within steps number one is =
    let (pos, got) = item_at-get (map known_of steps) number one is in
    let h = slice_get-within (map known_of steps) (number - 1) one got in
    omega (arith, h, pos, length-map steps known_of)

pub step_before : (old more : List Step) (number : ℕ) (one : Known) → number ≤ length old
    → IsStep (old ++ more) number one → IsStep old number one
step_before old more number one le is =
    let (pos, got) = item_at-get (map known_of (old ++ more)) number one is in
    item_at-from (map known_of old) number one pos
    (slice_get-front (map known_of old) (map known_of more) (number - 1) one
    (omega (arith, le, pos, length-map old known_of))
    (subst (λ (xs : List Known). slice_get xs (number - 1) ≡ Some one)
    (map-append known_of old more) got))

pub step_behind : (old more : List Step) (number : ℕ) (one : Known) → length old < number
    → IsStep (old ++ more) number one → (step : Step) × Contains more step × (known_of step ≡ one)
step_behind old more number one lt is =
    let (pos, got) = item_at-get (map known_of (old ++ more)) number one is in
    Contains-from_map known_of more one (slice_get-behind (map known_of old) (map known_of more)
    (number - 1) one (omega (arith, lt, pos, length-map old known_of))
    (subst (λ (xs : List Known). slice_get xs (number - 1) ≡ Some one)
    (map-append known_of old more) got))

ascend_lower : (low mid high : ℕ) (numbers : List ℕ) → low ≤ mid → AscendBetween mid numbers high
    → AscendBetween low numbers high
ascend_lower low mid high [] le up = omega (arith, le, up)
ascend_lower low mid high (n ∷ numbers) le up = (omega (arith, le, up.0), up.1)

pub ascend_append : (low mid high : ℕ) (numbers more : List ℕ) → AscendBetween low numbers mid
    → AscendBetween mid more high → AscendBetween low (numbers ++ more) high
ascend_append low mid high [] more up rest = ascend_lower low mid high more up rest
ascend_append low mid high (n ∷ numbers) more up rest =
    (up.0, ascend_append n mid high numbers more up.1 rest)

-- steps of one literal
pub units_steps : (old new : List Step) → HasUnitsMore old new → HasStepsMore old new []
units_steps old new units = record {
  more = units.more;
  is = units.is;
  ascend = omega (arith, ap length units.is, length-append old units.more);
  each = λ number one lt is.
      let (step, has, same) = step_behind old units.more number one lt
      (subst (λ (xs : List Step). IsStep xs number one) units.is is) in
      inr (ap (λ (x : Known). length x.clause) (sym same)
      ∙ All-contains (λ (x : Step). length x.clause ≡ 1) units.more step units.units has);
}

pub none_steps : (steps : List Step) → HasStepsMore steps steps []
none_steps steps = record {
  more = [];
  is = sym (append-nil steps);
  ascend = omega arith;
  each = λ number one lt is. (let low = step_within steps number one is in absurd
      (omega (arith, lt, low)));
}

-- one more step
pub pushed_steps : (old new : List Step) (step : Step) (number : ℕ) → new ≡ old ++ step ∷ []
    → number ≡ length new → HasStepsMore old new (number ∷ [])
pushed_steps old new step number pushed last = record {
  more = step ∷ [];
  is = pushed;
  ascend = (omega (arith, last, size), omega (arith, last));
  each = λ n one lt is.
      let low = step_within new n one is in
      let same : number ≡ n = omega (arith, lt, low, last, size) in
      inl (subst (Contains (number ∷ [])) same (Contains-here number []));
}
  where
    size : length new ≡ length old + 1
    size = ap length pushed ∙ length_push old step

pub steps_then : (old mid new : List Step) (numbers more : List ℕ) → HasStepsMore old mid numbers
    → HasStepsMore mid new more → HasStepsMore old new (numbers ++ more)
steps_then old mid new numbers more a b = record {
  more = a.more ++ b.more;
  is = b.is ∙ ap (λ (xs : List Step). xs ++ b.more) a.is ∙ append_assoc old a.more b.more;
  ascend = ascend_append (length old) (length mid) (length new) numbers more a.ascend b.ascend;
  each = λ number one lt is. at number one lt is (cases_lt (length mid) number);
}
  where
    at : (number : ℕ) (one : Known) → length old < number → IsStep new number one
        → (length mid < number) ⊎ (number ≤ length mid)
        → Contains (numbers ++ more) number ⊎ (length one.clause ≡ 1)
    at number one lt is (inl behind) = elim (b.each number one behind is) [
      | inl has ↦ inl (Contains-append_right numbers more number has)
      | inr unit ↦ inr unit
    ]
    at number one lt is (inr before) = elim (a.each number one lt
        (step_before mid b.more number one before (subst
        (λ (xs : List Step). IsStep xs number one) b.is is))) [
          | inl has ↦ inl (Contains-append_left numbers more number has)
          | inr unit ↦ inr unit
        ]

pub steps_front : (old new : List Step) (numbers : List ℕ) → HasStepsMore old new numbers
    → IsFront old new
steps_front old new numbers h = record { more = h.more; is = h.is }

pub steps_behind : (old mid new : List Step) (numbers more : List ℕ)
    → HasStepsMore old mid (numbers ++ []) → HasStepsMore mid new more
    → HasStepsMore old new (numbers ++ more)
steps_behind old mid new numbers more a b = steps_then old mid new numbers more
    (subst (HasStepsMore old mid) (append-nil numbers) a) b
