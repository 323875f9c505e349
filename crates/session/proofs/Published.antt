-- A session that publishes a step.
use Rattle.std.proofs.Common.{◌≡◌, ◌≢◌, ◌∙◌, ℕ, zero, suc, ◌+◌, ◌-◌, ◌<◌, ◌≤◌, List, [], ◌∷◌, ◌++◌}
use Rattle.std.proofs.Common.{length, map, Option, None, Some, Bool, true, false, refl, ap, sym}
use Rattle.std.proofs.Common.{subst, inl, inr, arith}
use Rattle.std.specs.Prelude.{◌⊎◌, Contains, AllPairs, IsSome, ◌==◌, cond, slice_get, option_map}
use Rattle.std.specs.Prelude.{option_and_then, replicate}
use Rattle.std.specs.List.{AllZip}
use Rattle.std.specs.Option.{option_flatten}
use Rattle.std.proofs.lemmas.Bool.{cases_eq}
use Rattle.std.proofs.lemmas.Bool.Decides.{nat_tests}
use Rattle.std.proofs.lemmas.Option.{none-some, slice_get-get_or}
use Rattle.std.proofs.lemmas.List.{get_or_append_left, get_or_push, length_push}
use Rattle.std.proofs.lemmas.List.Elements.{Contains-append_cases}
use Rattle.sat_base.specs.declared.origins.Ref.{Ref}
use Rattle.sat_base.specs.declared.origins.Ref.TheVariants.{Shared}
use Rattle.sat_base.proofs.Members.{Contains-here, Contains-there, Contains-cases}
use Rattle.trace_core.specs.Known.{Known, known, item_at}
use Rattle.trace_core.specs.Trace.{known_of}
use Rattle.trace_core.specs.declared.derivation.Step.{Step}
use Rattle.trace_trim.specs.Packed.{AreNumbersPacked, CiteEarlierOwn, IsPack, IsPackedStep, RestsOn}
use Rattle.trace_trim.specs.Packed.{name_of}
use Rattle.trace_trim.specs.Reached.{IsReached}
use Rattle.trace_core.proofs.Items.{item_at-within}
use Rattle.trace_trim.proofs.OwnWalk.{unnamed-own}
use Rattle.trace_trim.proofs.Zips.{zip_item}
use Rattle.session.specs.Solver.{Solver, shared_by, packet_at}
use Rattle.session.specs.Sharing.{Knows}
use Rattle.trace_core.proofs.Items.{item_at-map}
use Rattle.session.specs.Publishing.{AreNamesFit, AreNamedAnew}
use Rattle.session.proofs.Names.{shared_at, names_fit_more, place_keeps, same_front}

-- Ascending numbers.

abbrev Ascend : List ℕ → Type 0
Ascend numbers = AllPairs (λ m n. m < n) numbers

tail_ascends : (x : ℕ) (xs : List ℕ) → Ascend (x ∷ xs) → Ascend xs
tail_ascends x xs up i j d lt within = up (suc i) (suc j) d (omega (arith, lt))
    (omega (arith, within))

head_least : (x y : ℕ) (xs : List ℕ) → Ascend (x ∷ xs) → Contains xs y → x < y
head_least x y xs up (k, lt, is) = let h = up 0 (suc k) y (omega arith)
    (omega (arith, lt)) in omega (arith, h, is)

same_ascending : (xs ys : List ℕ) → Ascend xs → Ascend ys
    → ((n : ℕ) → Contains xs n → Contains ys n) → ((n : ℕ) → Contains ys n → Contains xs n)
    → xs ≡ ys
same_ascending [] [] up up' there back = refl
same_ascending [] (y ∷ ys) up up' there back = let (k, lt, is) = back y
    (Contains-here y ys) in absurd (omega (arith, lt))
same_ascending (x ∷ xs) [] up up' there back = let (k, lt, is) = there x
    (Contains-here x xs) in absurd (omega (arith, lt))
same_ascending (x ∷ xs) (y ∷ ys) up up' there back = ap (λ n. n ∷ xs) same
    ∙ ap (λ (zs : List ℕ). y ∷ zs) (same_ascending xs ys (tail_ascends x xs up)
    (tail_ascends y ys up') forth hither)
  where
    low : (a b : ℕ) (rest : List ℕ) → Ascend (a ∷ rest) → Contains (a ∷ rest) b → a ≤ b
    low a b rest asc has = elim (Contains-cases a b rest has) [
      | inl e ↦ omega (arith, e)
      | inr later ↦ (let h = head_least a b rest asc later in omega (arith, h))
    ]

    same : x ≡ y
    same = let a = low x y xs up (back y (Contains-here y ys)) in let b = low y x ys up'
        (there x (Contains-here x xs)) in omega (arith, a, b)

    forth : (n : ℕ) → Contains xs n → Contains ys n
    forth n has = elim (Contains-cases y n ys (there n (Contains-there x n xs has))) [
      | inl e ↦ (let h = head_least x n xs up has in absurd (omega (arith, h, e, same)))
      | inr later ↦ later
    ]

    hither : (n : ℕ) → Contains ys n → Contains xs n
    hither n has = elim (Contains-cases x n xs (back n (Contains-there y n ys has))) [
      | inl e ↦ (let h = head_least y n ys up' has in absurd (omega (arith, h, e, same)))
      | inr later ↦ later
    ]

-- what is reached is one list
pub one_list : (own : List Step) (names : List (Option Ref)) (step : ℕ) (xs ys : List ℕ)
    → AreNumbersPacked own names step xs → AreNumbersPacked own names step ys → xs ≡ ys
one_list own names step xs ys a b = same_ascending xs ys a.ascending b.ascending
    (λ n has. (b.exactly n).1 ((a.exactly n).0 has))
    (λ n has. (a.exactly n).1 ((b.exactly n).0 has))

last_greatest : (front : List ℕ) (last n : ℕ) → Ascend (front ++ last ∷ [])
    → Contains (front ++ last ∷ []) n → n ≤ last
last_greatest front last n up has = elim (Contains-append_cases front (last ∷ []) n has) [
  | inl (k, lt, is) ↦ (let h = up k (length front) n lt (omega (arith, length_push front last)) in
      omega (
        arith,
        h,
        get_or_append_left front (last ∷ []) n k lt,
        is,
        get_or_push front last n
            (length front) refl,
      ))
  | inr there ↦ elim (Contains-cases last n [] there) [
    | inl e ↦ omega (arith, e)
    | inr (k, lt, is) ↦ absurd (omega (arith, lt))
  ]
]

-- each number that is packed is that of an own step, up to the last one
pub packed_within : (own : List Step) (names : List (Option Ref)) (step : ℕ) (numbers : List ℕ)
    → CiteEarlierOwn own → IsSome (item_at own step) → AreNumbersPacked own names step numbers
    → (n : ℕ) → Contains numbers n → (1 ≤ n) × (n ≤ step)
packed_within own names step numbers earlier some packed n has = (
  first ((packed.exactly n).0 has),
  last_greatest packed.front step n
      (subst Ascend packed.ends packed.ascending) (subst
      (λ (xs : List ℕ). Contains xs n) packed.ends has),
)
  where
    first : IsReached (RestsOn own names) step n → 1 ≤ n
    first ([], is) = let within = item_at-within own step some in omega (arith, is, within.0)
    first (user ∷ users, ((one, at, (hint, hinted, leads)), along)) =
        (earlier user n one at (subst (Contains one.hints)
        (unnamed-own names hint n leads).0 hinted)).0

-- Names.

no_names : (n i : ℕ) → option_flatten (slice_get (replicate {A = Option Ref} n None) i) ≡ None
no_names zero i = refl
no_names (suc n) zero = refl
no_names (suc n) (suc i) = no_names n i

pub grown_name : (names : List (Option Ref)) (count number : ℕ)
    → name_of (names ++ replicate count None) number ≡ name_of names number
grown_name names count number = at (number == 0)
  where
    behind : (xs : List (Option Ref)) (i : ℕ) → option_flatten
        (slice_get (xs ++ replicate count None) i) ≡ option_flatten (slice_get xs i)
    behind [] i = no_names count i
    behind (x ∷ xs) zero = refl
    behind (x ∷ xs) (suc i) = behind xs i

    at : (b : Bool) → option_flatten (cond b None
        (slice_get (names ++ replicate count None) (number - 1)))
        ≡ option_flatten (cond b None (slice_get names (number - 1)))
    at true = refl
    at false = behind names (number - 1)

in_or_not : (numbers : List ℕ) (n : ℕ) → Contains numbers n ⊎ (Contains numbers n → ⊥)
in_or_not [] n = inr (λ (k, lt, is). omega (arith, lt))
in_or_not (x ∷ numbers) n = at (cases_eq x n) (in_or_not numbers n)
  where
    at : (x ≡ n) ⊎ (x ≢ n) → Contains numbers n ⊎ (Contains numbers n → ⊥)
        → Contains (x ∷ numbers) n ⊎ (Contains (x ∷ numbers) n → ⊥)
    at (inl same) _ = inl (subst (Contains (x ∷ numbers)) same (Contains-here x numbers))
    at (inr other) (inl later) = inl (Contains-there x n numbers later)
    at (inr other) (inr none) = inr (λ has. neither (Contains-cases x n numbers has))
      where
        neither : (x ≡ n) ⊎ Contains numbers n → ⊥
        neither (inl same) = other same
        neither (inr later) = none later

place_of : (numbers : List ℕ) (n : ℕ) → Contains numbers n → (i : ℕ) × (item_at numbers i ≡ Some n)
place_of numbers n (k, lt, is) = (
  k + 1,
  ap (λ b. cond b None (slice_get numbers (k + 1 - 1)))
      (let no : (k + 1 == 0) ≡ false = grind (arith, nat_tests) in no)
      ∙ ap (slice_get numbers) (let e : k + 1 - 1 ≡ k = omega arith in e)
      ∙ slice_get-get_or numbers k n lt ∙ ap Some is,
)

-- The names of the packed steps are right, and the others stay so.
pub published_fit : (old new : Solver) (names grown now : List (Option Ref)) (step place : ℕ)
    (packet : List Step) (numbers : List ℕ) → AreNamesFit old names → Knows old new place packet
    → packet_at old.packets place ≡ None
    → IsPack old.steps names step packet → AreNumbersPacked old.steps names step numbers
    → ((number : ℕ) → name_of grown number ≡ name_of names number)
    → AreNamedAnew grown now place numbers → length now ≤ length old.steps → AreNamesFit new now
published_fit old new names grown now step place packet numbers fit knows free pack packed stay named few = record {
  right = λ number name some is. at number name some is (in_or_not numbers number);
  few = omega (arith, few, ap (λ (s : Solver). length s.steps) knows.same);
}
  where
    steps : new.steps ≡ old.steps
    steps = ap (λ (s : Solver). s.steps) knows.same

    as_before : AreNamesFit new names
    as_before = names_fit_more old new names (same_front old.steps new.steps steps)
        (place_keeps old.packets new.packets place packet knows.packets free) fit

    zip : AllZip (IsPackedStep old.steps names numbers) numbers packet
    zip = subst (λ (xs : List ℕ). AllZip (IsPackedStep old.steps names xs) xs packet)
        (one_list old.steps names step pack.numbers numbers pack.reached packed) pack.packed

    anew : (number i : ℕ) → item_at numbers i ≡ Some number
        → known new.inputs (shared_by new.packets) [] (Shared place i)
        ≡ item_at (map known_of new.steps) number
    anew number i found =
        let (there, at, (own, is, alike)) = zip_item
        (IsPackedStep old.steps names numbers) numbers packet i number zip found in
        let same : known_of there
        ≡ known_of own = let c = alike.clause in let t = alike.tag in cc in
        shared_at new.inputs new.packets [] place i
        ∙ ap (option_and_then (λ (xs : List Step). item_at
        (map known_of xs) i)) knows.packets.here ∙ item_at-map known_of packet i
        ∙ ap (option_map known_of) at ∙ ap Some same
        ∙ sym (ap (λ (xs : List Step). item_at (map known_of xs) number) steps
        ∙ item_at-map known_of old.steps number ∙ ap (option_map known_of) is)

    at : (number : ℕ) (name : Ref) → IsSome (item_at new.steps number)
        → name_of now number ≡ Some name → Contains numbers number ⊎ (Contains numbers number → ⊥)
        → (packet step : ℕ) × (name ≡ Shared packet step)
        × (known new.inputs (shared_by new.packets) [] name
        ≡ item_at (map known_of new.steps) number)
    at number name some is (inl has) =
        let (i, found) = place_of numbers number has in
        let name_is : name ≡ Shared place i = let e = sym is ∙ named.named i number found in cc in (
          place,
          i,
          name_is,
          ap (known new.inputs (shared_by new.packets) []) name_is
              ∙ anew number i found,
        )
    at number name some is (inr none) = as_before.right number name some
        (sym (named.others number none ∙ stay number) ∙ is)

some_of : {A B : Type 0} (f : A → B) (found : Option A) (b : B) → option_map f found ≡ Some b
    → IsSome found
some_of f None b is = absurd (none-some b is)
some_of f (Some a) b is = refl

-- a step whose clause is known is there
pub step_there : (own : List Step) (step : ℕ) (one : Known)
    → item_at (map known_of own) step ≡ Some one → IsSome (item_at own step)
step_there own step one is = some_of known_of (item_at own step) one
    (sym (item_at-map known_of own step) ∙ is)
