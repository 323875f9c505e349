-- The order of names, and a rank that rises with it.
use Rattle.std.proofs.Common.{◌≡◌, ℕ, zero, suc, ◌+◌, ◌*◌, ◌-◌, ◌<◌, ◌≤◌, List, [], ◌∷◌, length, refl, subst, sym, ap, inl, inr, arith}
use Rattle.std.specs.Prelude.{Contains, ◌⊎◌, Option, Some, None, IsSome, max, slice_get}
use Rattle.std.specs.Prelude.{option_and_then}
use Rattle.std.proofs.Math.Nat.{mul-le-mul_right}
use Rattle.std.proofs.lemmas.Bool.Decides.{nat_tests}
use Rattle.sat_base.proofs.Members.{Contains-here, Contains-there, Contains-cases}
use Rattle.std.specs.declared.cmp.Ordering.TheVariants.{Less, Equal}
use Rattle.sat_base.specs.contracts.origins.RefOrd.TheImpl as ref_ord
use Rattle.sat_base.specs.declared.origins.Ref.{Ref}
use Rattle.sat_base.specs.declared.origins.Ref.TheVariants.{Input, Shared, Own}
use Rattle.trace_core.specs.Known.{item_at}
use Rattle.trace_core.proofs.Items.{item_at-found}
use Rattle.trace_core.proofs.Items.{item_at-within}
use Rattle.trace_core.specs.declared.derivation.Step.{Step}
use Rattle.trace_trim.specs.Names.{step_named, IsBefore}

pub before_trans : (a b c : Ref) → IsBefore a b → IsBefore b c → IsBefore a c
before_trans (Input m) (Input n) (Input k) h g = omega arith
before_trans (Input m) (Shared p s) (Input k) h g = absurd g
before_trans (Input m) (Own n) (Input k) h g = absurd g
before_trans (Input m) b (Shared p s) h g = tt
before_trans (Input m) b (Own n) h g = tt
before_trans (Shared p s) (Input n) c h g = absurd h
before_trans (Shared p s) (Shared q t) (Input k) h g = absurd g
before_trans (Shared p s) (Shared q t) (Shared r u) (inl h) (inl g) = inl (omega arith)
before_trans (Shared p s) (Shared q t) (Shared r u) (inl h) (inr g) = inl (omega (arith, g.0))
before_trans (Shared p s) (Shared q t) (Shared r u) (inr h) (inl g) = inl (omega (arith, h.0))
before_trans (Shared p s) (Shared q t) (Shared r u) (inr h) (inr g) = inr (omega (arith, h.0, g.0), omega (arith, h.1, g.1))
before_trans (Shared p s) b (Own n) h g = tt
before_trans (Shared p s) (Own n) (Input k) h g = absurd g
before_trans (Shared p s) (Own n) (Shared r u) h g = absurd g
before_trans (Own m) (Input n) c h g = absurd h
before_trans (Own m) (Shared p s) c h g = absurd h
before_trans (Own m) (Own n) (Input k) h g = absurd g
before_trans (Own m) (Own n) (Shared r u) h g = absurd g
before_trans (Own m) (Own n) (Own k) h g = omega arith

-- how many steps the longest packet has
pub longest : List (List Step) → ℕ
longest [] = 0
longest (packet ∷ packets) = max (length packet) (longest packets)

-- a number that rises with the order of the names of steps
pub rank : List (List Step) → Ref → ℕ
rank packets (Input number) = 0
rank packets (Shared packet step) = packet * suc (longest packets) + step
rank packets (Own number) = suc (length packets) * suc (longest packets) + number

slice_get-longest : (packets : List (List Step)) (i : ℕ) (packet : List Step) → slice_get packets i ≡ Some packet → length packet ≤ longest packets
unfolding longest
slice_get-longest [] i packet is = absurd (cc)
slice_get-longest (first ∷ packets) zero packet is = let same : first ≡ packet = cc in omega (arith, ap length same)
slice_get-longest (first ∷ packets) (suc i) packet is = let h = slice_get-longest packets i packet is in omega arith

item_at-longest : (packets : List (List Step)) (place : ℕ) (packet : List Step) → item_at packets place ≡ Some packet → length packet ≤ longest packets
item_at-longest packets place packet is =
    slice_get-longest packets (place - 1) packet (item_at-found packets place packet is).1

shared_within : (packets : List (List Step)) (packet step : ℕ) → IsSome (option_and_then (λ (steps : List Step). item_at steps step) (item_at packets packet)) → (packet ≤ length packets) × (step ≤ longest packets)
shared_within packets packet step some = by_packet (item_at packets packet) refl some
  where
    by_packet : (o : Option (List Step)) → item_at packets packet ≡ o → IsSome (option_and_then (λ (steps : List Step). item_at steps step) o) → (packet ≤ length packets) × (step ≤ longest packets)
    by_packet None is some = absurd (cc)
    by_packet (Some steps) is some =
        let within = item_at-within steps step some in
        let long = item_at-longest packets packet steps is in
        let there = item_at-within packets packet (subst IsSome (sym is) refl) in
        (there.1, omega (arith, within.1))

-- of packets of fewer steps than the bound, each step of an earlier packet ranks lower
lower : (p q s t bound : ℕ) → p < q → s < bound → p * bound + s < q * bound + t
lower p q s t bound lt small = let h : suc p * bound ≤ q * bound = mul-le-mul_right bound lt in omega arith

pub rank-rises : (packets : List (List Step)) (own : List Step) (a b : Ref) → IsBefore a b → IsSome (step_named packets own a) → IsSome (step_named packets own b) → rank packets a < rank packets b
unfolding rank
rank-rises packets own (Input n) b before a_there b_there = absurd (cc)
rank-rises packets own (Shared p s) (Input n) before a_there b_there = absurd before
rank-rises packets own (Shared p s) (Shared q t) (inl before) a_there b_there = lower p q s t (suc (longest packets)) before (let h = shared_within packets p s a_there in omega (arith, h.1))
rank-rises packets own (Shared p s) (Shared q t) (inr before) a_there b_there = let h : p * suc (longest packets) ≡ q * suc (longest packets) = ap (λ z. z * suc (longest packets)) before.0 in omega (arith, before.1)
rank-rises packets own (Shared p s) (Own n) before a_there b_there = let h = shared_within packets p s a_there in lower p (suc (length packets)) s n (suc (longest packets)) (omega (arith, h.0)) (omega (arith, h.1))
rank-rises packets own (Own m) (Input n) before a_there b_there = absurd before
rank-rises packets own (Own m) (Shared q t) before a_there b_there = absurd before
rank-rises packets own (Own m) (Own n) before a_there b_there = omega arith

-- one above the greatest rank, 0 where there is none
pub peak : {X : Type 0} → (X → ℕ) → List X → ℕ
peak rank_of [] = 0
peak rank_of (one ∷ others) = max (suc (rank_of one)) (peak rank_of others)

pub peak-below : {X : Type 0} (rank_of : X → ℕ) (ones : List X) (bound : ℕ) → ((one : X) → Contains ones one → rank_of one < bound) → peak rank_of ones ≤ bound
unfolding peak
peak-below rank_of [] bound each = omega arith
peak-below rank_of (one ∷ others) bound each =
    let first = each one (Contains-here one others) in
    let rest = peak-below rank_of others bound (λ other has. each other (Contains-there one other others has)) in
    omega arith

pub peak-above : {X : Type 0} (rank_of : X → ℕ) (ones : List X) (one : X) → Contains ones one → rank_of one < peak rank_of ones
unfolding peak
peak-above rank_of [] one (k, lt, is) = absurd (omega arith)
peak-above rank_of (first ∷ others) one has = by_case (λ h. peak-above rank_of others one h) (Contains-cases first one others has)
  where
    by_case : (Contains others one → rank_of one < peak rank_of others) → (first ≡ one) ⊎ Contains others one → rank_of one < max (suc (rank_of first)) (peak rank_of others)
    by_case recur (inl same) = let h = ap rank_of same in omega arith
    by_case recur (inr later) = let h = recur later in omega arith

-- ---- the order of names is the one that `Ord` gives them

pub before-from_less : (a b : Ref) → (ref_ord.cmp-value).it a b ≡ Less → IsBefore a b
before-from_less (Input m) (Input n) is = grind (arith, nat_tests)
before-from_less (Input m) (Shared q t) is = tt
before-from_less (Input m) (Own n) is = tt
before-from_less (Shared p s) (Input n) is = absurd (cc)
before-from_less (Shared p s) (Shared q t) is = grind (arith, nat_tests)
before-from_less (Shared p s) (Own n) is = tt
before-from_less (Own m) (Input n) is = absurd (cc)
before-from_less (Own m) (Shared q t) is = absurd (cc)
before-from_less (Own m) (Own n) is = grind (arith, nat_tests)

pub less-from_before : (a b : Ref) → IsBefore a b → (ref_ord.cmp-value).it a b ≡ Less
less-from_before (Input m) (Input n) before = grind (arith, nat_tests)
less-from_before (Input m) (Shared q t) before = refl
less-from_before (Input m) (Own n) before = refl
less-from_before (Shared p s) (Input n) before = absurd before
less-from_before (Shared p s) (Shared q t) before = grind (arith, nat_tests)
less-from_before (Shared p s) (Own n) before = refl
less-from_before (Own m) (Input n) before = absurd before
less-from_before (Own m) (Shared q t) before = absurd before
less-from_before (Own m) (Own n) before = grind (arith, nat_tests)

pub same-from_equal : (a b : Ref) → (ref_ord.cmp-value).it a b ≡ Equal → a ≡ b
same-from_equal (Input m) (Input n) is = let e : m ≡ n = grind (arith, nat_tests) in ap Input e
same-from_equal (Input m) (Shared q t) is = absurd (cc)
same-from_equal (Input m) (Own n) is = absurd (cc)
same-from_equal (Shared p s) (Input n) is = absurd (cc)
same-from_equal (Shared p s) (Shared q t) is = let e : (p ≡ q) × (s ≡ t) = grind (arith, nat_tests) in cc
same-from_equal (Shared p s) (Own n) is = absurd (cc)
same-from_equal (Own m) (Input n) is = absurd (cc)
same-from_equal (Own m) (Shared q t) is = absurd (cc)
same-from_equal (Own m) (Own n) is = let e : m ≡ n = grind (arith, nat_tests) in ap Own e

pub not_before_itself : (a : Ref) → IsBefore a a → ⊥
not_before_itself (Input m) before = omega arith
not_before_itself (Shared p s) (inl before) = omega arith
not_before_itself (Shared p s) (inr before) = omega (arith, before.1)
not_before_itself (Own m) before = omega arith

pub equal_itself : (a : Ref) → (ref_ord.cmp-value).it a a ≡ Equal
equal_itself (Input m) = grind (arith, nat_tests)
equal_itself (Shared p s) = grind (arith, nat_tests)
equal_itself (Own m) = grind (arith, nat_tests)
