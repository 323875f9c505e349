-- The walk over the numbers of own steps without a name.
use Rattle.std.proofs.Common.{◌≡◌, ◌∙◌, ℕ, ◌<◌, ◌≤◌, List, sym, ap, subst, refl, arith}
use Rattle.std.specs.Prelude.{Contains, Option, Some, None, IsSome, cond, is_none}
use Rattle.sat_base.specs.declared.origins.Ref.{Ref}
use Rattle.sat_base.specs.declared.origins.Ref.TheVariants.{Input, Shared, Own}
use Rattle.trace_core.specs.Known.{item_at}
use Rattle.trace_core.specs.declared.derivation.Step.{Step}
use Rattle.trace_trim.specs.Packed.{name_of, unnamed, RestsOn, CiteEarlierOwn}
use Rattle.trace_core.proofs.Items.{item_at-within}
use Rattle.trace_core.proofs.Items.{item_at-there}
use Rattle.trace_trim.proofs.Walk.{IsWalk, LookBack}

-- a hint that leads to an own step without a name names it
pub unnamed-own : (names : List (Option Ref)) (hint : Ref) (number : ℕ) → unnamed names hint ≡ Some number → (hint ≡ Own number) × (name_of names number ≡ None)
unnamed-own names (Input n) number is = absurd (cc)
unnamed-own names (Shared p s) number is = absurd (cc)
unnamed-own names (Own n) number is = by_name (name_of names n) refl is
  where
    by_name : (o : Option Ref) → name_of names n ≡ o → cond (is_none o) (Some n) None ≡ Some number → (Own n ≡ Own number) × (name_of names number ≡ None)
    by_name (Some name) named is = absurd (cc)
    by_name None named is = let same : n ≡ number = cc in (ap Own same, ap (name_of names) (sym same) ∙ named)

abbrev pub IsThere : List Step → ℕ → Type 0
IsThere own number = IsSome (item_at own number)

abbrev pub IsOwnWalk : List Step → List (Option Ref) → ℕ → List ℕ → List ℕ → Type 0
IsOwnWalk own names last numbers pending = IsWalk (RestsOn own names) (λ m n. m < n) (IsThere own) last numbers pending

pub looks_back : (own : List Step) (names : List (Option Ref)) → CiteEarlierOwn own → LookBack (RestsOn own names) (λ m n. m < n) (IsThere own)
looks_back own names earlier = record {
  composes = λ a b c h g. omega arith;
  there = there;
  earlier = λ user other rests. (back user other rests).1;
}
  where
    back : (user other : ℕ) → RestsOn own names user other → (1 ≤ other) × (other < user)
    back user other (step, is, (hint, has, leads)) = earlier user other step is (subst (Contains step.hints) (unnamed-own names hint other leads).0 has)

    there : (user other : ℕ) → RestsOn own names user other → IsThere own other
    there user other rests =
        let low = back user other rests in
        let within = item_at-within own user (subst IsSome (sym rests.1) refl) in
        item_at-there own other low.0 (omega (arith, low.1, within.1))
