-- How the list of places seen grows.
use Rattle.std.proofs.Common.{◌≡◌, ◌∙◌, ℕ, ◌+◌, ◌<◌, ◌≤◌, List, [], ◌∷◌, ◌++◌, length, get_or, take, Bool, true, false, cond, ap, subst, sym, inl, inr, arith}
use Rattle.std.specs.Prelude.{Contains, ◌⊎◌, ◌==◌, ◌&&◌, nat_lt}
use Rattle.std.proofs.lemmas.List.{length_push, take-append-le, take_all, take-take, take_more, get_or-take, length-take}
use Rattle.std.proofs.lemmas.List.Elements.{Contains-push_cases, Contains-get_or}
use Rattle.trail_core.specs.Trail.{Entry, StandsAt}
use Rattle.sat_base.specs.Lit.{variable}
use Rattle.analyze.specs.Graph.{IsPlaceOf, level_at}
use Rattle.analyze.specs.Seen.{HasGrown, AreAllSeen, open_at, open_below}

pub open_push : (entries : List Entry) (level bound : ℕ) (places : List ℕ) (place : ℕ) → open_below entries level bound (places ++ place ∷ []) ≡ open_below entries level bound places + open_at entries level bound place
open_push entries level bound [] place = omega arith
open_push entries level bound (first ∷ places) place = let h = open_push entries level bound places place in omega arith

-- what is counted at a place is at most whether it is of the level
pub open_bound : (entries : List Entry) (level bound place : ℕ) → open_at entries level bound place ≤ cond (level_at entries place == level) 1 0
open_bound entries level bound place = by_tests (nat_lt place bound) (level_at entries place == level)
  where
    by_tests : (b c : Bool) → cond (b && c) 1 0 ≤ cond c 1 0
    by_tests true true = omega arith
    by_tests true false = omega arith
    by_tests false true = omega arith
    by_tests false false = omega arith

pub grown_none : (entries : List Entry) (level : ℕ) (Kind : ℕ → Type 0) (analyzed : List ℕ)
    → HasGrown entries level Kind analyzed analyzed 0
grown_none entries level Kind analyzed = record {
  longer = omega arith;
  front = take_all (length analyzed) analyzed (omega arith);
  added = λ place has. inl has;
  open_count = λ bound. omega arith;
}

pub grown_push : (entries : List Entry) (level : ℕ) (Kind : ℕ → Type 0)
    (analyzed analyzed' : List ℕ) (place count : ℕ) → analyzed' ≡ analyzed ++ place ∷ []
    → Kind place
    → cond (level_at entries place == level) 1 0 ≡ count → count ≤ 1
    → HasGrown entries level Kind analyzed analyzed' count
grown_push entries level Kind analyzed analyzed' place count pushed kind counted one =
    subst (λ (new : List ℕ). HasGrown entries level Kind analyzed new count) (sym pushed) (record {
      longer = omega (arith, length_push analyzed place);
      front = take-append-le (length analyzed) analyzed (place ∷ []) (omega arith)
          ∙ take_all (length analyzed) analyzed (omega arith);
      added = λ other has. flip other (Contains-push_cases analyzed place other has);
      open_count = λ bound. omega (
        arith,
        open_push entries level bound analyzed place,
        open_bound entries level bound
            place,
      );
    })
  where
    flip : (other : ℕ) → Contains analyzed other ⊎ (place ≡ other)
        → Contains analyzed other ⊎ Kind other
    flip other (inl has) = inl has
    flip other (inr same) = inr (subst Kind same kind)

pub grown_twice : (entries : List Entry) (level : ℕ) (Kind Other All : ℕ → Type 0) (old mid new : List ℕ) (first second : ℕ)
    → ((place : ℕ) → Kind place → All place) → ((place : ℕ) → Other place → All place)
    → HasGrown entries level Kind old mid first → HasGrown entries level Other mid new second → HasGrown entries level All old new (first + second)
grown_twice entries level Kind Other All old mid new first second kind other a b = record {
  longer = omega (arith, a.longer, b.longer);
  front = sym (take-take (length old) (length mid) new (omega (arith, a.longer))) ∙ ap (take (length old)) b.front ∙ a.front;
  added = λ place has. late place (b.added place has);
  open_count = λ bound. omega (arith, a.open_count bound, b.open_count bound);
}
  where
    early : (place : ℕ) → Contains old place ⊎ Kind place → Contains old place ⊎ All place
    early place (inl has) = inl has
    early place (inr is) = inr (kind place is)

    late : (place : ℕ) → Contains mid place ⊎ Other place → Contains old place ⊎ All place
    late place (inl has) = early place (a.added place has)
    late place (inr is) = inr (other place is)

-- what is listed stays listed
pub grown_keeps : (entries : List Entry) (level : ℕ) (Kind : ℕ → Type 0) (old new : List ℕ) (count : ℕ) → HasGrown entries level Kind old new count → (place : ℕ) → Contains old place → Contains new place
grown_keeps entries level Kind old new count grown place has = from_take (subst (λ (xs : List ℕ). Contains xs place) (sym grown.front) has)
  where
    from_take : Contains (take (length old) new) place → Contains new place
    from_take (k, lt, is) = (k, omega (arith, lt, length-take (length old) new), sym (get_or-take (length old) new k place (omega (arith, lt, length-take (length old) new))) ∙ is)

pub met_keeps : (entries : List Entry) (old new clause : List ℕ)
    → ((place : ℕ) → Contains old place → Contains new place) → AreAllSeen entries old clause
    → AreAllSeen entries new clause
met_keeps entries old new clause keeps analyzed lit stands place at =
    keeps place (analyzed lit stands place at)

-- one more literal, whose variable is seen where it is assigned
pub met_more : (entries : List Entry) (clause : List ℕ) (i lit : ℕ) (old new : List ℕ) → i < length clause → lit ≡ get_or clause i lit
    → ((place : ℕ) → Contains old place → Contains new place)
    → AreAllSeen entries old (take i clause)
    → ((place : ℕ) → StandsAt entries (variable lit) place → Contains new place)
    → AreAllSeen entries new (take (i + 1) clause)
met_more entries clause i lit old new lt is keeps before now other stands place at =
    old_or_new (Contains-push_cases (take i clause) lit other (subst (λ (xs : List ℕ). Contains xs other) grows stands))
  where
    grows : take (i + 1) clause ≡ take i clause ++ lit ∷ []
    grows = take_more clause i lit lt ∙ ap (λ z. take i clause ++ z ∷ []) (sym is)

    old_or_new : Contains (take i clause) other ⊎ (lit ≡ other) → Contains new place
    old_or_new (inl has) = keeps place (before other has place at)
    old_or_new (inr same) = now place (subst (λ z. StandsAt entries (variable z) place) (sym same) at)

pub met_whole : (entries : List Entry) (clause : List ℕ) (i : ℕ) (analyzed : List ℕ)
    → length clause ≤ i → AreAllSeen entries analyzed (take i clause)
    → AreAllSeen entries analyzed clause
met_whole entries clause i analyzed le before =
    subst (AreAllSeen entries analyzed) (take_all i clause le) before

pub met_none : (entries : List Entry) (analyzed : List ℕ) → AreAllSeen entries analyzed []
met_none entries analyzed lit (k, lt, is) place at = absurd (omega arith)

-- an assigned variable of the clause
pub place_of : (entries : List Entry) (clause : List ℕ) (i lit place : ℕ) → i < length clause → lit ≡ get_or clause i lit → StandsAt entries (variable lit) place → IsPlaceOf entries clause place
place_of entries clause i lit place lt is at = record {
  lit = lit;
  stands = subst (Contains clause) (sym is) (Contains-get_or clause i lit lt);
  at = at;
}
