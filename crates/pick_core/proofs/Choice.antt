-- A variable is assigned, or it is free.
use Rattle.std.proofs.Common.{◌≡◌, ◌∙◌, ℕ, zero, suc, List, [], ◌∷◌, ◌++◌, ap, inl, inr, arith}
use Rattle.std.specs.Prelude.{◌⊎◌}
use Rattle.std.proofs.lemmas.Bool.{cases_eq}
use Rattle.std.proofs.lemmas.List.{length-append, get_or_append_left}
use Rattle.sat_base.specs.Lit.{variable}
use Rattle.trail_core.specs.Trail.{Entry, StandsAt, IsFree, no_entry}
use Rattle.pick_core.specs.Assigned.{IsAssigned}

pub assigned_or_free : (entries : List Entry) (var : ℕ) → IsAssigned entries var ⊎ IsFree entries var
assigned_or_free [] var = inr (record { none = λ place s. omega (arith, s.within) })
assigned_or_free (entry ∷ entries) var = by (cases_eq (variable entry.lit) var) (assigned_or_free entries var)
  where
    none : (variable entry.lit ≡ var → ⊥) → IsFree entries var → (place : ℕ) → StandsAt (entry ∷ entries) var place → ⊥
    none n f zero s = n s.is
    none n f (suc k) s = f.none k (record { within = omega (arith, s.within); is = s.is })

    by : (variable entry.lit ≡ var) ⊎ (variable entry.lit ≡ var → ⊥) → IsAssigned entries var ⊎ IsFree entries var → IsAssigned (entry ∷ entries) var ⊎ IsFree (entry ∷ entries) var
    by (inl e) _ = inl (record { place = 0; stands = record { within = omega arith; is = e } })
    by (inr n) (inl a) = inl (record { place = suc a.place; stands = record { within = omega (arith, a.stands.within); is = a.stands.is } })
    by (inr n) (inr f) = inr (record { none = none n f })

pub is_assigned_where_not_free : (entries : List Entry) (var : ℕ) → (IsFree entries var → ⊥) → IsAssigned entries var
is_assigned_where_not_free entries var n = by (assigned_or_free entries var)
  where
    by : IsAssigned entries var ⊎ IsFree entries var → IsAssigned entries var
    by (inl a) = a
    by (inr f) = absurd (n f)

-- while literals are added
stands_on : (entries more : List Entry) (var place : ℕ) → StandsAt entries var place
    → StandsAt (entries ++ more) var place
stands_on entries more var place s = record {
  within = omega (arith, s.within, length-append entries more);
  is = ap (λ (e : Entry). variable e.lit)
      (get_or_append_left entries more no_entry place s.within) ∙ s.is;
}

pub stays_assigned : (entries more : List Entry) (var : ℕ) → IsAssigned entries var
    → IsAssigned (entries ++ more) var
stays_assigned entries more var a = record {
  place = a.place;
  stands = stands_on entries more var a.place a.stands;
}

pub free_before : (entries more : List Entry) (var : ℕ) → IsFree (entries ++ more) var
    → IsFree entries var
free_before entries more var f = record {
  none = λ place s. f.none place (stands_on entries more var place s);
}
