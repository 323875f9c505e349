-- Names beside a list that grows.
use Rattle.std.proofs.Common.{◌≡◌, ◌∙◌, ℕ, ◌≤◌, List, [], ◌∷◌, ◌++◌, map, length, take, refl, ap, sym, arith, get_or}
use Rattle.std.specs.Prelude.{All}
use Rattle.std.proofs.lemmas.List.{get_or-take, length-take, map_push}
use Rattle.std.proofs.lemmas.List.Elements.{All-weaker, All-head, All-tail}
use Rattle.sat_base.specs.declared.origins.Ref.{Ref}
use Rattle.sat_base.specs.declared.origins.Ref.TheVariants as name
use Rattle.clause_arena.specs.declared.names.Origin.{Origin}
use Rattle.clause_arena.specs.declared.names.Origin.TheVariants.{Input, Own, Shared, Listed}
use Rattle.clause_arena.specs.declared.names.Name.{Name}
use Rattle.clause_arena.specs.Named.{Named, ref_of, IsAmong}
use Rattle.clause_arena.specs.Naming.{named}

pub record IsLonger (old new : List Ref) : Type 0 where
  pub front : take (length old) new ≡ old

longer : (old new : List Ref) → IsLonger old new → length old ≤ length new
longer old new h = omega (arith, ap length h.front, length-take (length old) new)

pub among_kept : (old new : List Ref) → IsLonger old new → (origin : Origin) → IsAmong old origin → IsAmong new origin
among_kept old new h (Input _) a = tt
among_kept old new h (Own _) a = tt
among_kept old new h (Shared _ _) a = tt
among_kept old new h (Listed place) a = let k = longer old new h in omega arith

pub ref_kept : (old new : List Ref) → IsLonger old new → (origin : Origin) → IsAmong old origin → ref_of new origin ≡ ref_of old origin
ref_kept old new h (Input _) a = refl
ref_kept old new h (Own _) a = refl
ref_kept old new h (Shared _ _) a = refl
ref_kept old new h (Listed place) a =
    sym (get_or-take (length old) new place (name.Own 0) a) ∙ ap (λ (xs : List Ref). get_or xs place (name.Own 0)) h.front

pub all_among : (old new : List Ref) (names : List Name) → IsLonger old new → All (λ name. IsAmong old name.origin) names → All (λ name. IsAmong new name.origin) names
all_among old new names h all = All-weaker (λ name. IsAmong old name.origin) (λ name. IsAmong new name.origin) (λ name a. among_kept old new h name.origin a) names all

named_kept : (old new : List Ref) → IsLonger old new → (name : Name) → IsAmong old name.origin → named new name ≡ named old name
named_kept old new h name a = let f : Ref → Named = λ origin. record { tag = name.tag; origin = origin } in ap f (ref_kept old new h name.origin a)

pub names_kept : (old new : List Ref) (names : List Name) → IsLonger old new → All (λ name. IsAmong old name.origin) names → map (named new) names ≡ map (named old) names
names_kept old new [] h all = refl
names_kept old new (name ∷ names) h all =
    let P : Name → Type 0 = λ n. IsAmong old n.origin in
    ap (λ x. x ∷ map (named new) names) (named_kept old new h name (All-head P name names all))
    ∙ ap (λ xs. named old name ∷ xs) (names_kept old new names h (All-tail P name names all))

-- one more name
pub names_pushed : (old new : List Ref) (names names' : List Name) (name : Name) (whole : List Named) (tag : ℕ) (origin : Ref) → IsLonger old new → All (λ n. IsAmong old n.origin) names → map (named old) names ≡ whole → names' ≡ names ++ name ∷ [] → name.tag ≡ tag → ref_of new name.origin ≡ origin → map (named new) names' ≡ whole ++ record { tag = tag; origin = origin } ∷ []
names_pushed old new names names' name whole tag origin h all is pushed tag_is origin_is =
    let f : ℕ → Ref → Named = λ t o. record { tag = t; origin = o } in
    ap (map (named new)) pushed
    ∙ map_push (named new) names name
    ∙ ap (λ xs. xs ++ named new name ∷ []) (names_kept old new names h all ∙ is)
    ∙ ap (λ x. whole ++ x ∷ []) (ap (λ t. f t (ref_of new name.origin)) tag_is ∙ ap (f tag) origin_is)
