-- Names of clauses, and their forms of eight bytes.
use Rattle.std.specs.Prelude.{ℕ, ◌<◌, List, length, slice_index_or}
use Rattle.sat_base.specs.declared.origins.Ref.{Ref}
use Rattle.sat_base.specs.declared.origins.Ref.TheVariants as name
use Rattle.clause_arena.specs.declared.names.Origin.{Origin}
use Rattle.clause_arena.specs.declared.names.Origin.TheVariants.{Input, Own, Shared, Listed}

-- the tag of a clause, and the name by which derivations cite it
pub record Named : Type 0 where
  pub tag : ℕ
  pub origin : Ref

abbrev pub named_at : List Named → ℕ → Named
named_at names id = slice_index_or names id (record { tag = 0; origin = name.Own 0 })

-- the name that an origin stands for, where these are the listed names
abbrev pub ref_of : List Ref → Origin → Ref
ref_of listed (Input number) = name.Input number
ref_of listed (Own number) = name.Own number
ref_of listed (Shared step packet) = name.Shared packet step
ref_of listed (Listed place) = slice_index_or listed place (name.Own 0)

-- an origin that says that its name is listed says where
abbrev pub IsAmong : List Ref → Origin → Type 0
IsAmong listed (Input _) = Unit {0}
IsAmong listed (Own _) = Unit {0}
IsAmong listed (Shared _ _) = Unit {0}
IsAmong listed (Listed place) = place < length listed

-- the name isn't listed
abbrev pub IsPlain : Origin → Type 0
IsPlain (Input _) = Unit {0}
IsPlain (Own _) = Unit {0}
IsPlain (Shared _ _) = Unit {0}
IsPlain (Listed _) = ⊥
