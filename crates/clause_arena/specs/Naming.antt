-- How the names of clauses are kept.
use Rattle.std.specs.Prelude.{List, map, All}
use Rattle.sat_base.specs.declared.origins.Ref.{Ref}
use Rattle.clause_arena.specs.declared.names.Name.{Name}
use Rattle.clause_arena.specs.declared.names.Names.TheInside.{Inside}
use Rattle.clause_arena.specs.Named.{Named, ref_of, IsAmong}

abbrev pub named : List Ref → Name → Named
named listed name = record { tag = name.tag; origin = ref_of listed name.origin }

abbrev pub names_of : Inside → List Named
names_of a = map (named a.listed.items) a.names.items

abbrev pub AreAmong : Inside → Type 0
AreAmong a = All (λ name. IsAmong a.listed.items name.origin) a.names.items
