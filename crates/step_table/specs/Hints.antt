-- How names are kept.
use Rattle.std.specs.Prelude.{List, map, All}
use Rattle.sat_base.specs.declared.origins.Ref.{Ref}
use Rattle.step_table.specs.declared.hints.HintTable.TheInside.{Inside}
use Rattle.step_table.specs.Hint.{IsAmong, ref_of}

abbrev pub names_of : Inside → List Ref
names_of a = map (ref_of a.listed.items) a.codes.items

abbrev pub AreAmong : Inside → Type 0
AreAmong a = All (IsAmong a.listed.items) a.codes.items
