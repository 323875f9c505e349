-- Clauses that are kept while others are thrown away.
use Rattle.std.specs.Prelude.{Bool, List, [], ◌∷◌, if◌then◌else◌}
use Rattle.clause_arena.specs.Arena.{ArenaClause}

-- the clauses that have true at their number, in order
abbrev pub kept_of : List Bool → List ArenaClause → List ArenaClause
kept_of [] clauses = []
kept_of (stays ∷ keep) [] = []
kept_of (stays ∷ keep) (clause ∷ clauses) =
    if stays then clause ∷ kept_of keep clauses else kept_of keep clauses
