-- What holds of each clause holds of each one that is kept, and those are no more.
use Rattle.std.proofs.Common.{◌≤◌, Bool, true, false, List, [], ◌∷◌, length, arith}
use Rattle.std.specs.Prelude.{All}
use Rattle.std.proofs.lemmas.List.Elements.{All-head, All-tail, All-cons}
use Rattle.clause_arena.specs.Arena.{ArenaClause}
use Rattle.clause_arena.specs.Kept.{kept_of}

pub kept_all : (P : ArenaClause → Type 0) → (keep : List Bool) (clauses : List ArenaClause) → All P clauses → All P (kept_of keep clauses)
kept_all P [] clauses all = λ k d lt. absurd (omega (arith, lt))
kept_all P (stays ∷ keep) [] all = λ k d lt. absurd (omega (arith, lt))
kept_all P (true ∷ keep) (c ∷ clauses) all = All-cons P c (kept_of keep clauses) (All-head P c clauses all) (kept_all P keep clauses (All-tail P c clauses all))
kept_all P (false ∷ keep) (c ∷ clauses) all = kept_all P keep clauses (All-tail P c clauses all)

pub kept_fewer : (keep : List Bool) (clauses : List ArenaClause) → length (kept_of keep clauses) ≤ length clauses
kept_fewer [] clauses = omega arith
kept_fewer (stays ∷ keep) [] = omega arith
kept_fewer (true ∷ keep) (c ∷ clauses) = let h = kept_fewer keep clauses in omega (arith, h)
kept_fewer (false ∷ keep) (c ∷ clauses) = let h = kept_fewer keep clauses in omega (arith, h)
