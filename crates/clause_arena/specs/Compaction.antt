-- How far an arena is whose kept clauses move down within their block.
use Rattle.std.specs.Prelude.{◌≡◌, ℕ, ◌+◌, ◌<◌, ◌≤◌, Bool, List, length, take, drop, slice_index}
use Rattle.clause_arena.specs.Named.{Named, named_at}
use Rattle.clause_arena.specs.Layout.{laid_clauses, IsLaidOut}
use Rattle.clause_arena.specs.Kept.{kept_of}

-- The kept ones of the clauses below `id` lie in front, and there are `kept` of them. The literals
-- from `start` on, where the clause `id` begins, with the bounds and names from there on, are as
-- they were.
pub record IsUnderway (lits bounds : List ℕ) (names : List Named) (keep : List Bool)
    (id kept start : ℕ) (lits' bounds' : List ℕ) (names' : List Named) : Type 0 where
  pub laid : IsLaidOut lits' (take (kept + 1) bounds') names'
  pub is : laid_clauses lits' (take (kept + 1) bounds') names'
      ≡ kept_of (take id keep) (laid_clauses lits bounds names)
  pub below : kept ≤ id
  pub behind : slice_index bounds' kept ≤ start
  pub start_is : start ≡ slice_index bounds id
  pub same_lits : drop start lits' ≡ drop start lits
  pub same_bounds : (i : ℕ) → id < i → slice_index bounds' i ≡ slice_index bounds i
  pub same_names : (i : ℕ) → id ≤ i → named_at names' i ≡ named_at names i
  pub size_lits : length lits' ≡ length lits
  pub size_bounds : length bounds' ≡ length bounds
  pub size_names : length names' ≡ length names

-- the clause `id` can move down: what a step of it reads and writes stands there
pub record CanMove (lits bounds : List ℕ) (names : List Named) (id kept start : ℕ)
    : Type 0 where
  pub below : kept ≤ id
  pub known : id + 1 < length bounds
  pub named : id < length names
  pub behind : slice_index bounds kept ≤ start
  pub ordered : start ≤ slice_index bounds (id + 1)
  pub within : slice_index bounds (id + 1) ≤ length lits
