-- How the lists are kept: a link to the first side for each literal, and one to the next side for
-- each side.
use Rattle.std.specs.Prelude.{◌≡◌, ℕ, zero, suc, ◌+◌, ◌*◌, ◌<◌, ◌≤◌, min, max, List, [], ◌∷◌}
use Rattle.std.specs.Prelude.{length, map}
use Rattle.std.specs.Prelude.{slice_index_or, Option, None, Some}
use Rattle.watch_ring.specs.declared.ring.WatchRing.TheInside.{Inside}
use Rattle.watch_ring.specs.Ring.{RingView, list_of, AreDisjoint}

abbrev pub link_at : List (Option ℕ) → ℕ → Option ℕ
link_at links number = slice_index_or links number None

-- the numbers on the way along the links, so many at most
abbrev pub walk : List (Option ℕ) → ℕ → Option ℕ → List ℕ
walk links zero link = []
walk links (suc n) None = []
walk links (suc n) (Some number) = number ∷ walk links n (link_at links number)

-- no list has more sides than there are links
abbrev pub linked : List (Option ℕ) → List (Option ℕ) → ℕ → ℕ → RingView
linked heads links vars clauses = record {
  lists = map (walk links (length links)) heads;
  vars = vars;
  clauses = clauses;
}

abbrev pub ring_of : Inside → RingView
ring_of a = linked a.heads.items a.links.items a.vars a.clauses

-- the way along the links from this one goes through exactly these numbers, to its end
abbrev pub IsChain : List (Option ℕ) → Option ℕ → List ℕ → Type 0
IsChain links link [] = link ≡ None
IsChain links link (number ∷ numbers) =
    (link ≡ Some number) × IsChain links (link_at links number) numbers

-- the lists are the ways from the heads, and no two of them meet
pub record AreChains (heads links : List (Option ℕ)) (list : ℕ → List ℕ) (clauses : ℕ)
    : Type 0 where
  pub chained : (lit : ℕ) → IsChain links (link_at heads lit) (list lit)
  pub disjoint : AreDisjoint list clauses

pub record HasRoom (heads links : List (Option ℕ)) (vars clauses : ℕ) : Type 0 where
  pub heads_for : (lit : ℕ) → lit < 2 * min vars 8388607 + 2 → 2 ≤ lit → lit < length heads
  pub links_for : 2 * clauses ≤ length links
  pub few : length links ≤ 4294967294

pub record IsKeptIn (heads links : List (Option ℕ)) (vars clauses : ℕ) : Type 0 where
  pub chains : AreChains heads links (list_of (linked heads links vars clauses)) clauses
  pub room : HasRoom heads links vars clauses

abbrev pub IsKept : Inside → Type 0
IsKept a = IsKeptIn a.heads.items a.links.items a.vars a.clauses

-- the same links, with further ones to nothing, so many at most
pub record IsExtended (old new : List (Option ℕ)) (len : ℕ) : Type 0 where
  pub same : (i : ℕ) → link_at new i ≡ link_at old i
  pub longer : length old ≤ length new
  pub few : length new ≤ max (length old) len
