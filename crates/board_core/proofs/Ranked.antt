-- The ranks of jobs.
use Rattle.std.proofs.Common.{◌≡◌, ◌∙◌, ℕ, zero, suc, ◌+◌, Some, List, [], ◌∷◌, ◌++◌, length, refl, ap, arith}
use Rattle.std.specs.Prelude.{slice_get, slice_set, option_map}
use Rattle.board_core.specs.declared.index.JobState.{JobState}
use Rattle.board_core.specs.Index.{rank_of, ranks_from}

pub ranks_push : (most first : ℕ) (states : List JobState) (state : JobState) → ranks_from most first (states ++ state ∷ []) ≡ ranks_from most first states ++ rank_of most (first + length states) state ∷ []
ranks_push most first [] state = let e : first ≡ first + 0 = omega arith in ap (λ n. rank_of most n state ∷ []) e
ranks_push most first (other ∷ rest) state =
    let e : suc first + length rest ≡ first + length (other ∷ rest) = omega arith in
    ap (λ all. rank_of most first other ∷ all) (ranks_push most (suc first) rest state ∙ ap (λ n. ranks_from most (suc first) rest ++ rank_of most n state ∷ []) e)

pub ranks_set : (most first : ℕ) (states : List JobState) (place : ℕ) (state : JobState) → ranks_from most first (slice_set states place state) ≡ slice_set (ranks_from most first states) place (rank_of most (first + place) state)
ranks_set most first [] place state = refl
ranks_set most first (other ∷ rest) zero state = let e : first ≡ first + 0 = omega arith in ap (λ n. rank_of most n state ∷ ranks_from most (suc first) rest) e
ranks_set most first (other ∷ rest) (suc place) state =
    let e : suc first + place ≡ first + suc place = omega arith in
    ap (λ all. rank_of most first other ∷ all) (ranks_set most (suc first) rest place state ∙ ap (λ n. slice_set (ranks_from most (suc first) rest) place (rank_of most n state)) e)

pub ranks_get : (most first : ℕ) (states : List JobState) (place : ℕ) → slice_get (ranks_from most first states) place ≡ option_map (rank_of most (first + place)) (slice_get states place)
ranks_get most first [] place = refl
ranks_get most first (other ∷ rest) zero = let e : first ≡ first + 0 = omega arith in ap (λ n. Some (rank_of most n other)) e
ranks_get most first (other ∷ rest) (suc place) =
    let e : suc first + place ≡ first + suc place = omega arith in ranks_get most (suc first) rest place ∙ ap (λ n. option_map (rank_of most n) (slice_get rest place)) e

pub ranks_length : (most first : ℕ) (states : List JobState) → length (ranks_from most first states) ≡ length states
ranks_length most first [] = refl
ranks_length most first (state ∷ rest) = ap suc (ranks_length most (suc first) rest)
