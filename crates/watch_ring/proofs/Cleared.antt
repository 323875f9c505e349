-- The ring without a side in its lists.
use Rattle.std.proofs.Common.{◌≡◌, ◌∙◌, ℕ, ◌<◌, ◌≤◌, List, [], length, refl, ap, subst, sym, inl, inr, arith, replicate}
use Rattle.std.specs.Prelude.{◌⊎◌, Option, None}
use Rattle.std.proofs.lemmas.Bool.{cases_lt}
use Rattle.std.proofs.lemmas.List.{get_or-replicate, length-replicate}
use Rattle.std.proofs.Math.ListN.{get_or-eq_default}
use Rattle.watch_ring.specs.Ring.{list_of}
use Rattle.watch_ring.specs.Layout.{link_at, linked, AreChains, HasRoom, IsKeptIn}
use Rattle.watch_ring.proofs.Kept.{same_room}
use Rattle.watch_ring.proofs.Steps.{kept, lists_are}

no_head : (n lit : ℕ) → link_at (replicate n None) lit ≡ None
no_head n lit = by (cases_lt lit n)
  where
    heads : List (Option ℕ)
    heads = replicate n None

    none : Option ℕ
    none = None

    by : (lit < n) ⊎ (n ≤ lit) → link_at (replicate n None) lit ≡ None
    by (inl lt) = get_or-replicate n lit None None lt
    by (inr le) = get_or-eq_default heads None (omega (arith, le, length-replicate n none))

pub cleared : (n : ℕ) (links : List (Option ℕ)) (clauses : ℕ) → AreChains (replicate n None) links (λ lit. []) clauses
cleared n links clauses = record {
  chained = λ lit. no_head n lit;
  disjoint = record {
    below = λ lit number h. absurd (omega (arith, h.1));
    once = λ lit. tt;
    apart = λ lit other number h k. absurd (omega (arith, h.1));
  };
}

-- all of the ring's own fields, where each head is nothing
pub cleared_in : (heads heads' links : List (Option ℕ)) (none : Option ℕ) (vars clauses n : ℕ) → HasRoom heads links vars clauses → none ≡ None → n ≡ length heads → heads' ≡ replicate n none → IsKeptIn heads' links vars clauses × ((lit : ℕ) → list_of (linked heads' links vars clauses) lit ≡ [])
cleared_in heads heads' links none vars clauses n room none_is n_is all =
    let is : heads' ≡ replicate n None = all ∙ ap (replicate n) none_is in
    let chains : AreChains heads' links (λ lit. []) clauses = subst (λ (hs : List (Option ℕ)). AreChains hs links (λ lit. []) clauses) (sym is) (cleared n links clauses) in
    let size : length heads' ≡ length heads = ap (λ (hs : List (Option ℕ)). length hs) all ∙ length-replicate n none ∙ n_is in
    let same = same_room heads links heads' links vars clauses room size refl in
    (kept heads' links vars clauses (λ lit. []) chains same, lists_are heads' links vars clauses (λ lit. []) chains same.links_for)
