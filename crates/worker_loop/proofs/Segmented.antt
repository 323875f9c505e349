-- Jobs of a journal, taken from it in order.
use Rattle.std.proofs.Common.{◌≡◌, ◌∙◌, ℕ, ◌+◌, ◌-◌, ◌<◌, ◌≤◌, Bool, true, false, List, [], ◌∷◌, ◌++◌, map, length, get_or, Some, refl, ap, sym, subst, arith}
use Rattle.std.specs.Prelude.{nat_le, option_map, slice_get, IsSome, OnOk, Result, Ok, Err}
use Rattle.std.specs.Arc.{arc_value}
use Rattle.std.specs.declared.sync.Arc.{Arc}
use Rattle.std.specs.declared.alloc.Global.{Global}
use Rattle.std.proofs.lemmas.Bool.Decides.{nat_tests}
use Rattle.std.proofs.lemmas.List.{length_push}
use Rattle.std.proofs.lemmas.Option.{slice_get-get_or}
use Rattle.trace_core.specs.Known.{item_at}
use Rattle.trace_core.proofs.Items.{item_at-is, item_at-last, item_at-map, item_at-within, item_at-kept as item_kept}
use Rattle.entry_core.specs.declared.entries.Entry.{Entry}
use Rattle.entry_core.specs.declared.segments.Segment.{Segment}
use Rattle.entry_core.specs.Journal.{segments}
use Rattle.worker_loop.specs.declared.bench.Bench.{Bench}
use Rattle.worker_loop.specs.Fits.{Fits}
use Rattle.worker_loop.specs.Segments.{AreSegments}

pub no_segments : (journal : List Entry) (from : ℕ) → AreSegments journal from []
no_segments journal from k segment is = absurd (let within = item_at-within {X = Segment} [] k (subst IsSome (sym is) refl) in omega (arith, within.0, within.1))

pub segments_more : (journal : List Entry) (from place : ℕ) (found : List Segment) (segment : Segment) → AreSegments journal from found → place ≡ from + length found + 1
    → item_at (segments journal) place ≡ Some segment → AreSegments journal from (found ++ segment ∷ [])
segments_more journal from place found segment are next is k other at = by_place (nat_le k (length found)) refl
  where
    by_place : (b : Bool) → nat_le k (length found) ≡ b → item_at (segments journal) (from + k) ≡ Some other
    by_place true test = are k other (sym (item_kept found (segment ∷ []) k (let le : k ≤ length found = grind (arith, nat_tests) in le)) ∙ at)
    by_place false test =
        let within = item_at-within (found ++ segment ∷ []) k (subst IsSome (sym at) refl) in
        let top = length_push found segment in
        let to = within.1 in
        let last : k ≡ length found + 1 = grind (arith, nat_tests) in
        ap (item_at (segments journal)) (let e : from + k ≡ place = omega (arith, last, next) in e) ∙ is ∙ sym (item_at-last found segment k last) ∙ at

-- the item at a place of a list
pub item_here : {X : Type 0} (xs : List X) (i : ℕ) (d : X) → i < length xs → item_at xs (i + 1) ≡ Some (get_or xs i d)
item_here xs i d lt =
    item_at-is xs (i + 1) (omega arith) ∙ ap (slice_get xs) (let e : i + 1 - 1 ≡ i = omega arith in e) ∙ slice_get-get_or xs i d lt

-- the next segment is that of the job behind those that are loaded
pub next_there : (journal : List Entry) (from i : ℕ) (found : List (Arc Segment Global)) (d : Arc Segment Global) → i < length found → AreSegments journal from (map arc_value found)
    → item_at (segments journal) (from + i + 1) ≡ Some (arc_value (get_or found i d))
next_there journal from i found d lt are =
    ap (item_at (segments journal)) (let e : from + i + 1 ≡ from + (i + 1) = omega arith in e)
    ∙ are (i + 1) (arc_value (get_or found i d)) (item_at-map arc_value found (i + 1) ∙ ap (λ o. option_map arc_value o) (item_here found i d lt))

-- a bench with the jobs that were taken fits
pub loaded_fit : (old new : Bench) (journal : List Entry) (from : ℕ) (found shown : List (Arc Segment Global)) → from ≡ old.session.solver.bound → shown ≡ found → AreSegments journal from (map arc_value found)
    → Fits old journal → ((j : List Entry) → Fits old j → AreSegments j old.session.solver.bound (map arc_value shown) → Fits new j) → Fits new journal
loaded_fit old new journal from found shown at same are fits loads =
    loads journal fits (subst (λ n. AreSegments journal n (map arc_value shown)) at
    (subst (λ (all : List (Arc Segment Global)). AreSegments journal from (map arc_value all)) (sym same) are))

pub holds_on_ok : {X E : Type 0} (r : Result X E) (P : Type 0) → P → OnOk r P
holds_on_ok (Ok x) P holds = holds
holds_on_ok (Err e) P holds = tt
