-- A decision keeps a trail founded, and what propagation adds above a level leaves completeness at that level.
use Rattle.std.proofs.Common.{◌≡◌, ◌≢◌, ◌∙◌, ℕ, ◌+◌, ◌-◌, ◌<◌, ◌≤◌, List, [], ◌∷◌, ◌++◌, length, take, refl, ap, subst, sym, inl, inr, arith, Option, None, Some, IfNone, IfSome}
use Rattle.std.specs.Prelude.{◌⊎◌, All, Contains, slice_index_or}
use Rattle.std.proofs.lemmas.Bool.{cases_lt}
use Rattle.std.proofs.lemmas.List.{length_push, get_or_push, get_or_append_left, take-append-le, take_all, take-take, get_or-take, get_or-map, length-map}
use Rattle.std.proofs.lemmas.List.Elements.{All-from_get_or, All-contains}
use Rattle.sat_base.proofs.Members.{All-from_members}
use Rattle.clause_arena.specs.Arena.{ArenaClause, no_clause, clause_at, lits_of_each}
use Rattle.trail_core.specs.Trail.{Entry, TrailView, IsTrail, no_entry, entry_at, lits_of, up_to}
use Rattle.trail_core.specs.UnderTrail.{IsFalseLit, IsFalseClause, IsOpenClause, IsComplete, IsForced, IsFounded, HasGrown}
use Rattle.trail_core.proofs.Levels.{up_to_all, up_to_front}
use Rattle.propagate.specs.Store.{HasSameClauses}
use Rattle.analyze.specs.Conflict.{IsReady, IsConflict}

old_entry : (t : List Entry) (e : Entry) (i : ℕ) → i < length t → entry_at (t ++ e ∷ []) i ≡ entry_at t i
old_entry t e i lt = get_or_append_left t (e ∷ []) no_entry i lt

new_entry : (t : List Entry) (e : Entry) (i : ℕ) → i ≡ length t → entry_at (t ++ e ∷ []) i ≡ e
new_entry t e i at = get_or_push t e no_entry i (sym at)

-- one more level with a decision
founded_decide : (clauses : List (List ℕ)) (t : List Entry) (depth : ℕ) (e : Entry) → IsFounded clauses t depth → All (λ x. x.level ≤ depth) t → e.level ≡ depth + 1 → e.reason ≡ None → IsFounded clauses (t ++ e ∷ []) (depth + 1)
founded_decide clauses t depth e founded below level free = record {
  begun = λ l above within. begun l above (cases_lt l (depth + 1)) within;
  first = λ i lt above alone. first i lt above alone (cases_lt i (length t));
  other = λ i k lt above before same. other i k lt above before same (cases_lt i (length t));
}
  where
    all : List Entry
    all = t ++ e ∷ []

    size : length all ≡ length t + 1
    size = length_push t e

    begun : (l : ℕ) → 0 < l → (l < depth + 1) ⊎ (depth + 1 ≤ l) → l ≤ depth + 1 → (place : ℕ) × (place < length all) × ((entry_at all place).level ≡ l)
    begun l above (inl low) within =
        let b = founded.begun l above (omega arith) in
        (b.0, omega (arith, b.1, size), ap (λ x. x.level) (old_entry t e b.0 b.1) ∙ b.2)
    begun l above (inr high) within = (length t, omega (arith, size), ap (λ x. x.level) (new_entry t e (length t) refl) ∙ level ∙ omega arith)

    first : (i : ℕ) → i < length all → 0 < (entry_at all i).level → ((k : ℕ) → k < i → (entry_at all k).level ≢ (entry_at all i).level) → (i < length t) ⊎ (length t ≤ i) → (entry_at all i).reason ≡ None
    first i lt above alone (inl old) =
        let here = old_entry t e i old in
        ap (λ x. x.reason) here ∙ founded.first i old (omega (arith, above, ap (λ x. x.level) here))
        (λ k before same. alone k before (ap (λ x. x.level) (old_entry t e k (omega arith)) ∙ same ∙ sym (ap (λ x. x.level) here)))
    first i lt above alone (inr new) = ap (λ x. x.reason) (new_entry t e i (omega (arith, size))) ∙ free

    other : (i k : ℕ) → i < length all → 0 < (entry_at all i).level → k < i → (entry_at all k).level ≡ (entry_at all i).level → (i < length t) ⊎ (length t ≤ i) → IsForced clauses (take i all) (entry_at all i)
    other i k lt above before same (inl old) =
        let here = old_entry t e i old in
        let f : IsForced clauses (take i t) (entry_at t i) = founded.other i k old (omega (arith, above, ap (λ x. x.level) here)) before (sym (ap (λ x. x.level) (old_entry t e k (omega arith))) ∙ same ∙ ap (λ x. x.level) here) in
        subst (λ (x : Entry). IsForced clauses (take i all) x) (sym here) (subst (λ (xs : List Entry). IsForced clauses xs (entry_at t i)) (sym (take-append-le i t (e ∷ []) (omega arith))) f)
    other i k lt above before same (inr new) =
        let low : (entry_at t k).level ≤ depth = below k no_entry (omega (arith, size)) in
        absurd (omega (arith, low, same, ap (λ x. x.level) (old_entry t e k (omega (arith, size))), ap (λ x. x.level) (new_entry t e i (omega (arith, size))), level))

-- a clause with the same literals is open too
open_same : (trues old new : List ℕ) → All (Contains new) old → All (Contains old) new → IsOpenClause trues old → IsOpenClause trues new
open_same trues old new kept no_more is = record {
  not_false = λ f. is.not_false (record { each = All-from_members (IsFalseLit trues) old (λ lit has. All-contains (IsFalseLit trues) new lit f.each (All-contains (Contains new) old lit kept has)) });
  not_unit = λ lit u. is.not_unit lit (record {
    free = u.free;
    rest = record { stands = All-contains (Contains old) new lit no_more u.rest.stands; others = λ other has differs. u.rest.others other (All-contains (Contains new) old other kept has) differs };
  });
}

-- what grew above the level leaves the literals up to it
front_same : (t all : List Entry) (depth : ℕ) → All (λ x. x.level ≤ depth) t → length t ≤ length all → take (length t) all ≡ t → ((i : ℕ) → length t ≤ i → i < length all → depth < (entry_at all i).level) → up_to depth all ≡ up_to depth t
front_same t all depth below longer front above =
    up_to_front depth all (length t) longer (subst (λ (xs : List Entry). All (λ x. x.level ≤ depth) xs) (sym front) below) above ∙ front ∙ sym (up_to_all depth t below)

complete_below : (old new : List ArenaClause) (t mid all : List Entry) (e : Entry) (depth : ℕ) → HasSameClauses old new → IsComplete t depth (lits_of_each old) → All (λ x. x.level ≤ depth) t → mid ≡ t ++ e ∷ [] → e.level ≡ depth + 1
    → HasGrown (lits_of_each new) (depth + 1) mid all → IsComplete all depth (lits_of_each new)
complete_below old new t mid all e depth same complete below pushed level grown = record {
  each = All-from_get_or (IsOpenClause (lits_of (up_to depth all))) (lits_of_each new) [] (λ id lt. at id (omega (arith, lt, length-map new (λ (c : ArenaClause). c.lits))));
}
  where
    size : length mid ≡ length t + 1
    size = ap length pushed ∙ length_push t e

    in_front : take (length t) all ≡ t
    in_front =
        sym (take-take (length t) (length mid) all (omega (arith, size))) ∙ ap (take (length t)) grown.before ∙ ap (take (length t)) pushed ∙ take-append-le (length t) t (e ∷ []) (omega arith) ∙ take_all (length t) t (omega arith)

    above : (i : ℕ) → length t ≤ i → i < length all → depth < (entry_at all i).level
    above i from to = by_place (cases_lt i (length mid))
      where
        by_place : (i < length mid) ⊎ (length mid ≤ i) → depth < (entry_at all i).level
        by_place (inl old') =
            let is : entry_at all i ≡ entry_at mid i = sym (get_or-take (length mid) all i no_entry old') ∙ ap (λ (xs : List Entry). entry_at xs i) grown.before in
            let new' : entry_at mid i ≡ e = ap (λ (xs : List Entry). entry_at xs i) pushed ∙ new_entry t e i (omega (arith, size)) in
            omega (arith, ap (λ x. x.level) is, ap (λ x. x.level) new', level)
        by_place (inr later) = omega (arith, grown.level i later to)

    literals : up_to depth all ≡ up_to depth t
    literals = front_same t all depth below (omega (arith, size, grown.longer)) in_front above

    at : (id : ℕ) → id < length new → IsOpenClause (lits_of (up_to depth all)) (slice_index_or (lits_of_each new) id [])
    at id lt =
        let known : id < length old = omega (arith, same.count) in
        let was : IsOpenClause (lits_of (up_to depth t)) (clause_at old id).lits =
        subst (IsOpenClause (lits_of (up_to depth t))) (get_or-map (λ (c : ArenaClause). c.lits) old id no_clause [] known) (complete.each id [] (omega (arith, length-map old (λ (c : ArenaClause). c.lits)))) in
        subst (λ (xs : List Entry). IsOpenClause (lits_of xs) (slice_index_or (lits_of_each new) id [])) (sym literals)
        (subst (IsOpenClause (lits_of (up_to depth t))) (sym (get_or-map (λ (c : ArenaClause). c.lits) new id no_clause [] lt))
        (open_same (lits_of (up_to depth t)) (clause_at old id).lits (clause_at new id).lits (same.each id known).kept (same.each id known).no_more was))

none_weaker : {X : Type 0} (o : Option X) (P Q : Type 0) → (P → Q) → IfNone o P → IfNone o Q
none_weaker None P Q f h = f h
none_weaker (Some x) P Q f h = h

some_both : {X : Type 0} (o : Option X) (P Q R : X → Type 0) → ((x : X) → P x → Q x → R x) → IfSome o P → IfSome o Q → IfSome o R
some_both None P Q R f p q = p
some_both (Some x) P Q R f p q = f x p q

-- the trail after a decision and propagation
founded_after : (clauses new : List (List ℕ)) (t opened mid all : List Entry) (depth depth' : ℕ) (e : Entry) → IsFounded clauses t depth → All (λ x. x.level ≤ depth) t → opened ≡ t → depth' ≡ depth + 1 → e.level ≡ depth' → e.reason ≡ None
    → mid ≡ opened ++ e ∷ [] → (IsFounded clauses mid depth' → IsFounded new all depth') → IsFounded new all depth'
founded_after clauses new t opened mid all depth depth' e founded below same deeper level free pushed grows =
    grows (subst (IsFounded clauses mid) (sym deeper)
    (subst (λ (xs : List Entry). IsFounded clauses xs (depth + 1)) (sym (pushed ∙ ap (λ (xs : List Entry). xs ++ e ∷ []) same)) (founded_decide clauses t depth e founded below (level ∙ deeper) free)))

-- the trail after a decision and propagation, apart from what propagation answers
pub record IsBelowDecision (clauses : List ArenaClause) (trail : TrailView) : Type 0 where
  pub founded : IsFounded (lits_of_each clauses) trail.entries trail.depth
  pub deep : 0 < trail.depth
  pub complete : IsComplete trail.entries (trail.depth - 1) (lits_of_each clauses)

pub below_decision : (old new : List ArenaClause) (before opened mid after : TrailView) (lit : ℕ) → IsReady old before → IsTrail before
    → opened.entries ≡ before.entries → opened.depth ≡ before.depth + 1
    → mid.entries ≡ opened.entries ++ record { lit = lit; level = opened.depth; reason = None } ∷ [] → mid.depth ≡ opened.depth
    → after.depth ≡ mid.depth → HasSameClauses old new → HasGrown (lits_of_each new) mid.depth mid.entries after.entries
    → (IsFounded (lits_of_each old) mid.entries mid.depth → IsFounded (lits_of_each new) after.entries mid.depth)
    → IsBelowDecision new after
below_decision old new before opened mid after lit ready is entries deeper pushed depth still same grown keeps = record {
  founded = subst (IsFounded (lits_of_each new) after.entries) (sym still)
      (founded_after (lits_of_each old) (lits_of_each new) before.entries opened.entries mid.entries after.entries before.depth mid.depth e ready.founded is.below entries (depth ∙ deeper) (sym depth) refl pushed keeps);
  deep = omega (arith, still, depth, deeper);
  complete = subst (λ d. IsComplete after.entries d (lits_of_each new)) (omega (arith, still, depth, deeper))
      (complete_below old new before.entries mid.entries after.entries e before.depth same ready.complete is.below (pushed ∙ ap (λ (xs : List Entry). xs ++ e ∷ []) entries) deeper
      (subst (λ d. HasGrown (lits_of_each new) d mid.entries after.entries) (depth ∙ deeper) grown));
}
  where
    e : Entry
    e = record { lit = lit; level = opened.depth; reason = None }

-- what propagation answers after the decision
pub ready_again : (clauses : List ArenaClause) (trail : TrailView) (answer : Option ℕ) → IsBelowDecision clauses trail
    → IfNone answer (IsComplete trail.entries trail.depth (lits_of_each clauses)) → IfNone answer (IsReady clauses trail)
ready_again clauses trail answer below =
    none_weaker answer (IsComplete trail.entries trail.depth (lits_of_each clauses)) (IsReady clauses trail)
    (λ complete. record { founded = below.founded; complete = complete })

pub conflict_then : (clauses : List ArenaClause) (trail : TrailView) (answer : Option ℕ) → IsBelowDecision clauses trail
    → IfSome answer (λ id. id < length clauses) → IfSome answer (λ id. IsFalseClause (lits_of trail.entries) (clause_at clauses id).lits)
    → IfSome answer (IsConflict clauses trail)
conflict_then clauses trail answer below =
    some_both answer (λ id. id < length clauses) (λ id. IsFalseClause (lits_of trail.entries) (clause_at clauses id).lits) (IsConflict clauses trail)
    (λ id known refuted. record { founded = below.founded; deep = below.deep; complete = below.complete; known = known; refuted = refuted })
