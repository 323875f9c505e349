-- Unit propagation over the clauses of places in ascending order: each adds its literal, and the last clause is falsified.
use Rattle.std.proofs.Common.{◌≡◌, ◌≢◌, ◌∙◌, ℕ, ◌<◌, ◌≤◌, List, [], ◌∷◌, ◌++◌, map, length, refl, ap, subst, inl, inr, arith}
use Rattle.std.specs.Prelude.{Contains, ◌⊎◌}
use Rattle.std.specs.List.Sorted.{IsStrictlySortedBy}
use Rattle.std.specs.Ordering.{nat_cmp}
use Rattle.std.specs.declared.cmp.Ordering.TheVariants.{Less}
use Rattle.std.proofs.lemmas.Bool.Decides.{nat_tests}
use Rattle.std.proofs.lemmas.List.Elements.{All-contains, Contains-push, Contains-push_cases, Contains-append_left}
use Rattle.std.proofs.lemmas.Map.Keys.{sorted_tail}
use Rattle.std.proofs.lemmas.Map.Views.{All-after_first}
use Rattle.sat_base.specs.Lit.{variable, opposite}
use Rattle.sat_base.proofs.Members.{Contains-here, Contains-there, Contains-cases}
use Rattle.trace_core.specs.Propagation.{IsUnit, ReachesConflict}
use Rattle.trail_core.specs.Trail.{Entry, TrailView, IsTrail, lits_of}
use Rattle.analyze.specs.Graph.{lit_at}
use Rattle.analyze.proofs.Forced.{true_at}

-- each is below those after it
abbrev pub Ascends : List ℕ → Type 0
Ascends [] = Unit {0}
Ascends (place ∷ places) = ((other : ℕ) → Contains places other → place < other) × Ascends places

cmp_less : (a b : ℕ) → nat_cmp a b ≡ Less → a < b
cmp_less a b h = grind (arith, nat_tests)

pub ascends : (places : List ℕ) → IsStrictlySortedBy nat_cmp places → Ascends places
ascends [] sorted = tt
ascends (place ∷ places) sorted = (
  λ other has. cmp_less place other (All-contains (λ q. nat_cmp place q ≡ Less) places other (All-after_first nat_cmp place places sorted) has),
  ascends places (sorted_tail nat_cmp place places sorted),
)

-- the literal at the place holds, or a place of the list will add it
abbrev pub IsSettled : List Entry → List ℕ → List ℕ → ℕ → Type 0
IsSettled entries set places place = Contains set (lit_at entries place) ⊎ Contains places place

-- the negation of the literal holds, or a place of the list will add it
abbrev pub IsRefutable : List Entry → List ℕ → List ℕ → ℕ → Type 0
IsRefutable entries set places lit = Contains set (opposite lit) ⊎ ((place : ℕ) × Contains places place × (lit_at entries place ≡ opposite lit))

-- The clause of a place has its literal, which doesn't hold yet; its other literals are false at settled places before.
pub record Adds (entries : List Entry) (clause set places : List ℕ) (place : ℕ) : Type 0 where
  pub within : place < length entries
  pub stands : Contains clause (lit_at entries place)
  pub others : (lit : ℕ) → Contains clause lit → lit ≢ lit_at entries place → (k : ℕ) × (k < place) × (lit_at entries k ≡ opposite lit) × IsSettled entries set places k
  pub not_true : ¬ Contains set (lit_at entries place)
  pub not_false : ¬ Contains set (opposite (lit_at entries place))

-- the first place adds its literal
adds_first : (entries : List Entry) (clause set places : List ℕ) (place : ℕ) → Ascends (place ∷ places) → Adds entries clause set (place ∷ places) place → IsUnit set clause (lit_at entries place)
adds_first entries clause set places place up adds = record {
  stands = adds.stands;
  not_false = adds.not_false;
  not_true = adds.not_true;
  others_false = λ lit has differs. by_place lit (adds.others lit has differs);
}
  where
    in_set : (lit k : ℕ) → k < place → lit_at entries k ≡ opposite lit → Contains set (lit_at entries k) ⊎ Contains (place ∷ places) k → Contains set (opposite lit)
    in_set lit k lt is (inl holds) = subst (Contains set) is holds
    in_set lit k lt is (inr later) = absurd (never (Contains-cases place k places later))
      where
        never : (place ≡ k) ⊎ Contains places k → ⊥
        never (inl same) = omega arith
        never (inr after) = let h = up.0 k after in omega arith

    by_place : (lit : ℕ) → ((k : ℕ) × (k < place) × (lit_at entries k ≡ opposite lit) × IsSettled entries set (place ∷ places) k) → Contains set (opposite lit)
    by_place lit at = in_set lit at.0 at.1 at.2 at.3

settled_next : (entries : List Entry) (set places : List ℕ) (place k : ℕ) → IsSettled entries set (place ∷ places) k → IsSettled entries (set ++ lit_at entries place ∷ []) places k
settled_next entries set places place k (inl holds) = inl (Contains-append_left set (lit_at entries place ∷ []) (lit_at entries k) holds)
settled_next entries set places place k (inr later) = here_or_after (Contains-cases place k places later)
  where
    here_or_after : (place ≡ k) ⊎ Contains places k → IsSettled entries (set ++ lit_at entries place ∷ []) places k
    here_or_after (inl same) = inl (subst (λ n. Contains (set ++ lit_at entries place ∷ []) (lit_at entries n)) same (Contains-push set (lit_at entries place)))
    here_or_after (inr after) = inr after

refutable_next : (entries : List Entry) (set places : List ℕ) (place lit : ℕ) → IsRefutable entries set (place ∷ places) lit → IsRefutable entries (set ++ lit_at entries place ∷ []) places lit
refutable_next entries set places place lit (inl holds) = inl (Contains-append_left set (lit_at entries place ∷ []) (opposite lit) holds)
refutable_next entries set places place lit (inr later) = here_or_after (Contains-cases place later.0 places later.1)
  where
    here_or_after : (place ≡ later.0) ⊎ Contains places later.0 → IsRefutable entries (set ++ lit_at entries place ∷ []) places lit
    here_or_after (inl same) = inl (subst (Contains (set ++ lit_at entries place ∷ [])) (ap (lit_at entries) same ∙ later.2) (Contains-push set (lit_at entries place)))
    here_or_after (inr after) = inr (later.0, after, later.2)

-- a later place still adds its literal once the first one has added its own
adds_next : (trail : TrailView) (clause set places : List ℕ) (place later : ℕ) → IsTrail trail → place < length trail.entries → place < later → Adds trail.entries clause set (place ∷ places) later
    → Adds trail.entries clause (set ++ lit_at trail.entries place ∷ []) places later
adds_next trail clause set places place later is within lt adds = record {
  within = adds.within;
  stands = adds.stands;
  others = λ lit has differs. let at = adds.others lit has differs in (at.0, at.1, at.2, settled_next trail.entries set places place at.0 at.3);
  not_true = λ has. same_lit (Contains-push_cases set (lit_at trail.entries place) (lit_at trail.entries later) has);
  not_false = λ has. opposite_lit (Contains-push_cases set (lit_at trail.entries place) (opposite (lit_at trail.entries later)) has);
}
  where
    same_lit : Contains set (lit_at trail.entries later) ⊎ (lit_at trail.entries place ≡ lit_at trail.entries later) → ⊥
    same_lit (inl holds) = adds.not_true holds
    same_lit (inr same) =
        let e : place ≡ later = is.once (variable (lit_at trail.entries later)) place later (record { within = within; is = ap variable same }) (record { within = adds.within; is = refl }) in
        omega arith

    opposite_lit : Contains set (opposite (lit_at trail.entries later)) ⊎ (lit_at trail.entries place ≡ opposite (lit_at trail.entries later)) → ⊥
    opposite_lit (inl holds) = adds.not_false holds
    opposite_lit (inr same) = is.consistent (lit_at trail.entries later) (true_at trail.entries later adds.within) (subst (Contains (lits_of trail.entries)) same (true_at trail.entries place within))

only_set : (entries : List Entry) (set : List ℕ) (lit : ℕ) → IsRefutable entries set [] lit → Contains set (opposite lit)
only_set entries set lit (inl holds) = holds
only_set entries set lit (inr none) = absurd (omega (arith, none.1.1))

-- the places add their literals, and then a last clause is falsified
pub runs : (trail : TrailView) (clause_for : ℕ → List ℕ) (last set places : List ℕ) → IsTrail trail → Ascends places → ((place : ℕ) → Contains places place → Adds trail.entries (clause_for place) set places place)
    → ((lit : ℕ) → Contains last lit → IsRefutable trail.entries set places lit) → ReachesConflict set (map clause_for places ++ last ∷ [])
runs trail clause_for last set [] is up adds refutable = λ lit has. only_set trail.entries set lit (refutable lit has)
runs trail clause_for last set (place ∷ places) is up adds refutable =
    let here : Adds trail.entries (clause_for place) set (place ∷ places) place = adds place (Contains-here place places) in
    let rest : ReachesConflict (set ++ lit_at trail.entries place ∷ []) (map clause_for places ++ last ∷ []) =
    runs trail clause_for last (set ++ lit_at trail.entries place ∷ []) places is up.1
    (λ later has. adds_next trail (clause_for later) set places place later is here.within (up.0 later has) (adds later (Contains-there place later places has)))
    (λ lit has. refutable_next trail.entries set places place lit (refutable lit has)) in
    first_step trail.entries clause_for set place last (adds_first trail.entries (clause_for place) set places place up here) places rest
  where
    first_step : (entries : List Entry) (clause_for : ℕ → List ℕ) (set : List ℕ) (place : ℕ) (last : List ℕ) → IsUnit set (clause_for place) (lit_at entries place) → (places : List ℕ)
        → ReachesConflict (set ++ lit_at entries place ∷ []) (map clause_for places ++ last ∷ []) → ReachesConflict set (clause_for place ∷ (map clause_for places ++ last ∷ []))
    first_step entries clause_for set place last unit [] rest = (lit_at entries place, unit, rest)
    first_step entries clause_for set place last unit (next ∷ places) rest = (lit_at entries place, unit, rest)

-- the places but the greatest add their literals, and the clause of the greatest is falsified
pub runs_to : (trail : TrailView) (clause_for : ℕ → List ℕ) (set places : List ℕ) (top : ℕ) → IsTrail trail → Ascends places → Contains places top → ((place : ℕ) → Contains places place → place ≤ top)
    → ((place : ℕ) → Contains places place → place < top → Adds trail.entries (clause_for place) set places place)
    → ((lit : ℕ) → Contains (clause_for top) lit → Contains set (opposite lit) ⊎ ((place : ℕ) × Contains places place × (place < top) × (lit_at trail.entries place ≡ opposite lit)))
    → ReachesConflict set (map clause_for places)
runs_to trail clause_for set [] top is up has below adds refutable = absurd (omega (arith, has.1))
runs_to trail clause_for set (place ∷ []) top is up has below adds refutable = λ lit stands. holds lit (refutable lit (subst (λ n. Contains (clause_for n) lit) last stands))
  where
    last : place ≡ top
    last = alone (Contains-cases place top [] has)
      where
        alone : (place ≡ top) ⊎ Contains [] top → place ≡ top
        alone (inl same) = same
        alone (inr none) = absurd (omega (arith, none.1))

    holds : (lit : ℕ) → Contains set (opposite lit) ⊎ ((k : ℕ) × Contains (place ∷ []) k × (k < top) × (lit_at trail.entries k ≡ opposite lit)) → Contains set (opposite lit)
    holds lit (inl h) = h
    holds lit (inr at) = absurd (alone (Contains-cases place at.0 [] at.1))
      where
        alone : (place ≡ at.0) ⊎ Contains [] at.0 → ⊥
        alone (inl same) = omega (arith, at.2, last)
        alone (inr none) = omega (arith, none.1)
runs_to trail clause_for set (place ∷ next ∷ places) top is up has below adds refutable =
    let lower : place < next = up.0 next (Contains-here next places) in
    let least : place < top = omega (arith, lower, below next (Contains-there place next (next ∷ places) (Contains-here next places))) in
    let here : Adds trail.entries (clause_for place) set (place ∷ next ∷ places) place = adds place (Contains-here place (next ∷ places)) least in (
      lit_at trail.entries place,
      adds_first trail.entries (clause_for place) set (next ∷ places) place up here,
      runs_to trail clause_for (set ++ lit_at trail.entries place ∷ []) (next ∷ places) top is up.1 (later least (Contains-cases place top (next ∷ places) has))
          (λ k h. below k (Contains-there place k (next ∷ places) h))
          (λ k h lt. adds_next trail (clause_for k) set (next ∷ places) place k is here.within (up.0 k h) (adds k (Contains-there place k (next ∷ places) h) lt))
          (λ lit stands. refute_next lit here.within (refutable lit stands)),
    )
  where
    later : place < top → (place ≡ top) ⊎ Contains (next ∷ places) top → Contains (next ∷ places) top
    later lt (inl same) = absurd (omega arith)
    later lt (inr h) = h

    refute_next : (lit : ℕ) → place < length trail.entries → Contains set (opposite lit) ⊎ ((k : ℕ) × Contains (place ∷ next ∷ places) k × (k < top) × (lit_at trail.entries k ≡ opposite lit))
        → Contains (set ++ lit_at trail.entries place ∷ []) (opposite lit) ⊎ ((k : ℕ) × Contains (next ∷ places) k × (k < top) × (lit_at trail.entries k ≡ opposite lit))
    refute_next lit within (inl h) = inl (Contains-append_left set (lit_at trail.entries place ∷ []) (opposite lit) h)
    refute_next lit within (inr at) = by_place (Contains-cases place at.0 (next ∷ places) at.1)
      where
        by_place : (place ≡ at.0) ⊎ Contains (next ∷ places) at.0 → Contains (set ++ lit_at trail.entries place ∷ []) (opposite lit) ⊎ ((k : ℕ) × Contains (next ∷ places) k × (k < top) × (lit_at trail.entries k ≡ opposite lit))
        by_place (inl same) = inl (subst (Contains (set ++ lit_at trail.entries place ∷ [])) (ap (lit_at trail.entries) same ∙ at.3) (Contains-push set (lit_at trail.entries place)))
        by_place (inr after) = inr (at.0, after, at.2, at.3)
