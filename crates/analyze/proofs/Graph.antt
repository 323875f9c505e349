-- What the places of a cut give to unit propagation.
use Rattle.std.proofs.Common.{◌≡◌, ◌≢◌, ◌∙◌, ℕ, ◌%◌, ◌<◌, List, [], length, refl, ap, subst, sym, inl, inr, arith}
use Rattle.std.specs.Prelude.{Contains, ◌⊎◌, ◌↔◌}
use Rattle.std.proofs.lemmas.Bool.{cases_eq}
use Rattle.sat_base.specs.Lit.{variable, opposite}
use Rattle.sat_base.proofs.Opposite.{opposite-differs}
use Rattle.sat_base.proofs.Members.{Contains-cases}
use Rattle.clause_arena.specs.Arena.{ArenaClause, clause_at, lits_of_each}
use Rattle.trail_core.specs.Trail.{TrailView, IsTrail}
use Rattle.trail_core.specs.UnderTrail.{IsFounded}
use Rattle.analyze.specs.Graph.{lit_at, level_at}
use Rattle.analyze.specs.FirstUip.{IsResolvable, IsShownBy}
use Rattle.analyze.specs.Naming.{HasClause, lits_for}
use Rattle.trace_core.proofs.Items.{nothing_in}
use Rattle.analyze.proofs.Forced.{Forced, forced, stands_false}
use Rattle.analyze.proofs.Hinted.{lits_low, lits_high}
use Rattle.analyze.proofs.Runs.{IsSettled, Adds}

-- the literal is its own or its negation where the variables are one
pub same_variable : (lit other : ℕ) → variable lit ≡ variable other → (lit ≡ other) ⊎ (lit ≡ opposite other)
same_variable lit other same = by_parity (cases_eq (lit % 2) (other % 2))
  where
    by_parity : (lit % 2 ≡ other % 2) ⊎ (lit % 2 ≡ other % 2 → ⊥) → (lit ≡ other) ⊎ (lit ≡ opposite other)
    by_parity (inl e) = inl (omega arith)
    by_parity (inr n) = inr (omega arith)

-- a place that can be resolved away has its clause
pub has_clause : (trail : TrailView) (clauses : List ArenaClause) (analyzed : List ℕ) (place : ℕ)
    → IsFounded (lits_of_each clauses) trail.entries trail.depth → place < length trail.entries
    → (level_at trail.entries place ≡ 0) ⊎ IsResolvable clauses trail.entries analyzed place
    → HasClause clauses trail.entries place
has_clause trail clauses analyzed place founded within (inl low) =
    record { within = within; known = inl low }
has_clause trail clauses analyzed place founded within (inr r) =
    by_level (cases_eq (level_at trail.entries place) 0)
  where
    by_level : (level_at trail.entries place ≡ 0) ⊎ (level_at trail.entries place ≡ 0 → ⊥) → HasClause clauses trail.entries place
    by_level (inl low) = record { within = within; known = inl low }
    by_level (inr high) = record { within = within; known = inr (r.id, r.reason, (forced clauses trail.entries trail.depth place r.id founded within (omega arith) r.reason).known) }

-- the other literals of the clause for a place are false at places before, which are seen
pub others_before : (trail : TrailView) (clauses : List ArenaClause) (analyzed : List ℕ)
    (place lit : ℕ) → IsFounded (lits_of_each clauses) trail.entries trail.depth
    → place < length trail.entries
    → (level_at trail.entries place ≡ 0) ⊎ IsResolvable clauses trail.entries analyzed place
    → Contains (lits_for clauses trail.entries place) lit → lit ≢ lit_at trail.entries place
    → (k : ℕ) × (k < place) × (lit_at trail.entries k ≡ opposite lit) × Contains analyzed k
others_before trail clauses analyzed place lit founded within can stands differs =
    by_level can (cases_eq (level_at trail.entries place) 0)
  where
    low_case : level_at trail.entries place ≡ 0
        → (k : ℕ) × (k < place) × (lit_at trail.entries k ≡ opposite lit) × Contains analyzed k
    low_case low = absurd (only (Contains-cases (lit_at trail.entries place) lit [] (subst (λ (ls : List ℕ). Contains ls lit) (lits_low clauses trail.entries place low) stands)))
      where
        only : (lit_at trail.entries place ≡ lit) ⊎ Contains [] lit → ⊥
        only (inl same) = differs (sym same)
        only (inr none) = nothing_in lit none

    by_level : (level_at trail.entries place ≡ 0) ⊎ IsResolvable clauses trail.entries analyzed
        place → (level_at trail.entries place ≡ 0) ⊎ (level_at trail.entries place ≡ 0 → ⊥)
        → (k : ℕ) × (k < place) × (lit_at trail.entries k ≡ opposite lit) × Contains analyzed k
    by_level (inl low) _ = low_case low
    by_level (inr r) (inl low) = low_case low
    by_level (inr r) (inr high) =
        let above : 0 < level_at trail.entries place = omega arith in
        let there : Contains (clause_at clauses r.id).lits lit = subst (λ (ls : List ℕ). Contains ls lit) (lits_high clauses trail.entries place r.id above r.reason) stands in
        let k = (forced clauses trail.entries trail.depth place r.id founded within above
        r.reason).others lit there differs in (
          k.0,
          k.1,
          k.2,
          r.all_seen lit there k.0
              (stands_false trail.entries lit k.0 (omega (arith, k.1)) k.2),
        )

-- the clause for a place has its literal
pub own_literal : (trail : TrailView) (clauses : List ArenaClause) (analyzed : List ℕ) (place : ℕ)
    → IsFounded (lits_of_each clauses) trail.entries trail.depth → place < length trail.entries
    → (level_at trail.entries place ≡ 0) ⊎ IsResolvable clauses trail.entries analyzed place
    → Contains (lits_for clauses trail.entries place) (lit_at trail.entries place)
own_literal trail clauses analyzed place founded within can =
    by_level can (cases_eq (level_at trail.entries place) 0)
  where
    low_case : level_at trail.entries place ≡ 0 → Contains (lits_for clauses trail.entries place) (lit_at trail.entries place)
    low_case low = subst (λ (ls : List ℕ). Contains ls (lit_at trail.entries place)) (sym (lits_low clauses trail.entries place low)) (0, omega arith, refl)

    by_level : (level_at trail.entries place ≡ 0) ⊎ IsResolvable clauses trail.entries analyzed
        place → (level_at trail.entries place ≡ 0) ⊎ (level_at trail.entries place ≡ 0 → ⊥)
        → Contains (lits_for clauses trail.entries place) (lit_at trail.entries place)
    by_level (inl low) _ = low_case low
    by_level (inr r) (inl low) = low_case low
    by_level (inr r) (inr high) =
        let above : 0 < level_at trail.entries place = omega arith in
        subst (λ (ls : List ℕ). Contains ls (lit_at trail.entries place)) (sym (lits_high clauses trail.entries place r.id above r.reason))
        (forced clauses trail.entries trail.depth place r.id founded within above r.reason).stands

-- a known clause for a place adds its literal
pub adds_of : (trail : TrailView) (clauses : List ArenaClause)
    (analyzed kept resolved set clause : List ℕ) (place : ℕ)
    → IsFounded (lits_of_each clauses) trail.entries trail.depth
    → ((k : ℕ) → Contains analyzed k → Contains kept k ⊎ Contains resolved k)
    → ((k : ℕ) → Contains kept k → Contains set (lit_at trail.entries k))
    → place < length trail.entries
    → (level_at trail.entries place ≡ 0) ⊎ IsResolvable clauses trail.entries analyzed place
    → ((lit : ℕ) → Contains clause lit ↔ Contains (lits_for clauses trail.entries place) lit)
    → ¬ Contains set (lit_at trail.entries place) → ¬ Contains set (opposite (lit_at trail.entries place)) → Adds trail.entries clause set resolved place
adds_of trail clauses analyzed kept resolved set clause place founded split holds within can members
    not_true not_false = record {
      within = within;
      stands = (members (lit_at trail.entries place)).1
          (own_literal trail clauses analyzed place founded within can);
      others = λ lit has differs.
          let k = others_before trail clauses analyzed place lit founded within can
          ((members lit).0 has) differs in
          (k.0, k.1, k.2, settle k.0 (split k.0 k.3));
      not_true = not_true;
      not_false = not_false;
    }
  where
    settle : (k : ℕ) → Contains kept k ⊎ Contains resolved k → IsSettled trail.entries set resolved k
    settle k (inl has) = inl (holds k has)
    settle k (inr has) = inr has

-- a place that a reason shows, as a literal of the known clause for that place: the false one, if its own variable is another
pub shown_false : (trail : TrailView) (clauses : List ArenaClause) (clause : List ℕ) (place other : ℕ) → IsTrail trail → IsFounded (lits_of_each clauses) trail.entries trail.depth → other < length trail.entries
    → place < length trail.entries → 0 < level_at trail.entries other → place ≢ other → IsShownBy clauses trail.entries place other → ((lit : ℕ) → Contains clause lit ↔ Contains (lits_for clauses trail.entries other) lit)
    → Contains clause (opposite (lit_at trail.entries place))
shown_false trail clauses clause place other is founded within place_within above differs shown members =
    let stands : Contains (lits_for clauses trail.entries other) shown.of.lit = subst (λ (ls : List ℕ). Contains ls shown.of.lit) (sym (lits_high clauses trail.entries other shown.id above shown.reason)) shown.of.stands in
    by_lit stands (same_variable shown.of.lit (lit_at trail.entries place) (sym shown.of.at.is))
  where
    f : Forced clauses trail.entries other shown.id
    f = forced clauses trail.entries trail.depth other shown.id founded within above shown.reason

    own : shown.of.lit ≡ lit_at trail.entries place → (shown.of.lit ≡ lit_at trail.entries other) ⊎ (shown.of.lit ≡ lit_at trail.entries other → ⊥) → ⊥
    own true_lit (inl same) = differs (is.once (variable shown.of.lit) place other shown.of.at (record { within = within; is = ap variable (sym same) }))
    own true_lit (inr apart) =
        let k = f.others shown.of.lit shown.of.stands apart in
        let e : k.0 ≡ place = is.once (variable shown.of.lit) k.0 place (stands_false trail.entries shown.of.lit k.0 (omega (arith, k.1)) k.2) shown.of.at in
        opposite-differs shown.of.lit (sym k.2 ∙ ap (lit_at trail.entries) e ∙ sym true_lit)

    by_lit : Contains (lits_for clauses trail.entries other) shown.of.lit → (shown.of.lit ≡ lit_at trail.entries place) ⊎ (shown.of.lit ≡ opposite (lit_at trail.entries place)) → Contains clause (opposite (lit_at trail.entries place))
    by_lit stands (inl true_lit) = absurd (own true_lit (cases_eq shown.of.lit (lit_at trail.entries other)))
    by_lit stands (inr false_lit) = subst (Contains clause) false_lit ((members shown.of.lit).1 stands)
