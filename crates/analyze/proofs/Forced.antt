-- Forced literals of a founded trail, and literals of the present level in clauses that are open below it.
use Rattle.std.proofs.Common.{◌≡◌, ◌≢◌, ◌∙◌, ℕ, zero, suc, ◌-◌, ◌<◌, ◌≤◌, List, [], ◌∷◌, length, take, refl, ap, subst, sym, inl, inr, arith, Option, Some, None}
use Rattle.std.specs.Prelude.{Contains, ◌⊎◌, nat_le}
use Rattle.std.proofs.lemmas.Bool.{cases_eq, cases_lt, le-leb, leb-true}
use Rattle.std.proofs.lemmas.List.{get_or-map, length-map, get_or-take, length-take, get_or_default}
use Rattle.std.proofs.lemmas.List.Elements.{All-contains, Contains-get_or}
use Rattle.sat_base.specs.Lit.{variable, opposite}
use Rattle.sat_base.proofs.Opposite.{variable-opposite}
use Rattle.sat_base.proofs.Members.{All-from_members, Contains-here, Contains-there, Contains-cases, Contains-map, Contains-from_map, Contains-filter}
use Rattle.trace_core.proofs.Items.{Contains-from_filter}
use Rattle.clause_arena.specs.Arena.{ArenaClause, no_clause, clause_at, lits_of_each}
use Rattle.trail_core.specs.Trail.{Entry, TrailView, StandsAt, IsTrail, no_entry, entry_at, lits_of, up_to}
use Rattle.trail_core.specs.UnderTrail.{IsFalseLit, IsUnassigned, IsFalseClause, IsOpenClause, IsComplete, IsForced, IsFounded, lits_at}
use Rattle.analyze.specs.Graph.{IsPlaceOf, lit_at, level_at}

pub lits_at-each : (clauses : List ArenaClause) (id : ℕ) → id < length clauses → lits_at (lits_of_each clauses) id ≡ (clause_at clauses id).lits
lits_at-each clauses id lt = get_or-map (λ (c : ArenaClause). c.lits) clauses id no_clause [] lt

pub length-each : (clauses : List ArenaClause) → length (lits_of_each clauses) ≡ length clauses
length-each clauses = length-map clauses (λ (c : ArenaClause). c.lits)

-- the place of a true literal
pub place_of_true : (entries : List Entry) (lit : ℕ) → Contains (lits_of entries) lit → (place : ℕ) × (place < length entries) × (lit_at entries place ≡ lit)
place_of_true entries lit (k, lt, is) =
    let within : k < length entries = omega (arith, lt, length-map entries (λ (e : Entry). e.lit)) in
    (k, within, sym (get_or-map (λ (e : Entry). e.lit) entries k no_entry lit within) ∙ is)

pub true_at : (entries : List Entry) (place : ℕ) → place < length entries → Contains (lits_of entries) (lit_at entries place)
true_at entries place lt = Contains-map (λ (e : Entry). e.lit) entries (entry_at entries place) (Contains-get_or entries place no_entry lt)

-- the place of a literal whose negation is true
pub stands_false : (entries : List Entry) (lit place : ℕ) → place < length entries → lit_at entries place ≡ opposite lit → StandsAt entries (variable lit) place
stands_false entries lit place lt is = record { within = lt; is = ap variable is ∙ variable-opposite lit }

-- a literal forced by the clause of that number: its other literals are false at places before
pub record Forced (clauses : List ArenaClause) (entries : List Entry) (place id : ℕ) : Type 0 where
  pub known : id < length clauses
  pub stands : Contains (clause_at clauses id).lits (lit_at entries place)
  pub others : (other : ℕ) → Contains (clause_at clauses id).lits other → other ≢ lit_at entries place → (before : ℕ) × (before < place) × (lit_at entries before ≡ opposite other)

-- a number below the bound at which the function has the value, if there is one
any_below : (f : ℕ → ℕ) (value bound : ℕ) → ((k : ℕ) × (k < bound) × (f k ≡ value)) ⊎ ((k : ℕ) → k < bound → f k ≢ value)
any_below f value zero = inr (λ k lt _. omega arith)
any_below f value (suc bound) = here_or_below (cases_eq (f bound) value) (any_below f value bound)
  where
    here_or_below : (f bound ≡ value) ⊎ (f bound ≡ value → ⊥) → ((k : ℕ) × (k < bound) × (f k ≡ value)) ⊎ ((k : ℕ) → k < bound → f k ≢ value)
        → ((k : ℕ) × (k < suc bound) × (f k ≡ value)) ⊎ ((k : ℕ) → k < suc bound → f k ≢ value)
    here_or_below (inl is) rest = inl (bound, omega arith, is)
    here_or_below (inr isnt) (inl found) = inl (found.0, omega (arith, found.1), found.2)
    here_or_below (inr isnt) (inr none) = inr (λ k lt is. at k lt is (cases_lt k bound))
      where
        at : (k : ℕ) → k < suc bound → f k ≡ value → (k < bound) ⊎ (bound ≤ k) → ⊥
        at k lt is (inl below) = none k below is
        at k lt is (inr above) = isnt (ap f (let e : bound ≡ k = omega arith in e) ∙ is)

pub some_differs : {X : Type 0} (o : Option X) (x y : X) → o ≡ Some x → o ≡ Some y → x ≡ y
some_differs o x y is is' = cc

from_forced : (clauses : List ArenaClause) (entries : List Entry) (place id : ℕ) → place < length entries → (entry_at entries place).reason ≡ Some id
    → IsForced (lits_of_each clauses) (take place entries) (entry_at entries place) → Forced clauses entries place id
from_forced clauses entries place id within reason forced =
    let same : forced.id ≡ id = some_differs (entry_at entries place).reason forced.id id forced.reason reason in
    let known : forced.id < length clauses = omega (arith, forced.known, length-each clauses) in
    let lits : lits_at (lits_of_each clauses) forced.id ≡ (clause_at clauses id).lits = lits_at-each clauses forced.id known ∙ ap (λ n. (clause_at clauses n).lits) same in
    record {
      known = subst (λ n. n < length clauses) same known;
      stands = subst (λ (ls : List ℕ). Contains ls (lit_at entries place)) lits forced.rest.stands;
      others = λ other has differs. before other (forced.rest.others other (subst (λ (ls : List ℕ). Contains ls other) (sym lits) has) differs);
    }
  where
    before : (other : ℕ) → IsFalseLit (lits_of (take place entries)) other → (k : ℕ) × (k < place) × (lit_at entries k ≡ opposite other)
    before other is_false =
        let there = place_of_true (take place entries) (opposite other) is_false.stands in
        let lt : there.0 < place = omega (arith, there.1, length-take place entries) in
        (there.0, lt, ap (λ (e : Entry). e.lit) (sym (get_or-take place entries there.0 no_entry lt)) ∙ there.2)

-- a literal above level 0 with a reason is forced by it
pub forced : (clauses : List ArenaClause) (entries : List Entry) (depth place id : ℕ) → IsFounded (lits_of_each clauses) entries depth → place < length entries
    → 0 < level_at entries place → (entry_at entries place).reason ≡ Some id → Forced clauses entries place id
forced clauses entries depth place id founded within above reason = by_first (any_below (level_at entries) (level_at entries place) place)
  where
    by_first : ((k : ℕ) × (k < place) × (level_at entries k ≡ level_at entries place)) ⊎ ((k : ℕ) → k < place → level_at entries k ≢ level_at entries place) → Forced clauses entries place id
    by_first (inl earlier) = from_forced clauses entries place id within reason (founded.other place earlier.0 within above earlier.1 earlier.2)
    by_first (inr first) = let none : (entry_at entries place).reason ≡ None = founded.first place within above first in absurd (cc)

-- a literal without a reason is the first of its level
pub unforced_first : (clauses : List (List ℕ)) (entries : List Entry) (depth place k : ℕ) → IsFounded clauses entries depth → place < length entries → 0 < level_at entries place
    → (entry_at entries place).reason ≡ None → k < place → level_at entries k ≡ level_at entries place → ⊥
unforced_first clauses entries depth place k founded within above none before same =
    let f = founded.other place k within above before same in
    let some : (entry_at entries place).reason ≡ Some f.id = f.reason in
    cc

-- the variables of a reason stand at the place or before
pub reason_before : (clauses : List ArenaClause) (entries : List Entry) (place id other : ℕ) → ((v i j : ℕ) → StandsAt entries v i → StandsAt entries v j → i ≡ j) → place < length entries
    → Forced clauses entries place id → IsPlaceOf entries (clause_at clauses id).lits other → other ≤ place
reason_before clauses entries place id other once within f of = by_lit (cases_eq of.lit (lit_at entries place))
  where
    by_lit : (of.lit ≡ lit_at entries place) ⊎ (of.lit ≡ lit_at entries place → ⊥) → other ≤ place
    by_lit (inl same) = let e : other ≡ place = once (variable of.lit) other place of.at (record { within = within; is = ap variable (sym same) }) in omega arith
    by_lit (inr differs) =
        let k = f.others of.lit of.stands differs in
        let e : other ≡ k.0 = once (variable of.lit) other k.0 of.at (stands_false entries of.lit k.0 (omega (arith, k.1)) k.2) in omega (arith, k.1)

-- each member has the second property, or one has the first
pub some_or_all : (P Q : ℕ → Type 0) (xs : List ℕ) → ((x : ℕ) → Contains xs x → P x ⊎ Q x) → ((x : ℕ) × Contains xs x × P x) ⊎ ((x : ℕ) → Contains xs x → Q x)
some_or_all P Q [] each = inr (λ x none. absurd (omega (arith, none.1)))
some_or_all P Q (y ∷ xs) each = first_or_later (each y (Contains-here y xs)) (some_or_all P Q xs (λ x has. each x (Contains-there y x xs has)))
  where
    first_or_later : P y ⊎ Q y → ((x : ℕ) × Contains xs x × P x) ⊎ ((x : ℕ) → Contains xs x → Q x) → ((x : ℕ) × Contains (y ∷ xs) x × P x) ⊎ ((x : ℕ) → Contains (y ∷ xs) x → Q x)
    first_or_later (inl p) rest = inl (y, Contains-here y xs, p)
    first_or_later (inr q) (inl found) = inl (found.0, Contains-there y found.0 xs found.1, found.2)
    first_or_later (inr q) (inr all) = inr (λ x has. here_or_there x (Contains-cases y x xs has))
      where
        here_or_there : (x : ℕ) → (y ≡ x) ⊎ Contains xs x → Q x
        here_or_there x (inl same) = subst Q same q
        here_or_there x (inr later) = all x later

-- what is false at a place up to a level is false under the literals up to that level
pub false_below : (entries : List Entry) (level lit place : ℕ) → place < length entries → lit_at entries place ≡ opposite lit → level_at entries place ≤ level → IsFalseLit (lits_of (up_to level entries)) lit
false_below entries level lit place within is low = record {
  stands = subst (Contains (lits_of (up_to level entries))) is
      (Contains-map (λ (e : Entry). e.lit) (up_to level entries) (entry_at entries place)
      (Contains-filter (λ (e : Entry). nat_le e.level level) entries (entry_at entries place) (Contains-get_or entries place no_entry within) (le-leb (level_at entries place) level low)));
}

-- what is true under the literals up to a level is so at a place up to the level
true_below : (entries : List Entry) (level lit : ℕ) → Contains (lits_of (up_to level entries)) lit → (place : ℕ) × (place < length entries) × (lit_at entries place ≡ lit) × (level_at entries place ≤ level)
true_below entries level lit has =
    let m = Contains-from_map (λ (e : Entry). e.lit) (up_to level entries) lit has in
    let f = Contains-from_filter (λ (e : Entry). nat_le e.level level) entries m.0 m.1 in
    let here : entry_at entries f.0.0 ≡ m.0 = get_or_default entries f.0.0 no_entry m.0 f.0.1 ∙ f.0.2 in
    (f.0.0, f.0.1, ap (λ (e : Entry). e.lit) here ∙ m.2, subst (λ (e : Entry). e.level ≤ level) (sym here) (leb-true m.0.level level f.1))

-- a literal that is assigned above a level is unassigned under the literals up to it
pub unassigned_below : (entries : List Entry) (level lit place : ℕ) → ((v i j : ℕ) → StandsAt entries v i → StandsAt entries v j → i ≡ j) → StandsAt entries (variable lit) place → level < level_at entries place
    → IsUnassigned (lits_of (up_to level entries)) lit
unassigned_below entries level lit place once at above = record {
  not_true = λ t. never lit refl (true_below entries level lit t.stands);
  not_false = λ f. never (opposite lit) (variable-opposite lit) (true_below entries level (opposite lit) f.stands);
}
  where
    never : (z : ℕ) → variable z ≡ variable lit → ((k : ℕ) × (k < length entries) × (lit_at entries k ≡ z) × (level_at entries k ≤ level)) → ⊥
    never z same there =
        let e : there.0 ≡ place = once (variable lit) there.0 place (record { within = there.1; is = ap variable there.2 ∙ same }) at in
        let low : level_at entries place ≤ level = subst (λ n. level_at entries n ≤ level) e there.3 in
        omega arith

-- a place of the present level, of a literal of the clause
pub record PresentIn (entries : List Entry) (depth : ℕ) (clause : List ℕ) (bound : ℕ) : Type 0 where
  pub place : ℕ
  pub of : IsPlaceOf entries clause place
  pub present : level_at entries place ≡ depth
  pub below : place < bound

pub open_at_id : (clauses : List ArenaClause) (entries : List Entry) (level id : ℕ) → IsComplete entries level (lits_of_each clauses) → id < length clauses → IsOpenClause (lits_of (up_to level entries)) (clause_at clauses id).lits
open_at_id clauses entries level id complete known =
    subst (IsOpenClause (lits_of (up_to level entries))) (lits_at-each clauses id known) (complete.each id [] (omega (arith, length-each clauses)))

-- a false clause has a literal of the present level, where propagation was complete below it
pub present_in_false : (trail : TrailView) (clauses : List ArenaClause) (id : ℕ) → IsTrail trail → 0 < trail.depth → IsComplete trail.entries (trail.depth - 1) (lits_of_each clauses)
    → id < length clauses → IsFalseClause (lits_of trail.entries) (clause_at clauses id).lits → PresentIn trail.entries trail.depth (clause_at clauses id).lits (length trail.entries)
present_in_false trail clauses id is deep complete known refuted = from (some_or_all Present (IsFalseLit (lits_of (up_to (trail.depth - 1) trail.entries))) (clause_at clauses id).lits look)
  where
    Present : ℕ → Type 0
    Present lit = (place : ℕ) × (place < length trail.entries) × (lit_at trail.entries place ≡ opposite lit) × (level_at trail.entries place ≡ trail.depth)

    look : (lit : ℕ) → Contains (clause_at clauses id).lits lit → Present lit ⊎ IsFalseLit (lits_of (up_to (trail.depth - 1) trail.entries)) lit
    look lit has =
        let f : IsFalseLit (lits_of trail.entries) lit = All-contains (IsFalseLit (lits_of trail.entries)) (clause_at clauses id).lits lit refuted.each has in
        let there = place_of_true trail.entries (opposite lit) f.stands in
        let below : level_at trail.entries there.0 ≤ trail.depth = is.below there.0 no_entry there.1 in
        by_level there.0 there.1 there.2 below (cases_lt (level_at trail.entries there.0) trail.depth)
      where
        by_level : (place : ℕ) → place < length trail.entries → lit_at trail.entries place ≡ opposite lit → level_at trail.entries place ≤ trail.depth
            → (level_at trail.entries place < trail.depth) ⊎ (trail.depth ≤ level_at trail.entries place) → Present lit ⊎ IsFalseLit (lits_of (up_to (trail.depth - 1) trail.entries)) lit
        by_level place within at below (inl low) = inr (false_below trail.entries (trail.depth - 1) lit place within at (omega arith))
        by_level place within at below (inr high) = inl (place, within, at, omega arith)

    from : ((lit : ℕ) × Contains (clause_at clauses id).lits lit × Present lit) ⊎ ((lit : ℕ) → Contains (clause_at clauses id).lits lit → IsFalseLit (lits_of (up_to (trail.depth - 1) trail.entries)) lit)
        → PresentIn trail.entries trail.depth (clause_at clauses id).lits (length trail.entries)
    from (inl found) = record {
      place = found.2.0;
      of = record { lit = found.0; stands = found.1; at = stands_false trail.entries found.0 found.2.0 found.2.1 found.2.2 };
      present = found.2.3;
      below = found.2.1;
    }
    from (inr all) = absurd ((open_at_id clauses trail.entries (trail.depth - 1) id complete known).not_false (record { each = All-from_members (IsFalseLit (lits_of (up_to (trail.depth - 1) trail.entries))) (clause_at clauses id).lits all }))

-- so has a reason of a literal of the present level, besides that literal
pub present_in_reason : (trail : TrailView) (clauses : List ArenaClause) (place id : ℕ) → IsTrail trail → 0 < trail.depth → IsComplete trail.entries (trail.depth - 1) (lits_of_each clauses)
    → place < length trail.entries → level_at trail.entries place ≡ trail.depth → Forced clauses trail.entries place id → PresentIn trail.entries trail.depth (clause_at clauses id).lits place
present_in_reason trail clauses place id is deep complete within present f = from (some_or_all Present Low (clause_at clauses id).lits look)
  where
    Present : ℕ → Type 0
    Present lit = (k : ℕ) × (k < place) × (lit_at trail.entries k ≡ opposite lit) × (level_at trail.entries k ≡ trail.depth)

    Low : ℕ → Type 0
    Low lit = (lit ≡ lit_at trail.entries place) ⊎ IsFalseLit (lits_of (up_to (trail.depth - 1) trail.entries)) lit

    look : (lit : ℕ) → Contains (clause_at clauses id).lits lit → Present lit ⊎ Low lit
    look lit has = by_lit (cases_eq lit (lit_at trail.entries place))
      where
        by_level : (k : ℕ) → k < place → lit_at trail.entries k ≡ opposite lit → level_at trail.entries k ≤ trail.depth
            → (level_at trail.entries k < trail.depth) ⊎ (trail.depth ≤ level_at trail.entries k) → Present lit ⊎ Low lit
        by_level k lt at below (inl low) = inr (inr (false_below trail.entries (trail.depth - 1) lit k (omega arith) at (omega arith)))
        by_level k lt at below (inr high) = inl (k, lt, at, omega arith)

        by_lit : (lit ≡ lit_at trail.entries place) ⊎ (lit ≡ lit_at trail.entries place → ⊥) → Present lit ⊎ Low lit
        by_lit (inl same) = inr (inl same)
        by_lit (inr differs) =
            let k = f.others lit has differs in
            by_level k.0 k.1 k.2 (is.below k.0 no_entry (omega (arith, k.1))) (cases_lt (level_at trail.entries k.0) trail.depth)

    only : (lit : ℕ) → Low lit → lit ≢ lit_at trail.entries place → IsFalseLit (lits_of (up_to (trail.depth - 1) trail.entries)) lit
    only lit (inl same) differs = absurd (differs same)
    only lit (inr low) differs = low

    from : ((lit : ℕ) × Contains (clause_at clauses id).lits lit × Present lit) ⊎ ((lit : ℕ) → Contains (clause_at clauses id).lits lit → Low lit) → PresentIn trail.entries trail.depth (clause_at clauses id).lits place
    from (inl found) = record {
      place = found.2.0;
      of = record { lit = found.0; stands = found.1; at = stands_false trail.entries found.0 found.2.0 (omega (arith, found.2.1)) found.2.2 };
      present = found.2.3;
      below = found.2.1;
    }
    from (inr all) = absurd ((open_at_id clauses trail.entries (trail.depth - 1) id complete f.known).not_unit (lit_at trail.entries place) (record {
      free = unassigned_below trail.entries (trail.depth - 1) (lit_at trail.entries place) place is.once (record { within = within; is = refl }) (omega arith);
      rest = record { stands = f.stands; others = λ other has differs. only other (all other has) differs };
    }))
