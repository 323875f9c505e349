-- The way back along the trail, step by step.
use Rattle.std.proofs.Common.{◌≡◌, ◌∙◌, ℕ, ◌+◌, ◌-◌, ◌<◌, ◌≤◌, List, [], length, ap, subst, sym}
use Rattle.std.proofs.Common.{inl, inr, arith, Some, None}
use Rattle.std.specs.Prelude.{Contains, ◌⊎◌}
use Rattle.std.proofs.lemmas.Bool.{cases_eq}
use Rattle.clause_arena.specs.Arena.{ArenaClause, clause_at, lits_of_each}
use Rattle.trail_core.specs.Trail.{Entry, TrailView, IsTrail, no_entry, entry_at}
use Rattle.trail_core.specs.UnderTrail.{IsFounded, IsComplete}
use Rattle.analyze.specs.Graph.{IsPlaceOf, level_at}
use Rattle.analyze.specs.Seen.{AreAllSeen, HasGrown, open_below}
use Rattle.analyze.specs.FirstUip.{IsResolvable, IsShownBy, IsResolvedFrom, IsUnderWay, IsFirstUip}
use Rattle.trace_core.proofs.Items.{nothing_in}
use Rattle.analyze.proofs.Grown.{grown_keeps, met_keeps}
use Rattle.analyze.proofs.Forced.{Forced, PresentIn, unforced_first, reason_before}
use Rattle.analyze.proofs.Forced.{present_in_reason}
use Rattle.analyze.proofs.Opened.{open_grows, open_next, open_one}

-- the last place seen that isn't looked at is of the present level
pub last_present : (trail : TrailView) (bound left place : ℕ) (analyzed : List ℕ) → IsTrail trail
    → IsUnderWay trail.entries trail.depth bound left analyzed → place + 1 ≡ bound
    → place < length trail.entries → level_at trail.entries place ≡ trail.depth
last_present trail bound left place analyzed is way at within =
    let low : level_at trail.entries way.next ≤ level_at trail.entries place =
    is.ascending way.next place (omega (arith, way.below)) within in
    let high : level_at trail.entries place ≤ trail.depth = is.below place no_entry within in
    let same : level_at trail.entries way.next ≡ trail.depth = way.present in
    omega arith

pub resolvable_keeps : (clauses : List ArenaClause) (entries : List Entry) (old new : List ℕ)
    (place : ℕ) → ((k : ℕ) → Contains old k → Contains new k)
    → IsResolvable clauses entries old place → IsResolvable clauses entries new place
resolvable_keeps clauses entries old new place keeps r =
    record {
      id = r.id;
      reason = r.reason;
      all_seen =
          met_keeps entries old new (clause_at clauses r.id).lits keeps r.all_seen;
    }

-- the variables of the conflict are seen, and nothing else
pub resolved_start : (clauses : List ArenaClause) (entries : List Entry) (depth : ℕ)
    (conflict old analyzed : List ℕ) (count : ℕ) → old ≡ [] → AreAllSeen entries analyzed conflict
    → HasGrown entries depth (IsPlaceOf entries conflict) old analyzed count
    → IsResolvedFrom clauses entries depth conflict (length entries) analyzed
resolved_start clauses entries depth conflict old analyzed count empty all_seen grown = record {
  within = λ place has. (of_conflict place (grown.added place has)).at.within;
  all_seen = all_seen;
  resolvable = λ place has past _. let lt : place < length entries =
      (of_conflict place (grown.added place has)).at.within in absurd (omega arith);
  shown = λ place has. inl (of_conflict place (grown.added place has));
}
  where
    of_conflict : (place : ℕ) → Contains old place ⊎ IsPlaceOf entries conflict place
        → IsPlaceOf entries conflict place
    of_conflict place (inl has) =
        nothing_in place (subst (λ (xs : List ℕ). Contains xs place) empty has)
    of_conflict place (inr of) = of

pub under_way_start : (entries : List Entry) (depth : ℕ) (conflict old analyzed : List ℕ)
    (count : ℕ) → old ≡ [] → AreAllSeen entries analyzed conflict
    → HasGrown entries depth (IsPlaceOf entries conflict) old analyzed count
    → PresentIn entries depth conflict (length entries)
    → IsUnderWay entries depth (length entries) count analyzed
under_way_start entries depth conflict old analyzed count empty all_seen grown p = record {
  next = p.place;
  among = all_seen p.of.lit p.of.stands p.place p.of.at;
  below = p.below;
  present = p.present;
  counted = omega (
    arith,
    grown.open_count (length entries),
    ap
        (open_below entries depth (length entries)) empty,
  );
  few = omega (arith, grown.longer);
}

-- past a place that isn't seen
pub resolved_skip : (clauses : List ArenaClause) (entries : List Entry) (depth : ℕ)
    (conflict : List ℕ) (bound place : ℕ) (analyzed : List ℕ) → place + 1 ≡ bound
    → ¬ Contains analyzed place
    → IsResolvedFrom clauses entries depth conflict bound analyzed
    → IsResolvedFrom clauses entries depth conflict place analyzed
resolved_skip clauses entries depth conflict bound place analyzed at unmet w = record {
  within = w.within;
  all_seen = w.all_seen;
  resolvable = λ other has from present. w.resolvable other has
      (next other has from (cases_eq other place)) present;
  shown = λ other has. earlier other (w.shown other has);
}
  where
    next : (other : ℕ) → Contains analyzed other → place ≤ other
        → (other ≡ place) ⊎ (other ≡ place → ⊥) → bound ≤ other
    next other has from (inl same) = absurd (unmet (subst (Contains analyzed) same has))
    next other has from (inr differs) = omega arith

    earlier : (other : ℕ)
        → IsPlaceOf entries conflict other
        ⊎ ((by : ℕ) × Contains analyzed by × (bound ≤ by) × (level_at entries by ≡ depth)
        × IsShownBy clauses entries other by)
        → IsPlaceOf entries conflict other
        ⊎ ((by : ℕ) × Contains analyzed by × (place ≤ by) × (level_at entries by ≡ depth)
        × IsShownBy clauses entries other by)
    earlier other (inl of) = inl of
    earlier other (inr by) = inr (by.0, by.1, omega (arith, by.2), by.3, by.4)

pub under_way_skip : (entries : List Entry) (depth bound left place : ℕ) (analyzed : List ℕ)
    → place + 1 ≡ bound → ¬ Contains analyzed place → IsUnderWay entries depth bound left analyzed
    → IsUnderWay entries depth place left analyzed
under_way_skip entries depth bound left place analyzed at unmet way = record {
  next = way.next;
  among = way.among;
  below = differs (cases_eq way.next place);
  present = way.present;
  counted = omega (arith, way.counted, open_grows entries depth place bound analyzed (omega arith));
  few = way.few;
}
  where
    differs : (way.next ≡ place) ⊎ (way.next ≡ place → ⊥) → way.next < place
    differs (inl same) = absurd (unmet (subst (Contains analyzed) same way.among))
    differs (inr other) = let lt : way.next < bound = way.below in omega arith

-- past a place that is resolved away
pub resolved_next : (trail : TrailView) (clauses : List ArenaClause) (conflict : List ℕ)
    (bound place id count : ℕ) (analyzed analyzed' : List ℕ) → IsTrail trail → place + 1 ≡ bound
    → Contains analyzed place
    → level_at trail.entries place ≡ trail.depth → (entry_at trail.entries place).reason ≡ Some id
    → Forced clauses trail.entries place id
    → AreAllSeen trail.entries analyzed' (clause_at clauses id).lits
    → HasGrown trail.entries trail.depth (IsPlaceOf trail.entries (clause_at clauses id).lits)
    analyzed analyzed' count
    → IsResolvedFrom clauses trail.entries trail.depth conflict bound analyzed
    → IsResolvedFrom clauses trail.entries trail.depth conflict place analyzed'
resolved_next trail clauses conflict bound place id count analyzed analyzed' is at has present
    reason f all_seen grown w = record {
      within = λ other has'. within other (grown.added other has');
      all_seen = met_keeps trail.entries analyzed analyzed' conflict keeps w.all_seen;
      resolvable = λ other has' from level. resolve other from level (grown.added other has');
      shown = λ other has'. show other (grown.added other has');
    }
  where
    keeps : (k : ℕ) → Contains analyzed k → Contains analyzed' k
    keeps = grown_keeps trail.entries trail.depth
        (IsPlaceOf trail.entries (clause_at clauses id).lits) analyzed analyzed' count grown

    in_trail : place < length trail.entries
    in_trail = w.within place has

    within : (other : ℕ)
        → Contains analyzed other ⊎ IsPlaceOf trail.entries (clause_at clauses id).lits other
        → other < length trail.entries
    within other (inl old) = w.within other old
    within other (inr of) = of.at.within

    here : IsResolvable clauses trail.entries analyzed' place
    here = record { id = id; reason = reason; all_seen = all_seen }

    resolve_old : (other : ℕ) → Contains analyzed other → place ≤ other
        → level_at trail.entries other ≡ trail.depth → (other ≡ place) ⊎ (other ≡ place → ⊥)
        → IsResolvable clauses trail.entries analyzed' other
    resolve_old other old from level (inl same) =
        subst (IsResolvable clauses trail.entries analyzed') (sym same) here
    resolve_old other old from level (inr differs) =
        resolvable_keeps clauses trail.entries analyzed analyzed' other keeps
        (w.resolvable other old (omega arith) level)

    resolve : (other : ℕ) → place ≤ other → level_at trail.entries other ≡ trail.depth
        → Contains analyzed other ⊎ IsPlaceOf trail.entries (clause_at clauses id).lits other
        → IsResolvable clauses trail.entries analyzed' other
    resolve other from level (inl old) = resolve_old other old from level (cases_eq other place)
    resolve other from level (inr of) =
        let le : other ≤ place =
        reason_before clauses trail.entries place id other is.once in_trail f of in
        let same : place ≡ other = omega arith in
        subst (IsResolvable clauses trail.entries analyzed') same here

    by_old : (other : ℕ)
        → IsPlaceOf trail.entries conflict other
        ⊎ ((by : ℕ) × Contains analyzed by × (bound ≤ by)
        × (level_at trail.entries by ≡ trail.depth) × IsShownBy clauses trail.entries other by)
        → IsPlaceOf trail.entries conflict other
        ⊎ ((by : ℕ) × Contains analyzed' by × (place ≤ by)
        × (level_at trail.entries by ≡ trail.depth) × IsShownBy clauses trail.entries other by)
    by_old other (inl of) = inl of
    by_old other (inr by) = inr (by.0, keeps by.0 by.1, omega (arith, by.2), by.3, by.4)

    show : (other : ℕ)
        → Contains analyzed other ⊎ IsPlaceOf trail.entries (clause_at clauses id).lits other
        → IsPlaceOf trail.entries conflict other
        ⊎ ((by : ℕ) × Contains analyzed' by × (place ≤ by)
        × (level_at trail.entries by ≡ trail.depth) × IsShownBy clauses trail.entries other by)
    show other (inl old) = by_old other (w.shown other old)
    show other (inr of) =
        inr (
          place,
          keeps place has,
          omega arith,
          present,
          record
              { id = id; reason = reason; of = of },
        )

pub under_way_next : (trail : TrailView) (clauses : List ArenaClause)
    (bound left place id count : ℕ) (analyzed analyzed' : List ℕ) → IsTrail trail → 0 < trail.depth
    → IsComplete trail.entries (trail.depth - 1) (lits_of_each clauses) → place + 1 ≡ bound
    → place < length trail.entries → Contains analyzed place
    → level_at trail.entries place ≡ trail.depth
    → Forced clauses trail.entries place id
    → AreAllSeen trail.entries analyzed' (clause_at clauses id).lits
    → HasGrown trail.entries trail.depth (IsPlaceOf trail.entries (clause_at clauses id).lits)
    analyzed analyzed' count
    → IsUnderWay trail.entries trail.depth bound left analyzed
    → IsUnderWay trail.entries trail.depth place (left - 1 + count) analyzed'
under_way_next trail clauses bound left place id count analyzed analyzed' is deep complete at within
    has present f all_seen grown way =
    let p : PresentIn trail.entries trail.depth (clause_at clauses id).lits place =
    present_in_reason trail clauses place id is deep complete within present f in
    let step : open_below trail.entries trail.depth place analyzed + 1 ≤ open_below trail.entries
    trail.depth bound analyzed =
    subst (λ b. open_below trail.entries trail.depth place analyzed + 1 ≤ open_below trail.entries
    trail.depth b analyzed) at (open_next trail.entries trail.depth place analyzed has present) in
    record {
      next = p.place;
      among = all_seen p.of.lit p.of.stands p.place p.of.at;
      below = p.below;
      present = p.present;
      counted = omega (arith, step, way.counted, grown.open_count place);
      few = omega (arith, step, way.counted, way.few, grown.longer);
    }

-- at least one is left
pub some_left : (entries : List Entry) (depth bound left : ℕ) (analyzed : List ℕ)
    → IsUnderWay entries depth bound left analyzed → 1 ≤ left
some_left entries depth bound left analyzed way =
    omega (
      arith,
      way.counted,
      open_one entries depth bound way.next analyzed way.among way.below
          way.present,
    )

-- where one is left, or the literal has no reason, the way back has come to the point
pub at_point : (trail : TrailView) (clauses : List (List ℕ)) (bound left place : ℕ)
    (analyzed : List ℕ) → IsTrail trail → 0 < trail.depth
    → IsFounded clauses trail.entries trail.depth → place + 1 ≡ bound
    → place < length trail.entries → Contains analyzed place
    → IsUnderWay trail.entries trail.depth bound left analyzed
    → (left ≡ 1) ⊎ ((entry_at trail.entries place).reason ≡ None)
    → IsFirstUip trail.entries trail.depth analyzed place
at_point trail clauses bound left place analyzed is deep founded at within has way last = record {
  among = has;
  present = present;
  lone = λ other other_has level lt. never other other_has level lt last;
}
  where
    present : level_at trail.entries place ≡ trail.depth
    present = last_present trail bound left place analyzed is way at within

    never : (other : ℕ) → Contains analyzed other → level_at trail.entries other ≡ trail.depth
        → other < place → (left ≡ 1) ⊎ ((entry_at trail.entries place).reason ≡ None) → ⊥
    never other other_has level lt (inl one) =
        let first = open_one trail.entries trail.depth place other analyzed other_has lt level in
        let second = open_next trail.entries trail.depth place analyzed has present in
        let all : open_below trail.entries trail.depth (place + 1) analyzed ≤ left =
        subst (λ b. open_below trail.entries trail.depth b analyzed ≤ left) (sym at) way.counted in
        omega arith
    never other other_has level lt (inr none) =
        unforced_first clauses trail.entries trail.depth place other founded within
        (omega (arith, present)) none lt (level ∙ sym present)
