-- What is learnt: the clause of the places that stay.
use Rattle.std.proofs.Common.{◌≡◌, ◌≢◌, ◌∙◌, ℕ, ◌+◌, ◌-◌, ◌<◌, ◌≤◌, List, map, length, refl, ap, subst, sym, inl, inr, arith}
use Rattle.std.specs.Prelude.{Contains, ◌⊎◌, ◌↔◌, All}
use Rattle.std.specs.List.Sorted.{IsStrictlySortedBy}
use Rattle.std.specs.Ordering.{nat_cmp}
use Rattle.sat_base.specs.Lit.{variable, opposite}
use Rattle.sat_base.proofs.Opposite.{variable-opposite, opposite-opposite}
use Rattle.sat_base.proofs.Members.{All-from_members, Contains-map, Contains-from_map}
use Rattle.clause_arena.specs.Arena.{ArenaClause, clause_at, lits_of_each}
use Rattle.trail_core.specs.Trail.{Entry, TrailView, StandsAt, IsTrail, lits_of}
use Rattle.trail_core.specs.UnderTrail.{IsFalseLit, IsFalseClause, IsFounded, IsComplete}
use Rattle.analyze.specs.Graph.{IsOfLevel, IsVariableAbove, HasUnseen, lit_at, level_at}
use Rattle.analyze.specs.Learnt.{IsAsserting, IsUnimplied, IsMinimized}
use Rattle.analyze.specs.FirstUip.{IsResolvedFrom, IsFirstUip}
use Rattle.analyze.specs.Cut.{MayStay, IsNeeded, IsCut}
use Rattle.analyze.specs.Naming.{HasClause}
use Rattle.analyze.specs.declared.classify.Rule.TheVariants.{Learning}
use Rattle.analyze.proofs.Forced.{true_at}
use Rattle.analyze.proofs.Graph.{has_clause}

-- all that the way to the point and the cut have found
pub record Taught (trail : TrailView) (clauses : List ArenaClause) (conflict point : ℕ)
    (resolved_from analyzed kept resolved : List ℕ) : Type 0 where
  pub is : IsTrail trail
  pub founded : IsFounded (lits_of_each clauses) trail.entries trail.depth
  pub deep : 0 < trail.depth
  pub complete : IsComplete trail.entries (trail.depth - 1) (lits_of_each clauses)
  pub known : conflict < length clauses
  pub refuted : IsFalseClause (lits_of trail.entries) (clause_at clauses conflict).lits
  pub first_uip : IsResolvedFrom clauses trail.entries trail.depth (clause_at clauses conflict).lits
      (point + 1) resolved_from
  pub at : IsFirstUip trail.entries trail.depth resolved_from point
  pub cut : IsCut clauses trail.entries trail.depth (Learning point) resolved_from analyzed analyzed
      kept resolved
  pub sorted : IsStrictlySortedBy nat_cmp resolved

-- the clause has the negations of the literals at the places that stay
abbrev pub IsClauseOf : List ℕ → (ℕ → ℕ) → List ℕ → Type 0
IsClauseOf clause lit_of kept = (lit : ℕ) → Contains clause lit ↔ Contains (map lit_of kept) (opposite lit)

pub kept_within : (trail : TrailView) (clauses : List ArenaClause) (conflict point : ℕ)
    (resolved_from analyzed kept resolved : List ℕ)
    → Taught trail clauses conflict point resolved_from analyzed kept resolved → (place : ℕ)
    → Contains kept place → place < length trail.entries
kept_within trail clauses conflict point resolved_from analyzed kept resolved t place has =
    t.cut.within place (t.cut.kept_from place has)

pub all_within : (trail : TrailView) (clauses : List ArenaClause) (conflict point : ℕ)
    (resolved_from analyzed kept resolved : List ℕ)
    → Taught trail clauses conflict point resolved_from analyzed kept resolved
    → All (λ place. place < length trail.entries) kept
all_within trail clauses conflict point resolved_from analyzed kept resolved t =
    All-from_members (λ place. place < length trail.entries) kept
    (kept_within trail clauses conflict point resolved_from analyzed kept resolved t)

pub met_within : (trail : TrailView) (clauses : List ArenaClause) (conflict point : ℕ)
    (resolved_from analyzed kept resolved : List ℕ)
    → Taught trail clauses conflict point resolved_from analyzed kept resolved
    → All (λ place. place < length trail.entries) analyzed
met_within trail clauses conflict point resolved_from analyzed kept resolved t =
    All-from_members (λ place. place < length trail.entries) analyzed t.cut.within

pub resolved_clause : (trail : TrailView) (clauses : List ArenaClause) (conflict point : ℕ)
    (resolved_from analyzed kept resolved : List ℕ)
    → Taught trail clauses conflict point resolved_from analyzed kept resolved → (place : ℕ)
    → Contains resolved place → HasClause clauses trail.entries place
resolved_clause trail clauses conflict point resolved_from analyzed kept resolved t place has =
    has_clause trail clauses analyzed place t.founded
    (t.cut.within place (t.cut.resolved_from place has)) (t.cut.resolvable place has)

pub all_clauses : (trail : TrailView) (clauses : List ArenaClause) (conflict point : ℕ)
    (resolved_from analyzed kept resolved : List ℕ)
    → Taught trail clauses conflict point resolved_from analyzed kept resolved
    → All (HasClause clauses trail.entries) resolved
all_clauses trail clauses conflict point resolved_from analyzed kept resolved t =
    All-from_members (HasClause clauses trail.entries) resolved
    (resolved_clause trail clauses conflict point resolved_from analyzed kept resolved t)

-- the point stays
pub point_kept : (trail : TrailView) (clauses : List ArenaClause) (conflict point : ℕ)
    (resolved_from analyzed kept resolved : List ℕ)
    → Taught trail clauses conflict point resolved_from analyzed kept resolved → Contains kept point
point_kept trail clauses conflict point resolved_from analyzed kept resolved t =
    by_side (t.cut.split point (t.cut.still point t.at.among))
  where
    by_side : Contains kept point ⊎ Contains resolved point → Contains kept point
    by_side (inl has) = has
    by_side (inr has) = absurd (t.cut.gone point has refl)

-- what stays besides is of a level between
pub kept_lower : (trail : TrailView) (clauses : List ArenaClause) (conflict point : ℕ)
    (resolved_from analyzed kept resolved : List ℕ)
    → Taught trail clauses conflict point resolved_from analyzed kept resolved → (place : ℕ)
    → Contains kept place → place ≢ point
    → (0 < level_at trail.entries place) × (level_at trail.entries place < trail.depth)
kept_lower trail clauses conflict point resolved_from analyzed kept resolved t place has differs =
    by_stay (t.cut.stays place has)
  where
    by_kind : (place ≡ point) ⊎ (level_at trail.entries place < trail.depth) → level_at trail.entries place < trail.depth
    by_kind (inl same) = absurd (differs same)
    by_kind (inr low) = low

    by_stay : (0 < level_at trail.entries place) × MayStay trail.entries trail.depth (Learning point) place → (0 < level_at trail.entries place) × (level_at trail.entries place < trail.depth)
    by_stay s = (s.0, by_kind s.1)

-- the place of a literal of the clause
pub kept_place : (entries : List Entry) (kept clause : List ℕ) → IsClauseOf clause (lit_at entries) kept → (lit : ℕ) → Contains clause lit → (place : ℕ) × Contains kept place × (lit_at entries place ≡ opposite lit)
kept_place entries kept clause members lit has = Contains-from_map (lit_at entries) kept (opposite lit) ((members lit).0 has)

pub kept_stands : (entries : List Entry) (kept clause : List ℕ) → IsClauseOf clause (lit_at entries) kept → (place : ℕ) → Contains kept place → Contains clause (opposite (lit_at entries place))
kept_stands entries kept clause members place has = (members (opposite (lit_at entries place))).1 (subst (Contains (map (lit_at entries) kept)) (sym (opposite-opposite (lit_at entries place))) (Contains-map (lit_at entries) kept place has))

pub refuted_clause : (trail : TrailView) (clauses : List ArenaClause) (conflict point : ℕ)
    (resolved_from analyzed kept resolved clause : List ℕ)
    → Taught trail clauses conflict point resolved_from analyzed kept resolved
    → IsClauseOf clause (lit_at trail.entries) kept → IsFalseClause (lits_of trail.entries) clause
refuted_clause trail clauses conflict point resolved_from analyzed kept resolved clause t members =
    record { each = All-from_members (IsFalseLit (lits_of trail.entries)) clause false_lit }
  where
    false_lit : (lit : ℕ) → Contains clause lit → IsFalseLit (lits_of trail.entries) lit
    false_lit lit has =
        let at = kept_place trail.entries kept clause members lit has in
        record {
          stands = subst (Contains (lits_of trail.entries)) at.2
              (true_at trail.entries at.0
              (kept_within trail clauses conflict point resolved_from analyzed kept resolved t at.0
              at.1));
        }

pub asserting_clause : (trail : TrailView) (clauses : List ArenaClause) (conflict point : ℕ)
    (resolved_from analyzed kept resolved clause : List ℕ) (back : ℕ)
    → Taught trail clauses conflict point resolved_from analyzed kept resolved
    → IsClauseOf clause (lit_at trail.entries) kept
    → ((place : ℕ) → Contains kept place → place ≢ point → level_at trail.entries place ≤ back) → (back ≡ 0) ⊎ ((place : ℕ) × Contains kept place × (place ≢ point) × (level_at trail.entries place ≡ back))
    → IsAsserting trail.entries trail.depth back clause
asserting_clause trail clauses conflict point resolved_from analyzed kept resolved clause back t
    members bound reached = record {
      lit = opposite (lit_at trail.entries point);
      stands = kept_stands trail.entries kept clause members point kept_point;
      present = record {
        place = point;
        at =
            record {
              within = kept_within trail clauses conflict point resolved_from analyzed kept
                  resolved t point kept_point;
              is = sym (variable-opposite (lit_at trail.entries point));
            };
        is =
            t.at.present;
      };
      others = λ other has differs. low other
          (kept_place trail.entries kept clause members other has) differs;
      below = below reached;
      reached = reach reached;
    }
  where
    kept_point : Contains kept point
    kept_point = point_kept trail clauses conflict point resolved_from analyzed kept resolved t

    stands_at : (lit place : ℕ) → Contains kept place → lit_at trail.entries place ≡ opposite lit → StandsAt trail.entries (variable lit) place
    stands_at lit place has is =
        record {
          within = kept_within trail clauses conflict point resolved_from analyzed kept
              resolved t place has;
          is = ap variable is ∙ variable-opposite lit;
        }

    low : (other : ℕ) → ((place : ℕ) × Contains kept place × (lit_at trail.entries place ≡ opposite other)) → other ≢ opposite (lit_at trail.entries point)
        → (level : ℕ) × IsOfLevel trail.entries other level × (0 < level) × (level ≤ back)
    low other at differs =
        let apart : at.0 ≢ point =
        λ same. differs (sym (opposite-opposite other)
        ∙ ap opposite (sym at.2 ∙ ap (lit_at trail.entries) same)) in (
          level_at trail.entries at.0,
          record
              { place = at.0; at = stands_at other at.0 at.1 at.2; is = refl },
          (kept_lower trail clauses conflict point resolved_from analyzed kept resolved t at.0 at.1
              apart).0,
          bound at.0 at.1 apart,
        )

    below : (back ≡ 0) ⊎ ((place : ℕ) × Contains kept place × (place ≢ point) × (level_at trail.entries place ≡ back)) → back < trail.depth
    below (inl none) = omega (arith, t.deep)
    below (inr at) = omega (
      arith,
      (kept_lower trail clauses conflict point resolved_from analyzed kept resolved t at.0
          at.1 at.2).1,
      at.3,
    )

    reach : (back ≡ 0) ⊎ ((place : ℕ) × Contains kept place × (place ≢ point) × (level_at trail.entries place ≡ back)) → (back ≡ 0) ⊎ ((other : ℕ) × Contains clause other × IsOfLevel trail.entries other back)
    reach (inl none) = inl none
    reach (inr at) = inr (
      opposite (lit_at trail.entries at.0),
      kept_stands trail.entries kept clause members at.0 at.1,
      record {
        place = at.0;
        at =
            record {
              within = kept_within trail clauses conflict point resolved_from analyzed kept
                  resolved t at.0 at.1;
              is = sym (variable-opposite (lit_at trail.entries at.0));
            };
        is =
            at.3;
      },
    )

-- what stays below the point's level isn't implied by what else was met
pub minimized_clause : (trail : TrailView) (clauses : List ArenaClause) (conflict point : ℕ)
    (resolved_from analyzed kept resolved clause met : List ℕ)
    → Taught trail clauses conflict point resolved_from analyzed kept resolved
    → IsClauseOf clause (lit_at trail.entries) kept
    → ((var : ℕ) → Contains met var ↔ IsVariableAbove trail.entries analyzed var)
    → IsMinimized clauses trail.entries trail.depth met clause
minimized_clause trail clauses conflict point resolved_from analyzed kept resolved clause met t
    members vars lit place stands at lower = by_kind (t.cut.needed found.0 found.1)
  where
    found : (k : ℕ) × Contains kept k × (lit_at trail.entries k ≡ opposite lit)
    found = kept_place trail.entries kept clause members lit stands

    same : found.0 ≡ place
    same = t.is.once (variable lit) found.0 place (record {
      within = kept_within trail clauses conflict point resolved_from analyzed kept resolved t
          found.0 found.1;
      is = ap variable found.2 ∙ variable-opposite lit;
    }) at

    unmet : (need : HasUnseen clauses trail.entries analyzed place)
        → Contains met (variable need.of.lit) → ⊥
    unmet need has =
        let above = (vars (variable need.of.lit)).0 has in
        need.unseen (subst (Contains analyzed)
        (t.is.once (variable need.of.lit) above.place need.other
        (record { within = t.cut.within above.place above.stands; is = above.is }) need.of.at)
        above.stands)

    by_need : IsNeeded clauses trail.entries analyzed place
        → IsUnimplied clauses trail.entries met place
    by_need (inl free) = inl free
    by_need (inr need) = inr (record {
      id = need.id;
      reason = need.reason;
      lit = need.of.lit;
      stands = need.of.stands;
      other = need.other;
      at = need.of.at;
      above = need.above;
      unmet = unmet need;
    })

    by_kind : (found.0 ≡ point) ⊎ IsNeeded clauses trail.entries analyzed found.0
        → IsUnimplied clauses trail.entries met place
    by_kind (inl is_point) =
        let present : level_at trail.entries place ≡ trail.depth =
        subst (λ k. level_at trail.entries k ≡ trail.depth) (sym is_point ∙ same) t.at.present in
        absurd (omega (arith, lower, present))
    by_kind (inr need) = by_need (subst (IsNeeded clauses trail.entries analyzed) same need)
