-- The step of a learnt clause is ok, and shows its literals and the variables seen.
use Rattle.std.proofs.Common.{◌≡◌, ◌∙◌, ℕ, ◌+◌, ◌<◌, ◌≤◌, List, [], ◌∷◌, ◌++◌, map, max, length, refl, ap, subst, sym, inl, inr, arith, Option}
use Rattle.std.specs.Prelude.{Contains, ◌⊎◌, ◌↔◌, All, IsSome}
use Rattle.std.proofs.lemmas.Bool.{cases_eq}
use Rattle.std.proofs.lemmas.List.Elements.{All-contains, Contains-push, Contains-push_cases, Contains-append_left}
use Rattle.sat_base.specs.Lit.{variable, opposite, IsTautology}
use Rattle.sat_base.specs.declared.origins.Ref.{Ref}
use Rattle.sat_base.proofs.Opposite.{opposite-opposite, Contains-negations}
use Rattle.sat_base.proofs.Members.{Contains-cases, Contains-map, Contains-from_map}
use Rattle.trace_core.specs.Known.{Known, clause_of, tag_of}
use Rattle.trace_core.specs.Propagation.{StandsInOneOf, ReachesConflict}
use Rattle.trace_core.specs.Trace.{greatest}
use Rattle.trace_core.specs.declared.derivation.Step.{Step}
use Rattle.clause_arena.specs.Arena.{ArenaClause, clause_at}
use Rattle.trail_core.specs.Trail.{Entry, TrailView, StandsAt, IsTrail, lits_of}
use Rattle.trail_core.specs.UnderTrail.{IsFalseLit, IsFalseClause}
use Rattle.analyze.specs.Graph.{IsPlaceOf, IsVariableAbove, lit_at, level_at}
use Rattle.analyze.specs.Table.{IsNameOf, KnowsArena, KnowsUnits}
use Rattle.analyze.specs.Learnt.{IsMetVariable, IsLearntBy}
use Rattle.analyze.specs.FirstUip.{IsResolvable, IsShownBy}
use Rattle.analyze.specs.Naming.{lits_for, name_for, tag_for}
use Rattle.trace_core.proofs.Items.{nothing_in}
use Rattle.analyze.proofs.Forced.{true_at, place_of_true, stands_false}
use Rattle.analyze.proofs.Hinted.{named_is, clause_members, tag_is, place_named, lits_low, lits_high, hinted_more, tags_more, known_more}
use Rattle.analyze.proofs.Graph.{same_variable, adds_of, shown_false}
use Rattle.analyze.proofs.Runs.{IsRefutable, Adds, ascends, runs}
use Rattle.analyze.proofs.Taught.{Taught, IsClauseOf, kept_within, kept_lower, kept_place, kept_stands, resolved_clause, refuted_clause}

-- the literals that hold at the start are those at the places that stay
pub held_from : (entries : List Entry) (kept clause : List ℕ) → IsClauseOf clause (lit_at entries) kept → (lit : ℕ) → Contains (map opposite clause) lit → (place : ℕ) × Contains kept place × (lit_at entries place ≡ lit)
held_from entries kept clause members lit has =
    let at = kept_place entries kept clause members (opposite lit) ((Contains-negations clause (map opposite clause) refl lit).0 has) in
    (at.0, at.1, at.2 ∙ opposite-opposite lit)

pub held_to : (entries : List Entry) (kept clause : List ℕ) → IsClauseOf clause (lit_at entries) kept → (place : ℕ) → Contains kept place → Contains (map opposite clause) (lit_at entries place)
held_to entries kept clause members place has = (Contains-negations clause (map opposite clause) refl (lit_at entries place)).1 (kept_stands entries kept clause members place has)

-- the clauses of a table for the places that are resolved away, and for the conflict
pub record Cited (trail : TrailView) (clauses : List ArenaClause) (conflict : ℕ) (resolved : List ℕ) (clause_for : ℕ → List ℕ) (last : List ℕ) : Type 0 where
  pub members : (place : ℕ) → Contains resolved place → (lit : ℕ) → Contains (clause_for place) lit ↔ Contains (lits_for clauses trail.entries place) lit
  pub last_members : (lit : ℕ) → Contains last lit ↔ Contains (clause_at clauses conflict).lits lit

reaches : (trail : TrailView) (clauses : List ArenaClause) (conflict point : ℕ)
    (resolved_from analyzed kept resolved clause : List ℕ) (clause_for : ℕ → List ℕ) (last : List ℕ)
    → Taught trail clauses conflict point resolved_from analyzed kept resolved
    → IsClauseOf clause (lit_at trail.entries) kept → Cited trail clauses conflict resolved clause_for last → ReachesConflict (map opposite clause) (map clause_for resolved ++ last ∷ [])
reaches trail clauses conflict point resolved_from analyzed kept resolved clause clause_for last t
    members cited =
    runs trail clause_for last (map opposite clause) resolved t.is (ascends resolved t.sorted) adds refutable
  where
    within : (place : ℕ) → Contains resolved place → place < length trail.entries
    within place has = t.cut.within place (t.cut.resolved_from place has)

    not_true : (place : ℕ) → Contains resolved place → ¬ Contains (map opposite clause) (lit_at trail.entries place)
    not_true place has held =
        let at = held_from trail.entries kept clause members (lit_at trail.entries place) held in
        let same : at.0 ≡ place =
        t.is.once (variable (lit_at trail.entries place)) at.0 place
        (record {
          within =
              kept_within trail clauses conflict point resolved_from analyzed kept resolved t at.0
              at.1;
          is = ap variable at.2;
        }) (record { within = within place has; is = refl }) in
        t.cut.apart at.0 at.1 (subst (Contains resolved) (sym same) has)

    not_false : (place : ℕ) → Contains resolved place → ¬ Contains (map opposite clause) (opposite (lit_at trail.entries place))
    not_false place has held =
        let at = held_from trail.entries kept clause members (opposite (lit_at trail.entries place)) held in
        t.is.consistent (lit_at trail.entries place) (true_at trail.entries place (within place has))
        (subst (Contains (lits_of trail.entries)) at.2
        (true_at trail.entries at.0
        (kept_within trail clauses conflict point resolved_from analyzed kept resolved t at.0
        at.1)))

    adds : (place : ℕ) → Contains resolved place → Adds trail.entries (clause_for place) (map opposite clause) resolved place
    adds place has =
        adds_of trail clauses analyzed kept resolved (map opposite clause) (clause_for place) place
        t.founded t.cut.split (held_to trail.entries kept clause members) (within place has)
        (t.cut.resolvable place has) (cited.members place has)
        (not_true place has) (not_false place has)

    refutable : (lit : ℕ) → Contains last lit → IsRefutable trail.entries (map opposite clause) resolved lit
    refutable lit has =
        let there : Contains (clause_at clauses conflict).lits lit = (cited.last_members lit).0 has in
        let f : IsFalseLit (lits_of trail.entries) lit = All-contains (IsFalseLit (lits_of trail.entries)) (clause_at clauses conflict).lits lit t.refuted.each there in
        let at = place_of_true trail.entries (opposite lit) f.stands in
        by_side at.0 at.2 (t.cut.split at.0
        (t.cut.still at.0 (t.first_uip.all_seen lit there at.0
        (stands_false trail.entries lit at.0 at.1 at.2))))
      where
        by_side : (place : ℕ) → lit_at trail.entries place ≡ opposite lit → Contains kept place ⊎ Contains resolved place → IsRefutable trail.entries (map opposite clause) resolved lit
        by_side place is (inl has') = inl (subst (Contains (map opposite clause)) is (held_to trail.entries kept clause members place has'))
        by_side place is (inr has') = inr (place, has', is)

in_last : (clause_for : ℕ → List ℕ) (resolved last : List ℕ) (lit : ℕ) → Contains last lit → StandsInOneOf (map clause_for resolved ++ last ∷ []) lit
in_last clause_for resolved last lit has = (last, Contains-push (map clause_for resolved) last, has)

in_place : (clause_for : ℕ → List ℕ) (resolved last : List ℕ) (place lit : ℕ) → Contains resolved place → Contains (clause_for place) lit → StandsInOneOf (map clause_for resolved ++ last ∷ []) lit
in_place clause_for resolved last place lit stands has = (clause_for place, Contains-append_left (map clause_for resolved) (last ∷ []) (clause_for place) (Contains-map clause_for resolved place stands), has)

-- a place above level 0 that isn't resolved away itself, or another one, shows in a hinted clause
resolver : (trail : TrailView) (clauses : List ArenaClause) (conflict point : ℕ)
    (resolved_from analyzed kept resolved : List ℕ)
    → Taught trail clauses conflict point resolved_from analyzed kept resolved → (place : ℕ)
    → Contains analyzed place
    → IsPlaceOf trail.entries (clause_at clauses conflict).lits place ⊎ ((other : ℕ) × Contains resolved other × (0 < level_at trail.entries other) × IsShownBy clauses trail.entries place other)
resolver trail clauses conflict point resolved_from analyzed kept resolved t place has =
    by_origin (t.cut.shown place has)
  where
    not_kept : (other : ℕ) → point + 1 ≤ other → level_at trail.entries other ≡ trail.depth → Contains kept other ⊎ Contains resolved other → Contains resolved other
    not_kept other from present (inl stays) = let low =
        kept_lower trail clauses conflict point resolved_from analyzed kept resolved t other stays
        (λ same. omega arith) in absurd (omega (arith, low.1, present))
    not_kept other from present (inr gone) = gone

    by_walk : IsPlaceOf trail.entries (clause_at clauses conflict).lits place
        ⊎ ((other : ℕ) × Contains resolved_from other × (point + 1 ≤ other)
        × (level_at trail.entries other ≡ trail.depth) × IsShownBy clauses trail.entries place
        other)
        → IsPlaceOf trail.entries (clause_at clauses conflict).lits place ⊎ ((other : ℕ) × Contains resolved other × (0 < level_at trail.entries other) × IsShownBy clauses trail.entries place other)
    by_walk (inl of) = inl of
    by_walk (inr by) = inr (by.0, not_kept by.0 by.2 by.3 (t.cut.split by.0 (t.cut.still by.0 by.1)), omega (arith, by.3, t.deep), by.4)

    by_origin : Contains resolved_from place
        ⊎ ((other : ℕ) × Contains resolved other × (0 < level_at trail.entries other) × IsShownBy
        clauses trail.entries place other)
        → IsPlaceOf trail.entries (clause_at clauses conflict).lits place ⊎ ((other : ℕ) × Contains resolved other × (0 < level_at trail.entries other) × IsShownBy clauses trail.entries place other)
    by_origin (inl old) = by_walk (t.first_uip.shown place old)
    by_origin (inr by) = inr by

-- each literal of the clause stands in a hinted clause
covers : (trail : TrailView) (clauses : List ArenaClause) (conflict point : ℕ)
    (resolved_from analyzed kept resolved clause : List ℕ) (clause_for : ℕ → List ℕ) (last : List ℕ)
    → Taught trail clauses conflict point resolved_from analyzed kept resolved
    → IsClauseOf clause (lit_at trail.entries) kept → Cited trail clauses conflict resolved clause_for last → (lit : ℕ) → Contains clause lit → StandsInOneOf (map clause_for resolved ++ last ∷ []) lit
covers trail clauses conflict point resolved_from analyzed kept resolved clause clause_for last t
    members cited lit has = at_place (kept_place trail.entries kept clause members lit has)
  where
    at_place : ((place : ℕ) × Contains kept place × (lit_at trail.entries place ≡ opposite lit)) → StandsInOneOf (map clause_for resolved ++ last ∷ []) lit
    at_place at = by_resolver
        (resolver trail clauses conflict point resolved_from analyzed kept resolved t at.0
        (t.cut.kept_from at.0 at.1))
      where
        is : opposite (lit_at trail.entries at.0) ≡ lit
        is = ap opposite at.2 ∙ opposite-opposite lit

        by_lit : (of : IsPlaceOf trail.entries (clause_at clauses conflict).lits at.0) → (of.lit ≡ lit_at trail.entries at.0) ⊎ (of.lit ≡ opposite (lit_at trail.entries at.0)) → StandsInOneOf (map clause_for resolved ++ last ∷ []) lit
        by_lit of (inl true_lit) =
            let f : IsFalseLit (lits_of trail.entries) of.lit = All-contains (IsFalseLit (lits_of trail.entries)) (clause_at clauses conflict).lits of.lit t.refuted.each of.stands in
            absurd (t.is.consistent of.lit (subst (Contains (lits_of trail.entries)) (sym true_lit) (true_at trail.entries at.0 of.at.within)) f.stands)
        by_lit of (inr false_lit) = in_last clause_for resolved last lit ((cited.last_members lit).1 (subst (Contains (clause_at clauses conflict).lits) (false_lit ∙ is) of.stands))

        by_resolver : IsPlaceOf trail.entries (clause_at clauses conflict).lits at.0 ⊎ ((other : ℕ) × Contains resolved other × (0 < level_at trail.entries other) × IsShownBy clauses trail.entries at.0 other)
            → StandsInOneOf (map clause_for resolved ++ last ∷ []) lit
        by_resolver (inl of) = by_lit of (same_variable of.lit (lit_at trail.entries at.0) (sym of.at.is))
        by_resolver (inr by) =
            in_place clause_for resolved last by.0 lit by.1
            (subst (Contains (clause_for by.0)) is
            (shown_false trail clauses (clause_for by.0) at.0 by.0 t.is t.founded
            (t.cut.within by.0 (t.cut.resolved_from by.0 by.1))
            (kept_within trail clauses conflict point resolved_from analyzed kept resolved t at.0
            at.1) by.2
            (λ same. t.cut.apart at.0 at.1 (subst (Contains resolved) (sym same) by.1)) by.3 (cited.members by.0 by.1)))

-- the variables above level 0 of the places seen are those of the hinted clauses
variables_met : (trail : TrailView) (clauses : List ArenaClause) (conflict point : ℕ)
    (resolved_from analyzed kept resolved : List ℕ) (clause_for : ℕ → List ℕ) (last : List ℕ)
    → Taught trail clauses conflict point resolved_from analyzed kept resolved
    → Cited trail clauses conflict resolved clause_for last → (var : ℕ)
    → IsVariableAbove trail.entries analyzed var ↔ IsMetVariable trail.entries
    (map clause_for resolved ++ last ∷ []) var
variables_met trail clauses conflict point resolved_from analyzed kept resolved clause_for last t
    cited var = (
      λ v. shown v
          (resolver trail clauses conflict point resolved_from analyzed kept resolved t v.place
          v.stands),
      back,
    )
  where
    shown : (v : IsVariableAbove trail.entries analyzed var)
        → IsPlaceOf trail.entries (clause_at clauses conflict).lits v.place
        ⊎ ((other : ℕ) × Contains resolved other × (0 < level_at trail.entries other) × IsShownBy
        clauses trail.entries v.place other)
        → IsMetVariable trail.entries (map clause_for resolved ++ last ∷ []) var
    shown v (inl of) = record {
      lit = of.lit;
      stands = in_last clause_for resolved last of.lit ((cited.last_members of.lit).1 of.stands);
      of = sym of.at.is ∙ v.is;
      place = v.place;
      at = record { within = of.at.within; is = v.is };
      above = v.above;
    }
    shown v (inr by) = record {
      lit = by.3.of.lit;
      stands = in_place clause_for resolved last by.0 by.3.of.lit by.1
          ((cited.members by.0 by.1 by.3.of.lit).1 (subst (λ (ls : List ℕ). Contains ls by.3.of.lit) (sym (lits_high clauses trail.entries by.0 by.3.id by.2 by.3.reason)) by.3.of.stands));
      of = sym by.3.of.at.is ∙ v.is;
      place = v.place;
      at = record { within = by.3.of.at.within; is = v.is };
      above = v.above;
    }

    from_met : (m : IsMetVariable trail.entries (map clause_for resolved ++ last ∷ []) var)
        → Contains analyzed m.place → IsVariableAbove trail.entries analyzed var
    from_met m has = record { place = m.place; stands = has; is = m.at.is; above = m.above }

    in_low : (m : IsMetVariable trail.entries (map clause_for resolved ++ last ∷ []) var)
        (place : ℕ) → Contains resolved place → level_at trail.entries place ≡ 0
        → Contains (lits_for clauses trail.entries place) m.lit → Contains analyzed m.place
    in_low m place gone low has = only (Contains-cases (lit_at trail.entries place) m.lit [] (subst (λ (ls : List ℕ). Contains ls m.lit) (lits_low clauses trail.entries place low) has))
      where
        only : (lit_at trail.entries place ≡ m.lit) ⊎ Contains [] m.lit → Contains analyzed m.place
        only (inl same) =
            let e : place ≡ m.place = t.is.once var place m.place (record { within = t.cut.within place (t.cut.resolved_from place gone); is = ap variable same ∙ m.of }) m.at in
            subst (Contains analyzed) e (t.cut.resolved_from place gone)
        only (inr none) = nothing_in m.lit none

    in_clause : (m : IsMetVariable trail.entries (map clause_for resolved ++ last ∷ []) var)
        (place : ℕ) → Contains resolved place
        → Contains (lits_for clauses trail.entries place) m.lit → Contains analyzed m.place
    in_clause m place gone has = by_kind (t.cut.resolvable place gone) (cases_eq (level_at trail.entries place) 0)
      where
        by_kind : (level_at trail.entries place ≡ 0) ⊎ IsResolvable clauses trail.entries analyzed
            place → (level_at trail.entries place ≡ 0) ⊎ (level_at trail.entries place ≡ 0 → ⊥)
            → Contains analyzed m.place
        by_kind (inl low) _ = in_low m place gone low has
        by_kind (inr r) (inl low) = in_low m place gone low has
        by_kind (inr r) (inr high) =
            r.all_seen m.lit (subst (λ (ls : List ℕ). Contains ls m.lit)
            (lits_high clauses trail.entries place r.id (omega arith) r.reason) has) m.place
            (subst (λ v. StandsAt trail.entries v m.place) (sym m.of) m.at)

    back : IsMetVariable trail.entries (map clause_for resolved ++ last ∷ []) var
        → IsVariableAbove trail.entries analyzed var
    back m = by_clause (Contains-push_cases (map clause_for resolved) last m.stands.0 m.stands.1)
      where
        by_clause : Contains (map clause_for resolved) m.stands.0 ⊎ (last ≡ m.stands.0)
            → IsVariableAbove trail.entries analyzed var
        by_clause (inl one) =
            let p = Contains-from_map clause_for resolved m.stands.0 one in
            from_met m (in_clause m p.0 p.1 ((cited.members p.0 p.1 m.lit).0 (subst (λ (ls : List ℕ). Contains ls m.lit) (sym p.2) m.stands.2)))
        by_clause (inr same) =
            from_met m (t.cut.still m.place
            (t.first_uip.all_seen m.lit
            ((cited.last_members m.lit).0
            (subst (λ (ls : List ℕ). Contains ls m.lit) (sym same) m.stands.2)) m.place
            (subst (λ v. StandsAt trail.entries v m.place) (sym m.of) m.at)))

not_tautology : (trail : TrailView) (clause : List ℕ) → IsTrail trail → IsFalseClause (lits_of trail.entries) clause → ¬ IsTautology clause
not_tautology trail clause is refuted both =
    let f : IsFalseLit (lits_of trail.entries) both.lit = All-contains (IsFalseLit (lits_of trail.entries)) clause both.lit refuted.each both.has in
    let g : IsFalseLit (lits_of trail.entries) (opposite both.lit) = All-contains (IsFalseLit (lits_of trail.entries)) clause (opposite both.lit) refuted.each both.has_opposite in
    is.consistent (opposite both.lit) f.stands g.stands

-- the step of a learnt clause, over each table that knows the arena and the units
pub learnt_by : (table : Ref → Option Known) (trail : TrailView) (clauses : List ArenaClause)
    (units : List Ref) (tags : List ℕ) (conflict point : ℕ)
    (resolved_from analyzed kept resolved vars : List ℕ) (step : Step)
    → KnowsArena table clauses → KnowsUnits table trail.entries units tags
    → Taught trail clauses conflict point resolved_from analyzed kept resolved
    → IsClauseOf step.clause (lit_at trail.entries) kept
    → step.hints ≡ map (name_for clauses trail.entries units) resolved ++ (clause_at clauses conflict).origin ∷ []
    → step.tag ≡ max (greatest (map (tag_for clauses trail.entries tags) resolved)) (clause_at clauses conflict).tag
    → ((var : ℕ) → Contains vars var ↔ IsVariableAbove trail.entries analyzed var)
    → IsLearntBy table trail.entries step vars
learnt_by table trail clauses units tags conflict point resolved_from analyzed kept resolved vars
    step arena known t members hints tag variables = record {
      ok = record {
        all_known = subst (All (λ hint. IsSome (table hint))) (sym hints)
            (known_more table (name_for clauses trail.entries units) resolved
            (clause_at clauses conflict).origin
            (λ place has. named_is table (name_for clauses trail.entries units place)
            (lits_for clauses trail.entries place) (tag_for clauses trail.entries tags place)
            (named place has))
            (named_is table (clause_at clauses conflict).origin (clause_at clauses conflict).lits
            (clause_at clauses conflict).tag (arena conflict t.known)));
        proved = inr (record {
          proper = not_tautology trail step.clause t.is
              (refuted_clause trail clauses conflict point resolved_from analyzed kept resolved
              step.clause t members);
          covered = covered;
          conflict = subst (ReachesConflict (map opposite step.clause)) (sym hinted)
              (reaches trail clauses conflict point resolved_from analyzed kept resolved step.clause
              clause_for last t members cited);
        });
        exact_tag = tag ∙ sym (ap (λ hs. greatest (map (λ hint. tag_of (table hint)) hs)) hints
            ∙ tags_more table (name_for clauses trail.entries units)
            (tag_for clauses trail.entries tags) resolved (clause_at clauses conflict).origin
            (clause_at clauses conflict).tag
            (λ place has. tag_is table (name_for clauses trail.entries units place)
            (lits_for clauses trail.entries place) (tag_for clauses trail.entries tags place)
            (named place has))
            (tag_is table (clause_at clauses conflict).origin (clause_at clauses conflict).lits
            (clause_at clauses conflict).tag (arena conflict t.known)));
      };
      covered = covered;
      variables = λ var.
          let both = variables_met trail clauses conflict point resolved_from analyzed kept resolved
          clause_for last t cited var in (
            λ has. subst (λ ls. IsMetVariable trail.entries ls var) (sym hinted)
                (both.0 ((variables var).0 has)),
            λ m. (variables var).1
                (both.1 (subst (λ ls. IsMetVariable trail.entries ls var) hinted m)),
          );
    }
  where
    clause_for : ℕ → List ℕ
    clause_for place = clause_of (table (name_for clauses trail.entries units place))

    last : List ℕ
    last = clause_of (table (clause_at clauses conflict).origin)

    named : (place : ℕ) → Contains resolved place → IsNameOf table (name_for clauses trail.entries units place) (lits_for clauses trail.entries place) (tag_for clauses trail.entries tags place)
    named place has = place_named table clauses trail.entries units tags place arena known
        (resolved_clause trail clauses conflict point resolved_from analyzed kept resolved t place
        has)

    cited : Cited trail clauses conflict resolved clause_for last
    cited = record {
      members = λ place has. clause_members table (name_for clauses trail.entries units place) (lits_for clauses trail.entries place) (tag_for clauses trail.entries tags place) (named place has);
      last_members = clause_members table (clause_at clauses conflict).origin (clause_at clauses conflict).lits (clause_at clauses conflict).tag (arena conflict t.known);
    }

    hinted : map (λ hint. clause_of (table hint)) step.hints ≡ map clause_for resolved ++ last ∷ []
    hinted = ap (map (λ hint. clause_of (table hint))) hints ∙ hinted_more table (name_for clauses trail.entries units) resolved (clause_at clauses conflict).origin

    covered : (lit : ℕ) → Contains step.clause lit → StandsInOneOf (map (λ hint. clause_of (table hint)) step.hints) lit
    covered lit has = subst (λ ls. StandsInOneOf ls lit) (sym hinted)
        (covers trail clauses conflict point resolved_from analyzed kept resolved step.clause
        clause_for last t members cited lit has)
