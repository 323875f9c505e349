use Rattle.std.proofs.Common.{◌≡◌, ◌≢◌, ◌∙◌, ℕ, ◌<◌, List, [], ◌∷◌, ◌++◌, map, max, length, ap, subst, sym}
use Rattle.std.specs.Prelude.{All, Contains, ◌↔◌, ◌⊎◌}
use Rattle.sat_base.specs.declared.origins.Ref.{Ref}
use Rattle.trace_core.specs.Trace.{greatest}
use Rattle.clause_arena.specs.Arena.{clause_at}
use Rattle.trail_core.specs.Trail.{lits_of}
use Rattle.trail_core.specs.UnderTrail.{IsFalseClause}
use Rattle.analyze.specs.Learnt.{IsAsserting, IsNew, IsMinimized}
use Rattle.analyze.specs.Graph.{IsPlaceOf, IsVariableAbove, lit_at, level_at}
use Rattle.analyze.specs.Seen.{AreAllSeen, HasGrown}
use Rattle.analyze.specs.Naming.{HasClause, name_for, tag_for}
use Rattle.analyze.proofs.Forced.{present_in_false}
use Rattle.analyze.proofs.ToFirstUip.{resolved_start, under_way_start}
use Rattle.analyze.proofs.Taught.{Taught, IsClauseOf, all_within, met_within, all_clauses, refuted_clause, asserting_clause, minimized_clause}
use Rattle.analyze.proofs.New.{new_clause}
use Rattle.analyze.proofs.Justified.{learnt_by}
use Rattle.analyze.proofs.learning.derive.Goals.{After-deref, After-copy}
use Rattle.analyze.proofs.learning.derive.Goals as goal

-- what holds once the literals are classified
taught : (c : After-deref) → Taught c.args.trail.now c.args.arena.now c.args.conflict c.in_ok-point.point
    c.first_uip.new.analyzed.items c.classify.new.analyzed.items c.in_ok-parts.parts.kept.items
    c.in_ok-parts.parts.resolved.items
taught c = record {
  is = c.analyze_clause.ensures.trail;
  founded = c.requires.founded;
  deep = c.requires.deep;
  complete = c.requires.complete;
  known = c.requires.known;
  refuted = c.requires.refuted;
  first_uip = c.in_ok-point.ensures.resolved_from;
  at = c.in_ok-point.ensures.point;
  cut = c.in_ok-parts.ensures.cut;
  sorted = c.in_ok-parts.ensures.ascending;
}

-- the literals of the clause
clause_members : (c : After-copy) → IsClauseOf c.in_ok-clause.clause (lit_at c.args.trail.now.entries) c.in_ok-parts.parts.kept.items
clause_members c = subst (IsClauseOf c.in_ok-clause.clause (lit_at c.args.trail.now.entries)) c.deref.ensures.value c.in_ok-clause.ensures

pub first_uip-requires-clause-resolved_from : goal.first_uip-requires-clause-resolved_from
first_uip-requires-clause-resolved_from c =
    resolved_start c.args.arena.now c.args.trail.now.entries c.args.trail.now.depth
    (clause_at c.args.arena.now c.args.conflict).lits c.args.analyzed.now.items
    c.analyze_clause.new.analyzed.items c.in_ok-left.left c.requires.empty
    (subst (AreAllSeen c.args.trail.now.entries c.analyze_clause.new.analyzed.items)
    c.lits.ensures.value c.in_ok-left.ensures.all_seen)
    (subst (λ (ls : List ℕ). HasGrown c.args.trail.now.entries c.args.trail.now.depth
    (IsPlaceOf c.args.trail.now.entries ls) c.args.analyzed.now.items
    c.analyze_clause.new.analyzed.items c.in_ok-left.left) c.lits.ensures.value
    c.in_ok-left.ensures.grown)

pub first_uip-requires-clause-under_way : goal.first_uip-requires-clause-under_way
first_uip-requires-clause-under_way c =
    under_way_start c.args.trail.now.entries c.args.trail.now.depth
    (clause_at c.args.arena.now c.args.conflict).lits c.args.analyzed.now.items
    c.analyze_clause.new.analyzed.items c.in_ok-left.left c.requires.empty
    (subst (AreAllSeen c.args.trail.now.entries c.analyze_clause.new.analyzed.items)
    c.lits.ensures.value c.in_ok-left.ensures.all_seen)
    (subst (λ (ls : List ℕ). HasGrown c.args.trail.now.entries c.args.trail.now.depth
    (IsPlaceOf c.args.trail.now.entries ls) c.args.analyzed.now.items
    c.analyze_clause.new.analyzed.items c.in_ok-left.left) c.lits.ensures.value
    c.in_ok-left.ensures.grown)
    (present_in_false c.args.trail.now c.args.arena.now c.args.conflict
    c.analyze_clause.ensures.trail c.requires.deep c.requires.complete c.requires.known
    c.requires.refuted)

pub clause_of-requires : goal.clause_of-requires
clause_of-requires c =
    let t = taught (goal.at.clause_of-requires c).After-deref in
    subst (λ (xs : List ℕ). All (λ place. place < length c.args.trail.now.entries) xs) (sym c.deref.ensures.value)
    (all_within c.args.trail.now c.args.arena.now c.args.conflict c.in_ok-point.point
    c.first_uip.new.analyzed.items c.classify.new.analyzed.items c.in_ok-parts.parts.kept.items
    c.in_ok-parts.parts.resolved.items t)

pub cite_all-requires-clause-clauses : goal.cite_all-requires-clause-clauses
cite_all-requires-clause-clauses c =
    let t = taught (goal.at.cite_all-requires-clause-clauses c).After-deref in
    subst (All (HasClause c.args.arena.now c.args.trail.now.entries)) (sym c.deref-2.ensures.value)
    (all_clauses c.args.trail.now c.args.arena.now c.args.conflict c.in_ok-point.point
    c.first_uip.new.analyzed.items c.classify.new.analyzed.items c.in_ok-parts.parts.kept.items
    c.in_ok-parts.parts.resolved.items t)

pub highest_level-requires : goal.highest_level-requires
highest_level-requires c =
    let t = taught (goal.at.highest_level-requires c).After-deref in
    subst (λ (xs : List ℕ). All (λ place. place < length c.args.trail.now.entries) xs) (sym c.deref-3.ensures.value)
    (all_within c.args.trail.now c.args.arena.now c.args.conflict c.in_ok-point.point
    c.first_uip.new.analyzed.items c.classify.new.analyzed.items c.in_ok-parts.parts.kept.items
    c.in_ok-parts.parts.resolved.items t)

pub variables_of-requires : goal.variables_of-requires
variables_of-requires c =
    let t = taught (goal.at.variables_of-requires c).After-deref in
    subst (λ (xs : List ℕ). All (λ place. place < length c.args.trail.now.entries) xs) (sym c.deref-4.ensures.value)
    (met_within c.args.trail.now c.args.arena.now c.args.conflict c.in_ok-point.point
    c.first_uip.new.analyzed.items c.classify.new.analyzed.items c.in_ok-parts.parts.kept.items
    c.in_ok-parts.parts.resolved.items t)

pub returns-clause-refuted : goal.returns-clause-refuted
returns-clause-refuted c =
    let t = taught (goal.at.returns-clause-refuted c).After-deref in
    let members = clause_members (goal.at.returns-clause-refuted c).After-copy in
    subst (IsFalseClause (lits_of c.args.trail.now.entries)) (sym c.in_ok-copy.ensures)
    (refuted_clause c.args.trail.now c.args.arena.now c.args.conflict c.in_ok-point.point
    c.first_uip.new.analyzed.items c.classify.new.analyzed.items c.in_ok-parts.parts.kept.items
    c.in_ok-parts.parts.resolved.items c.in_ok-clause.clause t members)

pub returns-clause-asserting : goal.returns-clause-asserting
returns-clause-asserting c =
    let t = taught (goal.at.returns-clause-asserting c).After-deref in
    let members = clause_members (goal.at.returns-clause-asserting c).After-copy in
    subst (IsAsserting c.args.trail.now.entries c.args.trail.now.depth c.highest_level.result) (sym c.in_ok-copy.ensures)
    (asserting_clause c.args.trail.now c.args.arena.now c.args.conflict c.in_ok-point.point
    c.first_uip.new.analyzed.items c.classify.new.analyzed.items c.in_ok-parts.parts.kept.items
    c.in_ok-parts.parts.resolved.items c.in_ok-clause.clause c.highest_level.result t members
    (λ place has differs. c.highest_level.ensures.bound place (subst (λ (xs : List ℕ). Contains xs place) (sym c.deref-3.ensures.value) has) differs)
    (subst (λ (xs : List ℕ). (c.highest_level.result ≡ 0) ⊎ ((place : ℕ) × Contains xs place × (place ≢ c.in_ok-point.point) × (level_at c.args.trail.now.entries place ≡ c.highest_level.result))) c.deref-3.ensures.value c.highest_level.ensures.reached))

pub returns-clause-fresh : goal.returns-clause-fresh
returns-clause-fresh c =
    let t = taught (goal.at.returns-clause-fresh c).After-deref in
    let members = clause_members (goal.at.returns-clause-fresh c).After-copy in
    subst (IsNew c.args.arena.now) (sym c.in_ok-copy.ensures)
    (new_clause c.args.trail.now c.args.arena.now c.args.conflict c.in_ok-point.point
    c.first_uip.new.analyzed.items c.classify.new.analyzed.items c.in_ok-parts.parts.kept.items
    c.in_ok-parts.parts.resolved.items c.in_ok-clause.clause t members)

pub returns-clause-minimized : goal.returns-clause-minimized
returns-clause-minimized c =
    let t = taught (goal.at.returns-clause-minimized c).After-deref in
    let members = clause_members (goal.at.returns-clause-minimized c).After-copy in
    subst (IsMinimized c.args.arena.now c.args.trail.now.entries c.args.trail.now.depth
    c.in_ok-variables_of.field-0) (sym c.in_ok-copy.ensures)
    (minimized_clause c.args.trail.now c.args.arena.now c.args.conflict c.in_ok-point.point
    c.first_uip.new.analyzed.items c.classify.new.analyzed.items c.in_ok-parts.parts.kept.items
    c.in_ok-parts.parts.resolved.items c.in_ok-clause.clause c.in_ok-variables_of.field-0 t members
    (λ var. subst (λ (xs : List ℕ). Contains c.in_ok-variables_of.field-0 var
    ↔ IsVariableAbove c.args.trail.now.entries xs var) c.deref-4.ensures.value
    (c.in_ok-variables_of.ensures.members var)))

pub returns-clause-derived : goal.returns-clause-derived
returns-clause-derived c = λ table arena known.
    let t = taught (goal.at.returns-clause-derived c).After-deref in
    let members = clause_members (goal.at.returns-clause-derived c).After-copy in
    learnt_by table c.args.trail.now c.args.arena.now c.args.units.now c.args.tags.now
    c.args.conflict c.in_ok-point.point c.first_uip.new.analyzed.items c.classify.new.analyzed.items
    c.in_ok-parts.parts.kept.items c.in_ok-parts.parts.resolved.items
    c.in_ok-variables_of.field-0 (record { clause = c.in_ok-clause.clause; hints = c.of.result; tag = c.max-tag.result }) arena known t members
    (c.of.ensures ∙ c.in_ok-push.ensures.items ∙ ap (λ (xs : List Ref). xs ++ c.origin.result ∷ []) (c.in_ok-cited.ensures.names ∙ ap (map (name_for c.args.arena.now c.args.trail.now.entries c.args.units.now)) c.deref-2.ensures.value)
    ∙ ap (λ (name : Ref). map (name_for c.args.arena.now c.args.trail.now.entries c.args.units.now) c.in_ok-parts.parts.resolved.items ++ name ∷ []) c.origin.ensures)
    (c.max-tag.ensures ∙ ap (λ tag. max tag c.tag.result) (c.in_ok-cited.ensures.tag ∙ ap (λ xs. greatest (map (tag_for c.args.arena.now c.args.trail.now.entries c.args.tags.now) xs)) c.deref-2.ensures.value)
    ∙ ap (max (greatest (map (tag_for c.args.arena.now c.args.trail.now.entries c.args.tags.now) c.in_ok-parts.parts.resolved.items))) c.tag.ensures)
    (λ var. subst (λ (xs : List ℕ). Contains c.in_ok-variables_of.field-0 var ↔ IsVariableAbove c.args.trail.now.entries xs var) c.deref-4.ensures.value (c.in_ok-variables_of.ensures.members var))
