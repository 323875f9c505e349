use Rattle.std.proofs.Common.{◌≡◌, ◌∙◌, ℕ, ◌<◌, List, [], map, length, ap, subst, sym, arith, true≢false, Option}
use Rattle.std.specs.Prelude.{All, Contains}
use Rattle.std.proofs.lemmas.List.Elements.{Contains-get_or}
use Rattle.sat_base.specs.Lit.{opposite, IsTautology}
use Rattle.sat_base.specs.declared.origins.Ref.{Ref}
use Rattle.trace_core.specs.Known.{Known}
use Rattle.trace_core.specs.Trace.{greatest}
use Rattle.analyze.specs.Graph.{IsDecision}
use Rattle.analyze.specs.Table.{KnowsArena, KnowsUnits}
use Rattle.analyze.specs.Refuted.{IsPart, IsNegationOf, IsRefutedBy, IsExcludedOf}
use Rattle.analyze.specs.Naming.{HasClause, name_for, tag_for}
use Rattle.analyze.proofs.Collected.{ok_weaker}
use Rattle.analyze.proofs.Blamed.{Blamed, IsTop, IsPartOf, top_of, decided, not_decided, is_part, kept_in_trail, clauses_there, refuted_by}
use Rattle.analyze.proofs.Excluded.{excluded, excluded_part, excluded_by}
use Rattle.analyze.proofs.refuting.blame.Goals.{After-index, After-deref, After-cite_all}
use Rattle.analyze.proofs.refuting.blame.Goals as goal

-- the place that is read is that of the literal
top_at : (c : After-index) → IsTop c.args.trail.now c.args.lit c.index.result.now c.analyze_clause.new.analyzed.items
top_at c =
    let top = top_of c.args.trail.now c.args.lit c.args.analyzed.now.items
    c.analyze_clause.new.analyzed.items c.in_ok-analyze_clause.field-0
    c.analyze_clause.ensures.trail c.requires.empty c.requires.refuted
    c.in_ok-analyze_clause.ensures.all_seen c.in_ok-analyze_clause.ensures.grown in
    subst (λ n. IsTop c.args.trail.now c.args.lit n c.analyze_clause.new.analyzed.items)
    (sym (top.1.only c.index.result.now
    (subst (Contains c.analyze_clause.new.analyzed.items) (sym c.index.ensures)
    (Contains-get_or c.analyze_clause.new.analyzed.items 0 c.index.result.now
    (omega (arith, top.1.has.1)))))) top.1

-- what holds once the literals are classified
blamed : (c : After-deref) → IsTop c.args.trail.now c.args.lit c.index.result.now c.analyze_clause.new.analyzed.items
    → Blamed c.args.trail.now c.args.arena.now c.args.lit c.index.result.now
    c.analyze_clause.new.analyzed.items c.classify.new.analyzed.items c.in_ok-parts.parts.kept.items
    c.in_ok-parts.parts.resolved.items
blamed c top = record {
  is = c.analyze_clause.ensures.trail;
  founded = c.requires.founded;
  at = top;
  forced_or_low = λ d. true≢false (sym (c.is_decision.ensures.1 d) ∙ c.if-is_decision.false);
  cut = c.in_ok-parts.ensures.cut;
  sorted = c.in_ok-parts.ensures.ascending;
}

-- the literals of the part
part_members : (c : After-cite_all) → IsPartOf c.in_ok-part.part c.args.lit c.args.trail.now.entries c.in_ok-parts.parts.kept.items
part_members c = subst (IsPartOf c.in_ok-part.part c.args.lit c.args.trail.now.entries) c.deref.ensures.value c.in_ok-part.ensures

pub index-requires : goal.index-requires
index-requires c =
    let top = top_of c.args.trail.now c.args.lit c.args.analyzed.now.items
    c.analyze_clause.new.analyzed.items c.in_ok-analyze_clause.field-0
    c.analyze_clause.ensures.trail c.requires.empty c.requires.refuted
    c.in_ok-analyze_clause.ensures.all_seen c.in_ok-analyze_clause.ensures.grown in
    omega (arith, top.1.has.1)

pub is_decision-requires : goal.is_decision-requires
is_decision-requires c =
    (top_at (goal.at.is_decision-requires c).After-index).within

pub returns-then-is_decision-clause-part : goal.returns-then-is_decision-clause-part
returns-then-is_decision-clause-part c =
    let decision : IsDecision c.args.trail.now.entries (opposite c.args.lit) =
    decided c.args.trail.now c.args.lit c.index.result.now c.analyze_clause.new.analyzed.items (top_at (goal.at.returns-then-is_decision-clause-part c).After-index)
    (c.is_decision.ensures.0 c.if-is_decision.true) in
    ok_weaker c.excluded_middle.result (λ answer. IsExcludedOf c.args.lit answer.0 answer.1)
    (λ answer. IsPart c.args.trail.now.entries c.args.lit answer.0)
    (λ answer of. excluded_part c.args.trail.now.entries c.args.lit answer.0 answer.1 decision of) c.excluded_middle.ensures

pub returns-then-is_decision-clause-negation : goal.returns-then-is_decision-clause-negation
returns-then-is_decision-clause-negation c =
    ok_weaker c.excluded_middle.result (λ answer. IsExcludedOf c.args.lit answer.0 answer.1)
    (λ answer. IsNegationOf answer.0 answer.1.clause)
    (λ answer of. (excluded c.args.trail.now.entries c.args.lit answer.0 answer.1 of).1) c.excluded_middle.ensures

pub returns-then-is_decision-clause-decided : goal.returns-then-is_decision-clause-decided
returns-then-is_decision-clause-decided c =
    ok_weaker c.excluded_middle.result (λ answer. IsExcludedOf c.args.lit answer.0 answer.1)
    (λ answer. IsDecision c.args.trail.now.entries (opposite c.args.lit) → IsTautology answer.1.clause × (answer.1.hints ≡ []))
    (λ answer of. λ _. ((excluded c.args.trail.now.entries c.args.lit answer.0 answer.1 of).0, of.no_hints)) c.excluded_middle.ensures

pub returns-then-is_decision-clause-derived : goal.returns-then-is_decision-clause-derived
returns-then-is_decision-clause-derived c =
    ok_weaker c.excluded_middle.result (λ answer. IsExcludedOf c.args.lit answer.0 answer.1)
    (λ answer. (table : Ref → Option Known) → KnowsArena table c.args.arena.now → KnowsUnits table c.args.trail.now.entries c.args.units.now c.args.tags.now → IsRefutedBy table answer.1)
    (λ answer of. λ table _ _. excluded_by c.args.trail.now.entries table c.args.lit answer.0 answer.1 of) c.excluded_middle.ensures

pub classify-requires-clause-within : goal.classify-requires-clause-within
classify-requires-clause-within c =
    let top = top_at (goal.at.classify-requires-clause-within c).After-index in
    λ place has. subst (λ n. n < length c.args.trail.now.entries) (sym (top.only place has)) top.within

pub part_of-requires : goal.part_of-requires
part_of-requires c =
    let b = blamed (goal.at.part_of-requires c).After-deref (top_at (goal.at.part_of-requires c).After-index) in
    subst (λ (xs : List ℕ). All (λ place. place < length c.args.trail.now.entries) xs) (sym c.deref.ensures.value)
    (kept_in_trail c.args.trail.now c.args.arena.now c.args.lit c.index.result.now
    c.analyze_clause.new.analyzed.items c.classify.new.analyzed.items c.in_ok-parts.parts.kept.items
    c.in_ok-parts.parts.resolved.items b)

pub cite_all-requires-clause-clauses : goal.cite_all-requires-clause-clauses
cite_all-requires-clause-clauses c =
    let b = blamed (goal.at.cite_all-requires-clause-clauses c).After-deref (top_at (goal.at.cite_all-requires-clause-clauses c).After-index) in
    subst (All (HasClause c.args.arena.now c.args.trail.now.entries)) (sym c.deref-2.ensures.value)
    (clauses_there c.args.trail.now c.args.arena.now c.args.lit c.index.result.now
    c.analyze_clause.new.analyzed.items c.classify.new.analyzed.items c.in_ok-parts.parts.kept.items
    c.in_ok-parts.parts.resolved.items b)

pub returns-clause-part : goal.returns-clause-part
returns-clause-part c =
    let b = blamed (goal.at.returns-clause-part c).After-deref (top_at (goal.at.returns-clause-part c).After-index) in
    let members = part_members (goal.at.returns-clause-part c).After-cite_all in
    is_part c.args.trail.now c.args.arena.now c.args.lit c.index.result.now c.analyze_clause.new.analyzed.items
    c.classify.new.analyzed.items c.in_ok-parts.parts.kept.items c.in_ok-parts.parts.resolved.items
    c.in_ok-part.part b members

pub returns-clause-decided : goal.returns-clause-decided
returns-clause-decided c =
    let b = blamed (goal.at.returns-clause-decided c).After-deref (top_at (goal.at.returns-clause-decided c).After-index) in
    λ decision. absurd
    (not_decided c.args.trail.now c.args.lit c.index.result.now c.analyze_clause.new.analyzed.items
    b.is b.at b.forced_or_low decision)

pub returns-clause-derived : goal.returns-clause-derived
returns-clause-derived c = λ table arena known.
    let b = blamed (goal.at.returns-clause-derived c).After-deref (top_at (goal.at.returns-clause-derived c).After-index) in
    let members = part_members (goal.at.returns-clause-derived c).After-cite_all in
    refuted_by table c.args.trail.now c.args.arena.now c.args.units.now c.args.tags.now c.args.lit
    c.index.result.now c.analyze_clause.new.analyzed.items c.classify.new.analyzed.items
    c.in_ok-parts.parts.kept.items c.in_ok-parts.parts.resolved.items c.in_ok-part.part
    (record { clause = c.in_ok-clause.clause; hints = c.of.result; tag = c.in_ok-cited.cited.tag }) arena known b members c.in_ok-clause.ensures.members
    (c.of.ensures ∙ c.in_ok-cited.ensures.names ∙ ap (map (name_for c.args.arena.now c.args.trail.now.entries c.args.units.now)) c.deref-2.ensures.value)
    (c.in_ok-cited.ensures.tag ∙ ap (λ xs. greatest (map (tag_for c.args.arena.now c.args.trail.now.entries c.args.tags.now) xs)) c.deref-2.ensures.value)
