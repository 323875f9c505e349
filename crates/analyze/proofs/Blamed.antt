-- The part that refutes a literal, and its step.
use Rattle.std.proofs.Common.{◌≡◌, ◌∙◌, ℕ, ◌<◌, ◌≤◌, List, [], ◌∷◌, map, length, refl, ap, subst, sym, inl, inr, arith, Option, None}
use Rattle.std.specs.Prelude.{Contains, ◌⊎◌, ◌↔◌, All, IsSome}
use Rattle.std.specs.List.Sorted.{IsStrictlySortedBy}
use Rattle.std.specs.Ordering.{nat_cmp}
use Rattle.std.proofs.lemmas.Bool.{cases_eq}
use Rattle.sat_base.specs.Lit.{variable, opposite, IsTautology}
use Rattle.sat_base.specs.declared.origins.Ref.{Ref}
use Rattle.sat_base.proofs.Opposite.{opposite-opposite, opposite-differs, Contains-negations}
use Rattle.sat_base.proofs.Members.{All-from_members, Contains-here, Contains-there, Contains-cases, Contains-map, Contains-from_map}
use Rattle.trace_core.specs.Known.{Known, clause_of, tag_of}
use Rattle.trace_core.specs.Propagation.{StandsInOneOf, ReachesConflict}
use Rattle.trace_core.specs.Trace.{greatest}
use Rattle.trace_core.specs.declared.derivation.Step.{Step}
use Rattle.clause_arena.specs.Arena.{ArenaClause, lits_of_each}
use Rattle.trail_core.specs.Trail.{Entry, TrailView, StandsAt, IsTrail, entry_at, lits_of}
use Rattle.trail_core.specs.UnderTrail.{IsFalseLit, IsFounded}
use Rattle.analyze.specs.Graph.{IsPlaceOf, IsDecision, lit_at, level_at}
use Rattle.analyze.specs.Table.{IsNameOf, KnowsArena, KnowsUnits}
use Rattle.analyze.specs.Seen.{AreAllSeen, HasGrown}
use Rattle.analyze.specs.Refuted.{IsPart, IsNegationOf, IsRefutedBy}
use Rattle.analyze.specs.FirstUip.{IsShownBy}
use Rattle.analyze.specs.Cut.{IsCut}
use Rattle.analyze.specs.Naming.{HasClause, lits_for, name_for, tag_for}
use Rattle.analyze.specs.declared.classify.Rule.TheVariants.{Refuting}
use Rattle.trace_core.proofs.Items.{nothing_in}
use Rattle.analyze.proofs.Forced.{true_at, place_of_true, stands_false}
use Rattle.analyze.proofs.Hinted.{named_is, clause_members, tag_is, place_named, hinted_places, tags_places, known_places}
use Rattle.analyze.proofs.Graph.{has_clause, own_literal, others_before, adds_of, shown_false}
use Rattle.analyze.proofs.Runs.{Adds, ascends, runs_to}

-- the only places seen at first are that of the literal's negation
pub record IsTop (trail : TrailView) (lit top : ℕ) (old : List ℕ) : Type 0 where
  pub within : top < length trail.entries
  pub is : lit_at trail.entries top ≡ opposite lit
  pub only : (place : ℕ) → Contains old place → place ≡ top
  pub has : Contains old top

pub top_of : (trail : TrailView) (lit : ℕ) (none old : List ℕ) (count : ℕ) → IsTrail trail
    → none ≡ [] → IsFalseLit (lits_of trail.entries) lit → AreAllSeen trail.entries old (lit ∷ [])
    → HasGrown trail.entries trail.depth (IsPlaceOf trail.entries (lit ∷ [])) none old count → (top : ℕ) × IsTop trail lit top old
top_of trail lit none old count is empty refuted all_seen grown =
    let at = place_of_true trail.entries (opposite lit) refuted.stands in
    let there : StandsAt trail.entries (variable lit) at.0 = stands_false trail.entries lit at.0 at.1 at.2 in (
      at.0,
      record {
        within = at.1;
        is = at.2;
        only = λ place has. same at.0 there place (grown.added place has);
        has = all_seen lit (Contains-here lit []) at.0 there;
      },
    )
  where
    only_lit : (z : ℕ) → (lit ≡ z) ⊎ Contains [] z → lit ≡ z
    only_lit z (inl e) = e
    only_lit z (inr h) = nothing_in z h

    same : (top : ℕ) → StandsAt trail.entries (variable lit) top → (place : ℕ) → Contains none place ⊎ IsPlaceOf trail.entries (lit ∷ []) place → place ≡ top
    same top there place (inl has) = nothing_in place (subst (λ (xs : List ℕ). Contains xs place) empty has)
    same top there place (inr of) =
        is.once (variable lit) place top (subst (λ v. StandsAt trail.entries v place) (ap variable (sym (only_lit of.lit (Contains-cases lit of.lit [] of.stands)))) of.at) there

-- all that the cut has found
pub record Blamed (trail : TrailView) (clauses : List ArenaClause) (lit top : ℕ)
    (old analyzed kept resolved : List ℕ) : Type 0 where
  pub is : IsTrail trail
  pub founded : IsFounded (lits_of_each clauses) trail.entries trail.depth
  pub at : IsTop trail lit top old
  pub forced_or_low : ¬ ((0 < level_at trail.entries top) × ((entry_at trail.entries top).reason ≡ None))
  pub cut : IsCut clauses trail.entries trail.depth Refuting old analyzed analyzed kept resolved
  pub sorted : IsStrictlySortedBy nat_cmp resolved

-- the part has the literal, and the literals at the places that stay
abbrev pub IsPartOf : List ℕ → ℕ → List Entry → List ℕ → Type 0
IsPartOf part lit entries kept = (other : ℕ) → Contains part other ↔ Contains (lit ∷ map (lit_at entries) kept) other

part_cases : (entries : List Entry) (lit : ℕ) (kept part : List ℕ) → IsPartOf part lit entries kept → (other : ℕ) → Contains part other → (other ≡ lit) ⊎ ((place : ℕ) × Contains kept place × (lit_at entries place ≡ other))
part_cases entries lit kept part members other has = either (Contains-cases lit other (map (lit_at entries) kept) ((members other).0 has))
  where
    either : (lit ≡ other) ⊎ Contains (map (lit_at entries) kept) other → (other ≡ lit) ⊎ ((place : ℕ) × Contains kept place × (lit_at entries place ≡ other))
    either (inl same) = inl (sym same)
    either (inr later) = inr (Contains-from_map (lit_at entries) kept other later)

part_lit : (entries : List Entry) (lit : ℕ) (kept part : List ℕ) → IsPartOf part lit entries kept → Contains part lit
part_lit entries lit kept part members = (members lit).1 (Contains-here lit (map (lit_at entries) kept))

part_kept : (entries : List Entry) (lit : ℕ) (kept part : List ℕ) → IsPartOf part lit entries kept → (place : ℕ) → Contains kept place → Contains part (lit_at entries place)
part_kept entries lit kept part members place has = (members (lit_at entries place)).1 (Contains-there lit (lit_at entries place) (map (lit_at entries) kept) (Contains-map (lit_at entries) kept place has))

pub kept_in_trail : (trail : TrailView) (clauses : List ArenaClause) (lit top : ℕ)
    (old analyzed kept resolved : List ℕ) → Blamed trail clauses lit top old analyzed kept resolved
    → All (λ place. place < length trail.entries) kept
kept_in_trail trail clauses lit top old analyzed kept resolved b =
    All-from_members (λ place. place < length trail.entries) kept
    (λ place has. b.cut.within place (b.cut.kept_from place has))

clause_there : (trail : TrailView) (clauses : List ArenaClause) (lit top : ℕ)
    (old analyzed kept resolved : List ℕ) → Blamed trail clauses lit top old analyzed kept resolved
    → (place : ℕ) → Contains resolved place → HasClause clauses trail.entries place
clause_there trail clauses lit top old analyzed kept resolved b place has =
    has_clause trail clauses analyzed place b.founded
    (b.cut.within place (b.cut.resolved_from place has)) (b.cut.resolvable place has)

pub clauses_there : (trail : TrailView) (clauses : List ArenaClause) (lit top : ℕ)
    (old analyzed kept resolved : List ℕ) → Blamed trail clauses lit top old analyzed kept resolved
    → All (HasClause clauses trail.entries) resolved
clauses_there trail clauses lit top old analyzed kept resolved b =
    All-from_members (HasClause clauses trail.entries) resolved
    (clause_there trail clauses lit top old analyzed kept resolved b)

-- the negation is resolved away
top_resolved : (trail : TrailView) (clauses : List ArenaClause) (lit top : ℕ)
    (old analyzed kept resolved : List ℕ) → Blamed trail clauses lit top old analyzed kept resolved
    → Contains resolved top
top_resolved trail clauses lit top old analyzed kept resolved b =
    by_side (b.cut.split top (b.cut.still top b.at.has))
  where
    by_side : Contains kept top ⊎ Contains resolved top → Contains resolved top
    by_side (inl stays) = absurd (b.forced_or_low (b.cut.stays top stays))
    by_side (inr gone) = gone

pub is_part : (trail : TrailView) (clauses : List ArenaClause) (lit top : ℕ)
    (old analyzed kept resolved part : List ℕ)
    → Blamed trail clauses lit top old analyzed kept resolved → IsPartOf part lit trail.entries kept
    → IsPart trail.entries lit part
is_part trail clauses lit top old analyzed kept resolved part b members = record {
  stands = part_lit trail.entries lit kept part members;
  others = λ other has. decide other (part_cases trail.entries lit kept part members other has);
}
  where
    decide : (other : ℕ) → (other ≡ lit) ⊎ ((place : ℕ) × Contains kept place × (lit_at trail.entries place ≡ other)) → (other ≡ lit) ⊎ IsDecision trail.entries other
    decide other (inl same) = inl same
    decide other (inr at) = inr (record {
      place = at.0;
      at = record { within = b.cut.within at.0 (b.cut.kept_from at.0 at.1); is = ap variable at.2 };
      is = at.2;
      level = (b.cut.stays at.0 at.1).0;
      free = (b.cut.stays at.0 at.1).1;
    })

-- where the negation is a decision, it isn't resolved away
pub not_decided : (trail : TrailView) (lit top : ℕ) (old : List ℕ) → IsTrail trail → IsTop trail lit top old → ¬ ((0 < level_at trail.entries top) × ((entry_at trail.entries top).reason ≡ None)) → ¬ IsDecision trail.entries (opposite lit)
not_decided trail lit top old is at never d =
    let same : d.place ≡ top = is.once (variable (opposite lit)) d.place top d.at (record { within = at.within; is = ap variable at.is }) in
    never (subst (λ n. 0 < level_at trail.entries n) same d.level, subst (λ n. (entry_at trail.entries n).reason ≡ None) same d.free)

pub decided : (trail : TrailView) (lit top : ℕ) (old : List ℕ) → IsTop trail lit top old → (0 < level_at trail.entries top) × ((entry_at trail.entries top).reason ≡ None) → IsDecision trail.entries (opposite lit)
decided trail lit top old at d = record {
  place = top;
  at = record { within = at.within; is = ap variable at.is };
  is = at.is;
  level = d.0;
  free = d.1;
}

-- the literals that hold at the start are those of the part
held : (part clause : List ℕ) → IsNegationOf part clause → (lit : ℕ) → Contains (map opposite clause) lit ↔ Contains part lit
held part clause negation lit = (
  λ has. subst (Contains part) (opposite-opposite lit) ((negation (opposite lit)).0 ((Contains-negations clause (map opposite clause) refl lit).0 has)),
  λ has. (Contains-negations clause (map opposite clause) refl lit).1 ((negation (opposite lit)).1 (subst (Contains part) (sym (opposite-opposite lit)) has)),
)

reaches : (trail : TrailView) (clauses : List ArenaClause) (lit top : ℕ)
    (old analyzed kept resolved part clause : List ℕ) (clause_for : ℕ → List ℕ)
    → Blamed trail clauses lit top old analyzed kept resolved → IsPartOf part lit trail.entries kept
    → IsNegationOf part clause → ((place : ℕ) → Contains resolved place → (z : ℕ) → Contains (clause_for place) z ↔ Contains (lits_for clauses trail.entries place) z) → ReachesConflict (map opposite clause) (map clause_for resolved)
reaches trail clauses lit top old analyzed kept resolved part clause clause_for b members negation
    cited =
    runs_to trail clause_for (map opposite clause) resolved top b.is (ascends resolved b.sorted)
    (top_resolved trail clauses lit top old analyzed kept resolved b) below adds refutable
  where
    within : (place : ℕ) → Contains resolved place → place < length trail.entries
    within place has = b.cut.within place (b.cut.resolved_from place has)

    below : (place : ℕ) → Contains resolved place → place ≤ top
    below place has = b.cut.bounded top (λ k was. let e : k ≡ top = b.at.only k was in omega arith) place (b.cut.resolved_from place has)

    lit_false : (place : ℕ) → Contains resolved place → lit_at trail.entries place ≡ lit → ⊥
    lit_false place has same = b.is.consistent lit (subst (Contains (lits_of trail.entries)) same (true_at trail.entries place (within place has))) (subst (Contains (lits_of trail.entries)) b.at.is (true_at trail.entries top b.at.within))

    not_true : (place : ℕ) → Contains resolved place → (lit_at trail.entries place ≡ lit) ⊎ ((k : ℕ) × Contains kept k × (lit_at trail.entries k ≡ lit_at trail.entries place)) → ⊥
    not_true place has (inl same) = lit_false place has same
    not_true place has (inr at) =
        let e : at.0 ≡ place = b.is.once (variable (lit_at trail.entries place)) at.0 place (record { within = b.cut.within at.0 (b.cut.kept_from at.0 at.1); is = ap variable at.2 }) (record { within = within place has; is = refl }) in
        b.cut.apart at.0 at.1 (subst (Contains resolved) (sym e) has)

    not_false : (place : ℕ) → Contains resolved place → place < top → (opposite (lit_at trail.entries place) ≡ lit) ⊎ ((k : ℕ) × Contains kept k × (lit_at trail.entries k ≡ opposite (lit_at trail.entries place))) → ⊥
    not_false place has lt (inl same) =
        let true_lit : lit_at trail.entries place ≡ lit_at trail.entries top = sym (opposite-opposite (lit_at trail.entries place)) ∙ ap opposite same ∙ sym b.at.is in
        let e : place ≡ top = b.is.once (variable (lit_at trail.entries top)) place top (record { within = within place has; is = ap variable true_lit }) (record { within = b.at.within; is = refl }) in
        omega arith
    not_false place has lt (inr at) =
        b.is.consistent (lit_at trail.entries place) (true_at trail.entries place (within place has)) (subst (Contains (lits_of trail.entries)) at.2 (true_at trail.entries at.0 (b.cut.within at.0 (b.cut.kept_from at.0 at.1))))

    holds : (k : ℕ) → Contains kept k → Contains (map opposite clause) (lit_at trail.entries k)
    holds k has = (held part clause negation (lit_at trail.entries k)).1 (part_kept trail.entries lit kept part members k has)

    adds : (place : ℕ) → Contains resolved place → place < top → Adds trail.entries (clause_for place) (map opposite clause) resolved place
    adds place has lt =
        adds_of trail clauses analyzed kept resolved (map opposite clause) (clause_for place) place
        b.founded b.cut.split holds (within place has) (b.cut.resolvable place has)
        (cited place has)
        (λ h. not_true place has (part_cases trail.entries lit kept part members (lit_at trail.entries place) ((held part clause negation (lit_at trail.entries place)).0 h)))
        (λ h. not_false place has lt (part_cases trail.entries lit kept part members (opposite (lit_at trail.entries place)) ((held part clause negation (opposite (lit_at trail.entries place))).0 h)))

    refutable : (z : ℕ) → Contains (clause_for top) z → Contains (map opposite clause) (opposite z) ⊎ ((k : ℕ) × Contains resolved k × (k < top) × (lit_at trail.entries k ≡ opposite z))
    refutable z has = by_lit (cases_eq z (lit_at trail.entries top))
      where
        gone : Contains resolved top
        gone = top_resolved trail clauses lit top old analyzed kept resolved b

        by_side : (k : ℕ) → k < top → lit_at trail.entries k ≡ opposite z → Contains kept k ⊎ Contains resolved k → Contains (map opposite clause) (opposite z) ⊎ ((k : ℕ) × Contains resolved k × (k < top) × (lit_at trail.entries k ≡ opposite z))
        by_side k lt is (inl stays) = inl (subst (Contains (map opposite clause)) is (holds k stays))
        by_side k lt is (inr away) = inr (k, away, lt, is)

        by_lit : (z ≡ lit_at trail.entries top) ⊎ (z ≡ lit_at trail.entries top → ⊥) → Contains (map opposite clause) (opposite z) ⊎ ((k : ℕ) × Contains resolved k × (k < top) × (lit_at trail.entries k ≡ opposite z))
        by_lit (inl same) =
            inl (subst (Contains (map opposite clause)) (sym (ap opposite (same ∙ b.at.is) ∙ opposite-opposite lit)) ((held part clause negation lit).1 (part_lit trail.entries lit kept part members)))
        by_lit (inr differs) =
            let k = others_before trail clauses analyzed top z b.founded b.at.within
            (b.cut.resolvable top gone) ((cited top gone z).0 has) differs in
            by_side k.0 k.1 k.2 (b.cut.split k.0 k.3)

covers : (trail : TrailView) (clauses : List ArenaClause) (lit top : ℕ)
    (old analyzed kept resolved part clause : List ℕ) (clause_for : ℕ → List ℕ)
    → Blamed trail clauses lit top old analyzed kept resolved → IsPartOf part lit trail.entries kept
    → IsNegationOf part clause → ((place : ℕ) → Contains resolved place → (z : ℕ) → Contains (clause_for place) z ↔ Contains (lits_for clauses trail.entries place) z)
    → (z : ℕ) → Contains clause z → StandsInOneOf (map clause_for resolved) z
covers trail clauses lit top old analyzed kept resolved part clause clause_for b members negation
    cited z has = by_case
    (part_cases trail.entries lit kept part members (opposite z) ((negation z).0 has))
  where
    gone : Contains resolved top
    gone = top_resolved trail clauses lit top old analyzed kept resolved b

    own : Contains (clause_for top) (lit_at trail.entries top)
    own = (cited top gone (lit_at trail.entries top)).1
        (own_literal trail clauses analyzed top b.founded b.at.within (b.cut.resolvable top gone))

    by_shown : (place : ℕ) → Contains kept place → lit_at trail.entries place ≡ opposite z → Contains old place ⊎ ((other : ℕ) × Contains resolved other × (0 < level_at trail.entries other) × IsShownBy clauses trail.entries place other)
        → StandsInOneOf (map clause_for resolved) z
    by_shown place stays is (inl was) = absurd (b.cut.apart place stays (subst (Contains resolved) (sym (b.at.only place was)) gone))
    by_shown place stays is (inr by) = (
      clause_for by.0,
      Contains-map clause_for resolved by.0 by.1,
      subst (Contains (clause_for by.0)) (ap opposite is ∙ opposite-opposite z)
          (shown_false trail clauses (clause_for by.0) place by.0 b.is b.founded (b.cut.within by.0 (b.cut.resolved_from by.0 by.1)) (b.cut.within place (b.cut.kept_from place stays)) by.2
          (λ same. b.cut.apart place stays (subst (Contains resolved) (sym same) by.1)) by.3 (cited by.0 by.1)),
    )

    by_case : (opposite z ≡ lit) ⊎ ((place : ℕ) × Contains kept place × (lit_at trail.entries place ≡ opposite z)) → StandsInOneOf (map clause_for resolved) z
    by_case (inl same) = (clause_for top, Contains-map clause_for resolved top gone, subst (Contains (clause_for top)) (b.at.is ∙ ap opposite (sym same) ∙ opposite-opposite z) own)
    by_case (inr at) = by_shown at.0 at.1 at.2 (b.cut.shown at.0 (b.cut.kept_from at.0 at.1))

proper : (trail : TrailView) (clauses : List ArenaClause) (lit top : ℕ)
    (old analyzed kept resolved part clause : List ℕ)
    → Blamed trail clauses lit top old analyzed kept resolved → IsPartOf part lit trail.entries kept
    → IsNegationOf part clause → ¬ IsTautology clause
proper trail clauses lit top old analyzed kept resolved part clause b members negation both =
    by_cases (part_cases trail.entries lit kept part members (opposite both.lit) ((negation both.lit).0 both.has))
    (part_cases trail.entries lit kept part members both.lit (subst (Contains part) (opposite-opposite both.lit) ((negation (opposite both.lit)).0 both.has_opposite)))
  where
    top_kept : (place : ℕ) → Contains kept place → lit_at trail.entries place ≡ opposite lit → ⊥
    top_kept place stays is =
        let e : place ≡ top = b.is.once (variable (opposite lit)) place top (record { within = b.cut.within place (b.cut.kept_from place stays); is = ap variable is }) (record { within = b.at.within; is = ap variable b.at.is }) in
        b.cut.apart place stays
        (subst (Contains resolved) (sym e)
        (top_resolved trail clauses lit top old analyzed kept resolved b))

    by_cases : (opposite both.lit ≡ lit) ⊎ ((place : ℕ) × Contains kept place × (lit_at trail.entries place ≡ opposite both.lit)) → (both.lit ≡ lit) ⊎ ((place : ℕ) × Contains kept place × (lit_at trail.entries place ≡ both.lit)) → ⊥
    by_cases (inl one) (inl other) = opposite-differs both.lit (one ∙ sym other)
    by_cases (inl one) (inr at) = top_kept at.0 at.1 (at.2 ∙ sym (opposite-opposite both.lit) ∙ ap opposite one)
    by_cases (inr at) (inl other) = top_kept at.0 at.1 (at.2 ∙ ap opposite other)
    by_cases (inr at) (inr at') =
        b.is.consistent both.lit (subst (Contains (lits_of trail.entries)) at'.2 (true_at trail.entries at'.0 (b.cut.within at'.0 (b.cut.kept_from at'.0 at'.1))))
        (subst (Contains (lits_of trail.entries)) at.2 (true_at trail.entries at.0 (b.cut.within at.0 (b.cut.kept_from at.0 at.1))))

pub refuted_by : (table : Ref → Option Known) (trail : TrailView) (clauses : List ArenaClause)
    (units : List Ref) (tags : List ℕ) (lit top : ℕ) (old analyzed kept resolved part : List ℕ)
    (step : Step) → KnowsArena table clauses
    → KnowsUnits table trail.entries units tags
    → Blamed trail clauses lit top old analyzed kept resolved → IsPartOf part lit trail.entries kept
    → IsNegationOf part step.clause
    → step.hints ≡ map (name_for clauses trail.entries units) resolved → step.tag ≡ greatest (map (tag_for clauses trail.entries tags) resolved) → IsRefutedBy table step
refuted_by table trail clauses units tags lit top old analyzed kept resolved part step arena known b
    members negation hints tag = record {
      ok = record {
        all_known = subst (All (λ hint. IsSome (table hint))) (sym hints)
            (known_places table (name_for clauses trail.entries units) resolved
            (λ place has. named_is table (name_for clauses trail.entries units place)
            (lits_for clauses trail.entries place) (tag_for clauses trail.entries tags place)
            (named place has)));
        proved = inr (record {
          proper = proper trail clauses lit top old analyzed kept resolved part step.clause b
              members
              negation;
          covered = covered;
          conflict = subst (ReachesConflict (map opposite step.clause)) (sym hinted)
              (reaches trail clauses lit top old analyzed kept resolved part step.clause clause_for
              b
              members negation cited);
        });
        exact_tag = tag ∙ sym (ap (λ hs. greatest (map (λ hint. tag_of (table hint)) hs)) hints
            ∙ ap greatest (tags_places table (name_for clauses trail.entries units)
            (tag_for clauses trail.entries tags) resolved
            (λ place has. tag_is table (name_for clauses trail.entries units place)
            (lits_for clauses trail.entries place) (tag_for clauses trail.entries tags place)
            (named place has))));
      };
      covered = inr covered;
    }
  where
    clause_for : ℕ → List ℕ
    clause_for place = clause_of (table (name_for clauses trail.entries units place))

    named : (place : ℕ) → Contains resolved place → IsNameOf table (name_for clauses trail.entries units place) (lits_for clauses trail.entries place) (tag_for clauses trail.entries tags place)
    named place has = place_named table clauses trail.entries units tags place arena known
        (clause_there trail clauses lit top old analyzed kept resolved b place has)

    cited : (place : ℕ) → Contains resolved place → (z : ℕ) → Contains (clause_for place) z ↔ Contains (lits_for clauses trail.entries place) z
    cited place has = clause_members table (name_for clauses trail.entries units place) (lits_for clauses trail.entries place) (tag_for clauses trail.entries tags place) (named place has)

    hinted : map (λ hint. clause_of (table hint)) step.hints ≡ map clause_for resolved
    hinted = ap (map (λ hint. clause_of (table hint))) hints ∙ hinted_places table (name_for clauses trail.entries units) resolved

    covered : (z : ℕ) → Contains step.clause z → StandsInOneOf (map (λ hint. clause_of (table hint)) step.hints) z
    covered z has = subst (λ ls. StandsInOneOf ls z) (sym hinted)
        (covers trail clauses lit top old analyzed kept resolved part step.clause clause_for b
        members negation cited z has)
