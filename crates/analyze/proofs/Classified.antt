-- How the places seen are classified, one after the other.
use Rattle.std.proofs.Common.{◌≡◌, ◌≢◌, ◌∙◌, ℕ, ◌+◌, ◌<◌, ◌≤◌, List, [], ◌∷◌, ◌++◌, length, take, get_or, ap, subst, sym, inl, inr, arith, Some, Bool, true, eqb, eqb-true}
use Rattle.std.specs.Prelude.{Contains, ◌⊎◌, ◌↔◌}
use Rattle.std.specs.List.{list_any}
use Rattle.std.proofs.lemmas.Bool.Decides.{Decides-eqb}
use Rattle.std.proofs.lemmas.Map.Made.{IsDistinct-from_AllPairs}
use Rattle.std.proofs.lemmas.Map.Steps.{length-le_from_distinct_below}
use Rattle.sat_base.proofs.Members.{any_member}
use Rattle.std.proofs.lemmas.List.{take_more, take-take, get_or-take, length-take}
use Rattle.std.proofs.lemmas.List.Elements.{Contains-push, Contains-push_cases, Contains-append_left}
use Rattle.clause_arena.specs.Arena.{ArenaClause, clause_at}
use Rattle.trail_core.specs.Trail.{Entry, StandsAt, entry_at}
use Rattle.analyze.specs.Graph.{IsPlaceOf, level_at}
use Rattle.analyze.specs.Seen.{Agree, AreDistinct, AreAllSeen, HasGrown}
use Rattle.analyze.specs.FirstUip.{IsResolvable, IsShownBy}
use Rattle.analyze.specs.Cut.{MayStay, MayGo, IsPrepared, IsDeepFor, AddsLittle, IsNeeded, StaysNeeded, IsCut}
use Rattle.analyze.specs.declared.classify.Rule.{Rule}
use Rattle.analyze.specs.declared.classify.Rule.TheVariants.{Learning, Refuting}
use Rattle.trace_core.proofs.Items.{nothing_in}
use Rattle.analyze.proofs.Grown.{grown_keeps}
use Rattle.analyze.proofs.Forced.{Forced, reason_before}
use Rattle.analyze.proofs.ToFirstUip.{resolvable_keeps}

pub cut_start : (clauses : List ArenaClause) (entries : List Entry) (depth : ℕ) (rule : Rule) (old kept resolved : List ℕ) → kept ≡ [] → resolved ≡ [] → IsPrepared clauses entries depth rule old
    → ((place : ℕ) → Contains old place → place < length entries) → IsCut clauses entries depth rule old [] old kept resolved
cut_start clauses entries depth rule old kept resolved no_kept no_resolved prepared within = record {
  still = λ place has. has;
  split = λ place none. nothing_in place none;
  kept_from = λ place has. nothing_in place (subst (λ (xs : List ℕ). Contains xs place) no_kept has);
  resolved_from = λ place has. nothing_in place (subst (λ (xs : List ℕ). Contains xs place) no_resolved has);
  apart = λ place has other. nothing_in place (subst (λ (xs : List ℕ). Contains xs place) no_kept has);
  stays = λ place has. nothing_in place (subst (λ (xs : List ℕ). Contains xs place) no_kept has);
  needed = λ place has. nothing_in place (subst (λ (xs : List ℕ). Contains xs place) no_kept has);
  resolvable = λ place has. nothing_in place (subst (λ (xs : List ℕ). Contains xs place) no_resolved has);
  gone = λ place has. nothing_in place (subst (λ (xs : List ℕ). Contains xs place) no_resolved has);
  shown = λ place has. inl has;
  prepared = prepared;
  within = within;
  bounded = λ top below place has. below place has;
}

-- the places that are handled become one more
pub record OneMore (handled handled' : List ℕ) (place : ℕ) : Type 0 where
  pub new : Contains handled place → ⊥
  pub now : Contains handled' place
  pub still : (other : ℕ) → Contains handled other → Contains handled' other
  pub only : (other : ℕ) → Contains handled' other → Contains handled other ⊎ (place ≡ other)

pub cut_keep : (clauses : List ArenaClause) (entries : List Entry) (depth : ℕ) (rule : Rule)
    (old handled handled' analyzed kept kept' resolved : List ℕ) (place : ℕ)
    → OneMore handled handled' place → kept' ≡ kept ++ place ∷ []
    → (0 < level_at entries place) × MayStay entries depth rule place
    × StaysNeeded clauses entries rule analyzed place
    → IsCut clauses entries depth rule old handled analyzed kept resolved
    → IsCut clauses entries depth rule old handled' analyzed kept' resolved
cut_keep clauses entries depth rule old handled handled' analyzed kept kept' resolved place one
    pushed stays cut =
    subst (λ (ks : List ℕ). IsCut clauses entries depth rule old handled' analyzed ks resolved)
    (sym pushed) (record {
      still = cut.still;
      split = λ other has. parted other (one.only other has);
      kept_from = λ other has. from other (Contains-push_cases kept place other has);
      resolved_from = λ other has. one.still other (cut.resolved_from other has);
      apart = λ other has away. separate other (Contains-push_cases kept place other has) away;
      stays = λ other has. stay other (Contains-push_cases kept place other has);
      needed = λ other has. need other (Contains-push_cases kept place other has);
      resolvable = cut.resolvable;
      gone = cut.gone;
      shown = cut.shown;
      prepared = cut.prepared;
      within = cut.within;
      bounded = cut.bounded;
    })
  where
    longer : (other : ℕ) → Contains kept other ⊎ Contains resolved other → Contains (kept ++ place ∷ []) other ⊎ Contains resolved other
    longer other (inl has) = inl (Contains-append_left kept (place ∷ []) other has)
    longer other (inr has) = inr has

    parted : (other : ℕ) → Contains handled other ⊎ (place ≡ other) → Contains (kept ++ place ∷ []) other ⊎ Contains resolved other
    parted other (inl before) = longer other (cut.split other before)
    parted other (inr same) = inl (subst (Contains (kept ++ place ∷ [])) same (Contains-push kept place))

    from : (other : ℕ) → Contains kept other ⊎ (place ≡ other) → Contains handled' other
    from other (inl before) = one.still other (cut.kept_from other before)
    from other (inr same) = subst (Contains handled') same one.now

    separate : (other : ℕ) → Contains kept other ⊎ (place ≡ other) → Contains resolved other → ⊥
    separate other (inl before) away = cut.apart other before away
    separate other (inr same) away = one.new (cut.resolved_from place (subst (Contains resolved) (sym same) away))

    stay : (other : ℕ) → Contains kept other ⊎ (place ≡ other) → (0 < level_at entries other) × MayStay entries depth rule other
    stay other (inl before) = cut.stays other before
    stay other (inr same) = subst (λ k. (0 < level_at entries k) × MayStay entries depth rule k) same (stays.0, stays.1)

    need : (other : ℕ) → Contains kept other ⊎ (place ≡ other) → StaysNeeded clauses entries rule analyzed other
    need other (inl before) = cut.needed other before
    need other (inr same) = subst (StaysNeeded clauses entries rule analyzed) same stays.2

-- for learning only places of level 0 are seen besides
abbrev pub AddsLow : List Entry → Rule → List ℕ → List ℕ → Type 0
AddsLow entries (Learning point) analyzed analyzed' = (place : ℕ) → Contains analyzed' place → Contains analyzed place ⊎ (level_at entries place ≡ 0)
AddsLow entries Refuting analyzed analyzed' = Unit {0}

pub adds_none : (entries : List Entry) (rule : Rule) (analyzed : List ℕ) → AddsLow entries rule analyzed analyzed
adds_none entries (Learning point) analyzed = λ place has. inl has
adds_none entries Refuting analyzed = tt

pub adds_low : (entries : List Entry) (rule : Rule) (analyzed analyzed' clause : List ℕ)
    → AddsLittle entries rule analyzed clause
    → ((k : ℕ) → Contains analyzed' k → Contains analyzed k ⊎ IsPlaceOf entries clause k)
    → AddsLow entries rule analyzed analyzed'
adds_low entries (Learning point) analyzed analyzed' clause little added = λ place has. by_origin place (added place has)
  where
    by_origin : (place : ℕ) → Contains analyzed place ⊎ IsPlaceOf entries clause place → Contains analyzed place ⊎ (level_at entries place ≡ 0)
    by_origin place (inl has) = inl has
    by_origin place (inr of) = little of.lit of.stands place of.at
adds_low entries Refuting analyzed analyzed' clause little added = tt

unseen_keeps : (entries : List Entry) (analyzed analyzed' : List ℕ) (other : ℕ) → 0 < level_at entries other → (Contains analyzed other → ⊥)
    → Contains analyzed other ⊎ (level_at entries other ≡ 0) → ⊥
unseen_keeps entries analyzed analyzed' other above unseen (inl has) = unseen has
unseen_keeps entries analyzed analyzed' other above unseen (inr low) = absurd (omega (arith, above, low))

-- what is needed stays so where only places of level 0 are seen besides
needed_keeps : (clauses : List ArenaClause) (entries : List Entry) (rule : Rule) (analyzed analyzed' : List ℕ) (place : ℕ)
    → AddsLow entries rule analyzed analyzed' → StaysNeeded clauses entries rule analyzed place → StaysNeeded clauses entries rule analyzed' place
needed_keeps clauses entries (Learning point) analyzed analyzed' place low needed = by_kind needed
  where
    by_need : IsNeeded clauses entries analyzed place → IsNeeded clauses entries analyzed' place
    by_need (inl free) = inl free
    by_need (inr has) = inr (record {
      id = has.id;
      reason = has.reason;
      other = has.other;
      of = has.of;
      above = has.above;
      unseen = λ now. unseen_keeps entries analyzed analyzed' has.other has.above has.unseen (low has.other now);
    })

    by_kind : (place ≡ point) ⊎ IsNeeded clauses entries analyzed place → (place ≡ point) ⊎ IsNeeded clauses entries analyzed' place
    by_kind (inl same) = inl same
    by_kind (inr need) = inr (by_need need)
needed_keeps clauses entries Refuting analyzed analyzed' place low needed = tt

pub cut_resolve : (clauses : List ArenaClause) (entries : List Entry) (depth : ℕ) (rule : Rule)
    (old handled handled' analyzed analyzed' kept resolved resolved' : List ℕ) (place : ℕ)
    → OneMore handled handled' place → resolved' ≡ resolved ++ place ∷ []
    → Contains analyzed place → ((other : ℕ) → Contains analyzed other → Contains analyzed' other)
    → ((other : ℕ) → Contains analyzed' other
    → Contains analyzed other
    ⊎ ((0 < level_at entries place) × IsShownBy clauses entries other place × (other ≤ place)
    × (other < length entries)))
    → MayGo rule place → (level_at entries place ≡ 0) ⊎ IsResolvable clauses entries analyzed' place
    → IsPrepared clauses entries depth rule analyzed'
    → AddsLow entries rule analyzed analyzed'
    → IsCut clauses entries depth rule old handled analyzed kept resolved
    → IsCut clauses entries depth rule old handled' analyzed' kept resolved'
cut_resolve clauses entries depth rule old handled handled' analyzed analyzed' kept resolved
    resolved' place one pushed among keeps added may can prepared low cut =
    subst (λ (rs : List ℕ). IsCut clauses entries depth rule old handled' analyzed' kept rs)
    (sym pushed) (record {
      still = λ other has. keeps other (cut.still other has);
      split = λ other has. parted other (one.only other has);
      kept_from = λ other has. one.still other (cut.kept_from other has);
      resolved_from = λ other has. from other (Contains-push_cases resolved place other has);
      apart = λ other has away. separate other has (Contains-push_cases resolved place other away);
      stays = cut.stays;
      needed = λ other has. needed_keeps clauses entries rule analyzed analyzed' other low (cut.needed other has);
      resolvable = λ other has. resolve other (Contains-push_cases resolved place other has);
      gone = λ other has. go other (Contains-push_cases resolved place other has);
      shown = λ other has. show other (added other has);
      prepared = prepared;
      within = λ other has. inside other (added other has);
      bounded = λ top below other has. bound top below other (added other has);
    })
  where
    longer : (other : ℕ) → Contains kept other ⊎ Contains resolved other → Contains kept other ⊎ Contains (resolved ++ place ∷ []) other
    longer other (inl has) = inl has
    longer other (inr has) = inr (Contains-append_left resolved (place ∷ []) other has)

    parted : (other : ℕ) → Contains handled other ⊎ (place ≡ other) → Contains kept other ⊎ Contains (resolved ++ place ∷ []) other
    parted other (inl before) = longer other (cut.split other before)
    parted other (inr same) = inr (subst (Contains (resolved ++ place ∷ [])) same (Contains-push resolved place))

    from : (other : ℕ) → Contains resolved other ⊎ (place ≡ other) → Contains handled' other
    from other (inl before) = one.still other (cut.resolved_from other before)
    from other (inr same) = subst (Contains handled') same one.now

    separate : (other : ℕ) → Contains kept other → Contains resolved other ⊎ (place ≡ other) → ⊥
    separate other has (inl before) = cut.apart other has before
    separate other has (inr same) = one.new (cut.kept_from place (subst (Contains kept) (sym same) has))

    further : (other : ℕ)
        → (level_at entries other ≡ 0) ⊎ IsResolvable clauses entries analyzed other
        → (level_at entries other ≡ 0) ⊎ IsResolvable clauses entries analyzed' other
    further other (inl ground_level) = inl ground_level
    further other (inr r) = inr (resolvable_keeps clauses entries analyzed analyzed' other keeps r)

    resolve : (other : ℕ) → Contains resolved other ⊎ (place ≡ other)
        → (level_at entries other ≡ 0) ⊎ IsResolvable clauses entries analyzed' other
    resolve other (inl before) = further other (cut.resolvable other before)
    resolve other (inr same) =
        subst (λ k. (level_at entries k ≡ 0) ⊎ IsResolvable clauses entries analyzed' k) same can

    go : (other : ℕ) → Contains resolved other ⊎ (place ≡ other) → MayGo rule other
    go other (inl before) = cut.gone other before
    go other (inr same) = subst (MayGo rule) same may

    later : (other : ℕ) → Contains old other ⊎ ((by : ℕ) × Contains resolved by × (0 < level_at entries by) × IsShownBy clauses entries other by)
        → Contains old other ⊎ ((by : ℕ) × Contains (resolved ++ place ∷ []) by × (0 < level_at entries by) × IsShownBy clauses entries other by)
    later other (inl was) = inl was
    later other (inr by) = inr (by.0, Contains-append_left resolved (place ∷ []) by.0 by.1, by.2, by.3)

    show : (other : ℕ)
        → Contains analyzed other
        ⊎ ((0 < level_at entries place) × IsShownBy clauses entries other place × (other ≤ place)
        × (other < length entries))
        → Contains old other ⊎ ((by : ℕ) × Contains (resolved ++ place ∷ []) by × (0 < level_at entries by) × IsShownBy clauses entries other by)
    show other (inl before) = later other (cut.shown other before)
    show other (inr new) = inr (place, Contains-push resolved place, new.0, new.1)

    inside : (other : ℕ)
        → Contains analyzed other
        ⊎ ((0 < level_at entries place) × IsShownBy clauses entries other place × (other ≤ place)
        × (other < length entries)) → other < length entries
    inside other (inl before) = cut.within other before
    inside other (inr new) = new.3

    bound : (top : ℕ) → ((k : ℕ) → Contains old k → k ≤ top) → (other : ℕ)
        → Contains analyzed other
        ⊎ ((0 < level_at entries place) × IsShownBy clauses entries other place × (other ≤ place)
        × (other < length entries)) → other ≤ top
    bound top below other (inl before) = cut.bounded top below other before
    bound top below other (inr new) = omega (arith, cut.bounded top below place among, new.2)

-- one more place of the list is handled, which may have grown at its end
pub one_more : (analyzed analyzed' : List ℕ) (i place : ℕ) → i < length analyzed
    → place ≡ get_or analyzed i place → AreDistinct analyzed
    → take (length analyzed) analyzed' ≡ analyzed
    → OneMore (take i analyzed) (take (i + 1) analyzed') place
one_more analyzed analyzed' i place lt is distinct front = record {
  new = λ has. repeated has;
  now = subst (λ (xs : List ℕ). Contains xs place) (sym grows)
      (Contains-push (take i analyzed) place);
  still = λ other has. subst (λ (xs : List ℕ). Contains xs other) (sym grows)
      (Contains-append_left (take i analyzed) (place ∷ []) other has);
  only = λ other has. Contains-push_cases (take i analyzed) place other
      (subst (λ (xs : List ℕ). Contains xs other) grows has);
}
  where
    grows : take (i + 1) analyzed' ≡ take i analyzed ++ place ∷ []
    grows = sym (take-take (i + 1) (length analyzed) analyzed' (omega arith))
        ∙ ap (take (i + 1)) front ∙ take_more analyzed i place lt
        ∙ ap (λ z. take i analyzed ++ z ∷ []) (sym is)

    repeated : Contains (take i analyzed) place → ⊥
    repeated (k, within, same) =
        let below : k < i = omega (arith, within, length-take i analyzed) in
        distinct k i place below lt (sym (get_or-take i analyzed k place below) ∙ same ∙ is)

-- what a clause adds that learning asks for is of level 0
pub prepared_keeps : (clauses : List ArenaClause) (entries : List Entry) (depth : ℕ) (rule : Rule)
    (analyzed analyzed' clause : List ℕ) → IsDeepFor entries depth rule
    → AddsLittle entries rule analyzed clause
    → ((k : ℕ) → Contains analyzed k → Contains analyzed' k)
    → ((k : ℕ) → Contains analyzed' k → Contains analyzed k ⊎ IsPlaceOf entries clause k)
    → IsPrepared clauses entries depth rule analyzed
    → IsPrepared clauses entries depth rule analyzed'
prepared_keeps clauses entries depth (Learning point) analyzed analyzed' clause deep little keeps
    added prepared = λ place has present differs. by_origin place present differs (added place has)
  where
    old : (place : ℕ) → level_at entries place ≡ depth → place ≢ point → Contains analyzed place
        → IsResolvable clauses entries analyzed' place
    old place present differs has =
        resolvable_keeps clauses entries analyzed analyzed' place keeps
        (prepared place has present differs)

    by_level : (place : ℕ) → level_at entries place ≡ depth → place ≢ point
        → Contains analyzed place ⊎ (level_at entries place ≡ 0)
        → IsResolvable clauses entries analyzed' place
    by_level place present differs (inl has) = old place present differs has
    by_level place present differs (inr low) = absurd (omega (arith, deep.0))

    by_origin : (place : ℕ) → level_at entries place ≡ depth → place ≢ point
        → Contains analyzed place ⊎ IsPlaceOf entries clause place
        → IsResolvable clauses entries analyzed' place
    by_origin place present differs (inl has) = old place present differs has
    by_origin place present differs (inr of) = by_level place present differs (little of.lit of.stands place of.at)
prepared_keeps clauses entries depth Refuting analyzed analyzed' clause deep little keeps added
    prepared = tt

-- a place is resolved away with a clause whose variables were seen besides
pub cut_imply : (clauses : List ArenaClause) (entries : List Entry) (depth : ℕ) (rule : Rule)
    (old handled handled' analyzed analyzed' kept resolved resolved' : List ℕ) (place id count : ℕ)
    → OneMore handled handled' place → resolved' ≡ resolved ++ place ∷ []
    → Contains analyzed place → ((v i j : ℕ) → StandsAt entries v i → StandsAt entries v j → i ≡ j)
    → IsDeepFor entries depth rule → MayGo rule place → (entry_at entries place).reason ≡ Some id
    → 0 < level_at entries place → Forced clauses entries place id
    → AddsLittle entries rule analyzed (clause_at clauses id).lits
    → AreAllSeen entries analyzed' (clause_at clauses id).lits
    → HasGrown entries depth (IsPlaceOf entries (clause_at clauses id).lits) analyzed analyzed'
    count
    → IsCut clauses entries depth rule old handled analyzed kept resolved
    → IsCut clauses entries depth rule old handled' analyzed' kept resolved'
cut_imply clauses entries depth rule old handled handled' analyzed analyzed' kept resolved resolved'
    place id count one pushed among once deep may reason above f little all_seen grown cut =
    cut_resolve clauses entries depth rule old handled handled' analyzed analyzed' kept resolved
    resolved' place one pushed among keeps
    (λ other has. shown other (grown.added other has)) may
    (inr (record { id = id; reason = reason; all_seen = all_seen }))
    (prepared_keeps clauses entries depth rule analyzed analyzed' (clause_at clauses id).lits deep
    little keeps grown.added cut.prepared)
    (adds_low entries rule analyzed analyzed' (clause_at clauses id).lits little grown.added) cut
  where
    keeps : (k : ℕ) → Contains analyzed k → Contains analyzed' k
    keeps = grown_keeps entries depth (IsPlaceOf entries (clause_at clauses id).lits) analyzed
        analyzed' count grown

    shown : (other : ℕ)
        → Contains analyzed other ⊎ IsPlaceOf entries (clause_at clauses id).lits other
        → Contains analyzed other
        ⊎ ((0 < level_at entries place) × IsShownBy clauses entries other place × (other ≤ place)
        × (other < length entries))
    shown other (inl has) = inl has
    shown other (inr of) =
        inr (
          above,
          record { id = id; reason = reason; of = of },
          reason_before clauses entries
              place id other once (cut.within place among) f of,
          of.at.within,
        )

-- the same places in another order
pub cut_same : (clauses : List ArenaClause) (entries : List Entry) (depth : ℕ) (rule : Rule)
    (old handled analyzed kept resolved resolved' : List ℕ)
    → ((place : ℕ) → Contains resolved' place ↔ Contains resolved place)
    → IsCut clauses entries depth rule old handled analyzed kept resolved
    → IsCut clauses entries depth rule old handled analyzed kept resolved'
cut_same clauses entries depth rule old handled analyzed kept resolved resolved' same cut = record {
  still = cut.still;
  split = λ place has. parted place (cut.split place has);
  kept_from = cut.kept_from;
  resolved_from = λ place has. cut.resolved_from place ((same place).0 has);
  apart = λ place has away. cut.apart place has ((same place).0 away);
  stays = cut.stays;
  needed = cut.needed;
  resolvable = λ place has. cut.resolvable place ((same place).0 has);
  gone = λ place has. cut.gone place ((same place).0 has);
  shown = λ place has. show place (cut.shown place has);
  prepared = cut.prepared;
  within = cut.within;
  bounded = cut.bounded;
}
  where
    parted : (place : ℕ) → Contains kept place ⊎ Contains resolved place → Contains kept place ⊎ Contains resolved' place
    parted place (inl has) = inl has
    parted place (inr has) = inr ((same place).1 has)

    show : (place : ℕ) → Contains old place ⊎ ((by : ℕ) × Contains resolved by × (0 < level_at entries by) × IsShownBy clauses entries place by)
        → Contains old place ⊎ ((by : ℕ) × Contains resolved' by × (0 < level_at entries by) × IsShownBy clauses entries place by)
    show place (inl was) = inl was
    show place (inr by) = inr (by.0, (same by.0).1 by.1, by.2, by.3)

-- The state between two places: what the loop over the places seen keeps.
pub record Parting (clauses : List ArenaClause) (entries : List Entry) (depth : ℕ) (rule : Rule)
    (old : List ℕ) (seen : List Bool) (analyzed kept resolved : List ℕ) (next : ℕ) : Type 0 where
  pub agree : Agree seen analyzed
  pub distinct : AreDistinct analyzed
  pub within : next ≤ length analyzed
  pub cut : IsCut clauses entries depth rule old (take next analyzed) analyzed kept resolved

pub parting_same : (clauses : List ArenaClause) (entries : List Entry) (depth : ℕ) (rule : Rule)
    (old : List ℕ) (seen seen' : List Bool)
    (analyzed analyzed' kept kept' resolved resolved' : List ℕ) (next : ℕ)
    → seen' ≡ seen → analyzed' ≡ analyzed → kept' ≡ kept → resolved' ≡ resolved
    → Parting clauses entries depth rule old seen analyzed kept resolved next
    → Parting clauses entries depth rule old seen' analyzed' kept' resolved' next
parting_same clauses entries depth rule old seen seen' analyzed analyzed' kept kept' resolved
    resolved' next e f g h parting =
    subst (λ (ms : List Bool). Parting clauses entries depth rule old ms analyzed' kept' resolved'
    next) (sym e)
    (subst (λ (xs : List ℕ). Parting clauses entries depth rule old seen xs kept' resolved' next)
    (sym f)
    (subst (λ (xs : List ℕ). Parting clauses entries depth rule old seen analyzed xs resolved' next)
    (sym g)
    (subst (λ (xs : List ℕ). Parting clauses entries depth rule old seen analyzed kept xs next)
    (sym h) parting)))

places_below : (analyzed : List ℕ) (bound : ℕ)
    → ((place : ℕ) → Contains analyzed place → place < bound) → (q : ℕ)
    → list_any (eqb q) analyzed ≡ true → q < bound
places_below analyzed bound below q h = let m =
    any_member (eqb q) analyzed h in subst (λ n. n < bound) (sym (eqb-true q m.0 m.2))
    (below m.0 m.1)

-- no more places than there are
pub few_places : (analyzed : List ℕ) (bound : ℕ) → AreDistinct analyzed
    → ((place : ℕ) → Contains analyzed place → place < bound) → length analyzed ≤ bound
few_places analyzed bound distinct below =
    length-le_from_distinct_below analyzed bound
    (IsDistinct-from_AllPairs Decides-eqb analyzed distinct) (places_below analyzed bound below)
