-- The order of decisions while a search goes on.
use Rattle.std.proofs.Common.{◌≡◌, ◌∙◌, ℕ, ◌+◌, ◌-◌, ◌<◌, ◌≤◌, List, [], ◌∷◌, ◌++◌, length, take, drop}
use Rattle.std.proofs.Common.{ap, sym, subst, inl, inr, arith, get_or, true, eqb-true}
use Rattle.std.specs.Prelude.{◌==◌, ◌⊎◌, Contains, IfSome, IfNone, Option, None, Some}
use Rattle.std.proofs.lemmas.Bool.{cases_lt, cases_eq}
use Rattle.std.proofs.lemmas.List.{take-append-drop, length_push, get_or_append_left}
use Rattle.std.proofs.lemmas.List.{get_or_push, get_or-map, take_more}
use Rattle.std.proofs.lemmas.List.Elements.{All-weaker, Contains-append_right}
use Rattle.sat_base.proofs.Members.{Contains-here}
use Rattle.sat_base.specs.Lit.{variable, opposite}
use Rattle.sat_base.proofs.Opposite.{variable-opposite}
use Rattle.trail_core.specs.Trail.{Entry, TrailView, IsTrail, StandsAt, IsFree, no_entry, entry_at, lits_of}
use Rattle.trail_core.specs.Trail.{up_to}
use Rattle.trail_core.specs.UnderTrail.{IsUnassigned, HasGrown}
use Rattle.pick_core.specs.Assigned.{IsAssigned, AreAllAssigned, IsNearestFree}
use Rattle.pick_core.specs.Queue.{QueueView, IsQueue}
use Rattle.pick_core.specs.Scores.{ScoresView, FreeWait, Waits}
use Rattle.trail_core.proofs.Complete.{none_free}
use Rattle.pick_core.proofs.Choice.{stays_assigned, free_before, is_assigned_where_not_free}
use Rattle.session.specs.declared.ranking.Ranking.{Ranking}
use Rattle.session.specs.declared.ranking.Ranking.TheVariants.{Scores, Queue}
use Rattle.session.specs.declared.order.Order.{Order}
use Rattle.session.specs.OnTrail.{AreAssigned}
use Rattle.session.specs.Orders.{OffersFree, IsOrder, IsOrderOf, entered_in}
use Rattle.session.proofs.Asserted.{place_of_true, true_at}
use Rattle.session.proofs.Choices.{same_variable}
use Rattle.session.proofs.Fronts.{Ascends, IsAbove, level_at, up_to_is}

-- literals come behind those of the trail
pub offers_on : (entries more : List Entry) (ranking : Ranking) → OffersFree entries ranking
    → OffersFree (entries ++ more) ranking
offers_on entries more (Scores scores) offers = λ var low high free.
    offers var low high (free_before entries more var free)
offers_on entries more (Queue queue stamps) offers = All-weaker (IsAssigned entries)
    (IsAssigned (entries ++ more)) (stays_assigned entries more) queue.skipped offers

pub order_more : (greatest : ℕ) (old new : TrailView) (more : List Entry) (order : Order)
    → new.entries ≡ old.entries ++ more → old.vars ≤ new.vars → IsOrderOf greatest old order
    → IsOrderOf greatest new order
order_more greatest old new more order is vars kept = record {
  is = kept.is;
  has_inputs = kept.has_inputs;
  reserved = omega (arith, kept.reserved, vars);
  offers = subst (λ (es : List Entry). OffersFree es order.ranking) (sym is)
      (offers_on old.entries more order.ranking kept.offers);
}

pub order_grown : (greatest : ℕ) (clauses : List (List ℕ)) (old new : TrailView) (order : Order)
    → HasGrown clauses old.depth old.entries new.entries → new.vars ≡ old.vars
    → IsOrderOf greatest old order → IsOrderOf greatest new order
order_grown greatest clauses old new order grown vars kept =
    order_more greatest old new (drop (length old.entries) new.entries) order
    (sym (take-append-drop (length old.entries) new.entries) ∙ ap
    (λ (es : List Entry). es ++ drop (length old.entries) new.entries) grown.before)
    (omega (arith, vars)) kept

-- the order changes, over the same variables
pub order_changed : (greatest : ℕ) (old new : TrailView) (order changed : Order)
    → IsOrder changed → changed.vars ≡ order.vars → new.vars ≡ old.vars
    → OffersFree new.entries changed.ranking → IsOrderOf greatest old order
    → IsOrderOf greatest new changed
order_changed greatest old new order changed is vars same offers kept = record {
  is = is;
  has_inputs = omega (arith, kept.has_inputs, vars);
  reserved = omega (arith, kept.reserved, vars, same);
  offers = offers;
}

-- Variables and literals.
pub free_literal : (entries : List Entry) (var lit : ℕ) → IsFree entries var
    → variable lit ≡ var → IsUnassigned (lits_of entries) lit
free_literal entries var lit free is = record {
  not_true = λ holds. stands lit is holds.stands;
  not_false = λ fails. stands (opposite lit) (variable-opposite lit ∙ is) fails.stands;
}
  where
    stands : (x : ℕ) → variable x ≡ var → Contains (lits_of entries) x → ⊥
    stands x same has =
        let (place, lt, here) = place_of_true entries x has in
        free.none place (record { within = lt; is = ap variable here ∙ same })

assigned_literal : (entries : List Entry) (lit : ℕ) → IsAssigned entries (variable lit)
    → IsUnassigned (lits_of entries) lit → ⊥
assigned_literal entries lit a free =
    (same_variable (lits_of entries) lit (entry_at entries a.place).lit
    (sym a.stands.is) free).not_true
    (record { stands = true_at entries a.place a.stands.within })

pub all_assigned_literals : (entries : List Entry) (vars : ℕ) → AreAllAssigned entries vars
    → AreAssigned (lits_of entries) vars
all_assigned_literals entries vars all lit is within =
    let some = is.not_zero in
    assigned_literal entries lit (all (variable lit) (omega (arith, some)) within)

-- as many literals are true as variables are reserved
pub complete_literals : (trail : TrailView) (vars : ℕ) → IsTrail trail → vars ≤ trail.vars
    → (length trail.entries == trail.vars) ≡ true → AreAssigned (lits_of trail.entries) vars
complete_literals trail vars is reserved full lit lit_is within =
    let some = lit_is.not_zero in
    assigned_literal trail.entries lit (is_assigned_where_not_free trail.entries (variable lit)
    (none_free trail is (eqb-true (length trail.entries) trail.vars full) (variable lit)
    (omega (arith, some)) (omega (arith, within, reserved))))

-- Literals are taken back.
free_push : (entries : List Entry) (last : Entry) (var : ℕ) → (variable last.lit ≡ var → ⊥)
    → IsFree entries var → IsFree (entries ++ last ∷ []) var
free_push entries last var differs free = record {
  none = λ place s. at place s (cases_lt place (length entries));
}
  where
    at : (place : ℕ) → StandsAt (entries ++ last ∷ []) var place
        → (place < length entries) ⊎ (length entries ≤ place) → ⊥
    at place s (inl before) = free.none place (record {
      within = before;
      is = ap (λ (e : Entry). variable e.lit)
          (sym (get_or_append_left entries (last ∷ []) no_entry place before)) ∙ s.is;
    })
    at place s (inr here) =
        let is : place ≡ length entries = omega (arith, here, s.within, length_push entries last) in
        differs (ap (λ (e : Entry). variable e.lit)
        (sym (get_or_push entries last no_entry place (sym is))) ∙ s.is)

pub waits_put_back : (old new : ScoresView) (entries : List Entry) (last : Entry) (var : ℕ)
    → variable last.lit ≡ var → Waits new var → ((other : ℕ) → Waits old other → Waits new other)
    → new.vars ≡ old.vars → FreeWait (entries ++ last ∷ []) old → FreeWait entries new
waits_put_back old new entries last var is here grows vars wait v low high free = at (cases_eq v var)
  where
    at : (v ≡ var) ⊎ (v ≡ var → ⊥) → Waits new v
    at (inl same) = subst (Waits new) (sym same) here
    at (inr differs) = grows v (wait v low (omega (arith, high, vars))
        (free_push entries last v (λ same. differs (sym same ∙ is)) free))

pub waits_passed : (scores : ScoresView) (entries : List Entry) (last : Entry)
    → scores.vars < variable last.lit → FreeWait (entries ++ last ∷ []) scores
    → FreeWait entries scores
waits_passed scores entries last above wait v low high free = wait v low high
    (free_push entries last v (λ same. (let e = same in omega (arith, e, high, above))) free)

-- Fronts of a trail, from its end on.
pub front_here : (entries : List Entry) (level n : ℕ) → Ascends entries → n ≤ length entries
    → 0 < n → level_at entries (n - 1) ≤ level → IsAbove entries n level
    → up_to level entries ≡ take n entries
front_here entries level n up within some low above = up_to_is entries level n (record {
  within = within;
  low = λ k lt. (let h = up k (n - 1) (omega (arith, lt)) (omega (arith, within, some)) in omega
      (arith, h, low));
  high = above;
})

pub front_none : (entries : List Entry) (level : ℕ) → IsAbove entries 0 level
    → up_to level entries ≡ []
front_none entries level above = up_to_is entries level 0 (record {
  within = omega arith;
  low = λ k lt. absurd (omega (arith, lt));
  high = above;
})

pub above_more : (entries : List Entry) (level n : ℕ) → IsAbove entries n level → 0 < n
    → level < level_at entries (n - 1) → IsAbove entries (n - 1) level
above_more entries level n above some high = record {
  each = λ k from to. at k to (cases_lt k n) from;
}
  where
    at : (k : ℕ) → k < length entries → (k < n) ⊎ (n ≤ k) → n - 1 ≤ k
        → level < level_at entries k
    at k to (inl less) from =
        let here : n - 1 ≡ k = omega (arith, less, from) in
        subst (λ place. level < level_at entries place) here high
    at k to (inr more) from = above.each k more to

-- the last of so many entries
pub take_last : (entries : List Entry) (n lit : ℕ) → 0 < n → n ≤ length entries
    → lit ≡ (entry_at entries (n - 1)).lit
    → (last : Entry) × (last.lit ≡ lit) × (take n entries ≡ take (n - 1) entries ++ last ∷ [])
take_last entries n lit some within is = (
  entry_at entries (n - 1),
  sym is,
  ap (λ k. take k entries) (let e : n ≡ (n - 1) + 1 = omega (arith, some) in e)
      ∙ take_more entries (n - 1) no_entry (omega (arith, some, within)),
)

-- A free variable that comes from a queue was entered.
pub nearest_entered : (entries : List Entry) (ranking : Ranking) (queue new : QueueView)
    (found : Option ℕ) → entered_in ranking ≡ queue.vars → IsQueue new → new.order ≡ queue.order
    → new.vars ≡ queue.vars → IfSome found (λ var. IsNearestFree entries queue.order var)
    → IfSome found (λ var. (1 ≤ var) × (var ≤ entered_in ranking) × IsFree entries var)
nearest_entered entries ranking queue new None is kept order vars some = tt
nearest_entered entries ranking queue new (Some var) is kept order vars some =
    let has : Contains new.order var = subst (λ (xs : List ℕ). Contains xs var)
    (sym (order ∙ some.is)) (Contains-append_right some.front (var ∷ some.back) var
    (Contains-here var some.back)) in
    let known = kept.variables.known var has in (
      known.0,
      omega (arith, known.1, vars, is),
      some.free,
    )

-- the literal that was read at a place
pub read_at : (entries : List Entry) (lits : List ℕ) (i lit : ℕ) → lits ≡ lits_of entries
    → i < length entries → lit ≡ get_or lits i lit → lit ≡ (entry_at entries i).lit
read_at entries lits i lit same lt is = is ∙ ap (λ (xs : List ℕ). get_or xs i lit) same
    ∙ get_or-map (λ (e : Entry). e.lit) entries i no_entry lit lt

pub none_always : {P : Type 0} (found : Option ℕ) → P → IfNone found P
none_always None p = p
none_always (Some x) p = tt
