-- A search that takes in a clause of the shared database.
use Rattle.std.proofs.Common.{◌≡◌, ◌≢◌, ◌∙◌, ℕ, zero, suc, ◌+◌, ◌-◌, ◌<◌, ◌≤◌, List, [], ◌∷◌, ◌++◌}
use Rattle.std.proofs.Common.{length, map, set, Option, None, Some, Bool, true, false, refl}
use Rattle.std.proofs.Common.{ap, sym, subst, inl, inr, arith, get_or}
use Rattle.std.specs.Prelude.{◌⊎◌, ◌==◌, All, Contains, cond, slice_get, option_map}
use Rattle.std.specs.Prelude.{option_and_then, unwrap_or, replicate}
use Rattle.std.proofs.lemmas.Bool.{cases_eq}
use Rattle.std.proofs.lemmas.Bool.Decides.{nat_tests}
use Rattle.std.proofs.lemmas.Option.{none-some, slice_get-get_or}
use Rattle.std.proofs.lemmas.List.{map_push}
use Rattle.std.proofs.lemmas.List.Elements.{Contains-append_right}
use Rattle.sat_base.specs.Lit.{IsLit, IsLitSet, variable, greatest_of, greatest_of_all}
use Rattle.sat_base.specs.Truth.{Entails}
use Rattle.sat_base.specs.declared.origins.Ref.{Ref}
use Rattle.sat_base.specs.declared.origins.Ref.TheVariants.{Input, Shared, Own}
use Rattle.sat_base.proofs.Members.{All-from_members, Contains-here}
use Rattle.trace_core.specs.Known.{Known, known, item_at}
use Rattle.trace_core.specs.Law.{clauses_up_to}
use Rattle.trace_core.specs.Trace.{AreOkSteps, known_of}
use Rattle.trace_core.specs.declared.derivation.Step.{Step}
use Rattle.trace_core.proofs.Soundness.{ok_step_stays_ok}
use Rattle.clause_arena.specs.Arena.{ArenaClause, lits_of_each}
use Rattle.propagate.specs.Store.{StoreView, AreWithin, AreAllWithin}
use Rattle.session.specs.declared.search.Search.{Search}
use Rattle.session.specs.Solver.{inputs_of, held_of, clauses_of, named_by, shared_by, known_in}
use Rattle.session.specs.Solver.{packet_at, last_step_of, known_clause}
use Rattle.session.specs.Solver.{IsWithinItsTag}
use Rattle.session.specs.Stock.{IsStocked}
use Rattle.session.specs.OnTrail.{IsOnTrail}
use Rattle.session.specs.Units.{IsNamed}
use Rattle.session.specs.Searching.{IsSearching, packets_of, solver_of, table_of}
use Rattle.session.specs.Sharing.{IsTakable, HasPlaceMore, HasTaken, IsHeld, HoldsLast}
use Rattle.session.proofs.Lists.{All-push, All-under, slice_get-set_same, slice_get-set_other}
use Rattle.trace_core.proofs.Items.{item_at-map}
use Rattle.sat_base.proofs.InOrder.{in_order-itself}
use Rattle.session.proofs.UpTo.{below_greatest, among_greatest, greatest_all_within, among_inputs}
use Rattle.session.proofs.Stocked.{held_push, inputs_beside}
use Rattle.session.proofs.Watching.{watched_as, watched_added}
use Rattle.session.proofs.Searches.{counted_beside}
use Rattle.session.proofs.Reasons.{named_stays}
use Rattle.session.proofs.OnTrails.{more_on_trail}

-- Places.

-- the value at a place that may be empty
joined : {X : Type 0} → Option (Option X) → Option X
joined None = None
joined (Some found) = found

none_joined : {X : Type 0} (n i : ℕ) → joined (slice_get (replicate {A = Option X} n None) i) ≡ None
unfolding joined
none_joined zero i = refl
none_joined (suc n) zero = refl
none_joined (suc n) (suc i) = none_joined n i

grown_joined : {X : Type 0} (xs : List (Option X)) (n i : ℕ)
    → joined (slice_get (xs ++ replicate n None) i) ≡ joined (slice_get xs i)
unfolding joined
grown_joined [] n i = none_joined n i
grown_joined (x ∷ xs) n zero = refl
grown_joined (x ∷ xs) n (suc i) = grown_joined xs n i

-- the packet of a place, as what is found there
found_at : {A : Type 0} (f : A → List Step) (items : List (Option A)) (place : ℕ)
    → packet_at (map (option_map f) items) place
    ≡ cond (place == 0) None (option_map f (joined (slice_get items (place - 1))))
unfolding joined
found_at f items place = ap (option_and_then (λ found. found))
    (item_at-map (option_map f) items place) ∙ at (place == 0) (slice_get items (place - 1))
  where
    at : (b : Bool) (found : Option (Option _)) → option_and_then (λ x. x)
        (option_map (option_map f) (cond b None found)) ≡ cond b None (option_map f (joined found))
    at true found = refl
    at false None = refl
    at false (Some found) = refl

-- what stands at the place, where it may be empty
joined_is : {X : Type 0} (items : List (Option X)) (index : ℕ)
    → joined (slice_get items index) ≡ get_or items index None
unfolding joined
joined_is [] index = refl
joined_is (item ∷ items) zero = refl
joined_is (item ∷ items) (suc index) = joined_is items index

pub packet_from_one : {A : Type 0} (f : A → List Step) (items : List (Option A)) (place : ℕ)
    → 1 ≤ place
    → packet_at (map (option_map f) items) place ≡ option_map f (get_or items (place - 1) None)
packet_from_one f items place low =
    found_at f items place
    ∙ ap (λ b. cond b None (option_map f (joined (slice_get items (place - 1)))))
    (let no : (place == 0) ≡ false = grind (arith, nat_tests, low) in no)
    ∙ ap (option_map f) (joined_is items (place - 1))

pub place_marked : {A : Type 0} (f : A → List Step) (old grown : List (Option A)) (count place : ℕ)
    (copy : A) → grown ≡ old ++ replicate count None → 1 ≤ place → place ≤ length grown
    → HasPlaceMore (map (option_map f) old) (map (option_map f)
    (set grown (place - 1) (Some copy))) place (f copy)
unfolding joined
place_marked {A} f old grown count place copy grown_is low reached = record {
  here = found_at f (set grown (place - 1) (Some copy)) place
      ∙ ap (λ b. cond b None (option_map f (joined
      (slice_get (set grown (place - 1) (Some copy)) (place - 1)))))
      (let no : (place == 0) ≡ false = grind (arith, nat_tests, low) in no)
      ∙ ap (λ found. option_map f (joined found))
      (slice_get-set_same grown (place - 1) (Some copy) (omega (arith, low, reached)));
  elsewhere = λ other apart. found_at f (set grown (place - 1) (Some copy)) other
      ∙ by_zero other apart (other == 0) refl ∙ sym (found_at f old other);
}
  where
    by_zero : (other : ℕ) → other ≢ place → (b : Bool) → (other == 0) ≡ b
        → cond b None (option_map f (joined (slice_get (set grown (place - 1) (Some copy))
        (other - 1)))) ≡ cond b None (option_map f (joined (slice_get old (other - 1))))
    by_zero other apart true is = refl
    by_zero other apart false is =
        ap (λ found. option_map f (joined found)) (slice_get-set_other grown (place - 1)
        (other - 1) (Some copy) (λ same. apart (let one : 1 ≤ other = grind
        (arith, nat_tests, is) in omega (arith, same, one, low))))
        ∙ ap (λ (xs : List (Option A)). option_map f (joined (slice_get xs (other - 1)))) grown_is
        ∙ ap (option_map f) (grown_joined old count (other - 1))

-- What is known.

named_with_place : (inputs : List Known) (packets packets' : List (Option (List Step)))
    (steps : List Step) (place : ℕ) (packet : List Step)
    → HasPlaceMore packets packets' place packet → packet_at packets place ≡ None
    → (name : Ref) (one : Known) → named_by inputs packets steps name ≡ Some one
    → named_by inputs packets' steps name ≡ Some one
named_with_place inputs packets packets' steps place packet more free (Input number) one is = is
named_with_place inputs packets packets' steps place packet more free (Own number) one is = is
named_with_place inputs packets packets' steps place packet more free
    (Shared other number) one is = elim (cases_eq other place) [
      | inl same ↦ absurd (none-some one (subst (λ (found : Option
          (List Step)). last_step_of found number ≡ Some one) (ap (packet_at packets) same ∙ free) is))
      | inr apart ↦ subst (λ (found : Option (List Step)). last_step_of found number ≡ Some one)
          (sym (more.elsewhere other apart)) is
    ]

shared_at : (inputs : List Known) (packets : List (Option (List Step))) (own : List Known)
    (place number : ℕ) → known inputs (shared_by packets) own (Shared place number)
    ≡ option_and_then (λ packet. item_at (map known_of packet) number) (packet_at packets place)
shared_at inputs packets own place number = ap
    (option_and_then (λ (steps : List Known). item_at steps number))
    (item_at-map known_in packets place) ∙ at (item_at packets place)
  where
    nothing : (b : Bool) → cond b None (slice_get {X = Known} [] (number - 1)) ≡ None
    nothing true = refl
    nothing false = refl

    at : (found : Option (Option (List Step))) → option_and_then (λ steps. item_at steps number)
        (option_map known_in found) ≡ option_and_then
        (λ packet. item_at (map known_of packet) number) (option_and_then (λ x. x) found)
    at None = refl
    at (Some None) = nothing (number == 0)
    at (Some (Some packet)) = refl

known_with_place : (inputs : List Known) (packets packets' : List (Option (List Step))) (place : ℕ)
    (packet : List Step) → HasPlaceMore packets packets' place packet
    → packet_at packets place ≡ None
    → (own : List Known) (name : Ref) (one : Known)
    → known inputs (shared_by packets) own name ≡ Some one
    → known inputs (shared_by packets') own name ≡ Some one
known_with_place inputs packets packets' place packet more free own (Input number) one is = is
known_with_place inputs packets packets' place packet more free own (Own number) one is = is
known_with_place inputs packets packets' place packet more free own
    (Shared other number) one is = elim (cases_eq other place) [
      | inl same ↦ absurd (none-some one (subst (λ (found : Option (List Step)). option_and_then
          (λ packet. item_at (map known_of packet) number) found ≡ Some one)
          (ap (packet_at packets) same ∙ free) (sym (shared_at inputs packets own other number) ∙ is)))
      | inr apart ↦ shared_at inputs packets' own other number
          ∙ ap (option_and_then (λ (packet : List Step). item_at (map known_of packet) number))
          (more.elsewhere other apart) ∙ sym (shared_at inputs packets own other number) ∙ is
    ]

ok_over_more : (inputs : List Known) (shared shared' : List (List Known))
    → ((own : List Known) (name : Ref) (one : Known) → known inputs shared own name ≡ Some one
    → known inputs shared' own name ≡ Some one)
    → (own : List Known) (steps : List Step) → AreOkSteps inputs shared own steps
    → AreOkSteps inputs shared' own steps
ok_over_more inputs shared shared' grows own [] ok = tt
ok_over_more inputs shared shared' grows own (step ∷ steps) ok = (
  ok_step_stays_ok (known inputs shared own) (known inputs shared' own) step
      (grows own) ok.0,
  ok_over_more inputs shared shared' grows
      (own ++ known_of step ∷ []) steps ok.1,
)

-- The last clause of a packet comes to be held.

stock_shared : (clauses : List ArenaClause) (packets packets' : List (Option (List Step)))
    (steps : List Step) (bound place : ℕ) (packet : List Step) (one : Known)
    → IsStocked clauses packets steps bound → HasPlaceMore packets packets' place packet
    → packet_at packets place ≡ None
    → item_at (map known_of packet) (length packet) ≡ Some one → one.tag ≤ bound
    → Entails (clauses_of (inputs_of clauses)) one.clause
    → greatest_of one.clause ≤ greatest_of_all (clauses_up_to (inputs_of clauses) one.tag)
    → IsLitSet one.clause
    → IsStocked (clauses ++ record {
      lits = one.clause;
      tag = one.tag;
      origin = Shared place (length packet);
    } ∷ []) packets' steps bound
stock_shared clauses packets packets' steps bound place packet one stock more free last low follows within ascends = record {
  lits = All-push (λ clause. All IsLit clause.lits) clauses shared stock.lits ascends.each;
  named = subst (λ inputs. All (λ clause. named_by inputs packets' steps clause.origin
      ≡ Some (known_clause clause)) (clauses ++ shared ∷ [])) (sym same)
      (All-push (λ clause. named_by (inputs_of clauses) packets' steps clause.origin
      ≡ Some (known_clause clause)) clauses shared
      (All-under (λ clause. named_by (inputs_of clauses) packets steps clause.origin
      ≡ Some (known_clause clause)) (λ clause. named_by
      (inputs_of clauses) packets' steps clause.origin ≡ Some (known_clause clause)) clauses
      (λ clause is. named_with_place
      (inputs_of clauses) packets packets' steps place packet more free clause.origin
      (known_clause clause) is) stock.named)
      (ap (λ (found : Option (List Step)). last_step_of found (length packet)) more.here
      ∙ ap (λ b. cond b (item_at (map known_of packet) (length packet)) None) itself ∙ last
      ∙ ap Some (sym known_is)));
  entailed = subst (λ inputs. All (λ clause. Entails (clauses_of inputs)
      (known_clause clause).clause) (clauses ++ shared ∷ [])) (sym same)
      (All-push (λ clause. Entails (clauses_of (inputs_of clauses))
      (known_clause clause).clause) clauses shared stock.entailed
      (subst (λ (x : Known). Entails (clauses_of (inputs_of clauses)) x.clause)
      (sym known_is) follows));
  bounded = All-push (λ clause. clause.tag ≤ bound) clauses shared stock.bounded low;
  within = subst (λ inputs. All (λ clause. IsWithinItsTag inputs (known_clause clause))
      (clauses ++ shared ∷ [])) (sym same)
      (All-push (λ clause. IsWithinItsTag (inputs_of clauses)
      (known_clause clause)) clauses shared stock.within
      (subst (IsWithinItsTag (inputs_of clauses)) (sym known_is) (λ _. within)));
  packets_held = λ other number k is. held other number k is (cases_eq other place);
  ok = subst (λ inputs. AreOkSteps inputs (shared_by packets') [] steps) (sym same)
      (ok_over_more (inputs_of clauses) (shared_by packets) (shared_by packets')
      (known_with_place (inputs_of clauses) packets packets' place packet more free) [] steps stock.ok);
  steps_entailed = subst (λ inputs. All (λ step. Entails (clauses_of inputs) step.clause) steps)
      (sym same) stock.steps_entailed;
  steps_within = subst (λ inputs. All (λ step. IsWithinItsTag inputs (known_of step)) steps)
      (sym same) stock.steps_within;
  steps_bounded = stock.steps_bounded;
}
  where
    shared : ArenaClause
    shared = record { lits = one.clause; tag = one.tag; origin = Shared place (length packet) }

    same : inputs_of (clauses ++ shared ∷ []) ≡ inputs_of clauses
    same = inputs_beside clauses shared refl

    known_is : known_clause shared ≡ one
    known_is = ap (λ lits. record { clause = lits; tag = one.tag })
        (in_order-itself one.clause ascends.ascending)

    itself : (length packet == length packet) ≡ true
    itself = grind (arith, nat_tests)

    held_last : (number : ℕ) (k : Known) (b : Bool) → (number == length packet) ≡ b
        → cond b (item_at (map known_of packet) number) None ≡ Some k
        → Contains (held_of (clauses ++ shared ∷ [])) k
    held_last number k true is found =
        let at : number ≡ length packet = grind (arith, nat_tests, is) in
        let k_is : one ≡ k = ap (λ (o : Option Known). unwrap_or o one)
        (sym last ∙ ap (item_at (map known_of packet)) (sym at) ∙ found) in
        subst (λ (xs : List Known). Contains xs k) (sym (map_push known_clause clauses shared))
        (Contains-append_right (held_of clauses) (known_clause shared ∷ []) k
        (subst (λ (x : Known). Contains (known_clause shared ∷ []) x) (known_is ∙ k_is)
        (Contains-here (known_clause shared) [])))
    held_last number k false is found = absurd (none-some k found)

    held : (other number : ℕ) (k : Known) → last_step_of (packet_at packets' other) number ≡ Some k
        → (other ≡ place) ⊎ (other ≢ place) → Contains (held_of (clauses ++ shared ∷ [])) k
    held other number k is (inl here) =
        held_last number k (number == length packet) refl
        (subst (λ (found : Option (List Step)). last_step_of found number ≡ Some k)
        (ap (packet_at packets') here ∙ more.here) is)
    held other number k is (inr apart) = held_push clauses shared k
        (stock.packets_held other number k (subst (λ
        (found : Option (List Step)). last_step_of found number ≡ Some k)
        (more.elsewhere other apart) is))

pub search_took : (s new : Search) (place : ℕ) (packet : List Step) (one : Known) → IsSearching s
    → s.trail.depth ≡ 0 → new ≡ record s { store = new.store; packets = new.packets }
    → HasPlaceMore (packets_of s) (packets_of new) place packet
    → packet_at (packets_of s) place ≡ None → IsTakable (solver_of s) packet one
    → IsLitSet one.clause
    → new.store.clauses ≡ s.store.clauses ++ record {
      lits = one.clause;
      tag = one.tag;
      origin = Shared place (length packet);
    } ∷ [] → new.store.fresh ≡ s.store.fresh ++ length s.store.clauses ∷ []
    → new.store.vars ≡ s.store.vars → IsSearching new
search_took s new place packet one kept bottom parts more free takable ascends added fresh vars = subst (λ (x : Search). IsSearching x) (sym parts) (record {
  stock = subst (λ cs. IsStocked cs (packets_of new) s.steps s.bound) (sym added)
      (stock_shared s.store.clauses (packets_of s)
      (packets_of new) s.steps s.bound place packet one kept.stock more free takable.last takable.bounded takable.follows takable.within ascends);
  room = record {
    over = subst (λ cs. AreAllWithin s.greatest cs) (sym added)
        (All-push (λ (clause : ArenaClause). AreWithin s.greatest clause.lits) s.store.clauses shared kept.room.over
        (All-from_members (λ lit. variable lit ≤ s.greatest) one.clause
        (λ lit has. (let low = below_greatest one.clause lit has in omega
        (arith, low, one_within, kept.counted.greatest_is)))));
    reserved = kept.room.reserved;
    in_store = omega (arith, kept.room.in_store, vars);
    in_scratch = kept.room.in_scratch;
    in_units = kept.room.in_units;
    in_tags = kept.room.in_tags;
  };
  counted = counted_beside s.store.clauses new.store.clauses s.greatest s.inputs s.steps s.learnt.items
      (known_clause shared ∷ []) inputs held kept.counted;
  on = subst (λ lits. IsOnTrail lits s.trail.entries s.trail.depth)
      (sym (ap lits_of_each added
      ∙ map_push (λ (clause : ArenaClause). clause.lits) s.store.clauses shared))
      (more_on_trail (lits_of_each s.store.clauses) one.clause s.trail.entries s.trail.depth
      (λ level lt. absurd (omega (arith, lt, bottom))) kept.on);
  named = subst (λ inputs. IsNamed (named_by inputs
      (packets_of new) s.steps) s.trail.entries s.units.items s.tags.items s.named)
      (sym inputs)
      (named_stays (table_of s) (named_by (inputs_of s.store.clauses)
      (packets_of new) s.steps) s.trail.entries s.units.items s.tags.items s.named
      (named_with_place (inputs_of s.store.clauses) (packets_of s)
      (packets_of new) s.steps place packet more free) kept.named);
  trail = kept.trail;
  watched = watched_as added fresh refl refl refl
      (watched_added s.store.clauses s.store.fresh s.trail.entries s.trail.depth s.trail.looked shared bottom kept.watched);
  levels = kept.levels;
  order = kept.order;
  all_named = kept.all_named;
})
  where
    shared : ArenaClause
    shared = record { lits = one.clause; tag = one.tag; origin = Shared place (length packet) }

    inputs : inputs_of new.store.clauses ≡ inputs_of s.store.clauses
    inputs = ap inputs_of added ∙ inputs_beside s.store.clauses shared refl

    held : held_of new.store.clauses ≡ held_of s.store.clauses ++ known_clause shared ∷ []
    held = ap held_of added ∙ map_push known_clause s.store.clauses shared

    up_to_all : (inputs : List Known) (tag : ℕ) → greatest_of_all
        (clauses_up_to inputs tag) ≤ greatest_of_all (clauses_of inputs)
    up_to_all inputs tag = greatest_all_within (clauses_up_to inputs tag)
        (greatest_of_all (clauses_of inputs)) (λ clause has. among_greatest
        (clauses_of inputs) clause (among_inputs inputs tag clause has))

    one_within : greatest_of one.clause ≤ greatest_of_all (clauses_of (inputs_of s.store.clauses))
    one_within = let wide = up_to_all
        (inputs_of s.store.clauses) one.tag in let low = takable.within in omega (arith, wide, low)

pub took : (s new : Search) (place : ℕ) (packet : List Step) (one : Known)
    → new ≡ record s { store = new.store; packets = new.packets }
    → HasPlaceMore (packets_of s) (packets_of new) place packet
    → item_at (map known_of packet) (length packet) ≡ Some one → IsLitSet one.clause
    → new.store.clauses ≡ s.store.clauses ++ record {
      lits = one.clause;
      tag = one.tag;
      origin = Shared place (length packet);
    } ∷ []
    → HasTaken (solver_of s) (solver_of new) place packet one
took s new place packet one parts more last ascends added = record {
  last = last;
  inputs = ap inputs_of added ∙ inputs_beside s.store.clauses
      (record { lits = one.clause; tag = one.tag; origin = Shared place (length packet) }) refl;
  bound = ap (λ (x : Search). x.bound) parts;
  held = ap held_of added ∙ map_push known_clause s.store.clauses
      (record { lits = one.clause; tag = one.tag; origin = Shared place (length packet) })
      ∙ ap (λ lits. held_of s.store.clauses ++ record { clause = lits; tag = one.tag } ∷ [])
      (in_order-itself one.clause ascends.ascending);
  steps = ap (λ (x : Search). x.steps) parts;
  learnt = ap (λ (x : Search). x.learnt.items) parts;
  packets = more;
}

-- the last step, read at its place
pub last_read : (packet steps : List Step) (i : ℕ) (step : Step) → steps ≡ packet
    → 0 < length packet → i + 1 ≡ length steps → step ≡ get_or steps i step
    → item_at (map known_of packet) (length packet) ≡ Some (known_of step)
last_read packet steps i step are some last read = ap
    (λ (xs : List Step). item_at (map known_of xs) (length xs)) (sym are)
    ∙ item_at-map known_of steps (length steps) ∙ ap (option_map known_of) found
  where
    found : item_at steps (length steps) ≡ Some step
    found = ap (λ b. cond b None (slice_get steps (length steps - 1)))
        (let no : (length steps == 0) ≡ false = grind (arith, nat_tests, last) in no)
        ∙ ap (slice_get steps) (let e : length steps - 1 ≡ i = omega (arith, last) in e)
        ∙ slice_get-get_or steps i step (omega (arith, last)) ∙ ap Some (sym read)

same_known : (found : Option Known) (one other : Known) → found ≡ Some one → found ≡ Some other
    → one ≡ other
same_known found one other first second = ap (λ (o : Option Known). unwrap_or o one)
    (sym first ∙ second)

-- a clause that can be taken in is over reserved variables
pub last_within : (s : Search) (packet shown : List Step) → IsSearching s → shown ≡ packet
    → (takable : (one : Known) × IsTakable (solver_of s) packet one)
    → (one : Known) → item_at (map known_of shown) (length shown) ≡ Some one
    → greatest_of one.clause ≤ s.store.vars
last_within s packet shown kept same takable one is =
    let one_is = same_known (item_at (map known_of packet)
    (length packet)) takable.0 one takable.1.last
    (ap (λ (xs : List Step). item_at (map known_of xs) (length xs)) (sym same) ∙ is) in
    let wide = greatest_all_within (clauses_up_to (inputs_of s.store.clauses) takable.0.tag)
    (greatest_of_all (clauses_of (inputs_of s.store.clauses)))
    (λ clause has. among_greatest (clauses_of (inputs_of s.store.clauses)) clause
    (among_inputs (inputs_of s.store.clauses) takable.0.tag clause has)) in
    omega (arith, ap (λ (x : Known). greatest_of x.clause) one_is, takable.1.within, wide, kept.counted.greatest_is, kept.room.reserved, kept.room.in_store)

pub takes : (s mid new : Search) (place : ℕ) (packet shown : List Step) → IsSearching s
    → s.trail.depth ≡ 0 → new ≡ record s { store = new.store; packets = new.packets }
    → new.store ≡ mid.store → HoldsLast s mid place shown → shown ≡ packet
    → (takable : (one : Known) × IsTakable (solver_of s) packet one)
    → HasPlaceMore (packets_of s) (packets_of new) place packet
    → packet_at (packets_of s) place ≡ None
    → IsSearching new × ((one : Known) × HasTaken (solver_of s) (solver_of new) place packet one)
takes s mid new place packet shown kept bottom parts store holds same takable more free = (
  search_took s new place packet one kept bottom parts more free takable.1 ascends added
      (ap (λ (x : StoreView). x.fresh) store ∙ holds.fresh)
      (ap (λ (x : StoreView). x.vars) store ∙ holds.vars),
  (one, took s new place packet one parts more takable.1.last ascends added),
)
  where
    one : Known
    one = takable.0

    one_is : holds.one ≡ one
    one_is = same_known (item_at (map known_of packet) (length packet)) holds.one one
        (ap (λ (xs : List Step). item_at (map known_of xs) (length xs)) (sym same)
        ∙ holds.last) takable.1.last

    ascends : IsLitSet one.clause
    ascends = subst (λ (x : Known). IsLitSet x.clause) one_is holds.set

    added : new.store.clauses ≡ s.store.clauses ++ record {
      lits = one.clause;
      tag = one.tag;
      origin = Shared place (length packet);
    } ∷ []
    added = ap (λ (x : StoreView). x.clauses) store ∙ holds.clauses
        ∙ ap (λ (x : Known). s.store.clauses ++ record {
          lits = x.clause;
          tag = x.tag;
          origin = Shared place (length shown);
        } ∷ []) one_is
        ∙ ap (λ (xs : List Step). s.store.clauses ++ record {
          lits = one.clause;
          tag = one.tag;
          origin = Shared place (length xs);
        } ∷ []) same

-- Places that no packet came to go again.
pub search_unplaced : (s new : Search) → IsSearching s
    → new ≡ record s { store = new.store; packets = new.packets } → new.store ≡ s.store
    → packets_of new ≡ packets_of s → IsSearching new
search_unplaced s new kept parts store packets = subst (λ (x : Search). IsSearching x) (sym (parts ∙ ap (λ (x : StoreView). record s { store = x; packets = new.packets }) store)) (record {
  stock = subst (λ ps. IsStocked s.store.clauses ps s.steps s.bound) (sym packets) kept.stock;
  room = kept.room;
  counted = kept.counted;
  on = kept.on;
  named = subst (λ ps. IsNamed
      (named_by (inputs_of s.store.clauses) ps s.steps) s.trail.entries s.units.items s.tags.items s.named) (sym packets) kept.named;
  trail = kept.trail;
  watched = kept.watched;
  levels = kept.levels;
  order = kept.order;
  all_named = kept.all_named;
})

-- A place is known whose packet's last clause is held.
pub search_knows : (s new : Search) (place : ℕ) (packet : List Step) → IsSearching s
    → new ≡ record s { packets = new.packets } → HasPlaceMore (packets_of s)
    (packets_of new) place packet → packet_at (packets_of s) place ≡ None
    → IsHeld (solver_of s) packet → IsSearching new
search_knows s new place packet kept parts more free is_held = subst (λ (x : Search). IsSearching x) (sym parts) (record {
  stock = record {
    lits = kept.stock.lits;
    named = All-under (λ clause. named_by inputs (packets_of s) s.steps clause.origin
        ≡ Some (known_clause clause)) (λ clause. named_by inputs
        (packets_of new) s.steps clause.origin ≡ Some (known_clause clause)) s.store.clauses
        (λ clause is. grows clause.origin (known_clause clause) is) kept.stock.named;
    entailed = kept.stock.entailed;
    bounded = kept.stock.bounded;
    within = kept.stock.within;
    packets_held = λ other number k is. held other number k is (cases_eq other place);
    ok = ok_over_more inputs (shared_by (packets_of s)) (shared_by (packets_of new))
        (known_with_place inputs (packets_of s)
        (packets_of new) place packet more free) [] s.steps kept.stock.ok;
    steps_entailed = kept.stock.steps_entailed;
    steps_within = kept.stock.steps_within;
    steps_bounded = kept.stock.steps_bounded;
  };
  room = kept.room;
  counted = kept.counted;
  on = kept.on;
  named = named_stays (table_of s) (named_by inputs
      (packets_of new) s.steps) s.trail.entries s.units.items s.tags.items s.named grows kept.named;
  trail = kept.trail;
  watched = kept.watched;
  levels = kept.levels;
  order = kept.order;
  all_named = kept.all_named;
})
  where
    inputs : List Known
    inputs = inputs_of s.store.clauses

    grows : (name : Ref) (one : Known) → named_by inputs (packets_of s) s.steps name
        ≡ Some one → named_by inputs (packets_of new) s.steps name ≡ Some one
    grows = named_with_place inputs (packets_of s)
        (packets_of new) s.steps place packet more free

    last_held : (number : ℕ) (k : Known) (b : Bool) → (number == length packet) ≡ b
        → cond b (item_at (map known_of packet) number) None ≡ Some k
        → Contains (held_of s.store.clauses) k
    last_held number k true is found =
        let at : number ≡ length packet = grind (arith, nat_tests, is) in
        subst (Contains (held_of s.store.clauses))
        (same_known (item_at (map known_of packet) number) is_held.one k
        (ap (item_at (map known_of packet)) at ∙ is_held.last) found) is_held.held
    last_held number k false is found = absurd (none-some k found)

    held : (other number : ℕ) (k : Known) → last_step_of (packet_at (packets_of new) other) number
        ≡ Some k → (other ≡ place) ⊎ (other ≢ place) → Contains (held_of s.store.clauses) k
    held other number k is (inl here) = last_held number k (number == length packet) refl
        (subst (λ (found : Option (List Step)). last_step_of found number ≡ Some k)
        (ap (packet_at (packets_of new)) here ∙ more.here) is)
    held other number k is (inr apart) = kept.stock.packets_held other number k
        (subst (λ (found : Option (List Step)). last_step_of found number ≡ Some k)
        (more.elsewhere other apart) is)
