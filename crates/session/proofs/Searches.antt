-- A search whose steps become more.
use Rattle.std.proofs.Common.{◌≡◌, ◌∙◌, ℕ, ◌+◌, ◌-◌, get_or, set, List, [], ◌∷◌, ◌++◌, length, map}
use Rattle.std.proofs.Common.{Option, Some, refl, ap, sym, subst, arith, Vec, Global}
use Rattle.std.specs.Prelude.{◌<◌, ◌≤◌, None, All}
use Rattle.std.proofs.lemmas.Option.{none-some}
use Rattle.std.proofs.lemmas.List.Elements.{All-get_or, All-append, Contains-append_left}
use Rattle.clause_arena.specs.Arena.{ArenaClause, clause_at, no_clause}
use Rattle.trail_core.specs.Trail.{Entry, TrailView, IsTrail, entry_at, no_entry, lits_of}
use Rattle.analyze.specs.Table.{IsNameOf}
use Rattle.session.specs.Units.{KnowsOpposites}
use Rattle.sat_base.proofs.InOrder.{in_order-has}
use Rattle.std.proofs.lemmas.List.{length_push, map_push, get_or-map, length-set, append-nil}
use Rattle.std.proofs.lemmas.List.{append_assoc}
use Rattle.sat_base.specs.Lit.{variable, greatest_of_all}
use Rattle.sat_base.specs.declared.origins.Ref.{Ref}
use Rattle.sat_base.specs.declared.origins.Ref.TheVariants.{Own}
use Rattle.trace_core.specs.Known.{Known, item_at}
use Rattle.trace_core.specs.Trace.{IsOkStep, known_of}
use Rattle.trace_core.specs.declared.derivation.Step.{Step}
use Rattle.session.specs.declared.search.Search.{Search}
use Rattle.session.specs.Solver.{inputs_of, held_of, clauses_of, named_by, IsStep, known_clause}
use Rattle.session.specs.Stock.{IsStocked}
use Rattle.session.specs.Searching.{IsSearching, IsCounted, IsHeldStep, HasUnitsMore, packets_of}
use Rattle.session.specs.Searching.{table_of}
use Rattle.session.proofs.Lists.{All-under}
use Rattle.trace_core.proofs.Items.{item_at-append}
use Rattle.session.proofs.Stocked.{named_with_step, named_last, stock_step}
use Rattle.session.proofs.Reasons.{named_stays, name_one, IsReason, reason_is, opposites_known}

-- What was held stays so where more is.
held_stays : (steps : List Step) (held more : List Known) (numbers : List ℕ)
    → All (IsHeldStep steps held) numbers → All (IsHeldStep steps (held ++ more)) numbers
held_stays steps held more numbers all = All-under (IsHeldStep steps held)
    (IsHeldStep steps (held ++ more)) numbers
    (λ number (one, is, has). (one, is, Contains-append_left held more one has)) all

pub learnt_beside : (clauses clauses' : List ArenaClause) (steps : List Step) (learnt : List ℕ)
    (more : List Known) → held_of clauses' ≡ held_of clauses ++ more
    → All (IsHeldStep steps (held_of clauses)) learnt
    → All (IsHeldStep steps (held_of clauses')) learnt
learnt_beside clauses clauses' steps learnt more held all =
    subst (λ (xs : List Known). All (IsHeldStep steps xs) learnt) (sym held)
    (held_stays steps (held_of clauses) more learnt all)

-- a clause comes that is no input
pub counted_beside : (clauses clauses' : List ArenaClause) (greatest inputs : ℕ) (steps : List Step)
    (learnt : List ℕ) (more : List Known) → inputs_of clauses' ≡ inputs_of clauses
    → held_of clauses' ≡ held_of clauses ++ more → IsCounted clauses greatest inputs steps learnt
    → IsCounted clauses' greatest inputs steps learnt
counted_beside clauses clauses' greatest inputs steps learnt more same held counted = record {
  greatest_is = counted.greatest_is ∙ ap (λ xs. greatest_of_all (clauses_of xs)) (sym same);
  inputs_are = counted.inputs_are ∙ ap length (sym same);
  learnt_held = learnt_beside clauses clauses' steps learnt more held counted.learnt_held;
}

with_steps : (search : Search) (steps : List Step)
    → IsStocked search.store.clauses (packets_of search) steps search.bound
    → ((name : Ref) (known : Known) → table_of search name ≡ Some known
    → named_by (inputs_of search.store.clauses) (packets_of search) steps name
    ≡ Some known)
    → ((number : ℕ) (one : Known) → IsStep search.steps number one
    → IsStep steps number one)
    → IsSearching search → IsSearching (record search { steps = steps })
with_steps search steps stock grows numbered s = record {
  stock = stock;
  room = s.room;
  counted = record {
    greatest_is = s.counted.greatest_is;
    inputs_are = s.counted.inputs_are;
    learnt_held = All-under (IsHeldStep search.steps (held_of search.store.clauses))
        (IsHeldStep steps (held_of search.store.clauses)) search.learnt.items
        (λ number (one, is, held). (one, numbered number one is, held)) s.counted.learnt_held;
  };
  on = s.on;
  named = named_stays (table_of search) (named_by (inputs_of search.store.clauses)
      (packets_of search) steps) search.trail.entries search.units.items search.tags.items search.named grows s.named;
  trail = s.trail;
  watched = s.watched;
  levels = s.levels;
  order = s.order;
  all_named = s.all_named;
}

pub same_steps : (search : Search) (steps : List Step) → steps ≡ search.steps
    → IsSearching search → IsSearching (record search { steps = steps })
same_steps search steps same s =
    with_steps search steps (subst (λ xs. IsStocked search.store.clauses
    (packets_of search) xs search.bound) (sym same) s.stock)
    (λ name known is. ap (λ xs. named_by (inputs_of search.store.clauses)
    (packets_of search) xs name) same ∙ is)
    (λ number one is. subst (λ (xs : List Step). IsStep xs number one) (sym same) is) s

pub more_steps : (search : Search) (steps : List Step) (step : Step)
    → steps ≡ search.steps ++ step ∷ [] → IsOkStep (table_of search) step
    → IsSearching search → IsSearching (record search { steps = steps })
more_steps search steps step pushed ok s =
    with_steps search steps (subst (λ xs. IsStocked search.store.clauses
    (packets_of search) xs search.bound) (sym pushed)
    (stock_step search.store.clauses
    (packets_of search) search.steps search.bound step s.stock ok))
    (λ name known is. ap (λ xs. named_by (inputs_of search.store.clauses)
    (packets_of search) xs name) pushed ∙ named_with_step (inputs_of search.store.clauses)
    (packets_of search) search.steps step name known is)
    (λ number one is. subst (λ (xs : List Step). IsStep xs number one) (sym pushed)
    (subst (λ xs. item_at xs number ≡ Some one)
    (sym (map_push known_of search.steps step))
    (item_at-append (map known_of search.steps) (known_of step ∷ []) number one is))) s

pub last_named : (search : Search) (steps : List Step) (step : Step) (number : ℕ)
    → steps ≡ search.steps ++ step ∷ [] → number ≡ length steps
    → named_by (inputs_of search.store.clauses) (packets_of search) steps (Own number)
    ≡ Some (known_of step)
last_named search steps step number pushed is =
    ap (λ xs. named_by (inputs_of search.store.clauses) (packets_of search) xs (Own number)) pushed
    ∙ named_last (inputs_of search.store.clauses)
    (packets_of search) search.steps step number
    (omega (arith, is, ap length pushed, length_push search.steps step))

-- each clause is known under its name
pub name_of_clause : (search : Search) (id : ℕ) → IsSearching search
    → id < length search.store.clauses
    → IsNameOf (table_of search) (clause_at search.store.clauses id).origin
    (clause_at search.store.clauses id).lits (clause_at search.store.clauses id).tag
name_of_clause search id s known = record {
  named = known_clause (clause_at search.store.clauses id);
  is = All-get_or (λ clause. table_of search clause.origin
      ≡ Some (known_clause clause)) search.store.clauses id no_clause known s.stock.named;
  members = λ x. in_order-has (clause_at search.store.clauses id).lits x;
  same_tag = refl;
}

pub at_zero : (trail : TrailView) (place : ℕ) → IsTrail trail → place < length trail.entries
    → trail.depth ≡ 0 → (entry_at trail.entries place).level ≡ 0
at_zero trail place is lt zero = let low :
    (entry_at trail.entries place).level ≤ trail.depth = is.below place no_entry lt in omega
    (arith, low, zero)

-- the reason of the next literal of level 0
pub next_reason : (search : Search) (id : ℕ) → IsSearching search
    → search.named < length search.trail.entries → search.trail.depth ≡ 0
    → (entry_at search.trail.entries search.named).reason ≡ Some id
    → IsReason search.store.clauses search.trail.entries search.named id
next_reason search id s lt zero is = reason_is search.store.clauses search.trail.entries search.named id (s.on.zero.forced search.named lt (at_zero search.trail search.named s.trail lt zero)) is

-- some literal of level 0 has a reason
pub has_reason : (search : Search) → IsSearching search
    → search.named < length search.trail.entries → search.trail.depth ≡ 0
    → (entry_at search.trail.entries search.named).reason ≡ None → ⊥
has_reason search s lt zero none =
    let forced = s.on.zero.forced search.named lt
    (at_zero search.trail search.named s.trail lt zero) in
    none-some forced.id (sym none ∙ forced.reason)

pub unit_step_holds : (search : Search) (id lit : ℕ) (step : Step) → IsSearching search
    → search.named < length search.trail.entries
    → lit ≡ (entry_at search.trail.entries search.named).lit
    → IsReason search.store.clauses search.trail.entries search.named id
    → ((table : Ref → Option Known) → IsNameOf table (clause_at search.store.clauses id).origin
    (clause_at search.store.clauses id).lits (clause_at search.store.clauses id).tag
    → KnowsOpposites table search.units.items search.tags.items (Some lit)
    (clause_at search.store.clauses id).lits → IsOkStep table step)
    → IsOkStep (table_of search) step
unit_step_holds search id lit step s lt is reason derived =
    derived (table_of search) (name_of_clause search id s reason.known)
    (opposites_known (table_of search) search.store.clauses search.trail.entries search.units.items search.tags.items search.named id lit lt is reason s.named)

pub lit_read : (entries : List Entry) (lits : List ℕ) (place lit : ℕ) → lits ≡ lits_of entries
    → place < length entries → lit ≡ get_or lits place lit → lit ≡ (entry_at entries place).lit
lit_read entries lits place lit is lt read = read ∙ ap (λ (xs : List ℕ). get_or xs place lit) is
    ∙ get_or-map (λ (e : Entry). e.lit) entries place no_entry lit lt

-- one more unit clause has its name
pub search_named : (s : Search) (units : Vec Ref Global) (tags : Vec ℕ Global) (name : Ref)
    (tag lit : ℕ) → IsSearching s → s.named < length s.trail.entries → s.trail.depth ≡ 0
    → lit ≡ (entry_at s.trail.entries s.named).lit → IsNameOf (table_of s) name (lit ∷ []) tag
    → units.items ≡ set s.units.items (variable lit - 1) name
    → tags.items ≡ set s.tags.items (variable lit - 1) tag
    → IsSearching (record s { units = units; tags = tags; named = s.named + 1 })
search_named s units tags name tag lit kept lt zero is one units_are tags_are = record {
  stock = kept.stock;
  room = record {
    over = kept.room.over;
    reserved = kept.room.reserved;
    in_store = kept.room.in_store;
    in_scratch = kept.room.in_scratch;
    in_units = omega (
      arith,
      kept.room.in_units,
      ap length units_are,
      length-set s.units.items
          (variable lit - 1) name,
    );
    in_tags = omega (
      arith,
      kept.room.in_tags,
      ap length tags_are,
      length-set s.tags.items
          (variable lit - 1) tag,
    );
  };
  counted = kept.counted;
  on = kept.on;
  named = name_one (table_of s) s.trail s.units.items units.items s.tags.items tags.items s.named name tag kept.trail lt (at_zero s.trail s.named kept.trail lt zero) kept.named
      (subst (λ x. IsNameOf (table_of s) name (x ∷ []) tag) is one)
      (omega (arith, reserved, kept.room.in_units)) (omega (arith, reserved, kept.room.in_tags))
      (units_are ∙ ap (λ x. set s.units.items (variable x - 1) name) is)
      (tags_are ∙ ap (λ x. set s.tags.items (variable x - 1) tag) is);
  trail = kept.trail;
  watched = kept.watched;
  levels = kept.levels;
  order = kept.order;
  all_named = λ deep. absurd (omega (arith, deep, zero));
}
  where
    reserved : variable (entry_at s.trail.entries s.named).lit ≤ s.trail.vars
    reserved = (kept.trail.reserved s.named no_entry lt).1

pub no_units_more : (steps : List Step) → HasUnitsMore steps steps
no_units_more steps = record {
  more = [];
  is = sym (append-nil steps);
  units = λ i d lt. absurd (omega (arith, lt));
}

pub units_more : (old mid new : List Step) → HasUnitsMore old mid → HasUnitsMore mid new
    → HasUnitsMore old new
units_more old mid new a b = record {
  more = a.more ++ b.more;
  is = b.is ∙ ap (λ (xs : List Step). xs ++ b.more) a.is ∙ append_assoc old a.more b.more;
  units = All-append (λ (step : Step). length step.clause ≡ 1) a.more b.more a.units b.units;
}
