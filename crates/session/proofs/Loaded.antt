-- A search to which the clauses of one more job come.
use Rattle.std.proofs.Common.{◌≡◌, ◌∙◌, ℕ, ◌+◌, ◌<◌, ◌≤◌, List, [], ◌∷◌, ◌++◌, length, take, refl}
use Rattle.std.proofs.Common.{ap, sym, subst, inl, inr, arith, get_or}
use Rattle.std.specs.Prelude.{◌⊎◌, All, Contains, max, filter, nat_lt}
use Rattle.std.proofs.lemmas.Bool.{cases_lt}
use Rattle.std.proofs.lemmas.List.{length_push}
use Rattle.std.proofs.lemmas.List.Elements.{All-contains, Contains-append_left}
use Rattle.std.proofs.lemmas.List.Elements.{Contains-append_right}
use Rattle.sat_base.proofs.Members.{All-from_members, Contains-here}
use Rattle.trail_core.specs.Trail.{TrailView}
use Rattle.session.specs.Watched.{IsWatched}
use Rattle.session.proofs.Watching.{watched_as, watched_cut}
use Rattle.std.proofs.lemmas.List.{take_all, take_more, map_push, append-nil, append_assoc}
use Rattle.std.proofs.Math.Seq.{take-append_seam}
use Rattle.sat_base.specs.Lit.{IsLitSet, greatest_of, greatest_of_all}
use Rattle.sat_base.specs.declared.origins.Ref.TheVariants.{Input}
use Rattle.trace_core.specs.Known.{Known}
use Rattle.clause_arena.specs.Arena.{ArenaClause, lits_of_each}
use Rattle.propagate.specs.Store.{StoreView, AreAllWithin}
use Rattle.session.specs.declared.search.Search.{Search}
use Rattle.session.specs.Solver.{Solver, inputs_of, held_of, named_by, known_clause}
use Rattle.session.specs.Stock.{IsStocked}
use Rattle.session.specs.OnTrail.{IsOnTrail}
use Rattle.session.specs.Units.{IsNamed}
use Rattle.session.specs.Searching.{IsSearching, IsCounted, packets_of, solver_of}
use Rattle.session.specs.Loading.{HasInputsOnly, HasInputsMore, loaded, tagged}
use Rattle.session.proofs.Lists.{All-under}
use Rattle.sat_base.proofs.InOrder.{in_order-itself}
use Rattle.session.proofs.Reserved.{greatest_all_push, inputs_more}

-- the greatest variable, clause by clause
pub greatest_all_more : (clauses : List (List ℕ)) (i : ℕ) (clause : List ℕ) (so_far now here : ℕ)
    → i < length clauses → clause ≡ get_or clauses i clause
    → so_far ≡ greatest_of_all (take i clauses) → here ≡ greatest_of clause → now ≡ max so_far here
    → now ≡ greatest_of_all (take (i + 1) clauses)
greatest_all_more clauses i clause so_far now here lt is before here_is step =
    step ∙ ap (λ n. max n here) before ∙ ap (max (greatest_of_all (take i clauses))) here_is
    ∙ sym (greatest_all_push (take i clauses) clause)
    ∙ sym (ap greatest_of_all (take_more clauses i clause lt
    ∙ ap (λ x. take i clauses ++ x ∷ []) (sym is)))

pub greatest_all_whole : (clauses : List (List ℕ)) (i so_far : ℕ) → length clauses ≤ i
    → so_far ≡ greatest_of_all (take i clauses) → so_far ≡ greatest_of_all clauses
greatest_all_whole clauses i so_far le is = is ∙ ap greatest_of_all (take_all i clauses le)

-- Nothing came.
pub no_inputs_came : (s : Search) → HasInputsOnly s s
no_inputs_came s = record {
  parts = refl;
  more = [];
  clauses = sym (append-nil s.store.clauses);
  vars = refl;
  fresh = λ id from to. absurd (omega (arith, from, to));
  still_new = All-from_members (Contains s.store.fresh) s.store.fresh (λ id has. has);
}

pub inputs_only_twice : (old mid new : Search) → HasInputsOnly old mid → HasInputsOnly mid new
    → HasInputsOnly old new
inputs_only_twice old mid new a b = record {
  parts = b.parts ∙ ap (λ (s : Search). record s {
    store = new.store;
    greatest = new.greatest;
    inputs = new.inputs;
    bound = new.bound;
  }) a.parts;
  more = a.more ++ b.more;
  clauses = b.clauses ∙ ap (λ (xs : List ArenaClause). xs ++ b.more) a.clauses
      ∙ append_assoc old.store.clauses a.more b.more;
  vars = b.vars ∙ a.vars;
  fresh = λ id from to. fresh_at id from to (cases_lt id (length mid.store.clauses));
  still_new = All-under (Contains mid.store.fresh) (Contains new.store.fresh) old.store.fresh
      still a.still_new;
}
  where
    still : (id : ℕ) → Contains mid.store.fresh id → Contains new.store.fresh id
    still id has = All-contains (Contains new.store.fresh) mid.store.fresh id b.still_new has

    fresh_at : (id : ℕ) → length old.store.clauses ≤ id → id < length new.store.clauses
        → (id < length mid.store.clauses) ⊎ (length mid.store.clauses ≤ id)
        → Contains new.store.fresh id
    fresh_at id from to (inl earlier) = still id (a.fresh id from earlier)
    fresh_at id from to (inr later) = b.fresh id later to

-- One input came.
pub input_came : (s new : Search) (clause : List ℕ) (tag number : ℕ) → IsLitSet clause
    → new ≡ record s {
      store = new.store;
      greatest = new.greatest;
      inputs = new.inputs;
      bound = new.bound;
    }
    → new.store.clauses ≡ s.store.clauses ++ record {
      lits = clause;
      tag = tag;
      origin = Input number;
    } ∷ [] → new.store.fresh ≡ s.store.fresh ++ length s.store.clauses ∷ []
    → new.store.vars ≡ s.store.vars → new.bound ≡ tag
    → HasInputsOnly s new × HasInputsMore s new (clause ∷ []) tag
input_came s new clause tag number set parts added fresh vars bound = (
  record {
    parts = parts;
    more = record { lits = clause; tag = tag; origin = Input number } ∷ [];
    clauses = added;
    vars = vars;
    fresh = λ id from to. subst (λ (ids : List ℕ). Contains ids id) (sym fresh)
        (Contains-append_right s.store.fresh (length s.store.clauses ∷ []) id
        (subst (λ (n : ℕ). Contains (length s.store.clauses ∷ []) n)
        (let e : length s.store.clauses ≡ id = omega (arith, from, to, ap length added, length_push s.store.clauses input) in e)
        (Contains-here (length s.store.clauses) [])));
    still_new = subst (λ (ids : List ℕ). All (Contains ids) s.store.fresh) (sym fresh)
        (All-from_members (Contains (s.store.fresh ++ length s.store.clauses ∷ [])) s.store.fresh
        (λ id has. Contains-append_left s.store.fresh (length s.store.clauses ∷ []) id has));
  },
  record {
    inputs = inputs_more s.store.clauses new.store.clauses clause tag number set added;
    held = ap held_of added ∙ map_push known_clause s.store.clauses
        (record { lits = clause; tag = tag; origin = Input number })
        ∙ ap (λ lits. held_of s.store.clauses ++ record { clause = lits; tag = tag } ∷ [])
        (in_order-itself clause set.ascending);
    bound = omega (arith, bound);
  },
)
  where
    input : ArenaClause
    input = record { lits = clause; tag = tag; origin = Input number }

-- The store is cut back to the clauses that were there.
pub search_restored : (s : Search) (store : StoreView) → IsSearching s
    → store.clauses ≡ s.store.clauses → store.vars ≡ s.store.vars
    → IsWatched store.clauses store.fresh s.trail.entries s.trail.depth s.trail.looked
    → IsSearching (record s { store = store })
search_restored s store kept clauses vars watched = record {
  stock = subst (λ cs. IsStocked cs (packets_of s) s.steps s.bound) (sym clauses) kept.stock;
  room = record {
    over = subst (λ cs. AreAllWithin s.greatest cs) (sym clauses) kept.room.over;
    reserved = kept.room.reserved;
    in_store = omega (arith, kept.room.in_store, vars);
    in_scratch = kept.room.in_scratch;
    in_units = kept.room.in_units;
    in_tags = kept.room.in_tags;
  };
  counted = subst (λ cs. IsCounted cs s.greatest s.inputs s.steps s.learnt.items) (sym clauses) kept.counted;
  on = subst (λ cs. IsOnTrail (lits_of_each cs) s.trail.entries s.trail.depth)
      (sym clauses) kept.on;
  named = subst (λ cs. IsNamed (named_by (inputs_of cs)
      (packets_of s) s.steps) s.trail.entries s.units.items s.tags.items s.named)
      (sym clauses) kept.named;
  trail = kept.trail;
  watched = watched;
  levels = kept.levels;
  order = kept.order;
  all_named = kept.all_named;
}

pub restored_solver : (s : Search) (store : StoreView) → store.clauses ≡ s.store.clauses
    → solver_of (record s { store = store }) ≡ solver_of s
restored_solver s store clauses = ap (λ cs. record {
  inputs = inputs_of cs;
  bound = s.bound;
  held = held_of cs;
  steps = s.steps;
  learnt = s.learnt.items;
  packets = packets_of s;
}) clauses

-- The next job is loaded.
pub search_raised : (s : Search) (bound : ℕ) → IsSearching s → s.bound ≤ bound
    → IsSearching (record s { bound = bound })
search_raised s bound kept le = record {
  stock = record {
    lits = kept.stock.lits;
    named = kept.stock.named;
    entailed = kept.stock.entailed;
    bounded = All-under (λ (clause : ArenaClause). clause.tag ≤ s.bound)
        (λ clause. clause.tag ≤ bound) s.store.clauses
        (λ clause low. omega (arith, low, le)) kept.stock.bounded;
    within = kept.stock.within;
    packets_held = kept.stock.packets_held;
    ok = kept.stock.ok;
    steps_entailed = kept.stock.steps_entailed;
    steps_within = kept.stock.steps_within;
    steps_bounded = All-under (λ step. step.tag ≤ s.bound) (λ step. step.tag ≤ bound) s.steps
        (λ step low. omega (arith, low, le)) kept.stock.steps_bounded;
  };
  room = kept.room;
  counted = kept.counted;
  on = kept.on;
  named = kept.named;
  trail = kept.trail;
  watched = kept.watched;
  levels = kept.levels;
  order = kept.order;
  all_named = kept.all_named;
}

pub loaded_solver : (old s mid : Search) (clauses : List (List ℕ)) (job : ℕ)
    → solver_of s ≡ solver_of old → HasInputsOnly s mid → HasInputsMore s mid clauses job
    → job ≡ s.bound + 1 → solver_of (record mid { bound = job }) ≡ loaded (solver_of old) clauses
loaded_solver old s mid clauses job same only more job_is =
    ap (λ (x : Search). record {
      inputs = inputs_of mid.store.clauses;
      bound = job;
      held = held_of mid.store.clauses;
      steps = x.steps;
      learnt = x.learnt.items;
      packets = packets_of x;
    }) only.parts
    ∙ ap (λ inputs. record {
      inputs = inputs;
      bound = job;
      held = held_of mid.store.clauses;
      steps = s.steps;
      learnt = s.learnt.items;
      packets = packets_of s;
    }) more.inputs
    ∙ ap (λ held. record {
      inputs = inputs_of s.store.clauses ++ tagged job clauses;
      bound = job;
      held = held;
      steps = s.steps;
      learnt = s.learnt.items;
      packets = packets_of s;
    }) more.held
    ∙ ap (λ n. record {
      inputs = inputs_of s.store.clauses ++ tagged n clauses;
      bound = n;
      held = held_of s.store.clauses ++ tagged n clauses;
      steps = s.steps;
      learnt = s.learnt.items;
      packets = packets_of s;
    }) job_is
    ∙ ap (λ (x : Solver). loaded x clauses) same

-- Some of the clauses came, and the rest of them comes yet.
pub record IsLoading (start now : Search) (clauses rest : List (List ℕ)) (job : ℕ) : Type 0 where
  pub only : HasInputsOnly start now
  pub inputs : inputs_of now.store.clauses ++ tagged job rest ≡ inputs_of start.store.clauses
      ++ tagged job clauses
  pub held : held_of now.store.clauses ++ tagged job rest ≡ held_of start.store.clauses
      ++ tagged job clauses
  pub bound : now.bound ≤ job
  pub few : now.inputs + length rest ≤ 16777216
  pub greatest : greatest_of_all rest ≤ start.order.vars

pub loading_starts : (s : Search) (clauses : List (List ℕ)) (job : ℕ) → s.bound ≤ job
    → s.inputs + length clauses ≤ 16777216 → greatest_of_all clauses ≤ s.order.vars
    → IsLoading s s clauses clauses job
loading_starts s clauses job low few reserved = record {
  only = no_inputs_came s;
  inputs = refl;
  held = refl;
  bound = low;
  few = few;
  greatest = reserved;
}

pub loading_goes_on : (start mid new : Search) (clauses rest left : List (List ℕ))
    (clause : List ℕ) (job : ℕ) → IsLoading start mid clauses rest job → rest ≡ clause ∷ left
    → HasInputsOnly mid new → HasInputsMore mid new (clause ∷ []) job
    → new.inputs ≡ mid.inputs + 1 → IsLoading start new clauses left job
loading_goes_on start mid new clauses rest left clause job loading split only more counted = record {
  only = inputs_only_twice start mid new loading.only only;
  inputs = ap (λ (xs : List Known). xs ++ tagged job left) more.inputs
      ∙ append_assoc (inputs_of mid.store.clauses) (tagged job (clause ∷ [])) (tagged job left)
      ∙ ap (λ (xs : List (List ℕ)). inputs_of mid.store.clauses ++ tagged job xs) (sym split)
      ∙ loading.inputs;
  held = ap (λ (xs : List Known). xs ++ tagged job left) more.held
      ∙ append_assoc (held_of mid.store.clauses) (tagged job (clause ∷ [])) (tagged job left)
      ∙ ap (λ (xs : List (List ℕ)). held_of mid.store.clauses ++ tagged job xs) (sym split)
      ∙ loading.held;
  bound = more.bound;
  few = omega (arith, loading.few, counted, ap length split);
  greatest = omega (arith, loading.greatest, ap greatest_of_all split);
}

-- the next clause is over variables of the order, and there may be one more
pub loading_next : (start mid : Search) (clauses rest left : List (List ℕ)) (clause : List ℕ)
    (job : ℕ) → IsLoading start mid clauses rest job → rest ≡ clause ∷ left
    → (greatest_of clause ≤ mid.order.vars) × (mid.inputs < 16777216)
    × (mid.trail.depth ≡ start.trail.depth)
loading_next start mid clauses rest left clause job loading split =
    let vars = ap (λ (s : Search). s.order.vars) loading.only.parts in (
      omega (arith, loading.greatest, ap greatest_of_all split, vars),
      omega
          (arith, loading.few, ap length split),
      ap (λ
          (s : Search). s.trail.depth) loading.only.parts,
    )

pub loading_done : (start now : Search) (clauses rest : List (List ℕ)) (job : ℕ)
    → IsLoading start now clauses rest job → rest ≡ [] → HasInputsMore start now clauses job
loading_done start now clauses rest job loading none = record {
  inputs = sym (append-nil (inputs_of now.store.clauses))
      ∙ ap (λ (xs : List (List ℕ)). inputs_of now.store.clauses ++ tagged job xs) (sym none)
      ∙ loading.inputs;
  held = sym (append-nil (held_of now.store.clauses))
      ∙ ap (λ (xs : List (List ℕ)). held_of now.store.clauses ++ tagged job xs) (sym none)
      ∙ loading.held;
  bound = loading.bound;
}

-- What came goes again.
pub taken_back : (s mid : Search) (store : StoreView) (n : ℕ) → IsSearching s → IsSearching mid
    → s.trail.depth ≡ 0 → HasInputsOnly s mid
    → store.clauses ≡ take n mid.store.clauses
    → store.fresh ≡ filter (λ id. nat_lt id n) mid.store.fresh → n ≡ length s.store.clauses
    → store.vars ≡ mid.store.vars
    → IsSearching (record mid {
      store = store;
      greatest = s.greatest;
      inputs = s.inputs;
      bound = s.bound;
    }) × (solver_of (record mid {
      store = store;
      greatest = s.greatest;
      inputs = s.inputs;
      bound = s.bound;
    }) ≡ solver_of s)
taken_back s mid store n kept kept_mid zero only cut fresh count vars =
    subst (λ (new : Search). IsSearching new × (solver_of new ≡ solver_of s)) (sym same)
    (search_restored s store kept clauses (vars ∙ only.vars) watched, restored_solver s store clauses)
  where
    trail : mid.trail ≡ s.trail
    trail = ap (λ (x : Search). x.trail) only.parts

    watched : IsWatched store.clauses store.fresh s.trail.entries s.trail.depth s.trail.looked
    watched = watched_as cut fresh (ap (λ (t : TrailView). t.entries) (sym trail))
        (ap (λ (t : TrailView). t.depth) (sym trail)) (ap (λ (t : TrailView). t.looked) (sym trail))
        (watched_cut mid.store.clauses mid.store.fresh mid.trail.entries mid.trail.depth mid.trail.looked n
        (ap (λ (t : TrailView). t.depth) trail ∙ zero) kept_mid.watched)

    same : record mid { store = store; greatest = s.greatest; inputs = s.inputs; bound = s.bound }
        ≡ record s { store = store }
    same = ap (λ (x : Search). record x {
      store = store;
      greatest = s.greatest;
      inputs = s.inputs;
      bound = s.bound;
    }) only.parts

    clauses : store.clauses ≡ s.store.clauses
    clauses = cut ∙ ap (λ (xs : List ArenaClause). take n xs) only.clauses
        ∙ ap (λ k. take k (s.store.clauses ++ only.more)) count
        ∙ take-append_seam s.store.clauses only.more
