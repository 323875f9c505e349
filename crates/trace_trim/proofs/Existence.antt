-- Each step that is ok has a trace: the traces of what its hints name, one behind the other, and the
-- step.
use Rattle.std.proofs.Common.{◌≡◌, ◌∙◌, ℕ, zero, suc, ◌+◌, ◌-◌, ◌≤◌, List, [], ◌∷◌, ◌++◌, map}
use Rattle.std.proofs.Common.{length, refl, subst, sym, ap, inl, inr, append_assoc, append-nil, arith}
use Rattle.std.specs.Prelude.{Contains, ◌⊎◌, ◌↔◌, Option, Some, None, IsSome, slice_get}
use Rattle.std.specs.Prelude.{option_and_then}
use Rattle.std.specs.List.{AllZip}
use Rattle.std.proofs.lemmas.List.Elements.{All-contains, Contains-push_cases}
use Rattle.sat_base.specs.Lit.{opposite}
use Rattle.sat_base.specs.declared.origins.Ref.{Ref}
use Rattle.sat_base.specs.declared.origins.Ref.TheVariants.{Input, Shared, Own}
use Rattle.sat_base.proofs.Members.{Contains-here, Contains-there, Contains-map}
use Rattle.trace_core.specs.Known.{Known, known, item_at, AgreeUpTo}
use Rattle.trace_core.specs.Trace.{IsOkStep, AreOkSteps, AreOkPackets, known_of}
use Rattle.trace_core.specs.declared.derivation.Step.{Step}
use Rattle.trace_core.proofs.Items.{nothing_in, item_at-contains, item_at-found, item_at-is}
use Rattle.trace_core.proofs.Items.{item_at-last}
use Rattle.trace_core.proofs.Elsewhere.{known_with_own}
use Rattle.trace_core.proofs.Soundness.{named_of, hint_tag_within}
use Rattle.trace_trim.specs.Law.{OkStepsHaveTraces}
use Rattle.trace_trim.proofs.OkSteps.{ok_with_hints}
use Rattle.trace_trim.proofs.Zips.{zip_each}

-- Steps that are ok over the inputs alone, the last of which makes this known.
pub record HasTrace (inputs : List Known) (one : Known) : Type 0 where
  pub front : List Step
  pub last : Step
  pub ok : AreOkSteps inputs [] [] (front ++ last ∷ [])
  pub proves : known_of last ≡ one

-- an input, or what a trace proves
abbrev pub IsFounded : List Known → Known → Type 0
IsFounded inputs one =
    ((number : ℕ) × (item_at inputs number ≡ Some one)) ⊎ HasTrace inputs one

-- The name of an own step behind so many others.
abbrev pub behind : ℕ → Ref → Ref
behind count (Input number) = Input number
behind count (Shared packet step) = Shared packet step
behind count (Own number) = Own (count + number)

abbrev pub step_behind : ℕ → Step → Step
step_behind count step = record {
  clause = step.clause;
  hints = map (behind count) step.hints;
  tag = step.tag;
}

slice_get-behind : {X : Type 0} (xs ys : List X) (i j : ℕ) (x : X) → j ≡ length xs + i
    → slice_get ys i ≡ Some x → slice_get (xs ++ ys) j ≡ Some x
slice_get-behind [] ys i j x at is = let e : j ≡ i = omega (arith, at) in ap (slice_get ys) e ∙ is
slice_get-behind (y ∷ xs) ys i zero x at is = absurd (omega (arith, at))
slice_get-behind (y ∷ xs) ys i (suc j) x at is =
    slice_get-behind xs ys i j x (omega (arith, at)) is

-- Behind other items, what stood at a place stands at the place after theirs.
pub item_at-behind : {X : Type 0} (xs ys : List X) (place : ℕ) (x : X) → item_at ys place ≡ Some x
    → item_at (xs ++ ys) (length xs + place) ≡ Some x
item_at-behind xs ys place x is =
    let at = item_at-found ys place x is in
    let positive = at.0 in
    item_at-is (xs ++ ys) (length xs + place) (omega (arith, positive))
    ∙ slice_get-behind xs ys (place - 1) (length xs + place - 1) x (omega (arith, positive)) at.1

zip_with : {A B : Type 0} (f : A → B) (xs : List A) → AllZip (λ x y. y ≡ f x) xs (map f xs)
zip_with f [] = tt
zip_with f (x ∷ xs) = (refl, zip_with f xs)

map_append : {A B : Type 0} (f : A → B) (xs ys : List A) → map f (xs ++ ys) ≡ map f xs ++ map f ys
map_append f [] ys = refl
map_append f (x ∷ xs) ys = ap (λ rest. f x ∷ rest) (map_append f xs ys)

known_behind : (count : ℕ) (steps : List Step)
    → map known_of (map (step_behind count) steps) ≡ map known_of steps
known_behind count [] = refl
known_behind count (step ∷ steps) = ap (λ rest. known_of step ∷ rest) (known_behind count steps)

-- Behind other steps, a name that was moved on names the same.
same_behind : (inputs before own : List Known) (hint : Ref) (one : Known)
    → known inputs [] own hint ≡ Some one
    → known inputs [] (before ++ own) (behind (length before) hint) ≡ Some one
same_behind inputs before own (Input number) one is = is
same_behind inputs before own (Shared packet step) one is = is
same_behind inputs before own (Own number) one is = item_at-behind before own number one is

-- Behind other steps, ok steps stay ok.
ok_behind : (inputs before own : List Known) (steps : List Step) → AreOkSteps inputs [] own steps
    → AreOkSteps inputs [] (before ++ own) (map (step_behind (length before)) steps)
ok_behind inputs before own [] ok = tt
ok_behind inputs before own (step ∷ steps) ok = (
  ok_with_hints (known inputs [] own) (known inputs [] (before ++ own))
      (λ hint other. other ≡ behind (length before) hint) step (step_behind (length before) step)
      ok.0
      (record { clause = refl; hints = zip_with (behind (length before)) step.hints; tag = refl })
      agree,
  subst (λ all. AreOkSteps inputs [] all (map (step_behind (length before)) steps))
      (append_assoc' before own (known_of step ∷ []))
      (ok_behind inputs before (own ++ known_of step ∷ []) steps ok.1),
)
  where
    append_assoc' : (xs ys zs : List Known) → xs ++ (ys ++ zs) ≡ (xs ++ ys) ++ zs
    append_assoc' xs ys zs = sym (append_assoc xs ys zs)

    agree : (hint other : Ref) → Contains step.hints hint → other ≡ behind (length before) hint
        → known inputs [] own hint ≡ known inputs [] (before ++ own) other
    agree hint other has is =
        let named = named_of (known inputs [] own hint)
        (All-contains (λ h. IsSome (known inputs [] own h)) step.hints hint ok.0.all_known has) in
        named.1 ∙ sym (ap (known inputs [] (before ++ own)) is
        ∙ same_behind inputs before own hint named.0 named.1)

ok_append : (inputs own : List Known) (front back : List Step) → AreOkSteps inputs [] own front
    → AreOkSteps inputs [] (own ++ map known_of front) back
    → AreOkSteps inputs [] own (front ++ back)
ok_append inputs own [] back ok more =
    subst (λ all. AreOkSteps inputs [] all back) (append-nil own) more
ok_append inputs own (step ∷ front) back ok more = (
  ok.0,
  ok_append inputs (own ++ known_of step ∷ []) front back ok.1
      (subst (λ all. AreOkSteps inputs [] all back)
      (sym (append_assoc own (known_of step ∷ []) (map known_of front))) more),
)

-- Steps over the inputs alone, and names that name there what the hints name in the table.
record Joined (inputs : List Known) (table : Ref → Option Known) (hints : List Ref) : Type 0 where
  steps : List Step
  names : List Ref
  ok : AreOkSteps inputs [] [] steps
  same : AllZip (λ hint other. table hint ≡ known inputs [] (map known_of steps) other) hints names

-- what a hint names is an input or has a trace
abbrev AreFounded : List Known → (Ref → Option Known) → List Ref → Type 0
AreFounded inputs table hints = (hint : Ref) → Contains hints hint
    → (one : Known) × (table hint ≡ Some one) × IsFounded inputs one

-- one more hint, which names an input
join_input : (inputs : List Known) (table : Ref → Option Known) (hint : Ref) (hints : List Ref)
    (one : Known) (number : ℕ) → table hint ≡ Some one → item_at inputs number ≡ Some one
    → Joined inputs table hints → Joined inputs table (hint ∷ hints)
join_input inputs table hint hints one number is at rest = record {
  steps = rest.steps;
  names = Input number ∷ rest.names;
  ok = rest.ok;
  same = (is ∙ sym at, rest.same);
}

-- one more hint, whose trace comes behind the steps so far
join_trace : (inputs : List Known) (table : Ref → Option Known) (hint : Ref) (hints : List Ref)
    (one : Known) → table hint ≡ Some one → HasTrace inputs one
    → AreFounded inputs table hints
    → Joined inputs table hints → Joined inputs table (hint ∷ hints)
join_trace inputs table hint hints one is trace each rest = record {
  steps = steps;
  names = Own (length before + place) ∷ rest.names;
  ok = ok_append inputs [] rest.steps (map (step_behind (length before)) more) rest.ok
      (subst (λ all. AreOkSteps inputs [] all (map (step_behind (length before)) more))
      (append-nil before) (ok_behind inputs before [] more trace.ok));
  same = (
    is ∙ sym (ap (λ all. item_at all (length before + place)) grown
        ∙ item_at-behind before (map known_of more) place one at_end),
    zip_each (λ hint other. table hint ≡ known inputs [] before other)
        (λ hint other. table hint ≡ known inputs [] (map known_of steps) other) hints rest.names
        kept rest.same,
  );
}
  where
    before : List Known
    before = map known_of rest.steps

    more : List Step
    more = trace.front ++ trace.last ∷ []

    place : ℕ
    place = length (map known_of trace.front) + 1

    steps : List Step
    steps = rest.steps ++ map (step_behind (length before)) more

    grown : map known_of steps ≡ before ++ map known_of more
    grown = map_append known_of rest.steps (map (step_behind (length before)) more)
        ∙ ap (λ all. before ++ all) (known_behind (length before) more)

    at_end : item_at (map known_of more) place ≡ Some one
    at_end = ap (λ all. item_at all place) (map_append known_of trace.front (trace.last ∷ []))
        ∙ item_at-last (map known_of trace.front) (known_of trace.last) place refl
        ∙ ap Some trace.proves

    kept : (hint other : Ref) → Contains hints hint
        → table hint ≡ known inputs [] before other
        → table hint ≡ known inputs [] (map known_of steps) other
    kept hint other has same =
        let found = each hint has in
        found.1 ∙ sym (ap (λ all. known inputs [] all other) grown
        ∙ known_with_own inputs [] before (map known_of more) other found.0 (sym same ∙ found.1))

join_all : (inputs : List Known) (table : Ref → Option Known) (hints : List Ref)
    → AreFounded inputs table hints → Joined inputs table hints
join_all inputs table [] each = record { steps = []; names = []; ok = tt; same = tt }
join_all inputs table (hint ∷ hints) each =
    by_kind (join_all inputs table hints later) (each hint (Contains-here hint hints)).2
  where
    later : AreFounded inputs table hints
    later other has = each other (Contains-there hint other hints has)

    one : Known
    one = (each hint (Contains-here hint hints)).0

    is : table hint ≡ Some one
    is = (each hint (Contains-here hint hints)).1

    by_kind : Joined inputs table hints → IsFounded inputs one → Joined inputs table (hint ∷ hints)
    by_kind rest (inl (number, at)) = join_input inputs table hint hints one number is at rest
    by_kind rest (inr trace) = join_trace inputs table hint hints one is trace later rest

-- A step whose hints name inputs or what has a trace has one.
step_traced : (inputs : List Known) (table : Ref → Option Known) (step : Step)
    → IsOkStep table step → AreFounded inputs table step.hints → HasTrace inputs (known_of step)
step_traced inputs table step ok each = record {
  front = joined.steps;
  last = new;
  ok = ok_append inputs [] joined.steps (new ∷ []) joined.ok (ok_new, tt);
  proves = refl;
}
  where
    joined : Joined inputs table step.hints
    joined = join_all inputs table step.hints each

    new : Step
    new = record { clause = step.clause; hints = joined.names; tag = step.tag }

    ok_new : IsOkStep (known inputs [] (map known_of joined.steps)) new
    ok_new = ok_with_hints table (known inputs [] (map known_of joined.steps))
        (λ hint other. table hint ≡ known inputs [] (map known_of joined.steps) other) step new ok
        (record { clause = refl; hints = joined.same; tag = refl }) (λ hint other has same. same)

-- each of these up to the bound has a trace
abbrev pub AreTraced : ℕ → List Known → List Known → Type 0
AreTraced bound inputs ones = (one : Known) → Contains ones one → one.tag ≤ bound
    → HasTrace inputs one

abbrev pub ArePacketsTraced : ℕ → List Known → List (List Known) → Type 0
ArePacketsTraced bound inputs packets =
    (packet : List Known) → Contains packets packet → AreTraced bound inputs packet

steps_traced : (bound : ℕ) (all inputs : List Known) (shared : List (List Known)) (own : List Known)
    (steps : List Step) → AgreeUpTo bound all inputs → ArePacketsTraced bound inputs shared
    → AreTraced bound inputs own → AreOkSteps all shared own steps
    → AreTraced bound inputs (own ++ map known_of steps)
steps_traced bound all inputs shared own [] agree packets before ok =
    subst (AreTraced bound inputs) (sym (append-nil own)) before
steps_traced bound all inputs shared own (step ∷ steps) agree packets before ok =
    subst (AreTraced bound inputs) (append_assoc own (known_of step ∷ []) (map known_of steps))
    (steps_traced bound all inputs shared (own ++ known_of step ∷ []) steps agree packets more ok.1)
  where
    table : Ref → Option Known
    table = known all shared own

    by_name : (name : Ref) (one : Known) → table name ≡ Some one → one.tag ≤ bound
        → IsFounded inputs one
    by_name (Input number) one is low = inl (number, agree number one is low)
    by_name (Shared packet place) one is low = inr (by_packet (item_at shared packet) refl is)
      where
        by_packet : (found : Option (List Known)) → item_at shared packet ≡ found
            → option_and_then (λ (steps : List Known). item_at steps place) found ≡ Some one
            → HasTrace inputs one
        by_packet None none is = absurd (cc)
        by_packet (Some ones) some is = packets ones (item_at-contains shared packet ones some) one
            (item_at-contains ones place one is) low
    by_name (Own number) one is low = inr (before one (item_at-contains own number one is) low)

    founded : step.tag ≤ bound → AreFounded inputs table step.hints
    founded low hint has =
        let named = named_of (table hint)
        (All-contains (λ h. IsSome (table h)) step.hints hint ok.0.all_known has) in
        let up = hint_tag_within table step hint named.0 ok.0 has named.1 in
        (named.0, named.1, by_name hint named.0 named.1 (omega (arith, up, low)))

    more : AreTraced bound inputs (own ++ known_of step ∷ [])
    more one has low = old_or_new (Contains-push_cases own (known_of step) one has)
      where
        old_or_new : Contains own one ⊎ (known_of step ≡ one) → HasTrace inputs one
        old_or_new (inl old) = before one old low
        old_or_new (inr same) = subst (HasTrace inputs) same (step_traced inputs table step ok.0
            (founded (subst (λ (k : Known). k.tag ≤ bound) (sym same) low)))

packets_traced : (bound : ℕ) (all inputs : List Known) (before : List (List Known))
    (packets : List (List Step)) → AgreeUpTo bound all inputs
    → ArePacketsTraced bound inputs before → AreOkPackets all before packets
    → ArePacketsTraced bound inputs (before ++ map (λ packet. map known_of packet) packets)
packets_traced bound all inputs before [] agree traced ok =
    subst (ArePacketsTraced bound inputs) (sym (append-nil before)) traced
packets_traced bound all inputs before (packet ∷ packets) agree traced ok =
    subst (ArePacketsTraced bound inputs)
    (append_assoc before (map known_of packet ∷ []) (map (λ packet. map known_of packet) packets))
    (packets_traced bound all inputs (before ++ map known_of packet ∷ []) packets agree more ok.1)
  where
    own : AreTraced bound inputs (map known_of packet)
    own = steps_traced bound all inputs before [] packet agree traced
        (λ one none. nothing_in one none) ok.0

    more : ArePacketsTraced bound inputs (before ++ map known_of packet ∷ [])
    more ones has = old_or_new (Contains-push_cases before (map known_of packet) ones has)
      where
        old_or_new : Contains before ones ⊎ (map known_of packet ≡ ones)
            → AreTraced bound inputs ones
        old_or_new (inl old) = traced ones old
        old_or_new (inr same) = subst (AreTraced bound inputs) same own

pub ok_steps_have_traces : OkStepsHaveTraces
ok_steps_have_traces all inputs packets own number step part ok_packets ok_own is agree negated = (
  trace.front ++ trace.last ∷ [],
  record {
    front = trace.front;
    last = trace.last;
    ends = refl;
    ok = trace.ok;
    refutes = λ lit. subst (λ clause. Contains clause lit ↔ Contains part (opposite lit))
        (sym (ap (λ (one : Known). one.clause) trace.proves)) (negated lit);
  },
)
  where
    shared : List (List Known)
    shared = map (λ packet. map known_of packet) packets

    trace : HasTrace inputs (known_of step)
    trace = steps_traced step.tag all inputs shared [] own agree
        (packets_traced step.tag all inputs [] packets agree
        (λ packet none. nothing_in packet none) ok_packets)
        (λ one none. nothing_in one none) ok_own (known_of step)
        (Contains-map known_of own step (item_at-contains own number step is)) (omega arith)
