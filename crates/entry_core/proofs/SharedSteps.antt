-- Every step of a shared packet follows from the input clauses up to its tag.
use Rattle.std.proofs.Common.{◌≡◌, ℕ, Option, Some, None, List, [], ◌∷◌, ◌++◌, map, refl, subst}
use Rattle.std.proofs.Common.{sym}
use Rattle.std.proofs.Common.{inl, inr, arith, append_assoc}
use Rattle.std.specs.Prelude.{◌⊎◌, true, Contains, filter, nat_le, option_and_then}
use Rattle.std.proofs.lemmas.Bool.Decides.{nat_tests}
use Rattle.std.proofs.lemmas.List.{append-nil, map-append}
use Rattle.std.proofs.lemmas.List.Elements.{Contains-push_cases}
use Rattle.sat_base.specs.Truth.{clause_true, Entails}
use Rattle.sat_base.specs.declared.origins.Ref.{Ref}
use Rattle.sat_base.specs.declared.origins.Ref.TheVariants.{Input, Shared, Own}
use Rattle.sat_base.proofs.Members.{all_member, Contains-map, Contains-from_map, Contains-filter}
use Rattle.sat_base.proofs.Members.{Contains-cases}
use Rattle.trace_core.specs.Known.{Known, known, item_at}
use Rattle.trace_core.specs.Trace.{AreOkSteps, AreOkPackets, known_of}
use Rattle.trace_core.specs.Law.{clauses_up_to}
use Rattle.trace_core.specs.declared.derivation.Step.{Step}
use Rattle.trace_core.proofs.Items.{item_at-contains, nothing_in}
use Rattle.trace_core.proofs.Soundness.{tag_bounds_inputs}
use Rattle.entry_core.specs.Journal.{inputs, packets}
use Rattle.entry_core.specs.Law.{SharedStepsFollow}
use Rattle.entry_core.proofs.SharedPackets.{packets_are_ok}

-- what is known follows from the inputs up to its tag
abbrev Holds : List Known → Known → Type 0
Holds all named = Entails (clauses_up_to all named.tag) named.clause

input_holds : (all : List Known) (named : Known) → Contains all named → Holds all named
input_holds all named has values holds =
    let itself : nat_le named.tag named.tag ≡ true = grind (arith, nat_tests) in
    all_member (clause_true values) (clauses_up_to all named.tag) named.clause holds
    (Contains-map (λ (input : Known). input.clause) (filter (λ input. nat_le input.tag named.tag) all) named
    (Contains-filter (λ (input : Known). nat_le input.tag named.tag) all named has itself))

-- an item of an item is in one of the lists
in_packets : (lists : List (List Known)) (packet place : ℕ) (named : Known) → option_and_then (λ (steps : List Known). item_at steps place) (item_at lists packet) ≡ Some named
    → (steps : List Known) × Contains lists steps × Contains steps named
in_packets lists packet place named is = found (item_at lists packet) refl is
  where
    found : (o : Option (List Known)) → item_at lists packet ≡ o → option_and_then (λ (steps : List Known). item_at steps place) o ≡ Some named
        → (steps : List Known) × Contains lists steps × Contains steps named
    found None at h = absurd (cc)
    found (Some steps) at h = (steps, item_at-contains lists packet steps at, item_at-contains steps place named h)

-- What a reference of a packet names holds.
known_holds : (all : List Known) (before : List (List Known)) (own : List Known)
    → ((steps : List Known) (named : Known) → Contains before steps → Contains steps named
    → Holds all named)
    → ((named : Known) → Contains own named → Holds all named)
    → (name : Ref) (named : Known) → known all before own name ≡ Some named → Holds all named
known_holds all before own packets each (Input number) named is =
    input_holds all named (item_at-contains all number named is)
known_holds all before own packets each (Shared packet step) named is =
    let there = in_packets before packet step named is in packets there.0 named there.1 there.2
known_holds all before own packets each (Own number) named is =
    each named (item_at-contains own number named is)

-- The steps of a packet that is ok over the inputs hold, where those of the packets before it do.
steps_hold : (all : List Known) (before : List (List Known)) (own : List Known) (steps : List Step)
    → ((earlier : List Known) (named : Known) → Contains before earlier → Contains earlier named
    → Holds all named)
    → ((named : Known) → Contains own named → Holds all named)
    → AreOkSteps all before own steps → (step : Step) → Contains steps step
    → Holds all (known_of step)
steps_hold all before own [] packets each ok step has = nothing_in step has
steps_hold all before own (first ∷ steps) packets each ok step has =
    here_or_later (λ later. steps_hold all before (own ++ known_of first ∷ []) steps packets more
    ok.1 step later)
    (Contains-cases first step steps has)
  where
    holds : Holds all (known_of first)
    holds = tag_bounds_inputs all (known all before own) first
        (known_holds all before own packets each) ok.0

    more : (named : Known) → Contains (own ++ known_of first ∷ []) named → Holds all named
    more named there = old_or_new (Contains-push_cases own (known_of first) named there)
      where
        old_or_new : Contains own named ⊎ (known_of first ≡ named) → Holds all named
        old_or_new (inl old) = each named old
        old_or_new (inr same) = subst (Holds all) same holds

    here_or_later : (Contains steps step → Holds all (known_of step))
        → (first ≡ step) ⊎ Contains steps step → Holds all (known_of step)
    here_or_later recur (inl same) = subst (λ (z : Step). Holds all (known_of z)) same holds
    here_or_later recur (inr later) = recur later

-- each step of each of the packets holds
abbrev AllHold : List Known → List (List Step) → Type 0
AllHold all packets = (packet : List Step) (step : Step) → Contains packets packet → Contains packet step → Holds all (known_of step)

-- the steps of the packets so far, as known clauses
so_far : (all : List Known) (before : List (List Step)) → AllHold all before
    → (steps : List Known) (named : Known) → Contains (map (λ packet. map known_of packet) before) steps → Contains steps named → Holds all named
so_far all before holds steps named has there =
    let packet = Contains-from_map (λ (packet : List Step). map known_of packet) before steps has in
    let step = Contains-from_map known_of packet.0 named (subst (λ (xs : List Known). Contains xs named) (sym packet.2) there) in
    subst (Holds all) step.2 (holds packet.0 step.0 packet.1 step.1)

-- The steps of packets that are ok one after the other hold.
packets_hold : (all : List Known) (before packets : List (List Step)) → AllHold all before
    → AreOkPackets all (map (λ packet. map known_of packet) before) packets
    → AllHold all (before ++ packets)
packets_hold all before [] holds ok = subst (AllHold all) (sym (append-nil before)) holds
packets_hold all before (packet ∷ packets) holds ok =
    subst (AllHold all) (append_assoc before (packet ∷ []) packets)
    (packets_hold all (before ++ packet ∷ []) packets with_one
    (subst (λ shared. AreOkPackets all shared packets)
    (sym (map-append (λ steps. map known_of steps) before (packet ∷ []))) ok.1))
  where
    with_one : AllHold all (before ++ packet ∷ [])
    with_one one step has there = old_or_new (Contains-push_cases before packet one has) there
      where
        old_or_new : Contains before one ⊎ (packet ≡ one) → Contains one step
            → Holds all (known_of step)
        old_or_new (inl old) within = holds one step old within
        old_or_new (inr same) within =
            steps_hold all (map (λ steps. map known_of steps) before) [] packet
            (so_far all before holds)
            (λ named none. nothing_in named none) ok.0 step
            (subst (λ (xs : List Step). Contains xs step) (sym same) within)

pub shared_steps_follow : SharedStepsFollow
shared_steps_follow rules journal packet step legal has there =
    packets_hold (inputs journal) [] (packets journal) (λ p s none. nothing_in p none)
    (packets_are_ok rules journal legal) packet step has there
