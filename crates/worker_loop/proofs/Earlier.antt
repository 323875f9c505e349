-- The hints of ok steps look back, over packets and own steps.
use Rattle.std.proofs.Common.{◌≡◌, ◌∙◌, ℕ, zero, suc, ◌-◌, ◌<◌, ◌≤◌, List, [], ◌∷◌, ◌++◌, map, length, Option, Some, None, refl, ap, sym, subst, inl, inr, arith, append_assoc, append-nil}
use Rattle.std.specs.Prelude.{IsSome, Contains, slice_get, option_map, option_and_then}
use Rattle.std.proofs.lemmas.List.Elements.{All-contains}
use Rattle.sat_base.specs.declared.origins.Ref.{Ref}
use Rattle.sat_base.specs.declared.origins.Ref.TheVariants.{Input, Shared, Own}
use Rattle.trace_core.specs.Known.{Known, known, item_at}
use Rattle.trace_core.specs.Trace.{AreOkPackets, AreOkSteps, known_of}
use Rattle.trace_core.specs.declared.derivation.Step.{Step}
use Rattle.trace_core.proofs.Items.{item_at-append, item_at-contains}
use Rattle.trace_trim.specs.Names.{CiteEarlierSteps, Cites, IsBefore, cited, step_named}
use Rattle.trace_trim.proofs.OkSteps.{ok_in_the_end}
use Rattle.trace_core.proofs.Items.{item_at-within}
use Rattle.trace_core.proofs.Items.{item_at-there}
use Rattle.trace_core.proofs.Items.{item_at-map, item_at-found as slice_get-place}
use Rattle.session.proofs.Names.{ok_look_back}

-- what the steps of packets make known
abbrev pub made_known : List (List Step) → List (List Known)
made_known packets = map (λ packet. map known_of packet) packets

-- A packet stands behind those that its steps are ok over.
record StandsAt (inputs : List Known) (before : List (List Known)) (packets : List (List Step)) (i : ℕ) (packet : List Step) : Type 0 where
  front : List (List Step)
  rest : List (List Step)
  whole : packets ≡ front ++ packet ∷ rest
  place : length front ≡ i
  ok : AreOkSteps inputs (before ++ made_known front) [] packet

stands_at : (inputs : List Known) (before : List (List Known)) (packets : List (List Step)) (i : ℕ) (packet : List Step) → AreOkPackets inputs before packets → slice_get packets i ≡ Some packet → StandsAt inputs before packets i packet
stands_at inputs before [] i packet ok is = absurd (cc)
stands_at inputs before (first ∷ packets) zero packet ok is =
    let same : first ≡ packet = cc in
    record {
      front = [];
      rest = packets;
      whole = ap (λ p. p ∷ packets) same;
      place = refl;
      ok = subst (λ shared. AreOkSteps inputs shared [] packet) (sym (append-nil before)) (subst (λ p. AreOkSteps inputs before [] p) same ok.0);
    }
stands_at inputs before (first ∷ packets) (suc i) packet ok is =
    let later = stands_at inputs (before ++ map known_of first ∷ []) packets i packet ok.1 is in
    record {
      front = first ∷ later.front;
      rest = later.rest;
      whole = ap (λ xs. first ∷ xs) later.whole;
      place = ap suc later.place;
      ok = subst (λ shared. AreOkSteps inputs shared [] packet) (append_assoc before (map known_of first ∷ []) (made_known later.front)) later.ok;
    }

-- what is known of the first packets is a step of one of them
shared_there : (front rest packets : List (List Step)) (place number : ℕ) → packets ≡ front ++ rest → IsSome (option_and_then (λ (steps : List Known). item_at steps number) (item_at (made_known front) place))
    → IsSome (option_and_then (λ (steps : List Step). item_at steps number) (item_at packets place)) × (place ≤ length front)
shared_there front rest packets place number whole some = by_packet (item_at front place) refl (subst (λ o. IsSome (option_and_then (λ (steps : List Known). item_at steps number) o)) (item_at-map (λ packet. map known_of packet) front place) some)
  where
    was_step : (found : Option Step) → IsSome (option_map known_of found) → IsSome found
    was_step None is = is
    was_step (Some step) is = refl

    by_packet : (o : Option (List Step)) → item_at front place ≡ o → IsSome (option_and_then (λ (steps : List Known). item_at steps number) (option_map (λ packet. map known_of packet) o))
        → IsSome (option_and_then (λ (steps : List Step). item_at steps number) (item_at packets place)) × (place ≤ length front)
    by_packet None none is = absurd (cc)
    by_packet (Some packet) found is =
        let there : item_at packets place ≡ Some packet = ap (λ xs. item_at xs place) whole ∙ item_at-append front rest place packet found in
        let step = was_step (item_at packet number) (subst IsSome (item_at-map known_of packet number) is) in (
          subst (λ o. IsSome (option_and_then (λ (steps : List Step). item_at steps number) o)) (sym there) step,
          (item_at-within front place (subst IsSome (sym found) refl)).1,
        )

-- the step that a hint of an own step names stands before it
by_own : (inputs : List Known) (packets : List (List Step)) (own : List Step) (number : ℕ) (step : Step) (hint other : Ref) → AreOkSteps inputs (made_known packets) [] own → item_at own number ≡ Some step → Contains step.hints hint → cited (Own number) hint ≡ Some other
    → IsSome (step_named packets own other) × IsBefore other (Own number)
by_own inputs packets own number step (Input n) other ok is has names = absurd (cc)
by_own inputs packets own number step (Shared place n) other ok is has names =
    let same : Shared place n ≡ other = cc in
    let all = (ok_in_the_end inputs (made_known packets) [] own step ok (item_at-contains own number step is)).all_known in
    let there = shared_there packets [] packets place n (sym (append-nil packets)) (All-contains (λ hint. IsSome (known inputs (made_known packets) (map known_of own) hint)) step.hints (Shared place n) all has) in
    subst (λ (name : Ref). IsSome (step_named packets own name) × IsBefore name (Own number)) same (there.0, tt)
by_own inputs packets own number step (Own n) other ok is has names =
    let same : Own n ≡ other = cc in
    let below = ok_look_back inputs (made_known packets) own ok number n step is has in
    let within = item_at-within own number (subst IsSome (sym is) refl) in
    subst (λ (name : Ref). IsSome (step_named packets own name) × IsBefore name (Own number)) same
    (item_at-there own n below.0 (omega (arith, below.1, within.1)), below.1)

-- the step that a hint of a packet's step names stands before it
by_shared : (inputs : List Known) (packets : List (List Step)) (own : List Step) (p number : ℕ) (packet : List Step) (step : Step) (hint other : Ref) → StandsAt inputs [] packets (p - 1) packet → 1 ≤ p → item_at packets p ≡ Some packet
    → item_at packet number ≡ Some step → Contains step.hints hint → cited (Shared p number) hint ≡ Some other → IsSome (step_named packets own other) × IsBefore other (Shared p number)
by_shared inputs packets own p number packet step (Input n) other at from found is has names = absurd (cc)
by_shared inputs packets own p number packet step (Shared q n) other at from found is has names =
    let same : Shared q n ≡ other = cc in
    let all = (ok_in_the_end inputs (made_known at.front) [] packet step at.ok (item_at-contains packet number step is)).all_known in
    let there = shared_there at.front (packet ∷ at.rest) packets q n at.whole (All-contains (λ hint. IsSome (known inputs (made_known at.front) (map known_of packet) hint)) step.hints (Shared q n) all has) in
    let low : q < p = omega (arith, there.1, at.place, from) in
    subst (λ (name : Ref). IsSome (step_named packets own name) × IsBefore name (Shared p number)) same (there.0, inl low)
by_shared inputs packets own p number packet step (Own n) other at from found is has names =
    let same : Shared p n ≡ other = cc in
    let below = ok_look_back inputs (made_known at.front) packet at.ok number n step is has in
    let within = item_at-within packet number (subst IsSome (sym is) refl) in
    let there = item_at-there packet n below.0 (omega (arith, below.1, within.1)) in
    subst (λ (name : Ref). IsSome (step_named packets own name) × IsBefore name (Shared p number)) same
    (subst (λ o. IsSome (option_and_then (λ (steps : List Step). item_at steps n) o)) (sym found) there, inr (refl, below.1))

by_user : (inputs : List Known) (packets : List (List Step)) (own : List Step) → AreOkPackets inputs [] packets → AreOkSteps inputs (made_known packets) [] own → (user other : Ref) → Cites packets own user other → IsSome (step_named packets own other) × IsBefore other user
by_user inputs packets own ok_packets ok (Input n) other cites = let is = cites.1 in absurd (cc)
by_user inputs packets own ok_packets ok (Own number) other cites = by_own inputs packets own number cites.0 cites.2.0 other ok cites.1 cites.2.1 cites.2.2
by_user inputs packets own ok_packets ok (Shared p number) other cites = by_packet (item_at packets p) refl cites.1
  where
    by_packet : (o : Option (List Step)) → item_at packets p ≡ o → option_and_then (λ (steps : List Step). item_at steps number) o ≡ Some cites.0 → IsSome (step_named packets own other) × IsBefore other (Shared p number)
    by_packet None none is = absurd (cc)
    by_packet (Some packet) found is =
        let at = slice_get-place packets p packet found in
        let from = (item_at-within packets p (subst IsSome (sym found) refl)).0 in
        by_shared inputs packets own p number packet cites.0 cites.2.0 other (stands_at inputs [] packets (p - 1) packet ok_packets at.1) from found is cites.2.1 cites.2.2

-- a step that an ok step cites stands before it
pub ok_cite_earlier : (inputs : List Known) (packets : List (List Step)) (own : List Step) → AreOkPackets inputs [] packets → AreOkSteps inputs (made_known packets) [] own → CiteEarlierSteps packets own
ok_cite_earlier inputs packets own ok_packets ok = by_user inputs packets own ok_packets ok
