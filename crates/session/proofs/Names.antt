-- Names of published steps stay right while a solver grows.
use Rattle.std.proofs.Common.{◌≡◌, ◌≢◌, ◌∙◌, ℕ, zero, suc, ◌+◌, ◌-◌, ◌<◌, ◌≤◌, List, [], ◌∷◌, ◌++◌}
use Rattle.std.proofs.Common.{length, map, Option, None, Some, Bool, true, false, refl, ap, sym}
use Rattle.std.proofs.Common.{subst, inl, inr, arith}
use Rattle.std.specs.Prelude.{◌⊎◌, Contains, IsSome, ◌==◌, cond, slice_get, option_map}
use Rattle.std.specs.Prelude.{option_and_then, Result, Ok, Err, OnOk, OnErr}
use Rattle.std.specs.Option.{option_flatten}
use Rattle.std.proofs.lemmas.Option.{none-some}
use Rattle.std.proofs.lemmas.Bool.{cases_eq}
use Rattle.std.proofs.lemmas.List.{append-nil, length-append}
use Rattle.std.proofs.lemmas.List.Elements.{All-contains}
use Rattle.sat_base.specs.declared.origins.Ref.{Ref}
use Rattle.sat_base.specs.declared.origins.Ref.TheVariants.{Shared, Own}
use Rattle.trace_core.specs.Known.{Known, known, item_at}
use Rattle.trace_core.specs.Trace.{AreOkSteps, known_of}
use Rattle.trace_core.specs.declared.derivation.Step.{Step}
use Rattle.trace_trim.specs.Packed.{AreNamesRight, CiteEarlierOwn, name_of}
use Rattle.trace_core.proofs.Items.{item_at-within}
use Rattle.trace_core.proofs.Items.{item_at-there}
use Rattle.trace_core.proofs.Items.{item_at-found as slice_get-place}
use Rattle.session.specs.Solver.{Solver, shared_by, known_in, packet_at}
use Rattle.session.specs.Fronts.{IsFront}
use Rattle.session.specs.Sharing.{HasPlaceMore, HasTaken}
use Rattle.trace_core.proofs.Items.{item_at-map, item_at-append}
use Rattle.session.specs.Publishing.{AreNamesFit}

-- each packet that is known stays known
abbrev pub KeepPackets : List (Option (List Step)) → List (Option (List Step)) → Type 0
KeepPackets old new = (place : ℕ) (packet : List Step) → packet_at old place ≡ Some packet
    → packet_at new place ≡ Some packet

-- what a reference to a packet names
pub shared_at : (inputs : List Known) (packets : List (Option (List Step))) (own : List Known)
    (place number : ℕ) → known inputs (shared_by packets) own (Shared place number)
    ≡ option_and_then (λ packet. item_at (map known_of packet) number) (packet_at packets place)
shared_at inputs packets own place number = ap
    (option_and_then (λ (steps : List Known). item_at steps number))
    (item_at-map known_in packets place) ∙ at (item_at packets place)
  where
    nothing : (b : Bool) → cond b None (slice_get {X = Known} [] (number - 1)) ≡ None
    nothing true = refl
    nothing false = refl

    at : (found : Option (Option (List Step))) → option_and_then (λ steps. item_at steps number)
        (option_map known_in found) ≡ option_and_then
        (λ packet. item_at (map known_of packet) number) (option_and_then (λ x. x) found)
    at None = refl
    at (Some None) = nothing (number == 0)
    at (Some (Some packet)) = refl

pub shared_stays : (inputs inputs' : List Known) (old new : List (Option (List Step)))
    (place number : ℕ) (one : Known) → KeepPackets old new
    → known inputs (shared_by old) [] (Shared place number) ≡ Some one
    → known inputs' (shared_by new) [] (Shared place number) ≡ Some one
shared_stays inputs inputs' old new place number one keep is = shared_at inputs' new [] place number ∙ at (packet_at old place) refl (sym (shared_at inputs old [] place number) ∙ is)
  where
    at : (found : Option (List Step)) → packet_at old place ≡ found
        → option_and_then (λ packet. item_at (map known_of packet) number) found ≡ Some one
        → option_and_then (λ packet. item_at (map known_of packet) number) (packet_at new place)
        ≡ Some one
    at None found_is named = absurd (none-some one named)
    at (Some packet) found_is named = ap (option_and_then
        (λ (steps : List Step). item_at (map known_of steps) number)) (keep place packet found_is)
        ∙ named

-- a step that has a name is one of as many as there are names
pub named_within : (names : List (Option Ref)) (number : ℕ) (name : Ref)
    → name_of names number ≡ Some name → (0 < number) × (number ≤ length names)
named_within names number name is = item_at-within names number (at (item_at names number) is)
  where
    at : (found : Option (Option Ref)) → option_flatten found ≡ Some name → IsSome found
    at None is = absurd (none-some name is)
    at (Some found) is = refl

some_of : {X : Type 0} (found : Option X) → IsSome found → (x : X) × (found ≡ Some x)
some_of None some = absurd (cc)
some_of (Some x) some = (x, refl)

pub names_fit_more : (old new : Solver) (names : List (Option Ref)) → IsFront old.steps new.steps
    → KeepPackets old.packets new.packets → AreNamesFit old names → AreNamesFit new names
names_fit_more old new names front keep fit = record {
  right = right;
  few = omega (arith, fit.few, ap length front.is, length-append old.steps front.more);
}
  where
    right : AreNamesRight new.inputs (shared_by new.packets) new.steps names
    right number name some named =
        let within = named_within names number name named in
        let there = item_at-there old.steps number (omega (arith, within.0))
        (omega (arith, within.1, fit.few)) in
        let (step, at) = some_of (item_at old.steps number) there in
        let (place, place_step, is, same) = fit.right number name there named in
        let was : item_at (map known_of old.steps) number
        ≡ Some (known_of step) = item_at-map known_of old.steps number
        ∙ ap (option_map known_of) at in
        let now : item_at (map known_of new.steps) number ≡ Some (known_of step) = item_at-map known_of new.steps number ∙ ap (λ (xs : List Step). option_map known_of (item_at xs number)) front.is ∙ ap (option_map known_of) (item_at-append old.steps front.more number step at) in (
          place,
          place_step,
          is,
          ap (known new.inputs (shared_by new.packets) []) is
              ∙ shared_stays old.inputs new.inputs old.packets new.packets place place_step
              (known_of step) keep (ap (known old.inputs (shared_by old.packets) []) (sym is)
              ∙ same ∙ was) ∙ sym now,
        )

pub place_keeps : (old new : List (Option (List Step))) (place : ℕ) (packet : List Step)
    → HasPlaceMore old new place packet → packet_at old place ≡ None → KeepPackets old new
place_keeps old new place packet more free other one is = at (cases_eq other place)
  where
    at : (other ≡ place) ⊎ (other ≢ place) → packet_at new other ≡ Some one
    at (inl same) = absurd (none-some one (sym free ∙ ap (packet_at old) (sym same) ∙ is))
    at (inr apart) = more.elsewhere other apart ∙ is

pub same_packets_keep : (old new : List (Option (List Step))) → new ≡ old → KeepPackets old new
same_packets_keep old new same place packet is = ap (λ packets. packet_at packets place) same ∙ is

pub same_front : (old new : List Step) → new ≡ old → IsFront old new
same_front old new same = record { more = []; is = same ∙ sym (append-nil old) }

pub no_names_fit : (solver : Solver) (names : List (Option Ref)) → names ≡ []
    → AreNamesFit solver names
no_names_fit solver names none = record {
  right = λ number name some named. absurd
      (let within = named_within names number name named in omega
      (arith, within.0, within.1, ap length none));
  few = omega (arith, ap length none);
}

-- The hints of ok steps look back.
ok_hints : (inputs : List Known) (shared : List (List Known)) (before : List Known)
    (steps : List Step) (i : ℕ) (step : Step) (other : ℕ) → AreOkSteps inputs shared before steps
    → slice_get steps i ≡ Some step → Contains step.hints (Own other)
    → (1 ≤ other) × (other ≤ length before + i)
ok_hints inputs shared before [] i step other ok is has = absurd (cc)
ok_hints inputs shared before (first ∷ steps) zero step other ok is has =
    let same : first ≡ step = cc in
    let within = item_at-within before other (All-contains
    (λ hint. IsSome (known inputs shared before hint)) first.hints (Own other) ok.0.all_known
    (subst (λ (s : Step). Contains s.hints (Own other)) (sym same) has)) in
    (omega (arith, within.0), omega (arith, within.1))
ok_hints inputs shared before (first ∷ steps) (suc i) step other ok is has =
    let later = ok_hints inputs shared
    (before ++ known_of first ∷ []) steps i step other ok.1 is has in
    (later.0, omega (arith, later.1, length-append before (known_of first ∷ [])))

pub ok_look_back : (inputs : List Known) (shared : List (List Known)) (own : List Step)
    → AreOkSteps inputs shared [] own → CiteEarlierOwn own
ok_look_back inputs shared own ok user other step is has =
    let at = slice_get-place own user step is in
    let low = ok_hints inputs shared [] own (user - 1) step other ok at.1 has in
    (low.0, omega (arith, low.1, at.0))

-- Whether a clause was taken in or not, names stay right.
pub names_fit_taken : {E : Type 0} (result : Result (Unit {0}) E) (old new : Solver)
    (names : List (Option Ref)) (place : ℕ) (packet : List Step)
    → OnOk result ((one : Known) × HasTaken old new place packet one) → OnErr result (new ≡ old)
    → packet_at old.packets place ≡ None → AreNamesFit old names → AreNamesFit new names
names_fit_taken (Ok _) old new names place packet
    (one, taken) err free fit = names_fit_more old new names
    (same_front old.steps new.steps taken.steps)
    (place_keeps old.packets new.packets place packet taken.packets free) fit
names_fit_taken (Err _) old new names place packet ok same free fit = subst
    (λ (solver : Solver). AreNamesFit solver names) (sym same) fit
