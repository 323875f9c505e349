-- No own step of a session has a greater tag than the job that is loaded.
use Rattle.std.proofs.Common.{◌≡◌, ◌∙◌, ℕ, ◌+◌, ◌≤◌, ◌==◌, cond, true, List, [], ◌∷◌, ◌++◌, map, length, Option, Some, None, refl, ap, sym, subst, arith}
use Rattle.std.specs.Prelude.{All, Contains, option_and_then}
use Rattle.std.proofs.lemmas.Bool.Decides.{nat_tests}
use Rattle.std.proofs.lemmas.List.{length_push, length-map, map_push}
use Rattle.std.proofs.lemmas.List.Elements.{All-contains, All-nil, All-cons, Contains-append_left}
use Rattle.sat_base.specs.declared.origins.Ref.{Ref}
use Rattle.sat_base.specs.declared.origins.Ref.TheVariants.{Input, Shared, Own}
use Rattle.sat_base.proofs.Members.{Contains-from_map}
use Rattle.trace_core.specs.Known.{Known, known, item_at, tag_of}
use Rattle.trace_core.specs.Trace.{AreOkSteps, IsOkStep, known_of}
use Rattle.trace_core.specs.declared.derivation.Step.{Step}
use Rattle.trace_core.proofs.Items.{item_at-contains}
use Rattle.entry_core.specs.Law.{IsBounded}
use Rattle.entry_core.proofs.SharedPackets.{packets_are_bounded}
use Rattle.session.specs.Solver.{Solver, IsSound, last_step_of, packet_at, shared_by}
use Rattle.session.proofs.Lists.{All-push, greatest_below}
use Rattle.trace_core.proofs.Items.{item_at-last}
use Rattle.session.proofs.Names.{shared_at}
use Rattle.worker_loop.specs.declared.bench.Bench.{Bench}
use Rattle.worker_loop.specs.Fits.{FitsLegal, read_by}

-- a tag of what a name names is bounded, where those of the inputs and packets and those of the steps so far are
name_bounded : (inputs : List Known) (shared : List (List Known)) (own : List Known) (bound : ℕ) (name : Ref) (one : Known)
    → ((other : Ref) (known_one : Known) → known inputs shared [] other ≡ Some known_one → known_one.tag ≤ bound) → All (λ (k : Known). k.tag ≤ bound) own
    → known inputs shared own name ≡ Some one → one.tag ≤ bound
name_bounded inputs shared own bound (Input n) one given low is = given (Input n) one is
name_bounded inputs shared own bound (Shared p n) one given low is = given (Shared p n) one is
name_bounded inputs shared own bound (Own n) one given low is = All-contains (λ (k : Known). k.tag ≤ bound) own one low (item_at-contains own n one is)

-- so is that of an ok step
step_bounded : (table : Ref → Option Known) (bound : ℕ) (step : Step) → ((name : Ref) (one : Known) → table name ≡ Some one → one.tag ≤ bound) → IsOkStep table step → step.tag ≤ bound
step_bounded table bound step low ok =
    let under = greatest_below (map (λ hint. tag_of (table hint)) step.hints) bound (λ n has.
    let m = Contains-from_map (λ hint. tag_of (table hint)) step.hints n has in
    subst (λ tag. tag ≤ bound) m.2 (of_found m.0 (table m.0) refl)) in
    omega (arith, ok.exact_tag, under)
  where
    of_found : (name : Ref) (found : Option Known) → table name ≡ found → tag_of found ≤ bound
    of_found name None is = omega arith
    of_found name (Some one) is = low name one is

steps_bounded : (inputs : List Known) (shared : List (List Known)) (own : List Known) (bound : ℕ) (steps : List Step)
    → ((other : Ref) (one : Known) → known inputs shared [] other ≡ Some one → one.tag ≤ bound) → All (λ (k : Known). k.tag ≤ bound) own
    → AreOkSteps inputs shared own steps → All (λ (step : Step). step.tag ≤ bound) steps
steps_bounded inputs shared own bound [] given low ok = All-nil (λ (step : Step). step.tag ≤ bound)
steps_bounded inputs shared own bound (step ∷ steps) given low ok =
    let tag = step_bounded (known inputs shared own) bound step (λ name one is. name_bounded inputs shared own bound name one given low is) ok.0 in
    All-cons (λ (s : Step). s.tag ≤ bound) step steps tag
    (steps_bounded inputs shared (own ++ known_of step ∷ []) bound steps given (All-push (λ (k : Known). k.tag ≤ bound) own (known_of step) low tag) ok.1)

-- what the last step of a packet makes known
pub last_known : (packet front : List Step) (last : Step) → packet ≡ front ++ last ∷ [] → item_at (map known_of packet) (length packet) ≡ Some (known_of last)
last_known packet front last is =
    ap (λ (all : List Step). item_at (map known_of all) (length all)) is
    ∙ ap (λ (all : List Known). item_at all (length (front ++ last ∷ []))) (map_push known_of front last)
    ∙ item_at-last (map known_of front) (known_of last) (length (front ++ last ∷ []))
    (let e : length (front ++ last ∷ []) ≡ length (map known_of front) + 1 = omega (arith, length_push front last, length-map front known_of) in e)

-- a packet that was read is one of the journal's, and bounded
pub read_bounded : (bench : Bench) (place : ℕ) (packet : List Step) → (seen : FitsLegal bench) → item_at (read_by bench) place ≡ Some packet → IsBounded seen.journal packet
read_bounded bench place packet seen found =
    packets_are_bounded seen.rules seen.journal packet seen.legal
    (subst (λ (all : List (List Step)). Contains all packet) (sym seen.fits.read.is) (Contains-append_left (read_by bench) seen.fits.read.more packet (item_at-contains (read_by bench) place packet found)))

last_held : (solver : Solver) (place : ℕ) (packet : List Step) (one : Known) → IsSound solver → packet_at solver.packets place ≡ Some packet → item_at (map known_of packet) (length packet) ≡ Some one → one.tag ≤ solver.bound
last_held solver place packet one sound found last =
    let itself : (length packet == length packet) ≡ true = grind (arith, nat_tests) in
    let is : last_step_of (packet_at solver.packets place) (length packet) ≡ Some one =
    ap (λ o. last_step_of o (length packet)) found ∙ ap (λ b. cond b (item_at (map known_of packet) (length packet)) None) itself ∙ last in
    All-contains (λ (k : Known). k.tag ≤ solver.bound) solver.held one sound.bounded (sound.packets_held place (length packet) one is)

-- what a name names besides own steps has a tag up to the bound
given_bounded : (bench : Bench) (name : Ref) (one : Known) → FitsLegal bench → IsSound bench.session.solver → known bench.session.solver.inputs (shared_by bench.session.solver.packets) [] name ≡ Some one → one.tag ≤ bench.session.solver.bound
given_bounded bench (Input n) one seen sound is =
    let solver : Solver = bench.session.solver in
    All-contains (λ (k : Known). k.tag ≤ solver.bound) solver.held one sound.bounded
    (All-contains (Contains solver.held) solver.inputs one sound.inputs_held (item_at-contains solver.inputs n one is))
given_bounded bench (Own n) one seen sound is = let has = item_at-contains {X = Known} [] n one is in let lt = has.1 in absurd (omega (arith, lt))
given_bounded bench (Shared place number) one seen sound is =
    by_packet (packet_at bench.session.solver.packets place) refl (sym (shared_at bench.session.solver.inputs bench.session.solver.packets [] place number) ∙ is)
  where
    by_packet : (found : Option (List Step)) → packet_at bench.session.solver.packets place ≡ found → option_and_then (λ (packet : List Step). item_at (map known_of packet) number) found ≡ Some one → one.tag ≤ bench.session.solver.bound
    by_packet None none at = absurd (cc)
    by_packet (Some packet) found at =
        let bounded = read_bounded bench place packet seen (seen.fits.known place packet found) in
        let last = last_held bench.session.solver place packet (known_of bounded.last) sound found (last_known packet bounded.front bounded.last bounded.ends) in
        let m = Contains-from_map known_of packet one (item_at-contains (map known_of packet) number one at) in
        let low = All-contains (λ (step : Step). step.tag ≤ bounded.last.tag) packet m.0 bounded.tags m.1 in
        omega (arith, low, last, ap (λ (k : Known). k.tag) m.2)

pub own_bounded : (bench : Bench) → FitsLegal bench → IsSound bench.session.solver → All (λ (step : Step). step.tag ≤ bench.session.solver.bound) bench.session.solver.steps
own_bounded bench seen sound =
    steps_bounded bench.session.solver.inputs (shared_by bench.session.solver.packets) [] bench.session.solver.bound bench.session.solver.steps
    (λ name one is. given_bounded bench name one seen sound is) (All-nil (λ (k : Known). k.tag ≤ bench.session.solver.bound)) sound.ok
