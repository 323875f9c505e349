-- The trace of a refuted part, out of the packets that were read and the session's own steps.
use Rattle.std.proofs.Common.{◌≡◌, ◌∙◌, ℕ, ◌+◌, ◌-◌, ◌<◌, ◌≤◌, take, drop, get_or, List, [], ◌∷◌, ◌++◌, map, length, Option, Some, None, true, false, refl, ap, sym, subst, arith}
use Rattle.std.specs.Prelude.{All, Contains, IsSome, option_map, option_and_then, ◌↔◌}
use Rattle.std.proofs.lemmas.List.{length-drop, get_or-drop, take_all}
use Rattle.std.proofs.lemmas.List.Elements.{All-contains, All-get_or}
use Rattle.sat_base.specs.Lit.{opposite}
use Rattle.sat_base.specs.declared.origins.Ref.{Ref}
use Rattle.sat_base.specs.declared.origins.Ref.TheVariants.{Input, Shared, Own}
use Rattle.trace_core.specs.Known.{Known, known, item_at, AgreeUpTo}
use Rattle.trace_core.specs.Trace.{AreOkPackets, AreOkSteps, IsTrace, known_of}
use Rattle.trace_core.specs.declared.derivation.Step.{Step}
use Rattle.trace_core.proofs.Elsewhere.{ok_elsewhere}
use Rattle.trace_core.proofs.Items.{item_at-append, item_at-contains}
use Rattle.trace_trim.specs.Names.{CiteEarlierSteps}
use Rattle.trace_trim.specs.Trimmed.{IsTraceWhereOk}
use Rattle.trace_trim.proofs.Existence.{ok_steps_have_traces}
use Rattle.trace_core.proofs.Items.{item_at-map}
use Rattle.entry_core.specs.declared.answers.Answer.TheVariants.{Refuted}
use Rattle.entry_core.specs.declared.entries.Entry.{Entry}
use Rattle.entry_core.specs.declared.rules.Rules.{Rules}
use Rattle.entry_core.specs.Journal.{inputs, inputs_of}
use Rattle.entry_core.specs.Legal.{IsLegal}
use Rattle.entry_core.proofs.Inputs.{inputs_of_agree, inputs_of_front}
use Rattle.entry_core.proofs.SharedPackets.{packets_are_ok}
use Rattle.session.specs.Solver.{Solver, IsSound, IsStep, packet_at, shared_by}
use Rattle.session.specs.Refutations.{IsRefutation}
use Rattle.session.proofs.Names.{shared_at}
use Rattle.worker_loop.specs.declared.bench.Bench.{Bench}
use Rattle.worker_loop.specs.Asked.{IsRightOver}
use Rattle.worker_loop.specs.Fits.{Fits, FitsLegal, read_by}
use Rattle.worker_loop.proofs.Earlier.{made_known, ok_cite_earlier}
use Rattle.worker_loop.proofs.Bounded.{own_bounded}

found_by : (found : Option Step) (one : Known) → option_map known_of found ≡ Some one → (step : Step) × (found ≡ Some step) × (known_of step ≡ one)
found_by None one is = absurd (cc)
found_by (Some step) one is = let same : known_of step ≡ one = cc in (step, refl, same)

pub step_there : (steps : List Step) (number : ℕ) (one : Known) → IsStep steps number one → (step : Step) × (item_at steps number ≡ Some step) × (known_of step ≡ one)
step_there steps number one is = found_by (item_at steps number) one (sym (item_at-map known_of steps number) ∙ is)

pub number_there : (steps own : List Step) (number : ℕ) (one : Known) → own ≡ steps → IsStep steps number one → IsSome (item_at own number)
number_there steps own number one same is = let there = step_there steps number one is in subst (λ (xs : List Step). IsSome (item_at xs number)) (sym same) (subst IsSome (sym there.1) refl)

-- the numbers from a place on, as a range shows them
pub rest_of : (numbers : List ℕ) (before : ℕ) → take (length numbers - before) (drop before numbers) ≡ drop before numbers
rest_of numbers before = take_all (length numbers - before) (drop before numbers) (omega (arith, length-drop before numbers))

-- a learnt step is one of the own steps
pub learnt_there : (solver : Solver) (own : List Step) (numbers : List ℕ) (before i d : ℕ) → IsSound solver → own ≡ solver.steps → numbers ≡ solver.learnt → i < length (take (length numbers - before) (drop before numbers))
    → IsSome (item_at own (get_or (take (length numbers - before) (drop before numbers)) i d))
learnt_there solver own numbers before i d sound same all lt =
    let inside : before + i < length solver.learnt = omega (arith, subst (λ xs. i < length xs) (rest_of numbers before) lt, ap length all, length-drop before numbers) in
    let at : get_or solver.learnt (before + i) d ≡ get_or (take (length numbers - before) (drop before numbers)) i d =
    sym (ap (λ xs. get_or xs i d) (rest_of numbers before) ∙ get_or-drop before numbers i d ∙ ap (λ xs. get_or xs (before + i) d) all) in
    let held = subst (λ n. (one : Known) × IsStep solver.steps n one × Contains solver.held one) at
    (All-get_or (λ n. (one : Known) × IsStep solver.steps n one × Contains solver.held one) solver.learnt (before + i) d inside sound.learnt_held) in
    number_there solver.steps own (get_or (take (length numbers - before) (drop before numbers)) i d) held.0 same held.1

-- and so is each that an attempt lists
pub numbers_there : (solver : Solver) (own : List Step) (numbers shown : List ℕ) → own ≡ solver.steps → shown ≡ numbers → All (λ number. (one : Known) × IsStep solver.steps number one × Contains solver.held one) numbers
    → All (λ number. IsSome (item_at own number)) shown
numbers_there solver own numbers shown same is held = subst (All (λ number. IsSome (item_at own number))) (sym is) (λ k d lt. let h = held k d lt in number_there solver.steps own (get_or numbers k d) h.0 same h.1)

-- the first of ok packets are ok
ok_front : (inputs : List Known) (before : List (List Known)) (front rest : List (List Step)) → AreOkPackets inputs before (front ++ rest) → AreOkPackets inputs before front
ok_front inputs before [] rest ok = tt
ok_front inputs before (packet ∷ front) rest ok = (ok.0, ok_front inputs (before ++ map known_of packet ∷ []) front rest ok.1)

read_ok : (rules : Rules) (journal : List Entry) (bench : Bench) → IsLegal rules journal → Fits bench journal → AreOkPackets (inputs journal) [] (read_by bench)
read_ok rules journal bench legal fits = ok_front (inputs journal) [] (read_by bench) fits.read.more (subst (AreOkPackets (inputs journal) []) fits.read.is (packets_are_ok rules journal legal))

-- what references name to a session that fits, they name among all inputs and the packets that were read
pub named_by_all : (journal : List Entry) (bench : Bench) (own : List Known) (name : Ref) (one : Known) → Fits bench journal → known bench.session.solver.inputs (shared_by bench.session.solver.packets) own name ≡ Some one
    → known (inputs journal) (made_known (read_by bench)) own name ≡ Some one
named_by_all journal bench own (Input number) one fits is =
    let front = inputs_of_front journal bench.session.solver.bound in
    ap (λ (all : List Known). item_at all number) front.1 ∙ item_at-append (inputs_of journal bench.session.solver.bound) front.0 number one (ap (λ (all : List Known). item_at all number) (sym fits.inputs) ∙ is)
named_by_all journal bench own (Own number) one fits is = is
named_by_all journal bench own (Shared place number) one fits is =
    by_packet (packet_at bench.session.solver.packets place) refl (sym (shared_at bench.session.solver.inputs bench.session.solver.packets own place number) ∙ is)
  where
    by_packet : (found : Option (List Step)) → packet_at bench.session.solver.packets place ≡ found → option_and_then (λ (packet : List Step). item_at (map known_of packet) number) found ≡ Some one
        → known (inputs journal) (made_known (read_by bench)) own (Shared place number) ≡ Some one
    by_packet None none is = absurd (cc)
    by_packet (Some packet) found is =
        ap (option_and_then (λ (steps : List Known). item_at steps number)) (item_at-map (λ (packet : List Step). map known_of packet) (read_by bench) place)
        ∙ ap (λ (o : Option (List Step)). option_and_then (λ (steps : List Known). item_at steps number) (option_map (λ (packet : List Step). map known_of packet) o)) (fits.known place packet found)
        ∙ is

own_ok : (journal : List Entry) (bench : Bench) → Fits bench journal → IsSound bench.session.solver → AreOkSteps (inputs journal) (made_known (read_by bench)) [] bench.session.solver.steps
own_ok journal bench fits sound =
    ok_elsewhere bench.session.solver.inputs (inputs journal) (shared_by bench.session.solver.packets) (made_known (read_by bench)) [] bench.session.solver.steps
    (λ own step name one has low is. named_by_all journal bench own name one fits is) sound.ok

pub looks_back : (bench : Bench) (own : List Step) → FitsLegal bench → IsSound bench.session.solver → own ≡ bench.session.solver.steps → CiteEarlierSteps (read_by bench) own
looks_back bench own seen sound same =
    subst (CiteEarlierSteps (read_by bench)) (sym same)
    (ok_cite_earlier (inputs seen.journal) (read_by bench) bench.session.solver.steps (read_ok seen.rules seen.journal bench seen.legal seen.fits) (own_ok seen.journal bench seen.fits sound))

-- What holds of the refuting step wherever the session's steps are ok, holds over the session's
-- inputs.
at_refutation : (bench : Bench) (cube part : List ℕ) (number : ℕ) (P : Type 0) → FitsLegal bench → IsSound bench.session.solver
    → IsRefutation bench.session.solver.inputs bench.session.solver.steps cube part number
    → ((all : List Known) (step : Step) → AreOkPackets all [] (read_by bench) → AreOkSteps all (made_known (read_by bench)) [] bench.session.solver.steps → item_at bench.session.solver.steps number ≡ Some step
    → AgreeUpTo step.tag all bench.session.solver.inputs → ((lit : ℕ) → Contains step.clause lit ↔ Contains part (opposite lit)) → P) → P
at_refutation bench cube part number P seen sound r holds =
    let solver : Solver = bench.session.solver in
    let there = step_there solver.steps number r.one r.step in
    let clause : there.0.clause ≡ r.one.clause = ap (λ (one : Known). one.clause) there.2 in
    let low = All-contains (λ (step : Step). step.tag ≤ solver.bound) solver.steps there.0 (own_bounded bench seen sound) (item_at-contains solver.steps number there.0 there.1) in
    let agree : AgreeUpTo there.0.tag (inputs seen.journal) solver.inputs = λ place one is tag.
    ap (λ (all : List Known). item_at all place) seen.fits.inputs ∙ inputs_of_agree seen.journal solver.bound place one is (omega (arith, low, tag)) in
    holds (inputs seen.journal) there.0 (read_ok seen.rules seen.journal bench seen.legal seen.fits) (own_ok seen.journal bench seen.fits sound) there.1 agree
    (λ lit. subst (λ lits. Contains lits lit ↔ Contains part (opposite lit)) (sym clause) (r.negates lit))

traced : (bench : Bench) (cube part : List ℕ) (number : ℕ) (trimmed : List Step) → FitsLegal bench → IsSound bench.session.solver → IsRefutation bench.session.solver.inputs bench.session.solver.steps cube part number
    → IsTraceWhereOk (read_by bench) bench.session.solver.steps number trimmed → IsTrace bench.session.solver.inputs part trimmed
traced bench cube part number trimmed seen sound r where_ok =
    at_refutation bench cube part number (IsTrace bench.session.solver.inputs part trimmed) seen sound r
    (λ all step packets own is agree negated. where_ok all bench.session.solver.inputs part step packets own is agree negated)

-- Of a refuted part there is a trace, though none is made.
pub untraced : (bench : Bench) (cube part : List ℕ) (number : ℕ) (steps : List Step) → FitsLegal bench → IsSound bench.session.solver → steps ≡ []
    → IsRefutation bench.session.solver.inputs bench.session.solver.steps cube part number → IsRightOver false bench.session.solver.inputs cube (Refuted part steps)
untraced bench cube part number steps seen sound none r =
    let trace = at_refutation bench cube part number ((trace : List Step) × IsTrace bench.session.solver.inputs part trace) seen sound r
    (λ all step packets own is agree negated. ok_steps_have_traces all bench.session.solver.inputs (read_by bench) bench.session.solver.steps number step part packets own is agree negated) in
    (r.right, (none, trace.0, trace.1))

pub refuted : (bench : Bench) (cube part : List ℕ) (number : ℕ) (own trimmed steps : List Step) → FitsLegal bench → IsSound bench.session.solver → own ≡ bench.session.solver.steps → steps ≡ trimmed
    → IsRefutation bench.session.solver.inputs bench.session.solver.steps cube part number → IsTraceWhereOk (read_by bench) own number trimmed → IsRightOver true bench.session.solver.inputs cube (Refuted part steps)
refuted bench cube part number own trimmed steps seen sound is same r where_ok = (
  r.right,
  subst (λ (xs : List Step). IsTrace bench.session.solver.inputs part xs) (sym same)
      (traced bench cube part number trimmed seen sound r (subst (λ (xs : List Step). IsTraceWhereOk (read_by bench) xs number trimmed) is where_ok)),
)
