-- Benches that fit a journal, from one job to the next.
use Rattle.std.proofs.Common.{◌≡◌, ◌∙◌, ◌==◌, Bool, true, false, cond, Option, ℕ, ◌+◌, ◌<◌, ◌≤◌, List, [], ◌∷◌, ◌++◌, length, map, refl, ap, sym, subst, arith, Some, None, append_assoc, append-nil, length-append}
use Rattle.std.specs.Prelude.{IsSome, nat_le, filter, option_and_then}
use Rattle.std.specs.List.{cons_option}
use Rattle.std.specs.Arc.{arc_value}
use Rattle.std.specs.declared.sync.Arc.{Arc}
use Rattle.std.specs.declared.alloc.Global.{Global}
use Rattle.std.proofs.lemmas.List.{length-map}
use Rattle.std.proofs.lemmas.List.Sums.{length-filter, count_by-le-length}
use Rattle.trace_core.specs.Known.{Known, item_at}
use Rattle.trace_core.specs.declared.derivation.Packet.{Packet}
use Rattle.trace_core.specs.declared.derivation.Step.{Step}
use Rattle.trace_core.proofs.Items.{item_at-within}
use Rattle.entry_core.specs.declared.segments.Segment.{Segment}
use Rattle.entry_core.specs.declared.entries.Entry.{Entry}
use Rattle.entry_core.specs.declared.entries.Event.{Event}
use Rattle.entry_core.specs.declared.entries.Event.TheVariants as event
use Rattle.entry_core.specs.declared.rules.Rules.{Rules}
use Rattle.entry_core.specs.Journal.{jobs, inputs, inputs_of, segments, packets, packet_of}
use Rattle.entry_core.specs.Legal.{IsAllowed, IsLegal, IsLegalAfter}
use Rattle.entry_core.proofs.Inputs.{inputs_of_none, inputs_of_one_more}
use Rattle.entry_core.proofs.Limits.{few_jobs, few_inputs}
use Rattle.entry_core.proofs.LongerJournals.{segments-append, packets-append, inputs_kept}
use Rattle.session.specs.Solver.{Solver, packet_at}
use Rattle.session.specs.Loading.{loaded, tagged}
use Rattle.session.specs.Fronts.{IsFront}
use Rattle.session.specs.Solving.{Keeps}
use Rattle.session.specs.Session.{SessionView, no_inputs}
use Rattle.worker_loop.specs.declared.bench.Bench.{Bench}
use Rattle.worker_loop.specs.Fits.{Fits, read_by}

-- no place is known to a new session
pub nothing_known : (packets : List (Option (List Step))) (place : ℕ) (packet : List Step) → packets ≡ [] → packet_at packets place ≡ Some packet → ⊥
nothing_known packets place packet none is = by_test (place == 0) (subst (λ ps. packet_at ps place ≡ Some packet) none is)
  where
    by_test : (b : Bool) → option_and_then (λ (found : Option (List Step)). found) (cond b None None) ≡ Some packet → ⊥
    by_test true is = cc
    by_test false is = cc

-- A bench with a new session fits every journal of which it read a front.
pub new_fits : (bench : Bench) (journal : List Entry) → bench.session.solver ≡ no_inputs → IsFront (read_by bench) (packets journal) → Fits bench journal
new_fits bench journal new read = record {
  added = omega (arith, ap (λ (s : Solver). s.bound) new);
  inputs = ap (λ (s : Solver). s.inputs) new ∙ sym (inputs_of_none journal) ∙ ap (inputs_of journal) (sym (ap (λ (s : Solver). s.bound) new));
  read = read;
  known = λ place packet is. absurd (nothing_known bench.session.solver.packets place packet (ap (λ (s : Solver). s.packets) new) is);
}

-- and every journal where it has read nothing
pub empty_fits : (bench : Bench) (journal : List Entry) → bench.session.solver ≡ no_inputs → bench.packets.items ≡ [] → Fits bench journal
empty_fits bench journal new none = new_fits bench journal new (record { more = packets journal; is = ap (λ (ps : List (Arc Packet Global)). map arc_value ps ++ packets journal) (sym none) })

-- a bench that fits does so with the clauses of the next job
pub next_fits : (old : Bench) (session : SessionView) (journal : List Entry) (segment : Segment) (clauses : List (List ℕ)) → clauses ≡ segment.clauses
    → session ≡ record old.session { solver = loaded old.session.solver clauses } → Fits old journal
    → item_at (segments journal) (old.session.solver.bound + 1) ≡ Some segment → Fits (record old { session = session }) journal
next_fits old session journal segment clauses same is fits found = subst (λ (s : SessionView). Fits (record old { session = s }) journal) (sym is) (record {
  added = omega (arith, (item_at-within (segments journal) (old.session.solver.bound + 1) (subst IsSome (sym found) refl)).1);
  inputs = ap (λ (xs : List Known). xs ++ tagged (old.session.solver.bound + 1) clauses) fits.inputs
      ∙ ap (λ (cs : List (List ℕ)). inputs_of journal old.session.solver.bound ++ tagged (old.session.solver.bound + 1) cs) same
      ∙ sym (inputs_of_one_more journal old.session.solver.bound segment found);
  read = fits.read;
  known = fits.known;
})

few_up_to : (bound : ℕ) (known : List Known) → length (filter (λ (input : Known). nat_le input.tag bound) known) ≤ length known
few_up_to bound known = omega (arith, length-filter (λ (input : Known). nat_le input.tag bound) known, count_by-le-length (λ (input : Known). nat_le input.tag bound) known)

-- the next job's clauses keep the limit
pub few_loaded : (rules : Rules) (journal : List Entry) (bench : Bench) (number : ℕ) (segment : Segment) → IsLegal rules journal → Fits bench journal → number ≡ bench.session.solver.bound + 1
    → item_at (segments journal) number ≡ Some segment → length bench.session.solver.inputs + length segment.clauses ≤ 16777216
few_loaded rules journal bench number segment legal fits next is =
    let solver : Solver = bench.session.solver in
    let own = inputs_of_one_more journal solver.bound segment (subst (λ n. item_at (segments journal) n ≡ Some segment) next is) in
    let tags : length (tagged (solver.bound + 1) segment.clauses) ≡ length segment.clauses = length-map {B = Known} segment.clauses (λ (clause : List ℕ). record { clause = clause; tag = solver.bound + 1 }) in
    omega (arith, few_inputs rules journal legal, few_up_to (solver.bound + 1) (inputs journal), ap length own, length-append (inputs_of journal solver.bound) (tagged (solver.bound + 1) segment.clauses), tags, ap length fits.inputs)

pub few_before : (rules : Rules) (journal : List Entry) (bound : ℕ) → IsLegal rules journal → bound < jobs journal → bound < 1048576
few_before rules journal bound legal more = omega (arith, few_jobs rules journal legal, more)

-- A legal journal has at most 4,194,304 packets.
few_shared : (rules : Rules) (before : List Entry) (caller : ℕ) (happened : Event) → IsAllowed rules before caller happened → length (packets before) ≤ 4194304
    → length (packets before ++ cons_option (packet_of happened) []) ≤ 4194304
few_shared rules before caller (event.Shared packet) allowed few = omega (arith, allowed.few, length-append (packets before) (arc_value packet ∷ []))
few_shared rules before caller (event.Added segment) allowed few = omega (arith, few, length-append (packets before) [])
few_shared rules before caller event.Closed allowed few = omega (arith, few, length-append (packets before) [])
few_shared rules before caller (event.Cancelled job) allowed few = omega (arith, few, length-append (packets before) [])
few_shared rules before caller (event.Began job number) allowed few = omega (arith, few, length-append (packets before) [])
few_shared rules before caller (event.Spent number learnt) allowed few = omega (arith, few, length-append (packets before) [])
few_shared rules before caller (event.Dropped number) allowed few = omega (arith, few, length-append (packets before) [])
few_shared rules before caller (event.Decided number given) allowed few = omega (arith, few, length-append (packets before) [])
few_shared rules before caller (event.Starved number) allowed few = omega (arith, few, length-append (packets before) [])

few_after : (rules : Rules) (before rest : List Entry) → IsLegalAfter rules before rest → length (packets before) ≤ 4194304 → length (packets (before ++ rest)) ≤ 4194304
few_after rules before [] legal few = subst (λ (all : List Entry). length (packets all) ≤ 4194304) (sym (append-nil before)) few
few_after rules before (entry ∷ rest) legal few =
    let now : length (packets (before ++ entry ∷ [])) ≤ 4194304 =
    subst (λ (all : List (List Step)). length all ≤ 4194304) (sym (packets-append before (entry ∷ []))) (few_shared rules before entry.caller entry.event legal.0 few) in
    subst (λ (all : List Entry). length (packets all) ≤ 4194304) (append_assoc before (entry ∷ []) rest) (few_after rules (before ++ entry ∷ []) rest legal.1 now)

pub few_packets : (rules : Rules) (journal : List Entry) → IsLegal rules journal → length (packets journal) ≤ 4194304
few_packets rules journal legal = few_after rules [] journal legal (omega arith)

-- so a bench that fits has read few
pub few_read : (rules : Rules) (journal : List Entry) (bench : Bench) → IsLegal rules journal → Fits bench journal → length bench.packets.items < 4294967296
few_read rules journal bench legal fits =
    let few = few_packets rules journal legal in
    omega (arith, few, ap length fits.read.is, length-append (read_by bench) fits.read.more, length-map bench.packets.items arc_value)

-- A bench goes on to fit after a round.
pub fits_kept : (old new : Bench) (journal : List Entry) → Keeps old.session.solver new.session.solver → new ≡ record old { session = new.session } → Fits old journal → Fits new journal
fits_kept old new journal keeps same fits = record {
  added = omega (arith, fits.added, keeps.bound);
  inputs = keeps.inputs ∙ fits.inputs ∙ ap (inputs_of journal) (sym keeps.bound);
  read = subst (λ (all : List (List Step)). IsFront all (packets journal)) (sym (ap read_by same)) fits.read;
  known = λ place packet is. ap (λ (all : List (List Step)). item_at all place) (ap read_by same) ∙ fits.known place packet (ap (λ known. packet_at known place) (sym keeps.packets) ∙ is);
}

-- and where the journal grew
pub fits_longer : (bench : Bench) (journal more : List Entry) → Fits bench journal → Fits bench (journal ++ more)
fits_longer bench journal more fits = record {
  added = let count : jobs (journal ++ more) ≡ jobs journal + jobs more = ap length (segments-append journal more) ∙ length-append (segments journal) (segments more) in
      let le = fits.added in omega arith;
  inputs = fits.inputs ∙ sym (inputs_kept journal more bench.session.solver.bound fits.added);
  read = record {
    more = fits.read.more ++ packets more;
    is = packets-append journal more ∙ ap (λ (all : List (List Step)). all ++ packets more) fits.read.is ∙ append_assoc (read_by bench) fits.read.more (packets more);
  };
  known = fits.known;
}
