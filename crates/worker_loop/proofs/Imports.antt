-- Packets that were read come to be known.
use Rattle.std.proofs.Common.{◌≡◌, ◌≢◌, ◌∙◌, ◌⊎◌, inl, inr, ℕ, ◌-◌, ◌≤◌, ◌==◌, Bool, true, false, cond, List, [], ◌∷◌, ◌++◌, map, length, Option, Some, None, refl, ap, sym, subst, arith, append-nil, append_assoc}
use Rattle.std.specs.Prelude.{All, Contains, IfSome, IsSome, is_some, slice_get, slice_index_or, option_map, nat_le, filter, Result, Ok, Err, OnOk, OnErr}
use Rattle.std.proofs.lemmas.Bool.{cases_eq}
use Rattle.std.proofs.lemmas.Bool.Decides.{nat_tests}
use Rattle.std.specs.Arc.{arc_value}
use Rattle.std.specs.declared.sync.Arc.{Arc}
use Rattle.std.specs.declared.alloc.Global.{Global}
use Rattle.std.proofs.lemmas.Option.{slice_get-get_or}
use Rattle.std.proofs.lemmas.List.Elements.{All-append, All-cons, All-nil, Contains-append_left, Contains-append_right}
use Rattle.sat_base.specs.Lit.{greatest_of, greatest_of_all}
use Rattle.sat_base.specs.Truth.{Entails}
use Rattle.sat_base.proofs.Entailment.{grows}
use Rattle.sat_base.proofs.Members.{All-from_members, Contains-here}
use Rattle.trace_core.specs.Known.{Known, item_at, tag_of}
use Rattle.trace_core.specs.Law.{clauses_up_to}
use Rattle.trace_core.specs.Trace.{known_of}
use Rattle.trace_core.specs.declared.derivation.Packet.{Packet}
use Rattle.trace_core.specs.declared.derivation.Step.{Step}
use Rattle.trace_core.proofs.Items.{item_at-contains}
use Rattle.trace_trim.specs.Packed.{ends_in}
use Rattle.trace_core.proofs.Items.{item_at-within}
use Rattle.trace_core.proofs.Items.{item_at-map}
use Rattle.entry_core.specs.declared.entries.Entry.{Entry}
use Rattle.entry_core.specs.Journal.{inputs, inputs_of, clauses_of, packets}
use Rattle.entry_core.proofs.SharedSteps.{shared_steps_follow}
use Rattle.session.specs.Solver.{Solver, packet_at}
use Rattle.session.specs.Solver.{clauses_of as clauses_in}
use Rattle.session.specs.Fronts.{IsFront}
use Rattle.session.specs.Sharing.{HasTaken, IsHeld}
use Rattle.session.proofs.Settled.{same_front}
use Rattle.session.proofs.UpTo.{among_inputs}
use Rattle.session.specs.Session.{SessionView}
use Rattle.session.proofs.Names.{place_keeps}
use Rattle.session.proofs.Takable.{takable_over}
use Rattle.worker_loop.specs.declared.bench.Bench.{Bench}
use Rattle.worker_loop.specs.Fits.{Fits, FitsLegal, KnowsOnlyRead, KnowsRead, read_by}
use Rattle.worker_loop.specs.Importing.{AreTakable, HasImported, IsLastOfOne, KnowsReadUpTo}
use Rattle.worker_loop.specs.Kept.{KeepsLearnt}
use Rattle.worker_loop.proofs.Bounded.{last_known, read_bounded}

-- Of the inputs up to a tag, those up to a smaller one are those of all inputs.
up_to_twice : (all : List Known) (low high : ℕ) → low ≤ high → filter (λ (input : Known). nat_le input.tag low) (filter (λ (input : Known). nat_le input.tag high) all) ≡ filter (λ (input : Known). nat_le input.tag low) all
up_to_twice [] low high le = refl
up_to_twice (one ∷ all) low high le = by_tests (nat_le one.tag high) (nat_le one.tag low) refl refl (up_to_twice all low high le)
  where
    high_up : List Known
    high_up = filter (λ (input : Known). nat_le input.tag high) all

    low_up : List Known
    low_up = filter (λ (input : Known). nat_le input.tag low) all

    by_tests : (b c : Bool) → nat_le one.tag high ≡ b → nat_le one.tag low ≡ c → filter (λ (input : Known). nat_le input.tag low) high_up ≡ low_up
        → filter (λ (input : Known). nat_le input.tag low) (cond (nat_le one.tag high) (one ∷ high_up) high_up) ≡ cond (nat_le one.tag low) (one ∷ low_up) low_up
    by_tests true c is at rest =
        ap (λ b. filter (λ (input : Known). nat_le input.tag low) (cond b (one ∷ high_up) high_up)) is
        ∙ ap (λ (xs : List Known). cond (nat_le one.tag low) (one ∷ xs) xs) rest
    by_tests false true is at rest = absurd (grind (arith, nat_tests))
    by_tests false false is at rest =
        ap (λ b. filter (λ (input : Known). nat_le input.tag low) (cond b (one ∷ high_up) high_up)) is ∙ rest
        ∙ sym (ap (λ b. cond b (one ∷ low_up) low_up) at)

-- the clauses of a job up to a smaller tag are those of that job
pub clauses_same : (journal : List Entry) (tag bound : ℕ) → tag ≤ bound → clauses_up_to (inputs_of journal bound) tag ≡ clauses_of journal tag
clauses_same journal tag bound le = ap (map (λ (input : Known). input.clause)) (up_to_twice (inputs journal) tag bound le)

-- Each packet that was read can be taken in from its tag's job on.
pub can_be_taken : (bench : Bench) → FitsLegal bench → AreTakable bench
can_be_taken bench seen place packet found low =
    let solver : Solver = bench.session.solver in
    let bounded = read_bounded bench place packet seen found in
    let last : Step = bounded.last in
    let ends = last_known packet bounded.front last bounded.ends in
    let tag : last.tag ≤ solver.bound = (let e : tag_of (ends_in packet) ≡ last.tag = ap tag_of ends in omega (arith, e, low)) in
    let same : clauses_up_to solver.inputs last.tag ≡ clauses_of seen.journal last.tag = ap (λ (all : List Known). clauses_up_to all last.tag) seen.fits.inputs ∙ clauses_same seen.journal last.tag solver.bound tag in
    let there : Contains packet last = subst (λ (steps : List Step). Contains steps last) (sym bounded.ends) (Contains-append_right bounded.front (last ∷ []) last (Contains-here last [])) in
    let in_journal : Contains (packets seen.journal) packet =
    subst (λ (all : List (List Step)). Contains all packet) (sym seen.fits.read.is) (Contains-append_left (read_by bench) seen.fits.read.more packet (item_at-contains (read_by bench) place packet found)) in
    let follows : Entails (clauses_up_to solver.inputs last.tag) last.clause =
    subst (λ (clauses : List (List ℕ)). Entails clauses last.clause) (sym same) (shared_steps_follow seen.rules seen.journal packet last seen.legal in_journal there) in (
      known_of last,
      record {
        last = ends;
        bounded = tag;
        follows = grows (clauses_up_to solver.inputs last.tag) (clauses_in solver.inputs) last.clause
            (All-from_members (Contains (clauses_in solver.inputs)) (clauses_up_to solver.inputs last.tag) (λ clause has. among_inputs solver.inputs last.tag clause has)) follows;
        within = subst (λ (clauses : List (List ℕ)). greatest_of last.clause ≤ greatest_of_all clauses) (sym same) bounded.within;
      },
    )

pub imported_none : (bench : Bench) → HasImported bench bench
imported_none bench = record {
  session = refl;
  inputs = refl;
  bound = refl;
  steps = refl;
  learnt = refl;
  held = record { more = []; is = sym (append-nil bench.session.solver.held) };
  lasts = All-nil (IsLastOfOne (read_by bench));
  stay = λ place packet is. is;
  came = λ place packet is. inl is;
}

-- a clause that is held stays so
held_on : (old new : Solver) (packet : List Step) → IsFront old.held new.held → IsHeld old packet → IsHeld new packet
held_on old new packet front was = record {
  one = was.one;
  last = was.last;
  held = subst (λ (all : List Known). Contains all was.one) (sym front.is) (Contains-append_left old.held front.more was.one was.held);
}

pub imported_twice : (old mid new : Bench) → HasImported old mid → HasImported mid new → HasImported old new
imported_twice old mid new a b = record {
  session = b.session ∙ ap (λ (bench : Bench). record bench { session = new.session }) a.session;
  inputs = b.inputs ∙ a.inputs;
  bound = b.bound ∙ a.bound;
  steps = b.steps ∙ a.steps;
  learnt = b.learnt ∙ a.learnt;
  held = record {
    more = a.held.more ++ b.held.more;
    is = b.held.is ∙ ap (λ (all : List Known). all ++ b.held.more) a.held.is ∙ append_assoc old.session.solver.held a.held.more b.held.more;
  };
  lasts = All-append (IsLastOfOne (read_by old)) a.held.more b.held.more a.lasts
      (subst (λ (all : List (List Step)). All (IsLastOfOne all) b.held.more) (ap read_by a.session) b.lasts);
  stay = λ place packet is. b.stay place packet (a.stay place packet is);
  came = λ place packet is. first place packet (b.came place packet is);
}
  where
    early : (place : ℕ) (packet : List Step) → (packet_at old.session.solver.packets place ≡ Some packet) ⊎ ((item_at (read_by old) place ≡ Some packet) × IsHeld mid.session.solver packet)
        → (packet_at old.session.solver.packets place ≡ Some packet) ⊎ ((item_at (read_by old) place ≡ Some packet) × IsHeld new.session.solver packet)
    early place packet (inl known) = inl known
    early place packet (inr read) = inr (read.0, held_on mid.session.solver new.session.solver packet b.held read.1)

    first : (place : ℕ) (packet : List Step) → (packet_at mid.session.solver.packets place ≡ Some packet) ⊎ ((item_at (read_by mid) place ≡ Some packet) × IsHeld new.session.solver packet)
        → (packet_at old.session.solver.packets place ≡ Some packet) ⊎ ((item_at (read_by old) place ≡ Some packet) × IsHeld new.session.solver packet)
    first place packet (inl known) = early place packet (a.came place packet known)
    first place packet (inr read) = inr (ap (λ (all : List (List Step)). item_at all place) (sym (ap read_by a.session)) ∙ read.0, read.1)

-- one packet that was read was taken in, or there was no memory
pub imported_one : {E : Type 0} (result : Result (Unit {0}) E) (old : Bench) (session : SessionView) (place : ℕ) (packet : List Step) → OnOk result ((one : Known) × HasTaken old.session.solver session.solver place packet one)
    → OnErr result (session ≡ old.session) → packet_at old.session.solver.packets place ≡ None → item_at (read_by old) place ≡ Some packet → HasImported old (record old { session = session })
imported_one (Err _) old session place packet ok same free read = subst (λ (s : SessionView). HasImported old (record old { session = s })) (sym same) (imported_none old)
imported_one (Ok _) old session place packet (one, taken) err free read = record {
  session = refl;
  inputs = taken.inputs;
  bound = taken.bound;
  steps = taken.steps;
  learnt = taken.learnt;
  held = record { more = one ∷ []; is = taken.held };
  lasts = All-cons (IsLastOfOne (read_by old)) one [] (packet, item_at-contains (read_by old) place packet read, taken.last) (All-nil (IsLastOfOne (read_by old)));
  stay = place_keeps old.session.solver.packets session.solver.packets place packet taken.packets free;
  came = λ other known is. at other known is (cases_eq other place);
}
  where
    there : IsHeld session.solver packet
    there = record {
      one = one;
      last = taken.last;
      held = subst (λ (all : List Known). Contains all one) (sym taken.held) (Contains-append_right old.session.solver.held (one ∷ []) one (Contains-here one []));
    }

    at : (other : ℕ) (known : List Step) → packet_at session.solver.packets other ≡ Some known → (other ≡ place) ⊎ (other ≢ place)
        → (packet_at old.session.solver.packets other ≡ Some known) ⊎ ((item_at (read_by old) other ≡ Some known) × IsHeld session.solver known)
    at other known is (inl here) =
        let same : Some packet ≡ Some known = sym taken.packets.here ∙ ap (packet_at session.solver.packets) (sym here) ∙ is in
        inr (ap (item_at (read_by old)) here ∙ read ∙ same, subst (λ o. IfSome o (IsHeld session.solver)) same there)
    at other known is (inr apart) = inl (sym (taken.packets.elsewhere other apart) ∙ is)

-- What is known of the packets that were read, with one place more.
pub known_one_more : (old new : Bench) (place : ℕ) → HasImported old new → 1 ≤ place
    → ((packet : List Step) → item_at (read_by old) place ≡ Some packet → tag_of (ends_in packet) ≤ old.session.solver.bound → packet_at new.session.solver.packets place ≡ Some packet)
    → KnowsReadUpTo old (place - 1) → KnowsReadUpTo new place
known_one_more old new place imported from here before other packet le found low = by_place (cases_eq other place)
  where
    was : item_at (read_by old) other ≡ Some packet
    was = ap (λ (all : List (List Step)). item_at all other) (sym (ap read_by imported.session)) ∙ found

    tag : tag_of (ends_in packet) ≤ old.session.solver.bound
    tag = omega (arith, low, imported.bound)

    by_place : (other ≡ place) ⊎ (other ≢ place) → packet_at new.session.solver.packets other ≡ Some packet
    by_place (inl same) = ap (packet_at new.session.solver.packets) same ∙ here packet (ap (item_at (read_by old)) (sym same) ∙ was) tag
    by_place (inr apart) = imported.stay other packet (before other packet (grind (arith, le, from, apart)) was tag)

-- the packet at a place that was read
pub read_at : (bench : Bench) (place : ℕ) (packet : Arc Packet Global) → 1 ≤ place → place ≤ length bench.packets.items → packet ≡ slice_index_or bench.packets.items (place - 1) packet
    → item_at (read_by bench) place ≡ Some (arc_value packet)
read_at bench place packet from within is =
    let some : (place == 0) ≡ false = grind (arith, nat_tests) in
    item_at-map arc_value bench.packets.items place
    ∙ ap (option_map arc_value) (ap (λ b. cond b None (slice_get bench.packets.items (place - 1))) some
    ∙ slice_get-get_or bench.packets.items (place - 1) packet (omega (arith, from, within)) ∙ ap Some (sym is))

pub none_there : (found : Option (List Step)) → is_some found ≡ false → found ≡ None
none_there None is = refl
none_there (Some packet) is = absurd (cc)

-- a place that is known already
pub known_there : (bench : Bench) (place : ℕ) (packet : List Step) → KnowsOnlyRead bench → is_some (packet_at bench.session.solver.packets place) ≡ true → item_at (read_by bench) place ≡ Some packet → packet_at bench.session.solver.packets place ≡ Some packet
known_there bench place packet only some read = by_packet (packet_at bench.session.solver.packets place) refl some
  where
    by_packet : (found : Option (List Step)) → packet_at bench.session.solver.packets place ≡ found → is_some found ≡ true → packet_at bench.session.solver.packets place ≡ Some packet
    by_packet None none is = absurd (cc)
    by_packet (Some known) found is = found ∙ sym (only place known found) ∙ read

-- the first places, each of which is known already
pub front_known : (bench : Bench) (front last : ℕ) → last ≤ front → KnowsOnlyRead bench
    → ((place : ℕ) → 1 ≤ place → place ≤ front → IsSome (packet_at bench.session.solver.packets place))
    → KnowsReadUpTo bench last
front_known bench front last low only known place packet le found tag =
    let some = (item_at-within (read_by bench) place (subst IsSome (sym found) refl)).0 in
    known_there bench place packet only (known place (omega (arith, some)) (omega (arith, le, low))) found

pub known_all : (bench : Bench) (count : ℕ) → length (read_by bench) ≤ count → KnowsReadUpTo bench count → KnowsRead bench
known_all bench count all known place packet found low = known place packet (omega (arith, all, (item_at-within (read_by bench) place (subst IsSome (sym found) refl)).1)) found low

-- A bench goes on to fit, and keeps what it learnt.
pub only_kept : (old new : Bench) → HasImported old new → KnowsOnlyRead old → KnowsOnlyRead new
only_kept old new imported only place packet is = ap (λ (all : List (List Step)). item_at all place) (ap read_by imported.session) ∙ by_case (imported.came place packet is)
  where
    by_case : (packet_at old.session.solver.packets place ≡ Some packet) ⊎ ((item_at (read_by old) place ≡ Some packet) × IsHeld new.session.solver packet) → item_at (read_by old) place ≡ Some packet
    by_case (inl known) = only place packet known
    by_case (inr read) = read.0

pub takable_kept : (old new : Bench) → HasImported old new → AreTakable old → AreTakable new
takable_kept old new imported takable place packet found low =
    takable_over old.session.solver new.session.solver packet imported.inputs imported.bound
    (takable place packet (ap (λ (all : List (List Step)). item_at all place) (sym (ap read_by imported.session)) ∙ found) (omega (arith, low, imported.bound)))

pub fits_imported : (old new : Bench) (journal : List Entry) → HasImported old new → Fits old journal → Fits new journal
fits_imported old new journal imported fits = record {
  added = omega (arith, fits.added, imported.bound);
  inputs = imported.inputs ∙ fits.inputs ∙ ap (inputs_of journal) (sym imported.bound);
  read = subst (λ (all : List (List Step)). IsFront all (packets journal)) (sym (ap read_by imported.session)) fits.read;
  known = only_kept old new imported fits.known;
}

pub keeps_imported : (old new : Bench) → HasImported old new → KeepsLearnt old.session.solver new.session.solver
keeps_imported old new imported = record {
  held = imported.held;
  steps = subst (IsFront old.session.solver.steps) (sym imported.steps) (same_front old.session.solver.steps);
  learnt = subst (IsFront old.session.solver.learnt) (sym imported.learnt) (same_front old.session.solver.learnt);
  packets = imported.stay;
}
