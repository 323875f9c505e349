-- What a worker shares is allowed, and a bench goes on to fit where it reads and shares.
use Rattle.std.proofs.Common.{◌≡◌, ◌≢◌, ◌∙◌, ◌⊎◌, inl, inr, ℕ, ◌+◌, ◌<◌, ◌≤◌, List, [], ◌∷◌, ◌++◌, length, drop, Option, Some, None, refl, ap, sym, subst, arith, append_assoc, append-nil, length-append}
use Rattle.std.specs.Prelude.{Contains, IsSome}
use Rattle.std.specs.Arc.{arc_value}
use Rattle.std.specs.declared.sync.Arc.{Arc}
use Rattle.std.specs.declared.alloc.Global.{Global}
use Rattle.std.proofs.lemmas.Bool.{cases_eq}
use Rattle.std.proofs.lemmas.Option.{same_Some}
use Rattle.std.proofs.lemmas.List.Elements.{All-nil, All-cons, All-append, All-contains, Contains-append_left, Contains-append_right}
use Rattle.std.proofs.Math.Seq.{drop-append_seam}
use Rattle.sat_base.specs.Lit.{IsTautology, greatest_of, greatest_of_all}
use Rattle.sat_base.specs.Limits.{most_packets}
use Rattle.sat_base.specs.declared.origins.Ref.{Ref}
use Rattle.sat_base.proofs.Members.{All-from_members, Contains-here}
use Rattle.trace_core.specs.Known.{Known, known, item_at}
use Rattle.trace_core.specs.Law.{clauses_up_to}
use Rattle.trace_core.specs.Trace.{known_of}
use Rattle.trace_core.specs.declared.derivation.Packet.{Packet}
use Rattle.trace_core.specs.declared.derivation.Step.{Step}
use Rattle.trace_core.proofs.Elsewhere.{known_up_to, ok_elsewhere}
use Rattle.trace_core.proofs.Items.{item_at-append, item_at-last, item_at-within}
use Rattle.trace_trim.specs.Packed.{ends_in}
use Rattle.entry_core.specs.declared.entries.Entry.{Entry}
use Rattle.entry_core.specs.declared.entries.Event.TheVariants as event
use Rattle.entry_core.specs.Journal.{inputs, inputs_of, packets, packet_of, shared}
use Rattle.entry_core.specs.Legal.{IsShareable}
use Rattle.entry_core.proofs.Inputs.{inputs_of_agree}
use Rattle.entry_core.proofs.LongerJournals.{packets-append}
use Rattle.board_core.specs.State.{State, entered}
use Rattle.board_core.proofs.Readings.{read_on}
use Rattle.board_core.proofs.Verdicts.{entry_by}
use Rattle.session.specs.Solver.{Solver, IsSound, IsStep, packet_at, shared_by}
use Rattle.session.specs.Sharing.{Knows}
use Rattle.session.specs.Publishing.{IsSharable}
use Rattle.session.proofs.Lists.{All-push}
use Rattle.session.proofs.Names.{place_keeps}
use Rattle.worker_loop.specs.declared.bench.Bench.{Bench}
use Rattle.worker_loop.specs.Asked.{clause_at}
use Rattle.worker_loop.specs.Fits.{Fits, KnowsOnlyRead, read_by}
use Rattle.worker_loop.specs.Shared.{HasShared, HasSharedMore, IsLesson, IsPacketClause, IsShared, IsSharing, KnowsMore}
use Rattle.worker_loop.proofs.Bounded.{last_known}
use Rattle.worker_loop.proofs.Earlier.{made_known}
use Rattle.worker_loop.proofs.Fitting.{fits_longer}
use Rattle.worker_loop.proofs.Imports.{clauses_same}
use Rattle.worker_loop.proofs.Traced.{named_by_all}

-- Entries that share.

pub shared_none : (board : State) (caller : ℕ) → HasSharedMore board board caller
shared_none board caller = record {
  rules = refl;
  more = [];
  is = sym (append-nil board.journal);
  own = All-nil (λ (entry : Entry). entry.caller ≡ caller);
  sharing = All-nil (λ (entry : Entry). IsSharing entry.event);
}

pub shared_twice : (old mid new : State) (caller : ℕ) → HasSharedMore old mid caller → HasSharedMore mid new caller → HasSharedMore old new caller
shared_twice old mid new caller a b = record {
  rules = b.rules ∙ a.rules;
  more = a.more ++ b.more;
  is = b.is ∙ ap (λ (all : List Entry). all ++ b.more) a.is ∙ append_assoc old.journal a.more b.more;
  own = All-append (λ (entry : Entry). entry.caller ≡ caller) a.more b.more a.own b.own;
  sharing = All-append (λ (entry : Entry). IsSharing entry.event) a.more b.more a.sharing b.sharing;
}

pub shared_entry : (old new : State) (caller : ℕ) (packet : Arc Packet Global) → new ≡ entered old caller (event.Shared packet) → HasSharedMore old new caller
shared_entry old new caller packet is = record {
  rules = ap (λ (b : State). b.rules) is;
  more = entry_by caller (event.Shared packet) ∷ [];
  is = ap (λ (b : State). b.journal) is;
  own = All-cons (λ (entry : Entry). entry.caller ≡ caller) (entry_by caller (event.Shared packet)) [] refl (All-nil (λ (entry : Entry). entry.caller ≡ caller));
  sharing = All-cons (λ (entry : Entry). IsSharing entry.event) (entry_by caller (event.Shared packet)) [] tt (All-nil (λ (entry : Entry). IsSharing entry.event));
}

-- What the session knows.

pub knows_itself : (solver : Solver) → KnowsMore solver solver
knows_itself solver = record { same = refl; stay = λ place packet is. is }

pub knows_twice : (old mid new : Solver) → KnowsMore old mid → KnowsMore mid new → KnowsMore old new
knows_twice old mid new a b = record {
  same = b.same ∙ ap (λ (solver : Solver). record solver { packets = new.packets }) a.same;
  stay = λ place packet is. b.stay place packet (a.stay place packet is);
}

pub knows_place : (old new : Solver) (place : ℕ) (packet : List Step) → Knows old new place packet → packet_at old.packets place ≡ None → KnowsMore old new
knows_place old new place packet knows free = record { same = knows.same; stay = place_keeps old.packets new.packets place packet knows.packets free }

-- the place behind all that were read isn't known
pub free_place : (bench : Bench) (place : ℕ) → KnowsOnlyRead bench → place ≡ length (read_by bench) + 1 → packet_at bench.session.solver.packets place ≡ None
free_place bench place only next = by_packet (packet_at bench.session.solver.packets place) refl
  where
    by_packet : (found : Option (List Step)) → packet_at bench.session.solver.packets place ≡ found → packet_at bench.session.solver.packets place ≡ None
    by_packet None is = is
    by_packet (Some packet) is =
        let within = item_at-within (read_by bench) place (subst IsSome (sym (only place packet is)) refl) in
        absurd (omega (arith, within.1, next))

-- Benches that read.

pub has_read : (bench new : Bench) (journal : List Entry) (count : ℕ) (came : List (List Step)) → Fits bench journal → new.session ≡ bench.session
    → read_by new ≡ read_by bench ++ came → came ≡ drop count (packets journal) → count ≡ length (read_by bench) → (read_by new ≡ packets journal) × Fits new journal
has_read bench new journal count came fits same longer rest counted =
    let all : read_by new ≡ packets journal =
    longer ∙ ap (λ (more : List (List Step)). read_by bench ++ more)
    (rest ∙ ap (λ n. drop n (packets journal)) counted ∙ ap (λ (ps : List (List Step)). drop (length (read_by bench)) ps) fits.read.is
    ∙ drop-append_seam (read_by bench) fits.read.more) ∙ sym fits.read.is in (
      all,
      record {
        added = omega (arith, fits.added, ap (λ s. s.solver.bound) same);
        inputs = ap (λ s. s.solver.inputs) same ∙ fits.inputs ∙ ap (λ s. inputs_of journal s.solver.bound) (sym same);
        read = record { more = []; is = sym all ∙ sym (append-nil (read_by new)) };
        known = λ place packet is.
            ap (λ (ps : List (List Step)). item_at ps place) longer
            ∙ item_at-append (read_by bench) came place packet (fits.known place packet (ap (λ s. packet_at s.solver.packets place) (sym same) ∙ is));
      },
    )

-- A packet ends in a step.

ends : {X : Type 0} (x : X) (xs : List X) → (front : List X) × (last : X) × (x ∷ xs ≡ front ++ last ∷ [])
ends x [] = ([], x, refl)
ends x (y ∷ xs) = let rest = ends y xs in (x ∷ rest.0, rest.1, ap (λ all. x ∷ all) rest.2)

pub last_of : (packet : List Step) (one : Known) → ends_in packet ≡ Some one → (front : List Step) × (last : Step) × (packet ≡ front ++ last ∷ []) × (known_of last ≡ one)
last_of [] one is = absurd (cc)
last_of (step ∷ packet) one is =
    let split = ends step packet in
    (split.0, split.1, split.2, same_Some (known_of split.1) one (sym (last_known (step ∷ packet) split.0 split.1 split.2) ∙ is))

-- The packet of a short lesson may be shared.
pub shareable : (bench : Bench) (journal : List Entry) (one : Known) (packet : List Step) → Fits bench journal → IsSound bench.session.solver → read_by bench ≡ packets journal
    → IsSharable bench.session.solver one packet → Contains bench.session.solver.held one → (IsTautology one.clause → ⊥) → length one.clause ≤ 8 → IsShareable journal packet
shareable bench journal one packet fits sound read s held proper short = from_split (last_of packet one s.ends)
  where
    solver : Solver
    solver = bench.session.solver

    from_split : (front : List Step) × (last : Step) × (packet ≡ front ++ last ∷ []) × (known_of last ≡ one) → IsShareable journal packet
    from_split (front, last, is, same) = record {
      front = front;
      last = last;
      ends = is;
      proper = λ t. proper (subst IsTautology clause t);
      short = omega (arith, ap length clause, short);
      added = omega (arith, low, fits.added);
      ok = ok_elsewhere solver.inputs (inputs_of journal last.tag) (shared_by solver.packets) (shared journal) [] packet keeps s.ok;
      tags = All-from_members (λ (step : Step). step.tag ≤ last.tag) packet (λ step has. (let le = s.tags step has in omega (arith, le, tag)));
      within = subst (λ (clauses : List (List ℕ)). greatest_of last.clause ≤ greatest_of_all clauses)
          (ap (λ (all : List Known). clauses_up_to all last.tag) fits.inputs ∙ clauses_same journal last.tag solver.bound low)
          (subst (λ (k : Known). greatest_of k.clause ≤ greatest_of_all (clauses_up_to solver.inputs k.tag)) (sym same) s.within);
    }
      where
        tag : last.tag ≡ one.tag
        tag = ap (λ (k : Known). k.tag) same

        clause : last.clause ≡ one.clause
        clause = ap (λ (k : Known). k.clause) same

        low : last.tag ≤ solver.bound
        low = let le = All-contains (λ (k : Known). k.tag ≤ solver.bound) solver.held one sound.bounded held in omega (arith, le, tag)

        keeps : (own : List Known) (step : Step) (name : Ref) (k : Known) → Contains packet step → k.tag ≤ step.tag
            → known solver.inputs (shared_by solver.packets) own name ≡ Some k → known (inputs_of journal last.tag) (shared journal) own name ≡ Some k
        keeps own step name k has below found =
            let under = s.tags step has in
            known_up_to last.tag (inputs journal) (inputs_of journal last.tag) (shared journal) own name k (inputs_of_agree journal last.tag) (omega (arith, below, under, tag))
            (subst (λ (ps : List (List Step)). known (inputs journal) (made_known ps) own name ≡ Some k) read (named_by_all journal bench own name k fits found))

-- Benches that share.

pub fits_shared : (bench new : Bench) (before after : State) (caller place : ℕ) (given : Arc Packet Global) → Fits bench before.journal → read_by bench ≡ packets before.journal
    → after ≡ entered before caller (event.Shared given) → Knows bench.session.solver new.session.solver place (arc_value given) → place ≡ length (packets before.journal) + 1
    → read_by new ≡ read_by bench ++ arc_value given ∷ [] → (read_by new ≡ packets after.journal) × Fits new after.journal
fits_shared bench new before after caller place given fits read is knows next longer =
    let entry : Entry = entry_by caller (event.Shared given) in
    let more : packets after.journal ≡ packets before.journal ++ arc_value given ∷ [] =
    ap (λ (b : State). packets b.journal) is ∙ read_on (λ (e : Entry). packet_of e.event) before.journal entry (arc_value given) refl in
    let all : read_by new ≡ packets after.journal = longer ∙ ap (λ (ps : List (List Step)). ps ++ arc_value given ∷ []) read ∙ sym more in
    let kept : Fits bench after.journal = subst (λ (b : State). Fits bench b.journal) (sym is) (fits_longer bench before.journal (entry ∷ []) fits) in (
      all,
      record {
        added = omega (arith, kept.added, ap (λ (s : Solver). s.bound) knows.same);
        inputs = ap (λ (s : Solver). s.inputs) knows.same ∙ kept.inputs ∙ ap (λ (s : Solver). inputs_of after.journal s.bound) (sym knows.same);
        read = record { more = []; is = sym all ∙ sym (append-nil (read_by new)) };
        known = λ other packet found. by_place other packet found (cases_eq other place);
      },
    )
  where
    by_place : (other : ℕ) (packet : List Step) → packet_at new.session.solver.packets other ≡ Some packet → (other ≡ place) ⊎ (other ≢ place) → item_at (read_by new) other ≡ Some packet
    by_place other packet found (inl same) =
        let last : item_at (read_by bench ++ arc_value given ∷ []) other ≡ Some (arc_value given) =
        item_at-last (read_by bench) (arc_value given) other (omega (arith, same, next, ap length read)) in
        ap (λ (ps : List (List Step)). item_at ps other) longer ∙ last ∙ sym knows.packets.here ∙ ap (packet_at new.session.solver.packets) (sym same) ∙ found
    by_place other packet found (inr apart) =
        ap (λ (ps : List (List Step)). item_at ps other) longer
        ∙ item_at-append (read_by bench) (arc_value given ∷ []) other packet (fits.known other packet (sym (knows.packets.elsewhere other apart) ∙ found))

-- What is shared stays so.

shared_still : (steps : List Step) (old new : State) (caller number : ℕ) → HasSharedMore old new caller → length (packets new.journal) ≤ most_packets → IsShared steps old.journal number → IsShared steps new.journal number
shared_still steps old new caller number more few was short = by_case (was short)
  where
    longer : packets new.journal ≡ packets old.journal ++ packets more.more
    longer = ap packets more.is ∙ packets-append old.journal more.more

    by_case : IsPacketClause steps old.journal number ⊎ (length (packets old.journal) ≡ most_packets) → IsPacketClause steps new.journal number ⊎ (length (packets new.journal) ≡ most_packets)
    by_case (inl (packet, has, is)) = inl (packet, subst (λ (ps : List (List Step)). Contains ps packet) (sym longer) (Contains-append_left (packets old.journal) (packets more.more) packet has), is)
    by_case (inr full) = inr (omega (arith, full, few, ap length longer, length-append (packets old.journal) (packets more.more)))

pub nothing_shared : (board : State) (bench : Bench) → Fits bench board.journal → read_by bench ≡ packets board.journal → HasShared board bench bench []
nothing_shared board bench fits read = record { fits = fits; read = read; session = knows_itself bench.session.solver; shared = All-nil (IsShared bench.session.solver.steps board.journal) }

pub shared_on : (mid new : State) (caller : ℕ) (bench between bench' : Bench) (front : List ℕ) (number : ℕ) → HasSharedMore mid new caller → length (packets new.journal) ≤ most_packets
    → HasShared mid bench between front → HasShared new between bench' (number ∷ []) → HasShared new bench bench' (front ++ number ∷ [])
shared_on mid new caller bench between bench' front number more few a b = record {
  fits = b.fits;
  read = b.read;
  session = knows_twice bench.session.solver between.session.solver bench'.session.solver a.session b.session;
  shared = All-push (IsShared bench.session.solver.steps new.journal) front number
      (All-from_members (IsShared bench.session.solver.steps new.journal) front (λ n has.
      shared_still bench.session.solver.steps mid new caller n more few (All-contains (IsShared bench.session.solver.steps mid.journal) front n a.shared has)))
      (subst (λ (steps : List Step). IsShared steps new.journal number) (ap (λ (s : Solver). s.steps) a.session.same) (All-contains (IsShared between.session.solver.steps new.journal) (number ∷ []) number b.shared (Contains-here number [])));
}

pub lessons_stay : (old new : Solver) (number : ℕ) → KnowsMore old new → IsLesson old number → IsLesson new number
lessons_stay old new number more lesson = subst (λ (s : Solver). IsLesson s number) (sym more.same) lesson

-- a long clause is kept
pub kept_long : (board : State) (bench : Bench) (number : ℕ) → Fits bench board.journal → read_by bench ≡ packets board.journal → 8 < length (clause_at bench.session.solver.steps number) → HasShared board bench bench (number ∷ [])
kept_long board bench number fits read long = record {
  fits = fits;
  read = read;
  session = knows_itself bench.session.solver;
  shared = All-cons (IsShared bench.session.solver.steps board.journal) number [] (λ short. absurd (omega (arith, long, short))) (All-nil (IsShared bench.session.solver.steps board.journal));
}

pub no_room : (board : State) (bench : Bench) (number : ℕ) → Fits bench board.journal → read_by bench ≡ packets board.journal → length (packets board.journal) ≡ most_packets → HasShared board bench bench (number ∷ [])
no_room board bench number fits read full = record {
  fits = fits;
  read = read;
  session = knows_itself bench.session.solver;
  shared = All-cons (IsShared bench.session.solver.steps board.journal) number [] (λ short. inr full) (All-nil (IsShared bench.session.solver.steps board.journal));
}

pub one_shared : (bench new : Bench) (before after : State) (caller place number : ℕ) (given : Arc Packet Global) (one : Known) → Fits bench before.journal → read_by bench ≡ packets before.journal
    → after ≡ entered before caller (event.Shared given) → Knows bench.session.solver new.session.solver place (arc_value given) → place ≡ length (packets before.journal) + 1
    → read_by new ≡ read_by bench ++ arc_value given ∷ [] → IsStep bench.session.solver.steps number one → ends_in (arc_value given) ≡ Some one → HasShared after bench new (number ∷ [])
one_shared bench new before after caller place number given one fits read is knows next longer step last =
    let now = fits_shared bench new before after caller place given fits read is knows next longer in
    let has : Contains (packets after.journal) (arc_value given) =
    subst (λ (ps : List (List Step)). Contains ps (arc_value given)) now.0
    (subst (λ (ps : List (List Step)). Contains ps (arc_value given)) (sym longer) (Contains-append_right (read_by bench) (arc_value given ∷ []) (arc_value given) (Contains-here (arc_value given) []))) in
    record {
      fits = now.1;
      read = now.0;
      session = knows_place bench.session.solver new.session.solver place (arc_value given) knows
          (free_place bench place fits.known (omega (arith, next, ap length read)));
      shared = All-cons (IsShared bench.session.solver.steps after.journal) number [] (λ short. inl (arc_value given, has, last ∙ sym step)) (All-nil (IsShared bench.session.solver.steps after.journal));
    }
