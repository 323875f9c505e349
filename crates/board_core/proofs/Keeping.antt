-- What a board keeps, after each kind of entry.
use Rattle.std.proofs.Common.{Option, ◌≡◌, ◌∙◌, ℕ, ◌+◌, ◌-◌, ◌<◌, ◌≤◌, Bool, true, false, Some, None, List, [], ◌∷◌, ◌++◌, length, refl, ap, sym, subst, arith, Vec, vec_len, vec_capacity}
use Rattle.std.specs.Prelude.{is_some, sum_by, slice_set, if◌then◌else◌}
use Rattle.std.specs.Arc.{arc_value}
use Rattle.std.specs.declared.sync.Arc.{Arc}
use Rattle.std.specs.declared.alloc.Global.{Global}
use Rattle.std.proofs.lemmas.List.{length_push, length-set, length-map}
use Rattle.std.proofs.lemmas.List.Sums.{count_by-le-length}
use Rattle.board_core.specs.declared.rank.Rank.{Rank}
use Rattle.trace_core.specs.declared.derivation.Packet.{Packet}
use Rattle.entry_core.specs.declared.entries.Entry.{Entry}
use Rattle.entry_core.specs.declared.entries.Event.TheVariants as event
use Rattle.entry_core.specs.declared.segments.Segment.{Segment}
use Rattle.entry_core.specs.Journal.{segment_of, segments, jobs, tagged_from, segment_literals, packet_of, packets as packets_of, is_closed}
use Rattle.entry_core.specs.Attempts.{attempts, is_open}
use Rattle.entry_core.specs.Legal.{IsClient, IsWorker, IsLegal, IsShareable}
use Rattle.board_core.specs.declared.board.Board.TheInside.{Inside}
use Rattle.board_core.specs.declared.index.Ending.TheVariants as ending
use Rattle.board_core.specs.declared.index.JobState.{JobState}
use Rattle.board_core.specs.Index.{state_at, rank_of, ranks_from, IsIndexOf, IsOrderly, room, IsCountable}
use Rattle.board_core.specs.Kept.{state_of, AreFew, IsKept}
use Rattle.board_core.specs.Overtaking.{next_ending}
use Rattle.board_core.specs.Replies.{IsUnsettled, HasRoomFor}
use Rattle.entry_core.proofs.FewAttempts.{attempts_are_few}
use Rattle.entry_core.proofs.LegalEntries.{legal_push}
use Rattle.board_core.proofs.Readings.{read_on}
use Rattle.board_core.proofs.Verdicts.{entry_by}
use Rattle.board_core.proofs.Indexed.{orderly_on}
use Rattle.board_core.proofs.Changes.{IsBase, same_segments, same_packets, index_closed, index_cancelled, index_grown, index_shared, index_added, added_state, jobs_push, inputs_push, literals_push}
use Rattle.board_core.proofs.Ranked.{ranks_push, ranks_set, ranks_length}
use Rattle.board_core.proofs.Tallies.{tally_le, tally_lt}

pub base_of : (a : Inside) → IsKept a → IsBase a.rules a.journal.items
base_of a kept = record { some = kept.limits.some_attempt; orderly = kept.orderly }

-- no job more
pub few_on : (journal : List Entry) (entry : Entry) → AreFew journal → segment_of entry.event ≡ None
    → length (packets_of (journal ++ entry ∷ [])) ≤ 4194304 → AreFew (journal ++ entry ∷ [])
few_on journal entry few adds shares =
    let same = same_segments journal entry adds in
    record {
      jobs = subst (λ n. n ≤ 1048576) (ap length (sym same)) few.jobs;
      clauses = subst (λ n. n ≤ 16777216) (ap (λ all. length (tagged_from 1 all)) (sym same)) few.clauses;
      literals = subst (λ n. n ≤ 33554432) (ap (sum_by segment_literals) (sym same)) few.literals;
      packets = shares;
    }

pub few_packets : (journal : List Entry) (entry : Entry) → AreFew journal → packet_of entry.event ≡ None → length (packets_of (journal ++ entry ∷ [])) ≤ 4194304
few_packets journal entry few none = subst (λ n. n ≤ 4194304) (ap length (sym (same_packets journal entry none))) few.packets

-- each job has its entrant
pub all_entered : (a : Inside) → IsKept a → length a.index.waiting ≡ length a.index.jobs.items
all_entered a kept = ap length kept.waiting ∙ ranks_length a.rules.attempts 1 a.index.jobs.items

pub ranks_written : (a : Inside) (states : Vec JobState Global) (waiting : List (Option Rank)) (job : ℕ) (state : JobState) → IsKept a → 1 ≤ job
    → states.items ≡ slice_set a.index.jobs.items (job - 1) state → waiting ≡ slice_set a.index.waiting (job - 1) (rank_of a.rules.attempts job state)
    → waiting ≡ ranks_from a.rules.attempts 1 states.items
ranks_written a states waiting job state kept from written ranked =
    let place : job ≡ 1 + (job - 1) = omega arith in
    ranked ∙ ap (λ all. slice_set all (job - 1) (rank_of a.rules.attempts job state)) kept.waiting
    ∙ ap (λ n. slice_set (ranks_from a.rules.attempts 1 a.index.jobs.items) (job - 1) (rank_of a.rules.attempts n state)) place
    ∙ sym (ranks_set a.rules.attempts 1 a.index.jobs.items (job - 1) state) ∙ ap (ranks_from a.rules.attempts 1) (sym written)

pub kept_closed : (a : Inside) (after : Vec Entry Global) (caller place : ℕ) → IsKept a → IsClient a.rules caller → a.index.closed ≡ None
    → after.items ≡ a.journal.items ++ entry_by caller event.Closed ∷ [] → vec_capacity after ≡ vec_capacity a.journal → place ≡ vec_len after
    → IsKept (record a { journal = after; index = record a.index { closed = Some place } })
kept_closed a after caller place kept client none more capacity here =
    let entry : Entry = entry_by caller event.Closed in
    let not_closed : is_closed a.journal.items ≡ false = sym kept.index.closed ∙ ap is_some none in
    let longer : length after.items ≡ length a.journal.items + 1 = ap length more ∙ length_push a.journal.items entry in
    let owed : is_some a.index.closed ≡ false = ap is_some none in
    record {
      limits = kept.limits;
      legal = subst (IsLegal a.rules) (sym more) (legal_push a.rules a.journal.items entry kept.legal (record { client = client; not_closed = not_closed }));
      few = subst AreFew (sym more) (few_on a.journal.items entry kept.few refl (few_packets a.journal.items entry kept.few refl));
      orderly = subst IsOrderly (sym more) (orderly_on a.journal.items entry kept.orderly refl (λ n is. absurd (cc)));
      index = subst (λ all. IsIndexOf a.rules all (record a.index { closed = Some place })) (sym more) (index_closed a.rules a.journal.items a.index caller place (base_of a kept) kept.index none (here ∙ after.ok.0 ∙ longer));
      waiting = kept.waiting;
      room = room_closed (length a.index.jobs.items - a.index.settled) a.index.open_now _ _ _ _ (is_some a.index.closed) owed kept.room longer capacity;
    }
  where
    room_closed : (x y size size' cap cap' : ℕ) (b : Bool) → b ≡ false → size + (x + y + (if b then 0 else 1)) ≤ cap → size' ≡ size + 1 → cap' ≡ cap → size' + (x + y + 0) ≤ cap'
    room_closed x y size size' cap cap' true is le more same = absurd (cc)
    room_closed x y size size' cap cap' false is le more same = omega arith

-- there is room for what ends an unsettled job
pub unsettled_lt : (a : Inside) (job : ℕ) → IsKept a → IsUnsettled (state_of a) job → a.index.settled < length a.index.jobs.items
unsettled_lt a job kept unsettled =
    let lt = tally_lt a.rules a.journal.items (jobs a.journal.items) job unsettled.there.from_one unsettled.there.added unsettled.unsettled in
    let e = kept.index.jobs in let s = kept.index.settled in omega arith

pub room_for_end : (a : Inside) (job : ℕ) → IsKept a → IsUnsettled (state_of a) job → vec_len a.journal < vec_capacity a.journal
room_for_end a job kept unsettled =
    let lt = unsettled_lt a job kept unsettled in
    let size = a.journal.ok.0 in
    left (length a.index.jobs.items) a.index.settled a.index.open_now _ _ (is_some a.index.closed) lt size kept.room
  where
    left : (jobs settled opened size most : ℕ) (b : Bool) → settled < jobs → vec_len a.journal ≡ size → size + ((jobs - settled) + opened + (if b then 0 else 1)) ≤ most → vec_len a.journal < most
    left jobs settled opened size most true lt is le = omega arith
    left jobs settled opened size most false lt is le = omega arith

pub settled_few : (a : Inside) → IsKept a → a.index.settled ≤ 1048576
settled_few a kept =
    let le = tally_le a.rules a.journal.items (jobs a.journal.items) in
    let s = kept.index.settled in let few = kept.few.jobs in omega arith

pub kept_cancelled : (a : Inside) (after : Vec Entry Global) (states : Vec JobState Global) (waiting : List (Option Rank)) (caller job : ℕ) → IsKept a → IsClient a.rules caller → IsUnsettled (state_of a) job
    → after.items ≡ a.journal.items ++ entry_by caller (event.Cancelled job) ∷ [] → vec_capacity after ≡ vec_capacity a.journal
    → states.items ≡ slice_set a.index.jobs.items (job - 1) (record (state_at a.index.jobs.items job) { ending = Some (ending.Cancelled 0) })
    → waiting ≡ slice_set a.index.waiting (job - 1) (rank_of a.rules.attempts job (record (state_at a.index.jobs.items job) { ending = Some (ending.Cancelled 0) }))
    → IsKept (record a { journal = after; index = record a.index { jobs = states; waiting = waiting; settled = a.index.settled + 1 } })
kept_cancelled a after states waiting caller job kept client unsettled more capacity written ranked =
    let entry : Entry = entry_by caller (event.Cancelled job) in
    let longer : length after.items ≡ length a.journal.items + 1 = ap length more ∙ length_push a.journal.items entry in
    let size : length states.items ≡ length a.index.jobs.items = ap length written ∙ length-set a.index.jobs.items (job - 1) (record (state_at a.index.jobs.items job) { ending = Some (ending.Cancelled 0) }) in
    record {
      limits = kept.limits;
      legal = subst (IsLegal a.rules) (sym more) (legal_push a.rules a.journal.items entry kept.legal
          (record { client = client; from_one = unsettled.there.from_one; added = unsettled.there.added; unsettled = unsettled.unsettled }));
      few = subst AreFew (sym more) (few_on a.journal.items entry kept.few refl (few_packets a.journal.items entry kept.few refl));
      orderly = subst IsOrderly (sym more) (orderly_on a.journal.items entry kept.orderly refl (λ n is. absurd (cc)));
      index = subst (λ all. IsIndexOf a.rules all (record a.index { jobs = states; waiting = waiting; settled = a.index.settled + 1 })) (sym more)
          (index_cancelled a.rules a.journal.items a.index caller job states waiting (base_of a kept) kept.index unsettled.there.from_one unsettled.there.added unsettled.unsettled written);
      waiting = ranks_written a states waiting job (record (state_at a.index.jobs.items job) { ending = Some (ending.Cancelled 0) }) kept unsettled.there.from_one written ranked;
      room = room_settled (length a.index.jobs.items) (length states.items) a.index.settled a.index.open_now _ _ _ _ (is_some a.index.closed) (unsettled_lt a job kept unsettled) size kept.room longer capacity;
    }
  where
    room_settled : (n n' s o size size' most most' : ℕ) (b : Bool) → s < n → n' ≡ n → size + ((n - s) + o + (if b then 0 else 1)) ≤ most → size' ≡ size + 1 → most' ≡ most
        → size' + ((n' - (s + 1)) + o + (if b then 0 else 1)) ≤ most'
    room_settled n n' s o size size' most most' true lt e le more same = omega arith
    room_settled n n' s o size size' most most' false lt e le more same = omega arith

-- The attempts on a board are few.
pub few_begun : (a : Inside) → IsKept a → length (attempts a.journal.items) ≤ 67108864
few_begun a kept = (attempts_are_few a.rules a.journal.items kept.legal).most kept.limits

pub countable : (a : Inside) → IsKept a → IsCountable a.index
countable a kept = record {
  settled = let le = tally_le a.rules a.journal.items (jobs a.journal.items) in let s = kept.index.settled in let e = kept.index.jobs in omega arith;
  jobs = let e = kept.index.jobs in let few = kept.few.jobs in omega arith;
  open_now = let le = count_by-le-length (is_open a.journal.items) (attempts a.journal.items) in let e = kept.index.open_now in let few = few_begun a kept in omega arith;
}

-- more room
pub kept_grown : (a : Inside) (after : Vec Entry Global) (states : Vec JobState Global) (added : Vec (Arc Segment Global) Global) (packets : Vec (Arc Packet Global) Global) (begun : Vec ℕ Global) (waiting : List (Option Rank)) → IsKept a
    → after.items ≡ a.journal.items → vec_capacity a.journal ≤ vec_capacity after
    → states.items ≡ a.index.jobs.items → added.items ≡ a.index.segments.items → packets.items ≡ a.index.packets.items → begun.items ≡ a.index.attempts.items → waiting ≡ a.index.waiting
    → IsKept (record a { journal = after; index = record a.index { jobs = states; segments = added; packets = packets; attempts = begun; waiting = waiting } })
kept_grown a after states added packets begun waiting kept same grown same_states same_added same_packets same_begun same_waiting =
    let size : length after.items ≡ length a.journal.items = ap length same in
    let count : length states.items ≡ length a.index.jobs.items = ap length same_states in
    record {
      limits = kept.limits;
      legal = subst (IsLegal a.rules) (sym same) kept.legal;
      few = subst AreFew (sym same) kept.few;
      orderly = subst IsOrderly (sym same) kept.orderly;
      index = subst (λ all. IsIndexOf a.rules all (record a.index { jobs = states; segments = added; packets = packets; attempts = begun; waiting = waiting })) (sym same)
          (index_grown a.rules a.journal.items a.index states added packets begun waiting same_states same_added same_packets same_begun kept.index);
      waiting = same_waiting ∙ kept.waiting ∙ ap (ranks_from a.rules.attempts 1) (sym same_states);
      room = room_grown (length a.index.jobs.items) (length states.items) a.index.settled a.index.open_now _ _ _ _ (is_some a.index.closed) count kept.room size grown;
    }
  where
    room_grown : (n n' s o size size' most most' : ℕ) (b : Bool) → n' ≡ n → size + ((n - s) + o + (if b then 0 else 1)) ≤ most → size' ≡ size → most ≤ most'
        → size' + ((n' - s) + o + (if b then 0 else 1)) ≤ most'
    room_grown n n' s o size size' most most' true e le same more = omega arith
    room_grown n n' s o size size' most most' false e le same more = omega arith

pub kept_shared : (a : Inside) (after : Vec Entry Global) (packets : Vec (Arc Packet Global) Global) (caller : ℕ) (packet copy : Arc Packet Global) → IsKept a → IsWorker a.rules caller
    → IsShareable a.journal.items (arc_value packet) → vec_len a.index.packets < 4194304
    → after.items ≡ a.journal.items ++ entry_by caller (event.Shared packet) ∷ [] → vec_len a.journal + (room a.index + 1) ≤ vec_capacity after
    → packets.items ≡ a.index.packets.items ++ copy ∷ [] → arc_value copy ≡ arc_value packet
    → IsKept (record a { journal = after; index = record a.index { packets = packets } })
kept_shared a after packets caller packet copy kept worker shareable few more spare more_packets same =
    let entry : Entry = entry_by caller (event.Shared packet) in
    let number : vec_len a.index.packets ≡ length (packets_of a.journal.items) =
    a.index.packets.ok.0 ∙ sym (length-map a.index.packets.items arc_value) ∙ ap length kept.index.packets in
    let longer : length after.items ≡ length a.journal.items + 1 = ap length more ∙ length_push a.journal.items entry in
    let one_more : length (packets_of (a.journal.items ++ entry ∷ [])) ≡ length (packets_of a.journal.items) + 1 =
    ap length (read_on (λ (e : Entry). packet_of e.event) a.journal.items entry (arc_value packet) refl) ∙ length_push (packets_of a.journal.items) (arc_value packet) in
    record {
      limits = kept.limits;
      legal = subst (IsLegal a.rules) (sym more) (legal_push a.rules a.journal.items entry kept.legal (record { worker = worker; few = omega arith; shareable = shareable }));
      few = subst AreFew (sym more) (few_on a.journal.items entry kept.few refl (omega arith));
      orderly = subst IsOrderly (sym more) (orderly_on a.journal.items entry kept.orderly refl (λ n is. absurd (cc)));
      index = subst (λ all. IsIndexOf a.rules all (record a.index { packets = packets })) (sym more)
          (index_shared a.rules a.journal.items a.index caller packet copy packets (base_of a kept) kept.index more_packets same);
      waiting = kept.waiting;
      room = let size = a.journal.ok.0 in room_shared (room a.index) _ _ _ _ spare size longer;
    }
  where
    room_shared : (owed len size size' most : ℕ) → len + (owed + 1) ≤ most → len ≡ size → size' ≡ size + 1 → size' + owed ≤ most
    room_shared owed len size size' most spare same longer = omega arith

pub kept_added : (a : Inside) (after : Vec Entry Global) (states : Vec JobState Global) (added : Vec (Arc Segment Global) Global) (waiting : List (Option Rank)) (caller : ℕ) (segment copy : Arc Segment Global) (clauses occurrences tally : ℕ)
    → IsKept a → IsClient a.rules caller → HasRoomFor (state_of a) (arc_value segment)
    → after.items ≡ a.journal.items ++ entry_by caller (event.Added segment) ∷ [] → vec_len a.journal + (room a.index + 2) ≤ vec_capacity after
    → states.items ≡ a.index.jobs.items ++ added_state a.index ∷ [] → added.items ≡ a.index.segments.items ++ copy ∷ [] → arc_value copy ≡ arc_value segment
    → clauses ≡ length (arc_value segment).clauses → occurrences ≡ segment_literals (arc_value segment)
    → waiting ≡ a.index.waiting ++ rank_of a.rules.attempts (length a.index.jobs.items + 1) (added_state a.index) ∷ []
    → tally ≡ (if is_some (next_ending a.index.models) then 1 else 0)
    → IsKept (record a {
      journal = after;
      index = record a.index { jobs = states; segments = added; waiting = waiting; clauses = a.index.clauses + clauses; literals = a.index.literals + occurrences; settled = a.index.settled + tally };
    })
kept_added a after states added waiting caller segment copy clauses occurrences tally kept client fits more spare more_states more_added same same_clauses same_literals ranked tallied =
    let entry : Entry = entry_by caller (event.Added segment) in
    let longer : length after.items ≡ length a.journal.items + 1 = ap length more ∙ length_push a.journal.items entry in
    let count : length states.items ≡ length a.index.jobs.items + 1 = ap length more_states ∙ length_push a.index.jobs.items (added_state a.index) in
    let seen : segments (a.journal.items ++ entry ∷ []) ≡ segments a.journal.items ++ arc_value segment ∷ [] = read_on (λ (e : Entry). segment_of e.event) a.journal.items entry (arc_value segment) refl in
    let not_closed : is_closed a.journal.items ≡ false = sym kept.index.closed ∙ ap is_some (kept.index.place ∙ fits.clauses.job.open_yet) in
    let counts = countable a kept in
    record {
      limits = kept.limits;
      legal = subst (IsLegal a.rules) (sym more) (legal_push a.rules a.journal.items entry kept.legal
          (record { client = client; not_closed = not_closed; few_jobs = fits.clauses.job.few_jobs; few_clauses = fits.clauses.few_clauses; few_literals = fits.few_literals }));
      few = subst AreFew (sym more) (record {
        jobs = let e = jobs_push a.journal.items entry (arc_value segment) seen in let le = fits.clauses.job.few_jobs in omega arith;
        clauses = let e = inputs_push a.journal.items entry (arc_value segment) seen in let le = fits.clauses.few_clauses in omega arith;
        literals = let e = literals_push a.journal.items entry (arc_value segment) seen in let le = fits.few_literals in omega arith;
        packets = few_packets a.journal.items entry kept.few refl;
      });
      orderly = subst IsOrderly (sym more) (orderly_on a.journal.items entry kept.orderly refl (λ n is. absurd (cc)));
      index = subst (λ all. IsIndexOf a.rules all (record a.index { jobs = states; segments = added; waiting = waiting; clauses = a.index.clauses + clauses; literals = a.index.literals + occurrences; settled = a.index.settled + tally })) (sym more)
          (index_added a.rules a.journal.items a.index caller segment copy states added waiting clauses occurrences tally (base_of a kept) kept.index more_states more_added same same_clauses same_literals tallied);
      waiting = ranked ∙ ap (λ all. all ++ rank_of a.rules.attempts (length a.index.jobs.items + 1) (added_state a.index) ∷ []) kept.waiting
          ∙ ap (λ n. ranks_from a.rules.attempts 1 a.index.jobs.items ++ rank_of a.rules.attempts n (added_state a.index) ∷ []) (let e : length a.index.jobs.items + 1 ≡ 1 + length a.index.jobs.items = omega arith in e)
          ∙ sym (ranks_push a.rules.attempts 1 a.index.jobs.items (added_state a.index)) ∙ ap (ranks_from a.rules.attempts 1) (sym more_states);
      room = let size = a.journal.ok.0 in
          room_added (length a.index.jobs.items) (length states.items) a.index.settled tally a.index.open_now _ _ _ _ (is_some a.index.closed) counts.settled count spare size longer;
    }
  where
    room_added : (n n' s more o len size size' most : ℕ) (b : Bool) → s ≤ n → n' ≡ n + 1 → len + (((n - s) + o + (if b then 0 else 1)) + 2) ≤ most → len ≡ size → size' ≡ size + 1
        → size' + ((n' - (s + more)) + o + (if b then 0 else 1)) ≤ most
    room_added n n' s more o len size size' most true le count spare same longer = omega arith
    room_added n n' s more o len size size' most false le count spare same longer = omega arith
