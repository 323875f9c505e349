-- The passes of a crew: how they begin, how they come back, and what they say of the board.
use Rattle.std.proofs.Common.{◌≡◌, ◌∙◌, ℕ, zero, suc, ◌+◌, ◌<◌, ◌≤◌, Bool, true, false, List, []}
use Rattle.std.proofs.Common.{◌∷◌}
use Rattle.std.proofs.Common.{◌++◌, length, refl, ap, sym, subst, arith, cond, Option, None, Some}
use Rattle.std.proofs.Common.{inl, inr, eq-eqb}
use Rattle.std.specs.Prelude.{◌⊎◌, ◌==◌, All, IsSome, filter, filter_map, slice_index_or}
use Rattle.std.specs.Vec.{vec_capacity, vec_len}
use Rattle.std.specs.List.{cons_option}
use Rattle.std.proofs.lemmas.List.{length-append}
use Rattle.std.proofs.lemmas.List.Elements.{All-cons, All-head, All-nil, All-tail}
use Rattle.entry_core.specs.declared.entries.Entry.{Entry}
use Rattle.entry_core.specs.declared.entries.Event.{Event}
use Rattle.entry_core.specs.declared.entries.Event.TheVariants as event
use Rattle.entry_core.specs.declared.rules.Rules.{Rules}
use Rattle.entry_core.specs.Journal.{jobs, segment_of, segments}
use Rattle.entry_core.specs.Legal.{IsAllowed, IsClient, IsLegal, IsLegalAfter}
use Rattle.entry_core.specs.Settled.{cancelled, cancelled_by}
use Rattle.board_core.specs.State.{State}
use Rattle.service.specs.Passes.{BoardLock, BoardPass, IsReady, IsWorkerPass, Knows}
use Rattle.service.specs.Passes.{caller_of}
use Rattle.worker_loop.proofs.Opening.{workers_at_work}
use Rattle.service.specs.declared.service.Service.{Service}
use Rattle.std.specs.Prelude.{Vec}
use Rattle.std.specs.declared.alloc.Global.{Global}
use Rattle.turn_lock.specs.Entries.{entries_of}
use Rattle.turn_lock.specs.Passes.{AreIdleInOrder, AreNew, new_pass}
use Rattle.tarmo_run.specs.declared.adder.Adder.{Adder}
use Rattle.tarmo_run.specs.declared.crew.Crew.{Crew}
use Rattle.tarmo_run.specs.declared.printer.Printer.{Printer}
use Rattle.tarmo_run.specs.Crew.{IsGathered, IsLeft, IsWhole}
use Rattle.tarmo_run.specs.Reading.{IsNew}
use Rattle.run_io.proofs.Laws.{appended_nothing}
use Rattle.tarmo_run.specs.declared.writer.Writer.{Writer}
use Rattle.tarmo_run.specs.Block.{AreBlocks}
use Rattle.tarmo_run.specs.Growth.{AllRest}
use Rattle.tarmo_run.specs.Sides.{ComesBack, HasPrinted, IsAdder, IsPrinter, MayWork, progress_by}
use Rattle.tarmo_run.specs.Sides.{seen_by}
use Rattle.tarmo_run.specs.Writer.{HasCounted, HasWritten, TookFront}
use Rattle.tarmo_run.proofs.Desks.{counted_longer, none_counted}
use Rattle.tarmo_run.proofs.Passing.{front_still}
use Rattle.tarmo_run.proofs.Reached.{written_still}

-- ---- only clients add and cancel

client_adds : (rules : Rules) (before : List Entry) (caller : ℕ) (e : Event) →
    IsAllowed rules before caller e → IsSome (segment_of e) → IsClient rules caller
client_adds rules before caller (event.Added segment) may some = may.client
client_adds rules before caller event.Closed may some = absurd (cc)
client_adds rules before caller (event.Cancelled job) may some = absurd (cc)
client_adds rules before caller (event.Began job number) may some = absurd (cc)
client_adds rules before caller (event.Shared packet) may some = absurd (cc)
client_adds rules before caller (event.Spent number learnt) may some = absurd (cc)
client_adds rules before caller (event.Dropped number) may some = absurd (cc)
client_adds rules before caller (event.Decided number given) may some = absurd (cc)
client_adds rules before caller (event.Starved number) may some = absurd (cc)

client_cancels : (rules : Rules) (before : List Entry) (caller : ℕ) (e : Event) →
    IsAllowed rules before caller e → IsSome (cancelled_by e) → IsClient rules caller
client_cancels rules before caller (event.Cancelled job) may some = may.client
client_cancels rules before caller (event.Added segment) may some = absurd (cc)
client_cancels rules before caller event.Closed may some = absurd (cc)
client_cancels rules before caller (event.Began job number) may some = absurd (cc)
client_cancels rules before caller (event.Shared packet) may some = absurd (cc)
client_cancels rules before caller (event.Spent number learnt) may some = absurd (cc)
client_cancels rules before caller (event.Dropped number) may some = absurd (cc)
client_cancels rules before caller (event.Decided number given) may some = absurd (cc)
client_cancels rules before caller (event.Starved number) may some = absurd (cc)

-- each entry that a reading sees is a client's
abbrev AreClients : {X : Type 0} → (Event → Option X) → Rules → List Entry → Type 0
AreClients read rules journal =
    All (λ (entry : Entry). IsSome (read entry.event) → IsClient rules entry.caller) journal

by_clients : {X : Type 0} (read : Event → Option X) (rules : Rules) (before journal : List Entry) →
    ((before : List Entry) (caller : ℕ) (e : Event) → IsAllowed rules before caller e →
    IsSome (read e) → IsClient rules caller) →
    IsLegalAfter rules before journal → AreClients read rules journal
by_clients read rules before [] may legal =
    All-nil (λ (entry : Entry). IsSome (read entry.event) → IsClient rules entry.caller)
by_clients read rules before (entry ∷ rest) may legal =
    All-cons (λ (entry : Entry). IsSome (read entry.event) → IsClient rules entry.caller) entry rest
    (may before entry.caller entry.event legal.0)
    (by_clients read rules (before ++ entry ∷ []) rest may legal.1)

-- ---- what the second client doesn't write, the first one does

one_or_two : (n : ℕ) → 1 ≤ n → n ≤ 2 → (n ≡ 1) ⊎ (n ≡ 2)
one_or_two zero from to = absurd (omega (arith, from))
one_or_two (suc zero) from to = inl refl
one_or_two (suc (suc zero)) from to = inr refl
one_or_two (suc (suc (suc n))) from to = absurd (omega (arith, to))

which : (n : ℕ) → (n ≡ 1) ⊎ (n ≡ 2) → ((n == 1) ≡ true) ⊎ ((n == 2) ≡ true)
which n (inl one) = inl (eq-eqb n 1 one)
which n (inr two) = inr (eq-eqb n 2 two)

-- a reading of a list from which an entry may be left out
read_cond : {X : Type 0} (read : Event → Option X) (entry : Entry) (b : Bool) (list : List Entry) →
    filter_map (λ (e : Entry). read e.event) (cond b (entry ∷ list) list)
    ≡ cond b (cons_option (read entry.event) (filter_map (λ (e : Entry). read e.event) list))
    (filter_map (λ (e : Entry). read e.event) list)
read_cond read entry true list = refl
read_cond read entry false list = refl

none_behind : {X : Type 0} (found : Option X) (b : Bool) (second : List X) →
    cond b (cons_option found second) second ≡ [] → second ≡ []
none_behind found false second none = none
none_behind None true second none = none
none_behind (Some x) true second none = absurd (cc)

one_entry : {X : Type 0} (found : Option X) (one two : Bool) (all first second : List X) →
    all ≡ first → (IsSome found → (one ≡ true) ⊎ (two ≡ true)) →
    cond two (cons_option found second) second ≡ [] →
    cons_option found all ≡ cond one (cons_option found first) first
one_entry None true two all first second same mine none = same
one_entry None false two all first second same mine none = same
one_entry {X} (Some x) true two all first second same mine none =
    ap (λ (list : List X). x ∷ list) same
one_entry (Some x) false true all first second same mine none = absurd (cc)
one_entry (Some x) false false all first second same mine none = absurd (neither (mine refl))
  where
    neither : (false ≡ true) ⊎ (false ≡ true) → ⊥
    neither (inl one) = cc
    neither (inr two) = cc

first_alone : {X : Type 0} (read : Event → Option X) (rules : Rules) (journal : List Entry) →
    rules.clients ≡ 2 → AreClients read rules journal →
    filter_map (λ (e : Entry). read e.event) (entries_of caller_of 2 journal) ≡ [] →
    filter_map (λ (e : Entry). read e.event) journal
    ≡ filter_map (λ (e : Entry). read e.event) (entries_of caller_of 1 journal)
first_alone read rules [] two clients none = refl
first_alone {X} read rules (entry ∷ rest) two clients none =
    let Kind = λ (entry : Entry). IsSome (read entry.event) → IsClient rules entry.caller in
    let head = All-head Kind entry rest clients in
    let second = sym (read_cond read entry (caller_of entry == 2) (entries_of caller_of 2 rest))
    ∙ none in
    one_entry (read entry.event) (caller_of entry == 1) (caller_of entry == 2)
    (filter_map (λ (e : Entry). read e.event) rest)
    (filter_map (λ (e : Entry). read e.event) (entries_of caller_of 1 rest))
    (filter_map (λ (e : Entry). read e.event) (entries_of caller_of 2 rest))
    (first_alone read rules rest two (All-tail Kind entry rest clients)
    (none_behind (read entry.event) (caller_of entry == 2)
    (filter_map (λ (e : Entry). read e.event) (entries_of caller_of 2 rest)) second))
    (λ some. let client = head some in
    which entry.caller (one_or_two entry.caller client.0 (omega (arith, client.1, two))))
    second
    ∙ sym (read_cond read entry (caller_of entry == 1) (entries_of caller_of 1 rest))

own_is : (pass : BoardPass) (board : State) (number : ℕ) → Knows pass board →
    pass.number ≡ number → entries_of caller_of number board.journal ≡ pass.own
own_is pass board number knows is =
    subst (λ n. entries_of caller_of n board.journal ≡ pass.own) is knows.own

-- what a reading sees of the whole journal is the first client's
pub read_of_first : {X : Type 0} (read : Event → Option X) (first second : BoardPass)
    (board : State) → ((before : List Entry) (caller : ℕ) (e : Event) →
    IsAllowed board.rules before caller e → IsSome (read e) → IsClient board.rules caller) →
    board.rules.clients ≡ 2 → IsLegal board.rules board.journal →
    Knows first board → first.number ≡ 1 → Knows second board → second.number ≡ 2 →
    filter_map (λ (e : Entry). read e.event) second.own ≡ [] →
    filter_map (λ (e : Entry). read e.event) board.journal
    ≡ filter_map (λ (e : Entry). read e.event) first.own
read_of_first read first second board may two legal one_knows one other_knows other none =
    first_alone read board.rules board.journal two
    (by_clients read board.rules [] board.journal may legal)
    (ap (filter_map (λ (e : Entry). read e.event)) (own_is second board 2 other_knows other) ∙ none)
    ∙ ap (filter_map (λ (e : Entry). read e.event)) (own_is first board 1 one_knows one)

pub left : (crew : Crew) (board : State) → IsWhole crew →
    board.rules ≡ crew.service.lock.basis → IsLegal board.rules board.journal →
    Knows crew.adder.pass board → Knows crew.printer.pass board → AllRest board →
    IsLeft crew board
left crew board whole rules legal first second rest =
    let two = ap (λ (r : Rules). r.clients) rules ∙ whole.clients in
    record {
      rules = rules;
      legal = legal;
      jobs = read_of_first segment_of crew.adder.pass crew.printer.pass board
          (client_adds board.rules) two legal first whole.adder.number second whole.printer.number
          whole.printer.none_added;
      longer = record { rules = rules; more = second.seen.0; is = second.seen.1 };
      none_open = rest;
      none_cancelled = λ well.
          read_of_first cancelled_by crew.adder.pass crew.printer.pass board
          (client_cancels board.rules) two legal first whole.adder.number second
          whole.printer.number (whole.printer.none_cancelled well)
          ∙ whole.adder.none_cancelled;
    }

-- ---- all passes, in order

pub in_order : (lock : BoardLock) (first second : BoardPass) (workers : List BoardPass) →
    IsReady lock first → first.number ≡ 1 → IsReady lock second → second.number ≡ 2 →
    ((k : ℕ) (d : BoardPass) → k < length workers → MayWork lock (slice_index_or workers k d)
    × ((slice_index_or workers k d).number ≡ k + 3)) →
    AreIdleInOrder lock (first ∷ second ∷ workers)
in_order lock first second workers one one_is two two_is rest zero d lt =
    (one.of_lock, one_is, one.idle)
in_order lock first second workers one one_is two two_is rest (suc zero) d lt =
    (two.of_lock, two_is, two.idle)
in_order lock first second workers one one_is two two_is rest (suc (suc k)) d lt =
    let at = rest k d (omega (arith, lt)) in
    (at.0.work.ready.of_lock, omega (arith, at.1), at.0.work.ready.idle)

-- ---- new passes

pub new_ready : (lock : BoardLock) (floor number : ℕ) (pass : BoardPass) →
    pass ≡ new_pass lock floor number → IsReady lock pass
new_ready lock floor number pass is =
    subst (IsReady lock) (sym is) (record { of_lock = (refl, refl); idle = refl })

pub new_adder : (lock : BoardLock) (adder : Adder) → lock.basis.clients ≡ 2 →
    adder.pass ≡ new_pass lock 0 1 → adder.added ≡ 0 → IsAdder lock adder
new_adder lock adder two is none =
    let number = ap (λ (p : BoardPass). p.number) is in
    let own = ap (λ (p : BoardPass). p.own) is in
    record {
      ready = new_ready lock 0 1 adder.pass is;
      client = (omega (arith, number), omega (arith, number, two));
      number = number;
      counted = none ∙ sym (ap jobs own);
      none_cancelled = ap cancelled own;
    }

pub new_progress : (lock : BoardLock) (adder : Adder) → adder.pass ≡ new_pass lock 0 1 →
    adder.client.pending.items ≡ [] → IsNew (progress_by lock adder)
new_progress lock adder is none =
    record { journal = ap (λ (p : BoardPass). p.own) is; pending = none }

pub new_printer : (lock : BoardLock) (printer : Printer) → lock.basis.clients ≡ 2 →
    printer.pass ≡ new_pass lock 0 2 → printer.writer.written ≡ 0 → printer.writer.inputs ≡ 0 →
    IsPrinter lock printer
new_printer lock printer two is none empty =
    let number = ap (λ (p : BoardPass). p.number) is in
    let own = ap (λ (p : BoardPass). p.own) is in
    record {
      ready = new_ready lock 0 2 printer.pass is;
      client = (omega (arith, number), omega (arith, number, two));
      number = number;
      none_added = ap segments own;
      counted = none_counted printer.writer (seen_by lock printer.pass) none empty;
      none_cancelled = λ well. ap cancelled own;
    }

-- ---- what was printed, over the board that is left

-- nothing is printed yet
pub none_printed : (trace : Bool) (lock : BoardLock) (printer : Printer) (flag : Bool)
    (now : Option (List ℕ)) → printer.writer.written ≡ 0 → flag ≡ false →
    HasPrinted trace lock printer flag now now
none_printed trace lock printer flag now none well =
    subst (λ b. HasPrinted trace lock printer b now now) (sym well) (record {
      blocks = [];
      right = subst (λ n. AreBlocks trace (seen_by lock printer.pass) n []) (sym none) refl;
      taken = sym (appended_nothing now);
    })

pub left_counted : (crew : Crew) (board : State) (writer : Writer) → IsWhole crew →
    IsLeft crew board → writer ≡ crew.printer.writer → HasCounted writer board
left_counted crew board writer whole left same =
    subst (λ (w : Writer). HasCounted w board) (sym same)
    (counted_longer crew.printer.writer (seen_by crew.service.lock crew.printer.pass) board
    left.longer whole.printer.counted)

pub left_written : (trace : Bool) (crew : Crew) (board : State) (writer : Writer) (flag : Bool)
    (before now : Option (List ℕ)) → IsWhole crew → IsLeft crew board →
    writer ≡ crew.printer.writer → flag ≡ false →
    HasPrinted trace crew.service.lock crew.printer flag before now →
    HasWritten trace writer board before now
left_written trace crew board writer flag before now whole left same well printed =
    written_still trace crew.printer.writer writer
    (seen_by crew.service.lock crew.printer.pass) board before now left.longer same
    whole.printer.counted.few
    (subst (λ b. HasPrinted trace crew.service.lock crew.printer b before now) well printed)

pub left_front : (trace : Bool) (crew : Crew) (board : State) (flag : Bool)
    (before now : Option (List ℕ)) → IsLeft crew board → flag ≡ true →
    HasPrinted trace crew.service.lock crew.printer flag before now →
    TookFront trace board before now
left_front trace crew board flag before now left failed printed =
    front_still trace (seen_by crew.service.lock crew.printer.pass) board before now left.longer
    (subst (λ b. HasPrinted trace crew.service.lock crew.printer b before now) failed printed)

-- ---- a new crew

two_new : (lock : BoardLock) (clients workers : List BoardPass) (first second : BoardPass) →
    clients ≡ first ∷ second ∷ [] → AreNew lock 0 (clients ++ workers) →
    (first ≡ new_pass lock 0 1) × (second ≡ new_pass lock 0 2)
    × ((k : ℕ) (d : BoardPass) → k < length workers →
    slice_index_or workers k d ≡ new_pass lock 0 (k + 3))
two_new lock clients workers first second is new =
    let at = subst (λ (list : List BoardPass). AreNew lock 0 (list ++ workers)) is new in (
      at 0 first (omega arith),
      at 1 first (omega arith),
      λ k d lt. at (suc (suc k)) d (omega (arith, lt))
          ∙ ap (new_pass lock 0) (let e : suc (suc k) + 1 ≡ k + 3 = omega arith in e),
    )

pub gathered : (crew : Crew) (clients : List BoardPass) →
    clients ≡ crew.adder.pass ∷ crew.printer.pass ∷ [] →
    crew.service.lock.basis.clients ≡ 2 →
    2 + length crew.workers.items ≡ crew.service.lock.passes →
    AreNew crew.service.lock 0 (clients ++ crew.workers.items) →
    All (λ pass. IsReady crew.service.lock pass × IsWorkerPass crew.service.lock pass)
    crew.workers.items →
    crew.adder.added ≡ 0 → crew.adder.client.pending.items ≡ [] →
    crew.printer.writer.written ≡ 0 → crew.printer.writer.inputs ≡ 0 →
    crew.printer.failed ≡ false →
    (crew.room.items ≡ []) × (vec_len crew.room ≡ 0) → 2 ≤ vec_capacity crew.room →
    IsGathered crew
gathered crew clients is two passes new all added pending written inputs well empty room =
    let lock = crew.service.lock in
    let each = two_new lock clients crew.workers.items crew.adder.pass crew.printer.pass is new in
    let work = workers_at_work lock clients crew.workers.items new all in
    record {
      whole = record {
        clients = two;
        adder = new_adder lock crew.adder two each.0 added;
        printer = new_printer lock crew.printer two each.1 written inputs;
        workers = λ k d lt. let at = work k d lt in (
          record { work = at.0; rests = at.1 },
          ap (λ (p : BoardPass). p.number) (each.2 k d lt),
        );
        passes = passes;
        empty = empty;
        room = room;
      };
      new = new_progress lock crew.adder each.0 pending;
      written = written;
      well = well;
      may_work = λ k d lt. let at = work k d lt in record { work = at.0; rests = at.1 };
    }

-- two passes that were taken off, one after the other
pub both_popped : (before mid after : List BoardPass) (first second : BoardPass) →
    before ≡ mid ++ second ∷ [] → mid ≡ after ++ first ∷ [] → length before ≡ 2 →
    before ≡ first ∷ second ∷ []
both_popped before mid [] first second one two len =
    one ∙ ap (λ (list : List BoardPass). list ++ second ∷ []) two
both_popped before mid (pass ∷ rest) first second one two len = absurd (omega (
  arith,
  len,
  ap length one,
  ap length two,
  length-append mid (second ∷ []),
  length-append (pass ∷ rest) (first ∷ []),
))

-- ---- a crew whose sides have ended

pub whole_after : (old new : Crew) → IsWhole old → new.service ≡ old.service →
    new.room ≡ old.room → IsAdder old.service.lock new.adder →
    IsPrinter old.service.lock new.printer →
    length new.workers.items ≡ length old.workers.items →
    ((k : ℕ) (d : BoardPass) → k < length old.workers.items → ComesBack old.service.lock
    (slice_index_or old.workers.items k d) (slice_index_or new.workers.items k d)) → IsWhole new
whole_after old new whole service room adder printer len back =
    let lock = ap (λ (s : Service). s.lock) service in
    record {
      clients = ap (λ (l : BoardLock). l.basis.clients) lock ∙ whole.clients;
      adder = subst (λ (l : BoardLock). IsAdder l new.adder) (sym lock) adder;
      printer = subst (λ (l : BoardLock). IsPrinter l new.printer) (sym lock) printer;
      workers = λ k d lt. (
          let within : k < length old.workers.items = omega (arith, lt, len) in
          let at = back k d within in
          let was = whole.workers k d within in (
            subst (λ (l : BoardLock). MayWork l (slice_index_or new.workers.items k d)) (sym lock)
                (record { work = at.work; rests = at.rests }),
            at.number ∙ was.1,
          )
          );
      passes = omega (arith, whole.passes, len, ap (λ (l : BoardLock). l.passes) lock);
      empty = subst (λ (r : Vec BoardPass Global). (r.items ≡ []) × (vec_len r ≡ 0)) (sym room)
          whole.empty;
      room = subst (λ (r : Vec BoardPass Global). 2 ≤ vec_capacity r) (sym room) whole.room;
    }
