-- A text that is read and answered piece by piece.
use Rattle.std.proofs.Common.{◌≡◌, ◌∙◌, ℕ, ◌-◌, ◌<◌, ◌≤◌, List, [], ◌++◌, length, take, Option}
use Rattle.std.proofs.Common.{Some, None, Bool, true, false, nat_eq, nat_lt, refl, ap, sym, subst}
use Rattle.std.proofs.Common.{arith, append-nil, inl, inr}
use Rattle.std.specs.Prelude.{◌⊎◌, ◌||◌, Result, Ok, Err, IfOk, OnErr, MatchOption}
use Rattle.std.proofs.lemmas.Bool.{and_left, ne_eqb, or_from, lt-ltb}
use Rattle.std.proofs.lemmas.Bool.Decides.{nat_tests}
use Rattle.std.proofs.lemmas.List.{length-append, length-take-le}
use Rattle.run_io.specs.Bytes.{followed_by, is_end_at}
use Rattle.run_io.specs.Fault.{last_count}
use Rattle.run_io.specs.declared.outside.Failed.{Failed}
use Rattle.run_io.proofs.Laws.{followed_by_nothing, followed_by_twice}
use Rattle.entry_core.specs.declared.entries.Entry.{Entry}
use Rattle.entry_core.specs.Journal.{jobs, segments}
use Rattle.icnf_text.specs.declared.faults.Fault.{Fault}
use Rattle.icnf_text.specs.declared.statements.Numbered.{Numbered}
use Rattle.icnf_text.specs.Judgement.{statements, wrong}
use Rattle.icnf_text.specs.Jobs.{Job, clauses_after, clauses_of as clauses_stated, jobs_after}
use Rattle.icnf_text.specs.Jobs.{jobs_of}
use Rattle.icnf_text.specs.Machine.{State as ReaderState, HasRead}
use Rattle.board_core.specs.State.{State}
use Rattle.icnf_text.proofs.Fronts.{all_counted, ended_statements, last_statements}
use Rattle.icnf_text.proofs.Fronts.{longer_statements, more_statements, nothing_stated}
use Rattle.icnf_text.proofs.Fronts.{nothing_wrong}
use Rattle.tarmo_run.specs.declared.endings.Ending.{Ending}
use Rattle.tarmo_run.specs.declared.endings.Ending.TheVariants.{Complete, Refused, Unread}
use Rattle.tarmo_run.specs.declared.endings.Ending.TheVariants.{Exhausted}
use Rattle.tarmo_run.specs.declared.writer.Writer.{Writer}
use Rattle.tarmo_run.specs.Client.{Adds, AddsFirst, clauses_behind, clauses_read, queries_behind}
use Rattle.tarmo_run.specs.Client.{queries_on}
use Rattle.tarmo_run.specs.Growth.{IsLonger}
use Rattle.tarmo_run.specs.Output.{ReadsNoFurther, longest_piece, queries_in, unnumbered}
use Rattle.tarmo_run.specs.Reading.{AsksFirst, IsCaughtUp, IsNew, IsThrough, Progress}
use Rattle.tarmo_run.specs.Reading.{ReadsInPart, ReadsThrough, StopsBy}
use Rattle.tarmo_run.specs.Block.{AreBlocks}
use Rattle.tarmo_run.specs.Writer.{HasWritten}
use Rattle.tarmo_run.proofs.Boards.{blocks_stay}
use Rattle.tarmo_run.proofs.Queries.{as_many}
use Rattle.tarmo_run.proofs.Statements.{more_clauses, more_jobs}

-- what is written stays written
pub written_still : (trace : Bool) (writer writer' : Writer) (old new : State)
    (before now : Option (List ℕ)) → IsLonger old new → writer' ≡ writer →
    writer.written ≤ jobs old.journal → HasWritten trace writer old before now →
    HasWritten trace writer' new before now
written_still trace writer writer' old new before now more same few took = record {
  blocks = took.blocks;
  right = subst (λ (w : Writer). AreBlocks trace new w.written took.blocks) (sym same)
      (blocks_stay trace old new writer.written took.blocks more few took.right);
  taken = took.taken;
}

-- statements and then more of them, and their queries
pub asked_in_full : (old new : Progress) (first list all : List Numbered) → first ++ list ≡ all →
    queries_on old.board ≡ jobs_of (unnumbered first) →
    clauses_read old.client old.board ≡ clauses_stated (unnumbered first) →
    Adds old.client old.board new.client new.board list
    → (queries_on new.board ≡ jobs_of (unnumbered all))
    × (clauses_read new.client new.board ≡ clauses_stated (unnumbered all))
asked_in_full old new first list all whole queries clauses adds = (
  adds.queries ∙ ap (λ (jobs : List Job). jobs
      ++ jobs_after (clauses_read old.client old.board) (unnumbered list)) queries
      ∙ ap (λ (read : List (List ℕ)). jobs_of (unnumbered first)
      ++ jobs_after read (unnumbered list)) clauses
      ∙ sym (more_jobs [] first list)
      ∙ ap (λ (list : List Numbered). jobs_of (unnumbered list)) whole,
  adds.clauses ∙ ap (λ (read : List (List ℕ)). clauses_after read (unnumbered list)) clauses
      ∙ sym (more_clauses [] first list)
      ∙ ap (λ (list : List Numbered). clauses_stated (unnumbered list)) whole,
)

pub begun_by : (old new : Progress) (first list all : List Numbered) → first ++ list ≡ all →
    queries_on old.board ≡ jobs_of (unnumbered first) →
    clauses_read old.client old.board ≡ clauses_stated (unnumbered first) →
    (added : AddsFirst old.client old.board new.board list)
    → jobs_of (unnumbered all) ≡ queries_on new.board ++ added.left
begun_by old new first list all whole queries clauses added =
    sym (ap (λ (jobs : List Job). jobs ++ jobs_after (clauses_read old.client old.board)
    (unnumbered list)) queries
    ∙ ap (λ (read : List (List ℕ)). jobs_of (unnumbered first) ++ jobs_after read (unnumbered list))
    clauses
    ∙ sym (more_jobs [] first list)
    ∙ ap (λ (list : List Numbered). jobs_of (unnumbered list)) whole)
    ∙ added.queries

no_more : (queries jobs : List Job) → jobs ≡ queries → queries ≡ jobs ++ []
no_more queries jobs same = sym same ∙ sym (append-nil jobs)

-- the run stops behind these statements
through_stop : (ending : Ending) (reader : ReaderState) (old new : Progress) (bytes whole : List ℕ)
    (ended failed : Bool) (list : List Numbered) (fault : Option Fault) → failed ≡ false →
    IsCaughtUp reader old bytes
    → statements bytes false ++ list ≡ statements whole ended → fault ≡ wrong whole ended →
    StopsBy ending fault old new list →
    IsThrough ending (record { bytes = whole; ended = ended; failed = failed }) new.board
through_stop (Complete count) reader old new bytes whole ended failed list fault unfailing up given
    is stop = absurd stop
through_stop (Refused found) reader old new bytes whole ended failed list fault unfailing up given
    is stop =
    let all = asked_in_full old new (statements bytes false) list (statements whole ended) given
    up.queries up.clauses stop.1 in
    record {
      ends = (unfailing, sym is ∙ stop.0);
      begun = record {
        left = [];
        queries = no_more (queries_in whole ended)
            (queries_on new.board) all.0;
      };
      all = refl;
    }
through_stop Unread reader old new bytes whole ended failed list fault unfailing up given is stop =
    absurd stop
through_stop Exhausted reader old new bytes whole ended failed list fault unfailing up given is
    stop = record {
      ends = tt;
      begun = record {
        left = stop.left;
        queries = begun_by old new (statements bytes false) list
            (statements whole ended) given up.queries up.clauses stop;
      };
      all = tt;
    }

pub piece_stop : (stop : Option Ending) (reader after : ReaderState) (old new : Progress)
    (bytes piece : List ℕ) (failed : Bool) (list : List Numbered) (fault : Option Fault) →
    failed ≡ false → IsCaughtUp reader old bytes
    → HasRead after (bytes ++ piece) →
    statements bytes false ++ list ≡ statements (bytes ++ piece) false →
    fault ≡ wrong (bytes ++ piece) false
    → MatchOption stop ((fault ≡ None) × Adds old.client old.board new.client new.board list)
    (λ ending. StopsBy ending fault old new list)
    → MatchOption stop (IsCaughtUp after new (bytes ++ piece))
    (λ ending. IsThrough ending (record { bytes = bytes ++ piece; ended = false; failed = failed })
    new.board)
piece_stop None reader after old new bytes piece failed list fault unfailing up read given is stop =
    let all = asked_in_full old new (statements bytes false) list
    (statements (bytes ++ piece) false) given up.queries up.clauses stop.1 in
    record {
      read = read;
      right = sym is
          ∙ stop.0;
      queries = all.0;
      clauses = all.1;
    }
piece_stop (Some ending) reader after old new bytes piece failed list fault unfailing up read given
    is stop =
    through_stop ending reader old new bytes (bytes ++ piece) false failed list fault unfailing up
    given is stop

-- what has come of a piece
pub piece_through : (result : Result (Option Ending) Failed) (reader after : ReaderState)
    (old new : Progress) (piece : List ℕ) (list : List Numbered) (fault : Option Fault) →
    ((text : List ℕ) → HasRead reader text → HasRead after (text ++ piece)) →
    ((text : List ℕ) → HasRead reader text →
    statements text false ++ list ≡ statements (text ++ piece) false) →
    ((text : List ℕ) → HasRead reader text → fault ≡ wrong (text ++ piece) false) →
    IfOk result (λ stop. MatchOption stop ((fault ≡ None) × Adds old.client old.board new.client
    new.board list)
    (λ ending. StopsBy ending fault old new list)) →
    IfOk result (λ stop. (bytes : List ℕ) (failed : Bool) → failed ≡ false →
    IsCaughtUp reader old bytes →
    MatchOption stop (IsCaughtUp after new (bytes ++ piece))
    (λ ending. IsThrough ending (record { bytes = bytes ++ piece; ended = false; failed = failed })
    new.board))
piece_through (Ok stop) reader after old new piece list fault read given is stops =
    λ bytes failed unfailing up.
    piece_stop stop reader after old new bytes piece failed list fault unfailing up
    (read bytes up.read) (given bytes up.read) (is bytes up.read) stops
piece_through (Err e) reader after old new piece list fault read given is stops = tt

pub piece_in_part : (result : Result (Option Ending) Failed) (reader : ReaderState)
    (old new : Progress)
    (piece : List ℕ) (list : List Numbered) →
    ((text : List ℕ) → HasRead reader text →
    statements text false ++ list ≡ statements (text ++ piece) false) →
    OnErr result (AddsFirst old.client old.board new.board list) →
    OnErr result ((bytes : List ℕ) (failed : Bool) → IsCaughtUp reader old bytes →
    AsksFirst (record { bytes = bytes ++ piece; ended = false; failed = failed }) new.board)
piece_in_part (Ok stop) reader old new piece list given first = tt
piece_in_part (Err e) reader old new piece list given first = λ bytes failed up.
    record {
      left = first.left;
      queries = begun_by old new (statements bytes false) list
          (statements (bytes ++ piece) false) (given bytes up.read) up.queries up.clauses first;
    }

-- more statements that weren't looked at
begun_before : (reader : ReaderState) (progress : Progress) (bytes whole : List ℕ)
    (ended failed : Bool)
    (more : List Numbered) → statements whole ended ≡ statements bytes false ++ more →
    IsCaughtUp reader progress bytes →
    AsksFirst (record { bytes = whole; ended = ended; failed = failed }) progress.board
begun_before reader progress bytes whole ended failed more is up = record {
  left = jobs_after (clauses_stated (unnumbered (statements bytes false))) (unnumbered more);
  queries = ap (λ (list : List Numbered). jobs_of (unnumbered list)) is
      ∙ more_jobs [] (statements bytes false) more
      ∙ ap (λ (jobs : List Job). jobs
      ++ jobs_after (clauses_stated (unnumbered (statements bytes false))) (unnumbered more))
      (sym up.queries);
}

-- memory ran out while a piece was read
pub through_before_piece : (reader : ReaderState) (progress : Progress) (bytes piece : List ℕ)
    (failed : Bool) → IsCaughtUp reader progress bytes →
    IsThrough Exhausted (record { bytes = bytes ++ piece; ended = false; failed = failed })
    progress.board
through_before_piece reader progress bytes piece failed up =
    record {
      ends = tt;
      begun = begun_before reader progress bytes (bytes ++ piece) false failed
          (more_statements bytes piece) (longer_statements bytes piece) up;
      all = tt;
    }

-- memory ran out at the end
pub through_before_end : (reader : ReaderState) (progress : Progress) (bytes : List ℕ)
    (failed : Bool) →
    IsCaughtUp reader progress bytes →
    IsThrough Exhausted (record { bytes = bytes; ended = true; failed = failed }) progress.board
through_before_end reader progress bytes failed up =
    record {
      ends = tt;
      begun = begun_before reader progress bytes bytes true failed
          (last_statements bytes) (ended_statements bytes) up;
      all = tt;
    }

-- the text ended behind what was read last
pub through_end : (ending : Ending) (reader : ReaderState) (old new : Progress)
    (list : List Numbered)
    (fault : Option Fault) (bytes : List ℕ) (failed : Bool) → failed ≡ false →
    IsCaughtUp reader old bytes →
    ((text : List ℕ) → HasRead reader text → statements text false ++ list ≡ statements text true) →
    ((text : List ℕ) → HasRead reader text → fault ≡ wrong text true) →
    StopsBy ending fault old new list →
    IsThrough ending (record { bytes = bytes; ended = true; failed = failed }) new.board
through_end ending reader old new list fault bytes failed unfailing up given is stop =
    through_stop ending reader old new bytes bytes true failed list fault unfailing up
    (given bytes up.read) (is bytes up.read) stop

pub through_complete : (reader : ReaderState) (old new : Progress) (count : ℕ)
    (list : List Numbered)
    (fault : Option Fault) (bytes : List ℕ) (failed : Bool) → failed ≡ false →
    IsCaughtUp reader old bytes →
    ((text : List ℕ) → HasRead reader text → statements text false ++ list ≡ statements text true) →
    ((text : List ℕ) → HasRead reader text → fault ≡ wrong text true) →
    fault ≡ None → Adds old.client old.board new.client new.board list → count ≡ jobs
    new.board.journal →
    IsThrough (Complete count) (record { bytes = bytes; ended = true; failed = failed }) new.board
through_complete reader old new count list fault bytes failed unfailing up given is none answers
    counted =
    let all = asked_in_full old new (statements bytes false) list (statements bytes true)
    (given bytes up.read) up.queries up.clauses answers in
    record {
      ends = (
        unfailing,
        refl,
        sym (is bytes up.read) ∙ none,
        counted
            ∙ sym (as_many [] (segments new.board.journal)) ∙ ap length all.0,
      );
      begun = record {
        left = [];
        queries = no_more (queries_in bytes true)
            (queries_on new.board) all.0;
      };
      all = refl;
    }

pub end_in_part : (reader : ReaderState) (old new : Progress) (list : List Numbered)
    (bytes : List ℕ)
    (failed : Bool) → ((text : List ℕ) → HasRead reader text →
    statements text false ++ list ≡ statements text true) →
    AddsFirst old.client old.board new.board list
    → IsCaughtUp reader old bytes →
    AsksFirst (record { bytes = bytes; ended = true; failed = failed }) new.board
end_in_part reader old new list bytes failed given first up =
    record {
      left = first.left;
      queries = begun_by old new (statements bytes false) list
          (statements bytes true) (given bytes up.read) up.queries up.clauses first;
    }

-- how far a run has come in its text
pub record Reached (reader : ReaderState) (progress : Progress)
    (left_before left_now : Option (List ℕ)) : Type 0 where
  pub bytes : List ℕ
  pub gave : left_before ≡ followed_by bytes left_now
  pub up : IsCaughtUp reader progress bytes

caught_none : (reader : ReaderState) (progress : Progress) → HasRead reader [] → IsNew progress →
    IsCaughtUp reader progress []
caught_none reader progress read fresh = record {
  read = read;
  right = nothing_wrong;
  queries = ap (λ (journal : List Entry). queries_behind [] (segments journal)) fresh.journal
      ∙ ap (λ (list : List Numbered). jobs_of (unnumbered list)) (sym nothing_stated);
  clauses = ap (λ (journal : List Entry). clauses_behind [] (segments journal)
      ++ progress.client.pending.items) fresh.journal ∙ fresh.pending
      ∙ ap (λ (list : List Numbered). clauses_stated (unnumbered list)) (sym nothing_stated);
}

pub nothing_reached : (reader : ReaderState) (progress : Progress) (left : Option (List ℕ)) →
    HasRead reader [] → IsNew progress → Reached reader progress left left
nothing_reached reader progress left read fresh =
    record {
      bytes = [];
      gave = sym (followed_by_nothing left);
      up = caught_none reader progress read fresh;
    }

-- ---- nothing is read behind a wrong place but the last piece

reads_nothing : ReadsNoFurther []
reads_nothing =
    record { front = []; piece = []; whole = refl; right = nothing_wrong; short = omega arith }

-- what was read has no wrong place
reads_caught : (reader : ReaderState) (progress : Progress) (bytes : List ℕ) →
    IsCaughtUp reader progress bytes → ReadsNoFurther bytes
reads_caught reader progress bytes up = record {
  front = bytes;
  piece = [];
  whole = sym (append-nil bytes);
  right = up.right;
  short = omega arith;
}

-- one piece more may have one
reads_piece : (reader : ReaderState) (progress : Progress) (bytes piece : List ℕ) →
    IsCaughtUp reader progress bytes → length piece ≤ longest_piece →
    ReadsNoFurther (bytes ++ piece)
reads_piece reader progress bytes piece up short =
    record { front = bytes; piece = piece; whole = refl; right = up.right; short = short }

-- a read gives no more than its buffer takes
pub short_piece : (count old room : ℕ) (buffer : List ℕ) → count ≤ old → length buffer ≡ old →
    old ≡ room → room ≤ longest_piece → length (take count buffer) ≤ longest_piece
short_piece count old room buffer within same room_is few =
    let all : count ≤ length buffer = omega (arith, within, same) in
    omega (arith, within, room_is, few, length-take-le count buffer all)

-- the source failed before anything was read
pub through_unstarted : (progress : Progress) (left_before left_after : Option (List ℕ))
    (ended failed : Bool) → left_after ≡ left_before → ended ≡ false → failed ≡ true →
    IsNew progress → ReadsThrough Unread left_before left_after ended failed progress.board
through_unstarted progress left_before left_after ended failed same unended failing fresh = record {
  bytes = [];
  gave = sym same ∙ sym (followed_by_nothing left_after);
  no_further = reads_nothing;
  through = rw unended (record {
    ends = (failing, nothing_wrong);
    begun = record {
      left = [];
      queries = ap (λ (list : List Numbered). jobs_of (unnumbered list))
          nothing_stated ∙ ap (λ (journal : List Entry). queries_behind [] (segments journal) ++ [])
          (sym fresh.journal);
    };
    all = refl;
  });
}

-- the source failed behind what was read
pub through_unread : (reader : ReaderState) (progress : Progress)
    (left_before left_now left_after : Option (List ℕ)) (ended failed : Bool) →
    left_after ≡ left_now → ended ≡ false → failed ≡ true →
    Reached reader progress left_before left_now →
    ReadsThrough Unread left_before left_after ended failed progress.board
through_unread reader progress left_before left_now left_after ended failed same unended failing
    reached = record {
      bytes = reached.bytes;
      gave = reached.gave ∙ ap (followed_by reached.bytes) (sym same);
      no_further = reads_caught reader progress reached.bytes reached.up;
      through = rw unended (record {
        ends = (failing, reached.up.right);
        begun = record {
          left = [];
          queries = no_more (queries_in reached.bytes false)
              (queries_on progress.board) reached.up.queries;
        };
        all = refl;
      });
    }

pub unfailing : (before now : ℕ) → now ≡ before → nat_lt before now ≡ false
unfailing before now same = grind (arith, nat_tests)

pub failing : (before now : ℕ) → before < last_count → (before < now) ⊎ (now ≡ last_count) →
    nat_lt before now ≡ true
failing before now below (inl rose) = lt-ltb before now rose
failing before now below (inr last) = lt-ltb before now (omega (arith, last, below))

-- a read that failed found no end
pub still_unended : (before now : Bool) → now ≡ (before || false) → before ≡ false → now ≡ false
still_unended before now is unended = is ∙ ap (λ b. b || false) unended

-- a read that gave some bytes found no end
pub goes_on : (before now : Bool) (count room : ℕ) → now ≡ (before || is_end_at count room) →
    before ≡ false → (count ≡ 0 → ⊥) → now ≡ false
goes_on before now count room is unended some =
    is ∙ or_from before (is_end_at count room) unended
    (and_left (nat_eq count 0) (nat_lt 0 room) (ne_eqb count 0 some))

-- a read that gave none found it
pub ends_here : (before now : Bool) (count room : ℕ) → now ≡ (before || is_end_at count room) →
    count ≡ 0 → 0 < room → now ≡ true
ends_here before now count room is none some =
    is ∙ ap (λ b. before || b) (rw none (lt-ltb 0 room some)) ∙ or_true before
  where
    or_true : (b : Bool) → (b || true) ≡ true
    or_true true = refl
    or_true false = refl

read_on : (before middle after : Option (List ℕ)) (bytes piece : List ℕ) →
    before ≡ followed_by bytes middle → middle ≡ followed_by piece after →
    before ≡ followed_by (bytes ++ piece) after
read_on before middle after bytes piece first second = first ∙ ap (followed_by bytes) second
    ∙ followed_by_twice bytes piece after

rest_gave : (count : ℕ) (buffer bytes : List ℕ)
    (left_before left_middle left_after : Option (List ℕ)) → count ≡ 0 →
    left_middle ≡ followed_by (take count buffer) left_after →
    left_before ≡ followed_by bytes left_middle → left_before ≡ followed_by bytes left_after
rest_gave count buffer bytes left_before left_middle left_after none gave reached =
    reached ∙ ap (followed_by bytes) (gave ∙ ap (λ n. followed_by (take n buffer) left_after) none
    ∙ followed_by_nothing left_after)

pub rest_reads : (ending : Ending) (reader : ReaderState) (old : Progress) (new : State)
    (count : ℕ) (buffer : List ℕ) (left_before left_middle left_after : Option (List ℕ))
    (ended failed : Bool) → ended ≡ true → failed ≡ false → count ≡ 0 →
    left_middle ≡ followed_by (take count buffer) left_after →
    Reached reader old left_before left_middle →
    ((bytes : List ℕ) (failed : Bool) → failed ≡ false → IsCaughtUp reader old bytes →
    IsThrough ending (record { bytes = bytes; ended = true; failed = failed }) new) →
    ReadsThrough ending left_before left_after ended failed new
rest_reads ending reader old new count buffer left_before left_middle left_after ended failed end
    unfailed none gave reached through = record {
      bytes = reached.bytes;
      gave = rest_gave count buffer reached.bytes left_before left_middle left_after none gave
          reached.gave;
      no_further = reads_caught reader old reached.bytes reached.up;
      through = rw end (through reached.bytes failed unfailed reached.up);
    }

pub rest_through : (result : Result Ending Failed) (reader : ReaderState) (old new : Progress)
    (count : ℕ) (buffer : List ℕ) (left_before left_middle left_after : Option (List ℕ))
    (ended failed : Bool) →
    ended ≡ true → failed ≡ false → count ≡ 0 →
    left_middle ≡ followed_by (take count buffer) left_after →
    Reached reader old left_before left_middle →
    IfOk result (λ ending. (bytes : List ℕ) (failed : Bool) → failed ≡ false →
    IsCaughtUp reader old bytes →
    IsThrough ending (record { bytes = bytes; ended = true; failed = failed }) new.board) →
    IfOk result (λ ending. ReadsThrough ending left_before left_after ended failed new.board)
rest_through (Ok ending) reader old new count buffer left_before left_middle left_after ended failed
    end unfailed none gave reached through =
    rest_reads ending reader old new.board count buffer left_before left_middle left_after ended
    failed end unfailed none gave reached through
rest_through (Err e) reader old new count buffer left_before left_middle left_after ended failed end
    unfailed none gave reached through = tt

pub rest_in_part : (result : Result Ending Failed) (reader : ReaderState) (old new : Progress)
    (count : ℕ) (buffer : List ℕ) (left_before left_middle left_after : Option (List ℕ))
    (ended failed : Bool) →
    ended ≡ true → count ≡ 0 → left_middle ≡ followed_by (take count buffer) left_after →
    Reached reader old left_before left_middle →
    OnErr result ((bytes : List ℕ) (failed : Bool) → IsCaughtUp reader old bytes →
    AsksFirst (record { bytes = bytes; ended = true; failed = failed }) new.board) →
    OnErr result (ReadsInPart left_before left_after ended failed new.board)
rest_in_part (Ok ending) reader old new count buffer left_before left_middle left_after ended failed
    end none gave reached begun = tt
rest_in_part (Err e) reader old new count buffer left_before left_middle left_after ended failed end
    none gave reached begun = record {
      bytes = reached.bytes;
      gave = rest_gave count buffer reached.bytes left_before left_middle left_after none gave
          reached.gave;
      no_further = reads_caught reader old reached.bytes reached.up;
      begun = rw end (begun reached.bytes failed reached.up);
    }

pub piece_broke : (reader : ReaderState) (old new : Progress) (piece : List ℕ)
    (left_before left_middle left_after : Option (List ℕ)) (ended failed : Bool) →
    ended ≡ false → length piece ≤ longest_piece → left_middle ≡ followed_by piece left_after →
    Reached reader old left_before left_middle →
    ((bytes : List ℕ) (failed : Bool) → IsCaughtUp reader old bytes →
    AsksFirst (record { bytes = bytes ++ piece; ended = false; failed = failed }) new.board) →
    ReadsInPart left_before left_after ended failed new.board
piece_broke reader old new piece left_before left_middle left_after ended failed unended short
    gave reached begun = record {
      bytes = reached.bytes ++ piece;
      gave = read_on left_before left_middle left_after reached.bytes piece reached.gave gave;
      no_further = reads_piece reader old reached.bytes piece reached.up short;
      begun = rw unended (begun reached.bytes failed reached.up);
    }

pub piece_ended : (ending : Ending) (reader : ReaderState) (old new : Progress) (piece : List ℕ)
    (left_before left_middle left_after : Option (List ℕ)) (ended failed : Bool) →
    ended ≡ false → failed ≡ false → length piece ≤ longest_piece →
    left_middle ≡ followed_by piece left_after →
    Reached reader old left_before left_middle →
    ((bytes : List ℕ) (failed : Bool) → failed ≡ false → IsCaughtUp reader old bytes →
    IsThrough ending (record { bytes = bytes ++ piece; ended = false; failed = failed })
    new.board) →
    ReadsThrough ending left_before left_after ended failed new.board
piece_ended ending reader old new piece left_before left_middle left_after ended failed unended
    unfailed short gave reached through = record {
      bytes = reached.bytes ++ piece;
      gave = read_on left_before left_middle left_after reached.bytes piece reached.gave gave;
      no_further = reads_piece reader old reached.bytes piece reached.up short;
      through = rw unended (through reached.bytes failed unfailed reached.up);
    }

-- the run goes on behind a piece
pub piece_reached : (reader after : ReaderState) (old new : Progress) (piece : List ℕ)
    (left_before left_middle left_after : Option (List ℕ)) →
    left_middle ≡ followed_by piece left_after → Reached reader old left_before left_middle →
    ((bytes : List ℕ) (failed : Bool) → failed ≡ false → IsCaughtUp reader old bytes →
    IsCaughtUp after new (bytes ++ piece)) → Reached after new left_before left_after
piece_reached reader after old new piece left_before left_middle left_after gave reached up =
    record {
      bytes = reached.bytes ++ piece;
      gave = read_on left_before left_middle left_after reached.bytes piece reached.gave gave;
      up = up reached.bytes false refl reached.up;
    }

-- each piece brings the text nearer to the most bytes that it may have
pub nearer : (reader after : ReaderState) (old new : Progress) (count : ℕ) (buffer : List ℕ)
    (left_before left_middle : Option (List ℕ)) → Reached reader old left_before left_middle →
    ((bytes : List ℕ) (failed : Bool) → failed ≡ false → IsCaughtUp reader old bytes →
    IsCaughtUp after new (bytes ++ take count buffer)) →
    (count ≡ 0 → ⊥) → count ≤ length buffer → 4294967296 - after.bytes < 4294967296 - reader.bytes
nearer reader after old new count buffer left_before left_middle reached next some within =
    let up = next reached.bytes false refl reached.up in
    let was = all_counted reader reached.bytes reached.up.read reached.up.right in
    let is = all_counted after (reached.bytes ++ take count buffer) up.read up.right in
    let positive : 0 < count = by count some in
    omega (
      arith,
      was.0,
      is.0,
      is.1,
      length-append reached.bytes (take count buffer),
      length-take-le count buffer within,
      positive,
    )
  where
    by : (n : ℕ) → (n ≡ 0 → ⊥) → 0 < n
    by n some = grind (arith, nat_tests)

-- memory ran out before anything was read
pub through_unbuffered : (progress : Progress) (left : Option (List ℕ)) (ended failed : Bool) →
    ended ≡ false → IsNew progress → ReadsThrough Exhausted left left ended failed progress.board
through_unbuffered progress left ended failed unended fresh = record {
  bytes = [];
  gave = sym (followed_by_nothing left);
  no_further = reads_nothing;
  through = rw unended (record {
    ends = tt;
    begun = record {
      left = [];
      queries = ap (λ (list : List Numbered). jobs_of (unnumbered list))
          nothing_stated ∙ ap (λ (journal : List Entry). queries_behind [] (segments journal) ++ [])
          (sym fresh.journal);
    };
    all = tt;
  });
}
