-- From the pieces of a text to the whole output, and to the board that is given back.
use Rattle.std.proofs.Common.{◌≡◌, ◌∙◌, ℕ, ◌+◌, ◌≤◌, List, [], ◌++◌, length, take, Option, Bool}
use Rattle.std.proofs.Common.{refl, ap, sym, subst, inl, inr}
use Rattle.std.specs.Prelude.{◌⊎◌}
use Rattle.std.proofs.lemmas.List.{take-append-le}
use Rattle.std.proofs.Math.Seq.{take-append-add}
use Rattle.run_io.specs.Bytes.{appended}
use Rattle.run_io.proofs.Laws.{appended_nothing, appended_twice}
use Rattle.entry_core.specs.Journal.{jobs, segments}
use Rattle.entry_core.specs.Legal.{IsLegal}
use Rattle.entry_core.specs.Settled.{cancelled}
use Rattle.entry_core.specs.declared.rules.Rules.{Rules}
use Rattle.board_core.specs.State.{State}
use Rattle.icnf_text.specs.Jobs.{Job}
use Rattle.tarmo_run.specs.declared.desk.Desk.{Desk}
use Rattle.tarmo_run.specs.declared.writer.Writer.{Writer}
use Rattle.tarmo_run.specs.declared.endings.Ending.{Ending}
use Rattle.tarmo_run.specs.declared.endings.Ending.TheVariants.{Complete, Refused, Unread}
use Rattle.tarmo_run.specs.declared.endings.Ending.TheVariants.{Exhausted}
use Rattle.tarmo_run.specs.Block.{AreBlocks}
use Rattle.tarmo_run.specs.Body.{OfBlocks}
use Rattle.tarmo_run.specs.Client.{queries_behind, queries_on}
use Rattle.tarmo_run.specs.Desk.{IsFresh}
use Rattle.tarmo_run.specs.Growth.{HasNoJobMore}
use Rattle.tarmo_run.specs.Ended.{Finished, FinishedInPart, TookFrontOfLine}
use Rattle.tarmo_run.specs.Output.{AreSettled, IsEnding, IsOutput, IsRun, PutFirst, Reading}
use Rattle.tarmo_run.specs.Output.{UnlessExhausted, last_line_of, queries_in, status_of}
use Rattle.tarmo_run.specs.Reading.{AsksFirst, IsThrough, ReadsInPart, ReadsThrough}
use Rattle.tarmo_run.specs.Writer.{HasAllBlocks, HasWritten, TookFront}
use Rattle.tarmo_run.proofs.Boards.{blocks_stay, settled_stay}
use Rattle.tarmo_run.proofs.Queries.{queries_put}

-- nothing is written yet
pub none_written : (trace : Bool) (desk : Desk) (before : Option (List ℕ)) → IsFresh desk →
    HasWritten trace desk.writer desk.board before before
none_written trace desk before fresh = record {
  blocks = [];
  right = subst (λ n. AreBlocks trace desk.board n []) (sym fresh.written) refl;
  taken = sym (appended_nothing before);
}

pub unless : (ending : Ending) (P Q : Type 0) → (P → Q) → UnlessExhausted ending P →
    UnlessExhausted ending Q
unless (Complete count) P Q f p = f p
unless (Refused fault) P Q f p = f p
unless Unread P Q f p = f p
unless Exhausted P Q f p = tt

pub told_unless : (ending told : Ending) (P : Type 0) → (told ≡ ending) ⊎ (told ≡ Exhausted) →
    UnlessExhausted ending P → UnlessExhausted told P
told_unless ending told P (inl same) p = subst (λ (e : Ending). UnlessExhausted e P) (sym same) p
told_unless ending told P (inr memory) p =
    subst (λ (e : Ending). UnlessExhausted e P) (sym memory) tt

pub told_ends : (ending told : Ending) (reading : Reading) → (told ≡ ending) ⊎ (told ≡ Exhausted) →
    IsEnding ending reading → IsEnding told reading
told_ends ending told reading (inl same) ends =
    subst (λ (e : Ending). IsEnding e reading) (sym same) ends
told_ends ending told reading (inr memory) ends =
    subst (λ (e : Ending). IsEnding e reading) (sym memory) tt

-- what is asked is asked of a board with the same jobs
abbrev pub begun_same : (reading : Reading) (old new : State) →
    segments new.journal ≡ segments old.journal → AsksFirst reading old → AsksFirst reading new
begun_same reading old new same begun = record {
  left = begun.left;
  queries = begun.queries ∙ ap (λ (jobs : List Job). jobs ++ begun.left)
      (ap (queries_behind []) (sym same));
}

pub reads_same : (ending : Ending) (left_before left_after : Option (List ℕ))
    (ended failed : Bool) (old new : State) → segments new.journal ≡ segments old.journal →
    ReadsThrough ending left_before left_after ended failed old →
    ReadsThrough ending left_before left_after ended failed new
reads_same ending left_before left_after ended failed old new same reads = record {
  bytes = reads.bytes;
  gave = reads.gave;
  no_further = reads.no_further;
  through = record {
    ends = reads.through.ends;
    begun = begun_same (record { bytes = reads.bytes; ended = ended; failed = failed }) old new
        same reads.through.begun;
    all = reads.through.all;
  };
}

abbrev pub begun_still : (reading : Reading) (old new : State) → HasNoJobMore old new →
    AsksFirst reading old → AsksFirst reading new
begun_still reading old new more begun = begun_same reading old new more.segments begun

-- the blocks and a last line are an output
output_of : (trace : Bool) (ending told : Ending) (reading : Reading) (writer : Writer)
    (old new : State) (blocks : List ℕ) → IsThrough ending reading old →
    UnlessExhausted ending (HasAllBlocks writer old) →
    (told ≡ ending) ⊎ (told ≡ Exhausted) →
    HasNoJobMore old new → writer.written ≤ jobs old.journal
    → AreBlocks trace old writer.written blocks →
    IsOutput (OfBlocks trace) told reading new (blocks ++ last_line_of told)
output_of trace ending told reading writer old new blocks through done which more few are = record {
  ends = told_ends ending told reading which through.ends;
  lines = blocks;
  right = record {
    count = writer.written;
    few = subst (λ n. writer.written ≤ n) (ap length (sym more.segments)) few;
    all = told_unless ending told (writer.written ≡ jobs new.journal) which
        (unless ending (HasAllBlocks writer old) (writer.written ≡ jobs new.journal)
        (λ done. done.written ∙ ap length (sym more.segments)) done);
    right = blocks_stay trace old new writer.written blocks more.longer few are;
  };
  written = refl;
}

-- unless memory ran out, all queries are jobs, and each is settled
both_unless : (ending : Ending) (left : List Job) (writer : Writer) (old new : State) →
    HasNoJobMore old new → UnlessExhausted ending (left ≡ []) →
    UnlessExhausted ending (HasAllBlocks writer old) →
    UnlessExhausted ending ((left ≡ []) × AreSettled new)
both_unless (Complete count) left writer old new more all done =
    (all, settled_stay old new more done.settled)
both_unless (Refused fault) left writer old new more all done =
    (all, settled_stay old new more done.settled)
both_unless Unread left writer old new more all done =
    (all, settled_stay old new more done.settled)
both_unless Exhausted left writer old new more all done = tt

pub finished : (trace : Bool) (ending told : Ending) (left_before left_after : Option (List ℕ))
    (ended failed : Bool) (writer : Writer) (old new : State)
    (before middle after : Option (List ℕ)) →
    ReadsThrough ending left_before left_after ended failed old →
    UnlessExhausted ending (HasAllBlocks writer old) →
    HasWritten trace writer old before middle →
    writer.written ≤ jobs old.journal → HasNoJobMore old new →
    cancelled new.journal ≡ [] →
    (told ≡ ending) ⊎ (told ≡ Exhausted) → after ≡ appended middle (last_line_of told) →
    Finished trace told left_before left_after ended failed new before after
finished trace ending told left_before left_after ended failed writer old new before middle after
    reads done took few more uncancelled which line =
    let reading : Reading = record { bytes = reads.bytes; ended = ended; failed = failed } in
    record {
      bytes = reads.bytes;
      gave = reads.gave;
      no_further = reads.no_further;
      text = took.blocks ++ last_line_of told;
      output = output_of trace ending told reading writer old new took.blocks reads.through done
          which more few took.right;
      taken = line ∙ ap (λ taken. appended taken (last_line_of told)) took.taken
          ∙ appended_twice before took.blocks (last_line_of told);
      begun = begun_still reading old new more reads.through.begun;
      all = told_unless ending told ((reads.through.begun.left ≡ []) × AreSettled new) which
          (both_unless ending reads.through.begun.left writer old new more reads.through.all done);
      none_cancelled = uncancelled;
    }

pub finished_in_line : (trace : Bool) (ending : Ending) (left_before left_after : Option (List ℕ))
    (ended failed : Bool) (writer : Writer) (old new : State)
    (before middle after : Option (List ℕ)) →
    ReadsThrough ending left_before left_after ended failed old →
    UnlessExhausted ending (HasAllBlocks writer old) →
    HasWritten trace writer old before middle →
    writer.written ≤ jobs old.journal → HasNoJobMore old new →
    TookFrontOfLine ending middle after →
    FinishedInPart trace left_before left_after ended failed new before after
finished_in_line trace ending left_before left_after ended failed writer old new before middle
    after reads done took few more front =
    let reading : Reading = record { bytes = reads.bytes; ended = ended; failed = failed } in
    record {
      bytes = reads.bytes;
      gave = reads.gave;
      no_further = reads.no_further;
      ending = front.told;
      text = took.blocks ++ last_line_of front.told;
      output = output_of trace ending front.told reading writer old new took.blocks reads.through
          done front.which more few took.right;
      size = length took.blocks + front.size;
      taken = front.taken ∙ ap (λ taken. appended taken (take front.size (last_line_of front.told)))
          took.taken
          ∙ appended_twice before took.blocks (take front.size (last_line_of front.told))
          ∙ ap (appended before)
          (sym (take-append-add took.blocks (last_line_of front.told) front.size));
      begun = begun_still reading old new more reads.through.begun;
      all = told_unless ending front.told (reads.through.begun.left ≡ []) front.which
          reads.through.all;
    }

-- a run that was read so may end for want of memory
pub reads_told : (ending told : Ending) (left_before left_after : Option (List ℕ))
    (ended failed : Bool) (board : State) → (told ≡ ending) ⊎ (told ≡ Exhausted) →
    ReadsThrough ending left_before left_after ended failed board →
    ReadsThrough told left_before left_after ended failed board
reads_told ending told left_before left_after ended failed board (inl same) reads =
    subst (λ (e : Ending). ReadsThrough e left_before left_after ended failed board) (sym same)
    reads
reads_told ending told left_before left_after ended failed board (inr memory) reads =
    subst (λ (e : Ending). ReadsThrough e left_before left_after ended failed board) (sym memory)
    (record {
      bytes = reads.bytes;
      gave = reads.gave;
      no_further = reads.no_further;
      through = record { ends = tt; begun = reads.through.begun; all = tt };
    })

-- or be broken off
pub reads_in_part : (ending : Ending) (left_before left_after : Option (List ℕ))
    (ended failed : Bool) (board : State) →
    ReadsThrough ending left_before left_after ended failed board →
    ReadsInPart left_before left_after ended failed board
reads_in_part ending left_before left_after ended failed board reads =
    record {
      bytes = reads.bytes;
      gave = reads.gave;
      no_further = reads.no_further;
      begun = reads.through.begun;
    }

-- where each job is settled, each has its block
pub answered_if : (ending : Ending) (writer : Writer) (board : State) →
    (AreSettled board → writer.written ≡ jobs board.journal) →
    UnlessExhausted ending (AreSettled board) →
    UnlessExhausted ending (HasAllBlocks writer board)
answered_if ending writer board all = unless ending (AreSettled board)
    (HasAllBlocks writer board) (λ settled. record { settled = settled; written = all settled })

pub finished_in_blocks : (trace : Bool) (left_before left_after : Option (List ℕ))
    (ended failed : Bool) (board : State) (before after : Option (List ℕ)) →
    ReadsInPart left_before left_after ended failed board → TookFront trace board before after →
    FinishedInPart trace left_before left_after ended failed board before after
finished_in_blocks trace left_before left_after ended failed board before after reads front =
    record {
      bytes = reads.bytes;
      gave = reads.gave;
      no_further = reads.no_further;
      ending = Exhausted;
      text = front.blocks ++ last_line_of Exhausted;
      output = record {
        ends = tt;
        lines = front.blocks;
        right = record {
          count = front.count;
          few = front.few;
          all = tt;
          right = front.right;
        };
        written = refl;
      };
      size = front.size;
      taken = front.taken ∙ ap (appended before)
          (sym (take-append-le front.size front.blocks (last_line_of Exhausted) front.within));
      begun = reads.begun;
      all = tt;
    }

pub put_first : (reading : Reading) (board : State) (begun : AsksFirst reading board) →
    PutFirst board.journal (queries_in reading.bytes reading.ended) begun.left
put_first reading board begun =
    record { done = queries_on board; whole = begun.queries; put = queries_put board.journal }

-- the whole output was taken, and the board is given back
pub ran_through : (given : Rules) (ending : Ending) (left_before left_after : Option (List ℕ))
    (ended failed : Bool) (board : State) (before after : Option (List ℕ)) (status : ℕ) →
    board.rules ≡ given → IsLegal board.rules board.journal →
    status ≡ status_of ending board →
    Finished given.traces ending left_before left_after ended failed board before after →
    IsRun given left_before left_after ended failed before after status board
ran_through given ending left_before left_after ended failed board before after status rules legal
    told f =
    let reading : Reading = record { bytes = f.bytes; ended = ended; failed = failed } in
    record {
      rules = rules;
      legal = legal;
      bytes = f.bytes;
      gave = f.gave;
      no_further = f.no_further;
      wrote = inl (record {
        ending = ending;
        text = f.text;
        output = f.output;
        taken = f.taken;
        told = told;
        left = f.begun.left;
        put = put_first reading board f.begun;
        all_put = unless ending ((f.begun.left ≡ []) × AreSettled board) (f.begun.left ≡ [])
            (λ all. all.0) f.all;
        all_settled = unless ending ((f.begun.left ≡ []) × AreSettled board) (AreSettled board)
            (λ all. all.1) f.all;
        none_cancelled = f.none_cancelled;
      });
    }

output_still : (trace : Bool) (ending : Ending) (reading : Reading) (old new : State)
    (text : List ℕ) → HasNoJobMore old new → IsOutput (OfBlocks trace) ending reading old text →
    IsOutput (OfBlocks trace) ending reading new text
output_still trace ending reading old new text more output = record {
  ends = output.ends;
  lines = output.lines;
  right = record {
    count = output.right.count;
    few = subst (λ n. output.right.count ≤ n) (ap length (sym more.segments)) output.right.few;
    all = unless ending (output.right.count ≡ jobs old.journal)
        (output.right.count ≡ jobs new.journal)
        (λ all. all ∙ ap length (sym more.segments)) output.right.all;
    right = blocks_stay trace old new output.right.count output.lines more.longer output.right.few
        output.right.right;
  };
  written = output.written;
}

-- the sink failed, and what wasn't settled was cancelled
pub ran_in_part : (given : Rules) (left_before left_after : Option (List ℕ))
    (ended failed : Bool) (old new : State) (before after : Option (List ℕ)) (status : ℕ) →
    new.rules ≡ given → IsLegal new.rules new.journal → status ≡ 4 →
    HasNoJobMore old new → AreSettled new →
    FinishedInPart given.traces left_before left_after ended failed old before after →
    IsRun given left_before left_after ended failed before after status new
ran_in_part given left_before left_after ended failed old new before after status rules legal told
    more settled f =
    let reading : Reading = record { bytes = f.bytes; ended = ended; failed = failed } in
    let begun = begun_still reading old new more f.begun in
    record {
      rules = rules;
      legal = legal;
      bytes = f.bytes;
      gave = f.gave;
      no_further = f.no_further;
      wrote = inr (record {
        ending = f.ending;
        text = f.text;
        output = output_still given.traces f.ending reading old new f.text more f.output;
        size = f.size;
        taken = f.taken;
        told = told;
        left = begun.left;
        put = put_first reading new begun;
        all_put = f.all;
        all_settled = settled;
      });
    }
