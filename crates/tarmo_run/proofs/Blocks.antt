-- The blocks of settled jobs.
use Rattle.std.proofs.Common.{◌≡◌, ◌∙◌, ℕ, suc, ◌+◌, ◌≤◌, Bool, true, false, List, [], ◌∷◌, ◌++◌}
use Rattle.std.proofs.Common.{length, map, take, Option, Some, refl, ap, sym, subst, arith, add-one}
use Rattle.std.proofs.Common.{append_assoc, append-nil, cond}
use Rattle.std.specs.Prelude.{filter, nat_le, max}
use Rattle.std.specs.Arc.{arc_value}
use Rattle.std.proofs.lemmas.List.{length-append, length-map, map-append}
use Rattle.std.proofs.Math.Seq.{take-append-add}
use Rattle.run_io.specs.Bytes.{appended}
use Rattle.run_io.proofs.Laws.{appended_twice}
use Rattle.sat_base.specs.Lit.{IsLitSet, greatest_of, greatest_of_all}
use Rattle.trace_core.specs.Known.{Known, item_at}
use Rattle.entry_core.specs.declared.answers.Answer.{Answer}
use Rattle.entry_core.specs.declared.answers.Answer.TheVariants as answer
use Rattle.entry_core.specs.declared.answers.Verdict.{Verdict}
use Rattle.entry_core.specs.declared.answers.Verdict.TheVariants as verdict
use Rattle.entry_core.specs.declared.entries.Entry.{Entry}
use Rattle.entry_core.specs.declared.rules.Rules.{Rules}
use Rattle.entry_core.specs.declared.segments.Segment.{Segment}
use Rattle.entry_core.specs.Causes.{HasCause as HasItsCause}
use Rattle.entry_core.specs.Journal.{clauses_of, cube_in, cube_of, inputs, inputs_of, jobs}
use Rattle.entry_core.specs.Journal.{segments, tagged_from}
use Rattle.entry_core.specs.Law.{VerdictsHaveCauses}
use Rattle.entry_core.specs.Legal.{IsLegal}
use Rattle.entry_core.specs.Right.{IsRightAnswer}
use Rattle.entry_core.proofs.Inputs.{inputs_of_one_more}
use Rattle.entry_core.proofs.Limits.{few_inputs}
use Rattle.board_core.specs.Replies.{HasVerdict, IsSame}
use Rattle.board_core.specs.State.{State}
use Rattle.verdict_text.specs.Block.{IsBlock, IsPrintable, shown_of, shown_of_answer}
use Rattle.verdict_text.specs.declared.blocks.Shown.{Shown}
use Rattle.tarmo_run.specs.Block.{AreBlocks, IsBlockOf}
use Rattle.tarmo_run.specs.Variables.{AreWithinVariables}
use Rattle.tarmo_run.specs.declared.writer.Due.{Due}
use Rattle.tarmo_run.specs.declared.writer.Writer.{Writer}
use Rattle.tarmo_run.specs.Writer.{HasCounted, IsDue, TookBlocks, TookFront}
use Rattle.trace_text.specs.Text.{CiteEarlier}
use Rattle.tarmo_run.proofs.Cited.{ok_cite_earlier}
use Rattle.tarmo_run.proofs.Variables.{within_next, within_set}

-- how many inputs the next job has
pub inputs_counted : (journal : List Entry) (written job count : ℕ) (segment : Segment) →
    job ≡ written + 1 → item_at (segments journal) job ≡ Some segment →
    count ≡ length (inputs_of journal written)
    → count + length segment.clauses ≡ length (inputs_of journal job)
inputs_counted journal written job count segment next is counted =
    let one : length (map (λ (clause : List ℕ). record { clause = clause; tag = written + 1 })
    segment.clauses) ≡ length segment.clauses =
    length-map {B = Known} segment.clauses
    (λ (clause : List ℕ). record { clause = clause; tag = written + 1 }) in
    let all = ap length (inputs_of_one_more journal written segment
    (subst (λ n. item_at (segments journal) n ≡ Some segment) next is)) in
    let more = length-append (inputs_of journal written)
    (map (λ (clause : List ℕ). record { clause = clause; tag = written + 1 }) segment.clauses) in
    let same = ap (λ n. length (inputs_of journal n)) next in
    omega (arith, counted, one, all, more, same)

filter_le : {X : Type 0} (p : X → Bool) (xs : List X) → length (filter p xs) ≤ length xs
filter_le p [] = omega arith
filter_le {X} p (x ∷ xs) = by (p x) (filter p xs) (filter_le p xs)
  where
    by : (b : Bool) (rest : List X) → length rest ≤ length xs →
        length (cond b (x ∷ rest) rest) ≤ suc (length xs)
    by true rest le = omega (arith, le)
    by false rest le = omega (arith, le)

-- a job has no more clauses than a board may have
pub inputs_few : (board : State) (job count : ℕ) → IsLegal board.rules board.journal →
    count ≡ length (inputs_of board.journal job) → count ≤ 16777216
inputs_few board job count legal counted =
    let all = few_inputs board.rules board.journal legal in
    let some = filter_le (λ (input : Known). nat_le input.tag job) (inputs board.journal) in
    omega (arith, all, some, counted)

printable_answer : (trace traces : Bool) (journal : List Entry) (job : ℕ) (given : Answer) →
    greatest_of_all (clauses_of journal job) ≤ 8388607 → IsLitSet (cube_of journal job) →
    IsRightAnswer traces journal job given
    → IsPrintable (length (inputs_of journal job)) (shown_of_answer trace given)
printable_answer trace traces journal job (answer.Model values) within set right =
    omega (arith, right.size, within, within_set (cube_of journal job) set)
printable_answer true true journal job (answer.Refuted part steps) within set right =
    ok_cite_earlier (inputs_of journal job) steps right.1.ok
printable_answer true false journal job (answer.Refuted part steps) within set right =
    subst (CiteEarlier (length (inputs_of journal job)) 0) (sym right.1.0) tt
printable_answer false traces journal job (answer.Refuted part steps) within set right = tt

printable_verdict : (trace : Bool) (rules : Rules) (journal : List Entry) (job : ℕ)
    (given copy : Verdict) → greatest_of_all (clauses_of journal job) ≤ 8388607 →
    IsLitSet (cube_of journal job) → HasItsCause rules journal job given → IsSame given copy
    → IsPrintable (length (inputs_of journal job)) (shown_of trace copy)
printable_verdict trace rules journal job given (verdict.Cancelled by) within set cause same = tt
printable_verdict trace rules journal job given verdict.Spent within set cause same = tt
printable_verdict trace rules journal job given verdict.Starved within set cause same = tt
printable_verdict trace rules journal job (verdict.Answered one) (verdict.Answered other) within set
    cause same =
    subst (λ (given : Answer). IsPrintable (length (inputs_of journal job))
    (shown_of_answer trace given)) same
    (printable_answer trace rules.traces journal job (arc_value one) within set cause)
printable_verdict trace rules journal job (verdict.Cancelled by) (verdict.Answered other) within set
    cause same = absurd same
printable_verdict trace rules journal job verdict.Spent (verdict.Answered other) within set cause
    same = absurd same
printable_verdict trace rules journal job verdict.Starved (verdict.Answered other) within set cause
    same = absurd same

-- the block of a job's verdict can be printed
pub block_printable : (trace : Bool) (board : State) (job count : ℕ) (copy : Verdict)
    (segment : Segment) → VerdictsHaveCauses → IsLegal board.rules board.journal →
    AreWithinVariables (clauses_of board.journal job) → HasVerdict board job copy →
    count ≡ length (inputs_of board.journal job) →
    item_at (segments board.journal) job ≡ Some segment → IsLitSet segment.cube →
    IsPrintable count (shown_of trace copy)
block_printable trace board job count copy segment law legal within has counted is set =
    let cube : cube_of board.journal job ≡ segment.cube = ap cube_in is in
    let cause = law board.rules board.journal job has.given legal has.is in
    subst (λ n. IsPrintable n (shown_of trace copy)) (sym counted)
    (printable_verdict trace board.rules board.journal job has.given copy
    within (subst IsLitSet (sym cube) set) cause has.same)

same_shown : (trace : Bool) (given copy : Verdict) → IsSame given copy →
    shown_of trace copy ≡ shown_of trace given
same_shown trace (verdict.Answered one) (verdict.Answered other) same =
    ap (shown_of_answer trace) (sym same)
same_shown trace (verdict.Answered one) (verdict.Cancelled by) same = absurd same
same_shown trace (verdict.Answered one) verdict.Spent same = absurd same
same_shown trace (verdict.Answered one) verdict.Starved same = absurd same
same_shown trace (verdict.Cancelled by) (verdict.Answered other) same = absurd same
same_shown trace (verdict.Cancelled by) (verdict.Cancelled other) same = refl
same_shown trace (verdict.Cancelled by) verdict.Spent same = absurd same
same_shown trace (verdict.Cancelled by) verdict.Starved same = absurd same
same_shown trace verdict.Spent (verdict.Answered other) same = absurd same
same_shown trace verdict.Spent (verdict.Cancelled other) same = absurd same
same_shown trace verdict.Spent verdict.Spent same = refl
same_shown trace verdict.Spent verdict.Starved same = absurd same
same_shown trace verdict.Starved (verdict.Answered other) same = absurd same
same_shown trace verdict.Starved (verdict.Cancelled other) same = absurd same
same_shown trace verdict.Starved verdict.Spent same = absurd same
same_shown trace verdict.Starved verdict.Starved same = refl

-- what is printed of a copy of the verdict is the job's block
pub block_right : (trace : Bool) (board : State) (job count : ℕ) (copy : Verdict) (text : List ℕ) →
    HasVerdict board job copy → count ≡ length (inputs_of board.journal job)
    → IsBlock count (record { job = job; shown = shown_of trace copy }) text →
    IsBlockOf trace board job text
block_right trace board job count copy text has counted block = record {
  given = has.given;
  is = has.is;
  block = subst (λ n. IsBlock n (record { job = job; shown = shown_of trace has.given }) text)
      counted
      (subst (λ (shown : Shown). IsBlock count (record { job = job; shown = shown }) text)
      (same_shown trace has.given copy has.same) block);
}

-- how many clauses the job has that is due
pub due_counted : (writer : Writer) (board : State) (due : Due) → IsDue writer board due →
    writer.inputs + length (arc_value due.segment).clauses
    ≡ length (inputs_of board.journal due.job)
due_counted writer board due is =
    inputs_counted board.journal writer.written due.job writer.inputs (arc_value due.segment)
    is.next is.added is.counted.inputs

pub due_few : (writer : Writer) (board : State) (due : Due) → IsDue writer board due →
    writer.inputs + length (arc_value due.segment).clauses ≤ 16777216
due_few writer board due is =
    inputs_few board due.job (writer.inputs + length (arc_value due.segment).clauses) is.legal
    (due_counted writer board due is)

due_within : (writer : Writer) (board : State) (due : Due) → IsDue writer board due →
    AreWithinVariables (arc_value due.segment).clauses →
    AreWithinVariables (clauses_of board.journal due.job)
due_within writer board due is own =
    within_next board.journal writer.written due.job (arc_value due.segment) is.next is.added
    is.counted.within own

-- its block can be printed
pub due_printable : (trace : Bool) (writer : Writer) (board : State) (due : Due) →
    VerdictsHaveCauses → IsDue writer board due →
    AreWithinVariables (arc_value due.segment).clauses → IsLitSet (arc_value due.segment).cube →
    IsPrintable (writer.inputs + length (arc_value due.segment).clauses)
    (shown_of trace due.verdict)
due_printable trace writer board due law is own set =
    block_printable trace board due.job
    (writer.inputs + length (arc_value due.segment).clauses) due.verdict (arc_value due.segment)
    law is.legal (due_within writer board due is own) is.verdict (due_counted writer board due is)
    is.added set

-- and what is printed is its block
pub due_right : (trace : Bool) (writer : Writer) (board : State) (due : Due) (text : List ℕ) →
    IsDue writer board due →
    IsBlock (writer.inputs + length (arc_value due.segment).clauses)
    (record { job = due.job; shown = shown_of trace due.verdict }) text →
    IsBlockOf trace board due.job text
due_right trace writer board due text is block =
    block_right trace board due.job (writer.inputs + length (arc_value due.segment).clauses)
    due.verdict text is.verdict (due_counted writer board due is) block

-- the job is counted once its block is written
pub due_written : (old new : Writer) (board : State) (due : Due) → IsDue old board due →
    AreWithinVariables (arc_value due.segment).clauses → new.written ≡ due.job →
    new.inputs ≡ length (inputs_of board.journal due.job) → HasCounted new board
due_written old new board due is own written inputs = record {
  few = subst (λ n. n ≤ jobs board.journal) (sym written) is.verdict.there.added;
  inputs = inputs ∙ ap (λ n. length (inputs_of board.journal n)) (sym written);
  within = subst (λ n. AreWithinVariables (clauses_of board.journal n)) (sym written)
      (due_within old board due is own);
}

-- one block more
pub blocks_more : (trace : Bool) (board : State) (written job : ℕ) (blocks block : List ℕ) →
    job ≡ written + 1 → AreBlocks trace board written blocks → IsBlockOf trace board job block →
    AreBlocks trace board job (blocks ++ block)
blocks_more trace board written job blocks block next are is =
    let same : job ≡ suc written = next ∙ add-one written in
    subst (λ n. AreBlocks trace board n (blocks ++ block)) (sym same)
    (blocks, block, are, subst (λ n. IsBlockOf trace board n block) same is, refl)

pub wrote_one : (trace : Bool) (board : State) (written job : ℕ) (block : List ℕ)
    (before now after : Option (List ℕ)) → job ≡ written + 1 → IsBlockOf trace board job block →
    after ≡ appended now block
    → TookBlocks trace board written before now → TookBlocks trace board job before after
wrote_one trace board written job block before now after next is more took = record {
  blocks = took.blocks ++ block;
  right = blocks_more trace board written job took.blocks block next took.right is;
  taken = more ∙ ap (λ taken. appended taken block) took.taken
      ∙ appended_twice before took.blocks block;
}

pub broke_one : (trace : Bool) (board : State) (written job size : ℕ) (block : List ℕ)
    (before now after : Option (List ℕ)) → job ≡ written + 1 → job ≤ jobs board.journal →
    IsBlockOf trace board job block → size ≤ length block → after ≡ appended now (take size block)
    → TookBlocks trace board written before now → TookFront trace board before after
broke_one trace board written job size block before now after next few is within more took =
    record {
      count = job;
      few = few;
      blocks = took.blocks ++ block;
      right = blocks_more trace board written job took.blocks block next took.right is;
      size = length took.blocks + size;
      within = omega (arith, length-append took.blocks block, within);
      taken = more ∙ ap (λ taken. appended taken (take size block)) took.taken
          ∙ appended_twice before took.blocks (take size block)
          ∙ ap (appended before) (sym (take-append-add took.blocks block size));
    }
