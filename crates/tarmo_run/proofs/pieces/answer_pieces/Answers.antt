use Rattle.std.proofs.Common.{◌∙◌, ℕ, ◌<◌, ◌≤◌, length, refl, subst, sym, rules}
use Rattle.tarmo_run.specs.Desk.{progress_of}
use Rattle.tarmo_run.proofs.Desks.{all_at_first, new_at_first}
use Rattle.tarmo_run.proofs.Reached.{ends_here, failing, goes_on, nearer, nothing_reached}
use Rattle.tarmo_run.proofs.Reached.{piece_broke, piece_ended, piece_reached, rest_in_part}
use Rattle.tarmo_run.proofs.Reached.{rest_through, short_piece, still_unended}
use Rattle.tarmo_run.proofs.Reached.{through_unread, unfailing}
use Rattle.run_io.proofs.Always.{after_err}
use Rattle.tarmo_run.proofs.pieces.answer_pieces.Goals as goal

pub loop-count-init : goal.loop-count-init
loop-count-init g c = record {
  between = c.requires.between;
  rules = refl;
  reached = nothing_reached c.new-reader.result (progress_of c.args.desk.now) _
      c.new-reader.ensures (new_at_first c.args.desk.now c.requires.fresh);
  answered = all_at_first c.args.desk.now c.requires.fresh;
  writes = λ before took. took;
  source_faults = search rules;
  sink_faults = search rules;
  opened = λ name is. is;
  unended = c.requires.unread;
  room = search rules;
}

pub returns-in_default-clause-through : goal.returns-in_default-clause-through
returns-in_default-clause-through g c =
    let ended = rw c.in_default.is at c.read.ensures.ended in
    let cause = rw c.in_default.is at c.read.ensures.cause in
    let left = rw c.in_default.is at c.read.ensures.err in
    through_unread c.loop-count.reader (progress_of c.loop-count.desk) _ _ _ _ _ left
    (still_unended _ _ ended c.loop-count.invariant.unended)
    (failing _ _ c.requires.source_faults (rw c.loop-count.invariant.source_faults at cause.failed))
    c.loop-count.invariant.reached

pub returns-then-count-eq0-clause-through : goal.returns-then-count-eq0-clause-through
returns-then-count-eq0-clause-through g c =
    let room = subst (λ (n : ℕ). 0 < n) (sym c.loop-count.invariant.room) c.requires.room in
    rest_through c.answer_rest.result _ (progress_of c.loop-count.desk)
    (progress_of c.answer_rest.new.desk) c.in-Ok.count c.read.new.buf _ _ _ _ _
    (ends_here _ _ c.in-Ok.count _ c.in-Ok.ensures.ended c.if-count-eq0.true room)
    (unfailing _ _ (c.in-Ok.ensures.cause.ok ∙ c.loop-count.invariant.source_faults))
    c.if-count-eq0.true c.in-Ok.ensures.bytes c.loop-count.invariant.reached
    c.answer_rest.ensures.through

pub returns-then-count-eq0-clause-in_part : goal.returns-then-count-eq0-clause-in_part
returns-then-count-eq0-clause-in_part g c =
    let room = subst (λ (n : ℕ). 0 < n) (sym c.loop-count.invariant.room) c.requires.room in
    rest_in_part c.answer_rest.result _ (progress_of c.loop-count.desk)
    (progress_of c.answer_rest.new.desk) c.in-Ok.count
    c.read.new.buf _ _ _ _ _
    (ends_here _ _ c.in-Ok.count _ c.in-Ok.ensures.ended c.if-count-eq0.true room)
    c.if-count-eq0.true c.in-Ok.ensures.bytes c.loop-count.invariant.reached
    c.answer_rest.ensures.in_part

pub returns-in_err-ending-clause-in_part : goal.returns-in_err-ending-clause-in_part
returns-in_err-ending-clause-in_part g c =
    after_err c.from_residual.result _
    (piece_broke _ (progress_of c.loop-count.desk) (progress_of c.answer_piece.new.desk) _ _ _ _ _ _
    (goes_on _ _ c.in-Ok.count _ c.in-Ok.ensures.ended c.loop-count.invariant.unended
    c.if-count-eq0.false)
    (short_piece c.in-Ok.count _ _ c.read.new.buf c.in-Ok.ensures.count c.read.auto.buf
    c.loop-count.invariant.room c.requires.short)
    c.in-Ok.ensures.bytes c.loop-count.invariant.reached c.in_err-ending.ensures.in_part)

pub returns-in-Some-clause-through : goal.returns-in-Some-clause-through
returns-in-Some-clause-through g c =
    piece_ended c.in-Some.ending _ (progress_of c.loop-count.desk)
    (progress_of c.answer_piece.new.desk) _ _ _ _ _ _
    (goes_on _ _ c.in-Ok.count _ c.in-Ok.ensures.ended c.loop-count.invariant.unended
    c.if-count-eq0.false)
    (unfailing _ _ (c.in-Ok.ensures.cause.ok ∙ c.loop-count.invariant.source_faults))
    (short_piece c.in-Ok.count _ _ c.read.new.buf c.in-Ok.ensures.count c.read.auto.buf
    c.loop-count.invariant.room c.requires.short)
    c.in-Ok.ensures.bytes c.loop-count.invariant.reached
    (rw c.in-Some.is at c.in_ok-ending.ensures.through)

pub loop-count-smaller : goal.loop-count-smaller
loop-count-smaller g c =
    let fits : c.in-Ok.count ≤ length c.read.new.buf =
    subst (λ (n : ℕ). c.in-Ok.count ≤ n) (sym c.read.auto.buf) c.in-Ok.ensures.count in
    nearer _ _ (progress_of c.loop-count.desk) (progress_of c.answer_piece.new.desk) c.in-Ok.count
    c.read.new.buf _ _ c.loop-count.invariant.reached
    (rw c.in-None.is at c.in_ok-ending.ensures.through) c.if-count-eq0.false fits

pub loop-count-preserved : goal.loop-count-preserved
loop-count-preserved g c = record {
  between = c.answer_piece.ensures.between;
  rules = c.answer_piece.ensures.rules ∙ c.loop-count.invariant.rules;
  reached = piece_reached _ _ (progress_of c.loop-count.desk)
      (progress_of c.answer_piece.new.desk) _ _ _ _ c.in-Ok.ensures.bytes
      c.loop-count.invariant.reached
      (rw c.in-None.is at c.in_ok-ending.ensures.through);
  answered = rw c.in-None.is at c.in_ok-ending.ensures.answered;
  writes = λ before took. c.in_ok-ending.ensures.writes before
      (c.loop-count.invariant.writes before took);
  source_faults = c.in-Ok.ensures.cause.ok ∙ c.loop-count.invariant.source_faults;
  sink_faults = search rules;
  opened = λ name is. c.in-Ok.ensures.opened name (c.loop-count.invariant.opened name is);
  unended = goes_on _ _ c.in-Ok.count _ c.in-Ok.ensures.ended c.loop-count.invariant.unended
      c.if-count-eq0.false;
  room = c.read.auto.buf ∙ c.loop-count.invariant.room;
}
