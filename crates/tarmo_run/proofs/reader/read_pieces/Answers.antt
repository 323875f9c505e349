use Rattle.std.proofs.Common.{◌∙◌, ℕ, ◌<◌, ◌≤◌, length, refl, subst, sym, rules}
use Rattle.tarmo_run.specs.Sides.{progress_by}
use Rattle.tarmo_run.proofs.Reached.{ends_here, failing, goes_on, nearer, nothing_reached}
use Rattle.tarmo_run.proofs.Reached.{piece_ended, piece_reached, rest_reads, short_piece}
use Rattle.tarmo_run.proofs.Reached.{still_unended, through_unread, unfailing}
use Rattle.tarmo_run.proofs.reader.read_pieces.Goals as goal

pub loop-count-init : goal.loop-count-init
loop-count-init g c = record {
  adder = c.requires.adder;
  reached = nothing_reached c.new-reader.result
      (progress_by c.args.service.now.lock c.args.adder.now) _ c.new-reader.ensures c.requires.new;
  source_faults = search rules;
  opened = λ name is. is;
  unended = c.requires.unread;
  room = search rules;
}

pub returns-in_default-clause-through : goal.returns-in_default-clause-through
returns-in_default-clause-through g c =
    let ended = rw c.in_default.is at c.read.ensures.ended in
    let cause = rw c.in_default.is at c.read.ensures.cause in
    let left = rw c.in_default.is at c.read.ensures.err in
    through_unread c.loop-count.reader
    (progress_by c.args.service.now.lock c.loop-count.adder) _ _ _ _ _ left
    (still_unended _ _ ended c.loop-count.invariant.unended)
    (failing _ _ c.requires.source_faults (rw c.loop-count.invariant.source_faults at cause.failed))
    c.loop-count.invariant.reached

pub returns-then-count-eq0-clause-through : goal.returns-then-count-eq0-clause-through
returns-then-count-eq0-clause-through g c =
    let room = subst (λ (n : ℕ). 0 < n) (sym c.loop-count.invariant.room) c.requires.room in
    rest_reads _ _ (progress_by c.args.service.now.lock c.loop-count.adder) _ c.in-Ok.count
    c.read.new.buf _ _ _ _ _
    (ends_here _ _ c.in-Ok.count _ c.in-Ok.ensures.ended c.if-count-eq0.true room)
    (unfailing _ _ (c.in-Ok.ensures.cause.ok ∙ c.loop-count.invariant.source_faults))
    c.if-count-eq0.true c.in-Ok.ensures.bytes c.loop-count.invariant.reached
    c.add_rest.ensures.through

pub returns-in-Some-clause-through : goal.returns-in-Some-clause-through
returns-in-Some-clause-through g c =
    piece_ended c.in-Some.ending _ (progress_by c.args.service.now.lock c.loop-count.adder)
    (progress_by c.args.service.now.lock c.add_piece.new.adder) _ _ _ _ _ _
    (goes_on _ _ c.in-Ok.count _ c.in-Ok.ensures.ended c.loop-count.invariant.unended
    c.if-count-eq0.false)
    (unfailing _ _ (c.in-Ok.ensures.cause.ok ∙ c.loop-count.invariant.source_faults))
    (short_piece c.in-Ok.count _ _ c.read.new.buf c.in-Ok.ensures.count c.read.auto.buf
    c.loop-count.invariant.room c.requires.short)
    c.in-Ok.ensures.bytes c.loop-count.invariant.reached
    (rw c.in-Some.is at c.add_piece.ensures.through)

pub loop-count-smaller : goal.loop-count-smaller
loop-count-smaller g c =
    let fits : c.in-Ok.count ≤ length c.read.new.buf =
    subst (λ (n : ℕ). c.in-Ok.count ≤ n) (sym c.read.auto.buf) c.in-Ok.ensures.count in
    nearer _ _ (progress_by c.args.service.now.lock c.loop-count.adder)
    (progress_by c.args.service.now.lock c.add_piece.new.adder) c.in-Ok.count c.read.new.buf _ _
    c.loop-count.invariant.reached
    (rw c.in-None.is at c.add_piece.ensures.through) c.if-count-eq0.false fits

pub loop-count-preserved : goal.loop-count-preserved
loop-count-preserved g c = record {
  adder = c.add_piece.ensures.adder;
  reached = piece_reached _ _ (progress_by c.args.service.now.lock c.loop-count.adder)
      (progress_by c.args.service.now.lock c.add_piece.new.adder) _ _ _ _ c.in-Ok.ensures.bytes
      c.loop-count.invariant.reached (rw c.in-None.is at c.add_piece.ensures.through);
  source_faults = c.in-Ok.ensures.cause.ok ∙ c.loop-count.invariant.source_faults;
  opened = λ name is. c.in-Ok.ensures.opened name (c.loop-count.invariant.opened name is);
  unended = goes_on _ _ c.in-Ok.count _ c.in-Ok.ensures.ended c.loop-count.invariant.unended
      c.if-count-eq0.false;
  room = search rules;
}
