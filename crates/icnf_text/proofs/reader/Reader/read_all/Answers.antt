use Rattle.std.proofs.Common.{◌+◌, ◌<◌, length, arith}
use Rattle.std.proofs.lemmas.List.{take_rest, length-drop}
use Rattle.icnf_text.proofs.AheadRead.{more_state, more_given, byte_then, byte_then_given}
use Rattle.icnf_text.proofs.reader.Reader.read_all.Goals as goal

pub loop-at-preserved : goal.loop-at-preserved
loop-at-preserved c =
    let at = c.loop-at.at in
    let here = c.loop-at-test.true in
    let test : at < length c.args.piece.now = omega (arith, here) in
    let within = c.in_ok-at.ensures.within in
    let rest = take_rest c.args.piece.now (at + 1) in
    let read = byte_then c.args.self.now c.loop-at.self c.read.new.self c.args.piece.now at test c.loop-at.invariant.state c.in_ok-read.ensures.state in
    let gave = byte_then_given c.args.self.now c.loop-at.self c.args.given.now.items c.loop-at.given.items c.read.new.given.items c.args.piece.now at test c.loop-at.invariant.state c.loop-at.invariant.given c.in_ok-read.ensures.given in record {
      within = omega (arith, within, test, length-drop (at + 1) c.args.piece.now);
      state = more_state c.args.self.now c.read.new.self c.read_run.new.self c.args.piece.now _ (at + 1) c.in_ok-at.field-0 read rest c.in_ok-at.ensures.state;
      given = more_given c.args.self.now c.read.new.self c.args.given.now.items c.read.new.given.items c.read_run.new.given.items c.args.piece.now _ (at + 1) c.in_ok-at.field-0 read gave rest c.in_ok-at.ensures.given;
    }
