use Rattle.std.proofs.Common.{◌∙◌, ap, sym, arith}
use Rattle.std.proofs.lemmas.List.{take_rest, length-drop}
use Rattle.icnf_text.specs.Machine.{State}
use Rattle.icnf_text.proofs.AheadRead.{more_state, more_given, none_by}
use Rattle.icnf_text.proofs.reader.Reader.read_run.Goals as goal

pub loop-at-preserved : goal.loop-at-preserved
loop-at-preserved c =
    let within = c.in_ok-count.ensures.within in
    let drop = length-drop c.loop-at.at c.args.bytes.now in
    let counted = c.in_ok-count.ensures.counted in record {
      within = omega (arith, within, c.loop-at.invariant.within, drop);
      state = more_state c.args.self.now c.loop-at.self c.read_ahead.new.self c.args.bytes.now _ c.loop-at.at c.in_ok-count.count c.loop-at.invariant.state (take_rest c.args.bytes.now c.loop-at.at) c.in_ok-count.ensures.state;
      given = more_given c.args.self.now c.loop-at.self c.args.given.now.items c.loop-at.given.items c.read_ahead.new.given.items c.args.bytes.now _ c.loop-at.at c.in_ok-count.count c.loop-at.invariant.state c.loop-at.invariant.given (take_rest c.args.bytes.now c.loop-at.at) c.in_ok-count.ensures.given;
      between = c.in_ok-count.ensures.between (ap (λ (s : State). s.fault) (sym c.self-in-loop-at.view_is) ∙ none_by c.self-in-loop-at.inside.fault c.if-is_some.ensures);
      room = omega (arith, within, c.loop-at.invariant.within, c.loop-at.invariant.room, drop, counted);
    }

pub returns-then-count-eq0-clause-state : goal.returns-then-count-eq0-clause-state
returns-then-count-eq0-clause-state c = more_state c.args.self.now c.loop-at.self c.read_ahead.new.self c.args.bytes.now _ c.loop-at.at c.in_ok-count.count c.loop-at.invariant.state (take_rest c.args.bytes.now c.loop-at.at) c.in_ok-count.ensures.state

pub returns-then-count-eq0-clause-given : goal.returns-then-count-eq0-clause-given
returns-then-count-eq0-clause-given c = more_given c.args.self.now c.loop-at.self c.args.given.now.items c.loop-at.given.items c.read_ahead.new.given.items c.args.bytes.now _ c.loop-at.at c.in_ok-count.count c.loop-at.invariant.state c.loop-at.invariant.given (take_rest c.args.bytes.now c.loop-at.at) c.in_ok-count.ensures.given
