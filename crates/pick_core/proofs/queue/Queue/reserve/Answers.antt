use Rattle.std.proofs.Common.{◌∙◌, ◌+◌, ap, sym, arith}
use Rattle.pick_core.specs.Queue.{entered}
use Rattle.pick_core.proofs.Entered.{entered_size}
use Rattle.pick_core.proofs.Seen.{is_seen, kept_from, order_is, longer}
use Rattle.pick_core.proofs.queue.Queue.reserve.Goals as goal

pub enter_all-requires : goal.enter_all-requires
enter_all-requires c =
    let s = is_seen c.self.inside.links.items c.self.inside.cursor c.self.inside.vars c.args.self.now c.self.invariant c.self.view_is in
    let o = longer c.self.inside.links.items c.resize.new.self.items c.args.self.now.order (c.args.vars + 1) _ c.none.result s.order (omega (arith, s.tight, c.if-vars-self.false)) c.none.ensures.farther c.none.ensures.nearer c.in_ok-resize.ensures.items (omega (arith, c.in_ok-resize.ensures.len)) in
    record {
      order = c.args.self.now.order;
      is = o;
      next = s.size;
      rising = omega (arith, c.if-vars-self.false);
      within = omega (arith, c.in_ok-resize.ensures.len);
    }

pub invariant_of-self-2 : goal.invariant_of-self-2
invariant_of-self-2 c =
    let s = is_seen c.self.inside.links.items c.self.inside.cursor c.self.inside.vars c.args.self.now c.self.invariant c.self.view_is in
    let o = longer c.self.inside.links.items c.resize.new.self.items c.args.self.now.order (c.args.vars + 1) _ c.none.result s.order (omega (arith, s.tight, c.if-vars-self.false)) c.none.ensures.farther c.none.ensures.nearer c.in_ok-resize.ensures.items (omega (arith, c.in_ok-resize.ensures.len)) in
    let all = c.enter_all.ensures.order c.args.self.now.order o (sym s.size) in
    let size = entered_size c.args.at_end c.args.self.now.order c.self.inside.vars c.args.vars in
    kept_from c.enter_all.new.links.items c.args.vars (entered c.args.at_end c.args.self.now.order c.self.inside.vars c.args.vars) c.last-self-inside.result all c.last-self-inside.ensures (omega (arith, size, s.size, c.if-vars-self.false)) (omega (arith, c.enter_all.ensures.size, c.in_ok-resize.ensures.len))

pub returns-clause-order : goal.returns-clause-order
returns-clause-order c =
    let s = is_seen c.self.inside.links.items c.self.inside.cursor c.self.inside.vars c.args.self.now c.self.invariant c.self.view_is in
    let o = longer c.self.inside.links.items c.resize.new.self.items c.args.self.now.order (c.args.vars + 1) _ c.none.result s.order (omega (arith, s.tight, c.if-vars-self.false)) c.none.ensures.farther c.none.ensures.nearer c.in_ok-resize.ensures.items (omega (arith, c.in_ok-resize.ensures.len)) in
    let all = c.enter_all.ensures.order c.args.self.now.order o (sym s.size) in
    order_is c.enter_all.new.links.items (entered c.args.at_end c.args.self.now.order c.self.inside.vars c.args.vars) all
    ∙ ap (λ n. entered c.args.at_end c.args.self.now.order n c.args.vars) s.vars_is
