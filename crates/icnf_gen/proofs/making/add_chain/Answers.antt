use Rattle.std.proofs.Common.{◌≡◌, ◌∙◌, ◌+◌, ◌-◌, ◌++◌, map, ap, arith}
use Rattle.std.specs.List.{range_with_len}
use Rattle.icnf_gen.specs.Drawn.{implication}
use Rattle.icnf_gen.proofs.Drawing.{item_more}
use Rattle.icnf_gen.proofs.making.add_chain.Goals as goal

pub loop-variable-preserved : goal.loop-variable-preserved
loop-variable-preserved c =
    let place : 101 + (c.loop-variable.variable - 101) ≡ c.loop-variable.variable = omega (arith, c.loop-variable.auto.variable) in
    let more : c.loop-variable.variable - 101 + 1 ≡ c.loop-variable.variable + 1 - 101 = omega (arith, c.loop-variable.auto.variable) in
    item_more implication c.args.list.now.items c.loop-variable.list.items c.push.new.self.items 101 (c.loop-variable.variable - 101) c.loop-variable.variable c.in_ok-implication.field-0 place c.loop-variable.invariant c.in_ok-implication.ensures c.in_ok-push.ensures.items
    ∙ ap (λ n. c.args.list.now.items ++ map implication (range_with_len 101 n)) more

pub returns : goal.returns
returns c =
    let end = c.loop-variable.auto.variable-end (omega arith) in
    let all : c.loop-variable.variable - 101 ≡ 10000 = omega (arith, c.loop-variable-test.false, end) in
    c.loop-variable.invariant ∙ ap (λ n. c.args.list.now.items ++ map implication (range_with_len 101 n)) all
