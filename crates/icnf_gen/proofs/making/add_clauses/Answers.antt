use Rattle.std.proofs.Common.{◌≡◌, ◌∙◌, ◌+◌, ◌*◌, ◌++◌, map, ap, arith}
use Rattle.std.specs.List.{range_with_len}
use Rattle.icnf_gen.specs.Draws.{state_after}
use Rattle.icnf_gen.specs.Drawn.{drawn_clause}
use Rattle.icnf_gen.proofs.Drawing.{item_more}
use Rattle.icnf_gen.proofs.making.add_clauses.Goals as goal

pub loop-preserved : goal.loop-preserved
loop-preserved c = λ seed before from.
    let now = c.loop.invariant seed before from in
    let more : before + 3 * c.loop.counter + 3 ≡ before + 3 * (c.loop.counter + 1) = omega arith in
    let place : 0 + c.loop.counter ≡ c.loop.counter = omega arith in (
      c.drawn_clause.ensures.state seed (before + 3 * c.loop.counter) now.0 ∙ ap (state_after seed) more,
      item_more (λ place. drawn_clause seed (before + 3 * place)) c.args.list.now.items c.loop.list.items c.push.new.self.items 0 c.loop.counter c.loop.counter c.in_ok-drawn_clause.field-0 place now.1
          (c.in_ok-drawn_clause.ensures.statement seed (before + 3 * c.loop.counter) now.0) c.in_ok-push.ensures.items,
    )

pub returns : goal.returns
returns c = λ seed before from.
    let now = c.loop.invariant seed before from in
    let all : c.loop.counter ≡ 16 = omega (arith, c.loop-test.false, c.loop.auto.counter-end) in (
      now.0 ∙ ap (λ n. state_after seed (before + 3 * n)) all,
      now.1 ∙ ap (λ n. c.args.list.now.items ++ map (λ place. drawn_clause seed (before + 3 * place)) (range_with_len 0 n)) all,
    )
