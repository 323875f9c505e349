use Rattle.std.proofs.Common.{◌≡◌, ◌∙◌, ◌+◌, ◌*◌, ◌++◌, ap, arith}
use Rattle.std.specs.List.{flat_map, range_with_len}
use Rattle.std.proofs.lemmas.Result.{IfOk-from_err}
use Rattle.icnf_gen.specs.Draws.{state_after}
use Rattle.icnf_gen.specs.Drawn.{stretch, stretches}
use Rattle.icnf_gen.proofs.Drawing.{list_more}
use Rattle.icnf_gen.proofs.making.add_stretches.Goals as goal

pub loop-preserved : goal.loop-preserved
loop-preserved c =
    let next = c.in_ok-add_stretch.ensures c.args.draws.now (56 * c.loop.counter) c.loop.invariant.state in
    let more : 56 * c.loop.counter + 56 ≡ 56 * (c.loop.counter + 1) = omega arith in
    let place : 0 + c.loop.counter ≡ c.loop.counter = omega arith in record {
      state = next.0 ∙ ap (state_after c.args.draws.now) more;
      statements = list_more (λ place. stretch c.args.draws.now (56 * place)) c.args.list.now.items c.loop.list.items c.add_stretch.new.list.items 0 c.loop.counter c.loop.counter place c.loop.invariant.statements next.1;
    }

pub returns : goal.returns
returns c =
    let all : c.loop.counter ≡ 30 = omega (arith, c.loop-test.false, c.loop.auto.counter-end) in
    c.loop.invariant.statements ∙ ap (λ n. c.args.list.now.items ++ flat_map (λ place. stretch c.args.draws.now (56 * place)) (range_with_len 0 n)) all

pub returns-in_err-add_stretch : goal.returns-in_err-add_stretch
returns-in_err-add_stretch c =
    IfOk-from_err c.from_residual.result (λ _. c.add_stretch.new.list.items ≡ c.args.list.now.items ++ stretches c.args.draws.now) c.from_residual.ensures.0
