use Rattle.std.proofs.Common.{◌≤◌, ap, refl, arith}
use Rattle.sat_base.specs.Lit.{variable}
use Rattle.sat_base.proofs.Members.{All-from_members}
use Rattle.session.specs.Searching.{solver_of}
use Rattle.session.proofs.UpTo.{below_greatest}
use Rattle.session.proofs.Modelled.{model_of}
use Rattle.session.proofs.Keeping.{learns_decided}
use Rattle.session.proofs.Keeping.{model_concludes, refuted_concludes, round_chosen, round_moved}
use Rattle.session.proofs.Keeping.{round_stepped}
use Rattle.session.specs.declared.search.Search.{Search}
use Rattle.session.specs.Orders.{IsOrderOf}
use Rattle.session.proofs.Orders.{order_changed}
use Rattle.session.proofs.rounds.decide_or_answer.Goals.{After-next_move}
use Rattle.session.proofs.rounds.decide_or_answer.Goals as goal

pub next_move-requires-clause-within : goal.next_move-requires-clause-within
next_move-requires-clause-within c =
    let r = c.requires.round.variables in
    All-from_members (λ lit. variable lit ≤ c.args.search.now.trail.vars) c.args.cube.now
    (λ lit has. (let low = below_greatest c.args.cube.now lit has in omega
    (arith, low, r.are, r.low)))

-- the order after the search for a move
ordered : (c : After-next_move) → IsOrderOf c.args.search.now.greatest c.args.search.now.trail c.next_move.new.order
ordered c =
    let e = c.next_move.ensures in
    let s = c.args.search.now in
    order_changed s.greatest s.trail s.trail s.order c.next_move.new.order e.order e.vars refl e.offers c.requires.round.kept.order

pub returns-in_err-decide-in-Decide-clause-round : goal.returns-in_err-decide-in-Decide-clause-round
returns-in_err-decide-in-Decide-clause-round c =
    let e = c.in_err-decide-in-Decide.ensures in
    round_chosen c.args.search.now c.decide.new.search c.next_move.new.cursor c.next_move.new.order c.args.cube.now c.args.vars c.requires.round c.next_move.ensures.passed (ordered (goal.at.returns-in_err-decide-in-Decide-clause-round c).After-next_move) e.parts e.vars e.kept
    (e.cube c.args.cube.now c.in-Decide.ensures.next.allowed)

pub returns-in_ok-decide-in-Decide-clause-round : goal.returns-in_ok-decide-in-Decide-clause-round
returns-in_ok-decide-in-Decide-clause-round c =
    let e = c.in_ok-decide-in-Decide.ensures in
    round_chosen c.args.search.now c.decide.new.search c.next_move.new.cursor c.next_move.new.order c.args.cube.now c.args.vars c.requires.round c.next_move.ensures.passed (ordered (goal.at.returns-in_ok-decide-in-Decide-clause-round c).After-next_move) e.parts e.vars e.kept
    (e.cube c.args.cube.now c.in-Decide.ensures.next.allowed)

pub returns-in_ok-decide-in-Decide-clause-learns : goal.returns-in_ok-decide-in-Decide-clause-learns
returns-in_ok-decide-in-Decide-clause-learns c =
    let mid : Search = record c.args.search.now { cursor = c.next_move.new.cursor; order = c.next_move.new.order } in
    learns_decided mid c.decide.new.search c.decide.ensures.parts

pub returns-in_err-part-in-Blame-clause-round : goal.returns-in_err-part-in-Blame-clause-round
returns-in_err-part-in-Blame-clause-round c =
    let e = c.in_err-part-in-Blame.ensures in
    let s = c.args.search.now in
    let cursor = c.next_move.new.cursor in
    let order = c.next_move.new.order in
    round_stepped (record s { cursor = cursor; order = order }) c.refute_literal.new.search c.args.cube.now c.args.vars
    (round_moved s cursor order c.args.cube.now c.args.vars c.requires.round c.next_move.ensures.passed (ordered (goal.at.returns-in_err-part-in-Blame-clause-round c).After-next_move))
    e.parts e.kept

pub returns-in_ok-part-in-Blame-clause-round : goal.returns-in_ok-part-in-Blame-clause-round
returns-in_ok-part-in-Blame-clause-round c =
    let e = c.in_ok-part-in-Blame.ensures in
    let s = c.args.search.now in
    let cursor = c.next_move.new.cursor in
    let order = c.next_move.new.order in
    round_stepped (record s { cursor = cursor; order = order }) c.refute_literal.new.search c.args.cube.now c.args.vars
    (round_moved s cursor order c.args.cube.now c.args.vars c.requires.round c.next_move.ensures.passed (ordered (goal.at.returns-in_ok-part-in-Blame-clause-round c).After-next_move))
    e.parts e.kept

pub returns-in_ok-part-in-Blame-clause-ends : goal.returns-in_ok-part-in-Blame-clause-ends
returns-in_ok-part-in-Blame-clause-ends c =
    let e = c.in_ok-part-in-Blame.ensures in
    refuted_concludes (solver_of c.args.search.now)
    (solver_of c.refute_literal.new.search) c.args.cube.now c.in_ok-part-in-Blame.part c.in_ok-part-in-Blame.number
    (ap solver_of e.parts) e.last
    (e.answer c.args.cube.now c.requires.round.on_cube.decisions c.in-Blame.ensures.next.stands)

pub returns-in_ok-model-in-Stop-clause-ends : goal.returns-in_ok-model-in-Stop-clause-ends
returns-in_ok-model-in-Stop-clause-ends c =
    let s = c.args.search.now in
    let r = c.requires.round in
    model_concludes (solver_of s) c.args.cube.now c.in_ok-model-in-Stop.model
    (model_of s c.args.cube.now c.args.vars s.order.vars c.in_ok-model-in-Stop.model r.kept r.variables.set r.variables.are r.kept.order.has_inputs c.requires.complete c.in-Stop.ensures.next c.in_ok-model-in-Stop.ensures)
