use Rattle.std.proofs.Common.{◌<◌, [], length}
use Rattle.std.specs.Prelude.{IfSome, IfNone}
use Rattle.std.proofs.lemmas.Result.{IfOk-weaker}
use Rattle.session.specs.Searching.{solver_of}
use Rattle.session.specs.Solving.{Learns}
use Rattle.session.specs.Descents.{Descends}
use Rattle.session.proofs.Keeping.{keeps_twice, learns_keeps, none_learns_after, none_longer_after}
use Rattle.session.proofs.Keeping.{round_stays, some_descends_after}
use Rattle.session.proofs.rounds.propagate_and_decide.Goals as goal

pub returns-in_err-id-clause-round : goal.returns-in_err-id-clause-round
returns-in_err-id-clause-round c =
    let e = c.propagate_and_name.ensures in
    round_stays c.args.search.now c.propagate_and_name.new.search c.args.cube.now c.args.vars c.requires.round e.kept e.variables (e.cubes c.args.cube.now c.requires.round.on_cube)

pub returns-in-Some-clause-round : goal.returns-in-Some-clause-round
returns-in-Some-clause-round c =
    let e = c.propagate_and_name.ensures in
    round_stays c.args.search.now c.propagate_and_name.new.search c.args.cube.now c.args.vars c.requires.round e.kept e.variables (e.cubes c.args.cube.now c.requires.round.on_cube)

pub decide_or_answer-requires-clause-round : goal.decide_or_answer-requires-clause-round
decide_or_answer-requires-clause-round c =
    let e = c.propagate_and_name.ensures in
    round_stays c.args.search.now c.propagate_and_name.new.search c.args.cube.now c.args.vars c.requires.round e.kept e.variables (e.cubes c.args.cube.now c.requires.round.on_cube)

pub returns-in_err-id-clause-keeps : goal.returns-in_err-id-clause-keeps
returns-in_err-id-clause-keeps c = learns_keeps (solver_of c.args.search.now)
    (solver_of c.propagate_and_name.new.search) [] [] c.propagate_and_name.ensures.learns

pub returns-in-Some-clause-keeps : goal.returns-in-Some-clause-keeps
returns-in-Some-clause-keeps c = learns_keeps (solver_of c.args.search.now)
    (solver_of c.propagate_and_name.new.search) [] [] c.propagate_and_name.ensures.learns

pub returns-in-None-clause-keeps : goal.returns-in-None-clause-keeps
returns-in-None-clause-keeps c =
    let old = solver_of c.args.search.now in
    let mid = solver_of c.propagate_and_name.new.search in
    keeps_twice old mid (solver_of c.decide_or_answer.new.search)
    (learns_keeps old mid [] [] c.propagate_and_name.ensures.learns) c.decide_or_answer.ensures.keeps

pub returns-in-None-clause-ends : goal.returns-in-None-clause-ends
returns-in-None-clause-ends c =
    let old = c.args.search.now in
    let mid = c.propagate_and_name.new.search in
    let new = c.decide_or_answer.new.search in
    IfOk-weaker c.decide_or_answer.result (λ end. IfSome end (Descends mid new c.args.cube.now))
    (λ end. IfSome end (Descends old new c.args.cube.now))
    (λ end d. some_descends_after old mid new c.args.cube.now end c.propagate_and_name.ensures.learns d) c.decide_or_answer.ensures.ends

pub returns-in-None-clause-learns : goal.returns-in-None-clause-learns
returns-in-None-clause-learns c =
    let old = solver_of c.args.search.now in
    let mid = solver_of c.propagate_and_name.new.search in
    let new = solver_of c.decide_or_answer.new.search in
    IfOk-weaker c.decide_or_answer.result (λ end. IfNone end (Learns mid new [] []))
    (λ end. IfNone end (Learns old new [] []))
    (λ end l. none_learns_after old mid new end c.propagate_and_name.ensures.learns l) c.decide_or_answer.ensures.learns

pub returns-in-None-clause-longer : goal.returns-in-None-clause-longer
returns-in-None-clause-longer c =
    let old = length c.args.search.now.trail.entries in
    let mid = length c.propagate_and_name.new.search.trail.entries in
    let new = length c.decide_or_answer.new.search.trail.entries in
    IfOk-weaker c.decide_or_answer.result (λ end. IfNone end (mid < new))
    (λ end. IfNone end (old < new))
    (λ end l. none_longer_after old mid new end c.propagate_and_name.ensures.grown l) c.decide_or_answer.ensures.longer
