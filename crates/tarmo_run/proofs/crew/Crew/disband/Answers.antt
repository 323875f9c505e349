use Rattle.std.proofs.Common.{◌≡◌, ◌∙◌, List, [], ◌∷◌, ◌++◌, ap, subst}
use Rattle.std.specs.Prelude.{All}
use Rattle.std.proofs.lemmas.List.Elements.{All-head, All-tail}
use Rattle.service.specs.Passes.{BoardPass, Knows}
use Rattle.tarmo_run.proofs.Gathering.{left}
use Rattle.tarmo_run.proofs.Resting.{all_rest}
use Rattle.tarmo_run.proofs.crew.Crew.disband.Goals as goal

pub returns-clause-board : goal.returns-clause-board
returns-clause-board c =
    let one = c.args.self.adder.pass in
    let two = c.args.self.printer.pass in
    let list = c.push_reserved-2.ensures.items
    ∙ ap (λ (passes : List BoardPass). passes ++ two ∷ [])
    (c.push_reserved.ensures.items
    ∙ ap (λ (passes : List BoardPass). passes ++ one ∷ []) c.requires.whole.empty.0) in
    let board = c.shut-board.result in
    let Kind = λ (pass : BoardPass). Knows pass board in
    let all = subst (λ (passes : List BoardPass). All Kind (passes ++ c.args.self.workers.items))
    list c.shut-board.ensures.passes in
    let rest = two ∷ c.args.self.workers.items in
    left c.args.self board c.requires.whole c.shut-board.ensures.rules c.shut-board.ensures.legal
    (All-head Kind one rest all)
    (All-head Kind two c.args.self.workers.items (All-tail Kind one rest all))
    (all_rest c.args.self board c.requires.whole c.shut-board.ensures.rules
    c.shut-board.ensures.legal c.shut-board.ensures.callers
    (All-tail Kind two c.args.self.workers.items (All-tail Kind one rest all)))
