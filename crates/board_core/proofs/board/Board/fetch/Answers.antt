use Rattle.std.proofs.Common.{◌≡◌, ◌∙◌, ◌-◌, List, ap, sym, drop, map, take, length, IfOk, subst}
use Rattle.std.specs.Arc.{arc_value}
use Rattle.std.proofs.lemmas.List.{take_rest, drop-map}
use Rattle.entry_core.specs.Journal.{packets}
use Rattle.trace_core.specs.declared.derivation.Step.{Step}
use Rattle.board_core.specs.State.{State}
use Rattle.board_core.proofs.board.Board.fetch.Goals as goal

pub returns : goal.returns
returns c =
    let same : map arc_value (take (length c.deref.result.now - c.args.from) (drop c.args.from c.deref.result.now)) ≡ drop c.args.from (packets c.args.self.now.journal) =
    ap (map arc_value) (take_rest c.deref.result.now c.args.from) ∙ ap (λ xs. map arc_value (drop c.args.from xs)) c.deref.ensures.value
    ∙ sym (drop-map arc_value c.args.from c.self.inside.index.packets.items) ∙ ap (drop c.args.from) c.self.invariant.index.packets
    ∙ ap (λ (board : State). drop c.args.from (packets board.journal)) c.self.view_is in
    subst (λ (all : List (List Step)). IfOk c.copies.result (λ fetched. map arc_value fetched.items ≡ all)) same c.copies.ensures
