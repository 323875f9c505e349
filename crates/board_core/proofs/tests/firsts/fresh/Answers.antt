use Rattle.std.proofs.Common.{◌≡◌, sym, subst}
use Rattle.std.proofs.lemmas.List.Elements.{All-nil}
use Rattle.entry_core.specs.declared.segments.Segment.{Segment}
use Rattle.board_core.specs.State.{State}
use Rattle.board_core.specs.Worked.{AreEmpty, empty_job}
use Rattle.board_core.proofs.tests.firsts.fresh.Goals as goal

pub returns : goal.returns
returns c = subst (λ (board : State). AreEmpty board.journal) (sym c.in_ok-board.ensures) (All-nil (λ (s : Segment). s ≡ empty_job))
