use Rattle.std.proofs.Common.{subst, arith}
use Rattle.board_core.specs.Rank.{IsFirst}
use Rattle.board_core.proofs.Roots.{first_of_all}
use Rattle.board_core.proofs.tournament.Tournament.first.Goals as goal

pub returns : goal.returns
returns c =
    subst (λ entrants. IsFirst entrants c.standing_at.result) c.self.view_is
    (first_of_all c.self.inside.entrants.items c.self.inside.winners.items c.self.invariant c.standing_at.result
    (grind (arith, c.standing_at.ensures, c.deref.ensures.value, c.deref-2.ensures.value)))
