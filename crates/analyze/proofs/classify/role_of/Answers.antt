use Rattle.std.proofs.Common.{sym, subst}
use Rattle.analyze.specs.Cut.{IsRole}
use Rattle.analyze.specs.declared.classify.Rule.{Rule}
use Rattle.analyze.proofs.classify.role_of.Goals as goal

pub returns-in-Refuting-clause-role : goal.returns-in-Refuting-clause-role
returns-in-Refuting-clause-role c = λ analyzed agree has prepared.
    subst (λ (rule : Rule). IsRole c.args.arena.now c.args.trail.now.entries c.args.trail.now.depth
    rule analyzed c.args.place c.refuting_role.result) (sym c.in-Refuting.is)
    (c.refuting_role.ensures c.args.arena.now analyzed)
