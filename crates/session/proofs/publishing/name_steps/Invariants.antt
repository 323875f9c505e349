use Rattle.session.proofs.Renamed.{IsNaming}
use Rattle.session.proofs.publishing.name_steps.Given as goal

abbrev pub invariant-loop-index : goal.invariant-loop-index
invariant-loop-index l = IsNaming l.fn.names.items l.names.items l.numbers l.place l.index
