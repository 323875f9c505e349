use Rattle.std.proofs.Common.{subst, sym, eqb, eq-eqb}
use Rattle.std.proofs.lemmas.Bool.{both_ways}
use Rattle.trace_core.specs.Marking.{IsFound}
use Rattle.trace_core.proofs.MarkLemmas.{found_first, found_second, found_more}
use Rattle.trace_core.proofs.marks.with.Goals as goal

pub returns-in-Nothing : goal.returns-in-Nothing
returns-in-Nothing c = λ marks clause is free. found_first marks clause c.args.lit (subst (IsFound marks clause) c.in-Nothing.is is) free

pub returns-else-eq : goal.returns-else-eq
returns-else-eq c = λ marks clause is free. found_second marks clause c.in-One.first c.args.lit (λ same. both_ways (eqb c.in-One.first c.args.lit) (sym c.if-eq.ensures) (eq-eqb c.in-One.first c.args.lit same)) (subst (IsFound marks clause) c.in-One.is is) free

pub returns-in-More : goal.returns-in-More
returns-in-More c = λ marks clause is free. found_more marks clause c.args.lit (subst (IsFound marks clause) c.in-More.is is)
