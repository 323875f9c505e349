use Rattle.std.proofs.Common.{rules}
use Rattle.verdict_audit.proofs.CaseLemmas.{room_left}
use Rattle.verdict_audit.proofs.problem.with_inputs.Goals as goal

pub add_input-requires-clause-room : goal.add_input-requires-clause-room
add_input-requires-clause-room c = room_left c.loop-clause.grown.inputs c.args.checker.inputs c.args.clauses.now c.loop-clause.clause-index (search rules) c.loop-clause.invariant.inputs c.requires.room
