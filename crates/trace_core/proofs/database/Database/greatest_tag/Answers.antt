use Rattle.std.proofs.Common.{rules}
use Rattle.trace_core.specs.Checked.{known_to}
use Rattle.trace_core.proofs.TagLemmas.{known_more, known_whole, tag_more}
use Rattle.trace_core.proofs.database.Database.greatest_tag.Goals as goal

pub loop-hint-preserved : goal.loop-hint-preserved
loop-hint-preserved c = record {
  known = known_more (known_to c.args.self.now.inputs c.args.self.now.steps) c.args.hints.now c.loop-hint.hint-index (record { clause = c.in_ok-found.found.lits.now; tag = c.in_ok-found.found.tag })
      c.loop-hint-test.true c.in_ok-found.ensures c.loop-hint.invariant.known;
  tag = tag_more (known_to c.args.self.now.inputs c.args.self.now.steps) c.args.hints.now c.loop-hint.hint-index c.loop-hint.most c.max-most.result (record { clause = c.in_ok-found.found.lits.now; tag = c.in_ok-found.found.tag })
      c.loop-hint-test.true c.in_ok-found.ensures (search rules) c.loop-hint.invariant.tag;
}

pub returns-clause-known : goal.returns-clause-known
returns-clause-known c = λ _. known_whole (known_to c.args.self.now.inputs c.args.self.now.steps) c.args.hints.now c.loop-hint.hint-index c.loop-hint-test.false c.loop-hint.invariant.known
