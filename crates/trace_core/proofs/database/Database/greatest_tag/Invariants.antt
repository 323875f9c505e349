use Rattle.std.proofs.Common.{◌≡◌, take, drop, map, max}
use Rattle.std.specs.Prelude.{All, IsSome}
use Rattle.trace_core.specs.Known.{tag_of}
use Rattle.trace_core.specs.Trace.{greatest}
use Rattle.trace_core.specs.Checked.{known_to}
use Rattle.trace_core.proofs.database.Database.greatest_tag.Given as goal

abbrev pub invariant-loop-hint : goal.invariant-loop-hint
invariant-loop-hint l = record {
  known : All (λ hint. IsSome (known_to l.self.inputs l.self.steps hint)) (take l.hint-index l.hints);
  tag : max l.most (greatest (map (λ hint. tag_of (known_to l.self.inputs l.self.steps hint)) (drop l.hint-index l.hints)))
      ≡ greatest (map (λ hint. tag_of (known_to l.self.inputs l.self.steps hint)) l.hints);
}
