use Rattle.std.proofs.Common.{◌∙◌, ℕ, List, ap, map}
use Rattle.std.specs.Prelude.{Contains, ◌↔◌}
use Rattle.std.proofs.lemmas.List.{take_all}
use Rattle.sat_base.specs.Lit.{opposite}
use Rattle.analyze.specs.Graph.{lit_at}
use Rattle.analyze.proofs.Taught.{IsClauseOf}
use Rattle.analyze.proofs.Collected.{ok_weaker, negations}
use Rattle.analyze.proofs.learning.clause_of.Goals as goal

pub returns : goal.returns
returns c =
    ok_weaker c.from_lits.result (λ (clause : List ℕ). (lit : ℕ) → Contains clause lit ↔ Contains c.deref.result.now lit) (λ (clause : List ℕ). IsClauseOf clause (lit_at c.args.trail.now.entries) c.args.places.now)
    (negations (lit_at c.args.trail.now.entries) c.args.places.now c.deref.result.now
    (c.deref.ensures.value ∙ c.loop-place.invariant ∙ ap (map (λ place. opposite (lit_at c.args.trail.now.entries place))) (take_all c.loop-place.place-index c.args.places.now c.loop-place-test.false)))
    c.from_lits.ensures.members
