use Rattle.std.proofs.Common.{◌∙◌, ℕ, List, [], ◌∷◌, ◌++◌, ap, arith, refl}
use Rattle.entry_core.specs.Journal.{segments}
use Rattle.entry_core.specs.declared.segments.Segment.{Segment}
use Rattle.tarmo_run.proofs.Passing.{added_few, added_segment, adder_added}
use Rattle.tarmo_run.proofs.adder.Adder.add_job.Goals as goal

pub overflow_add-self : goal.overflow_add-self
overflow_add-self g c =
    let few = added_few _ _ _ _ _ c.in-Ok.ensures.added in
    omega (arith, few, c.requires.adder.counted)

pub returns-in-Ok-clause-adder : goal.returns-in-Ok-clause-adder
returns-in-Ok-clause-adder g c =
    adder_added _ c.args.self.now _ _ _ c.requires.adder c.in-Ok.ensures.keeps
    c.in-Ok.ensures.added refl

pub returns-in-Ok-clause-added : goal.returns-in-Ok-clause-added
returns-in-Ok-clause-added g c =
    added_segment _ _ _ _ _ c.in-Ok.ensures.added
    ∙ ap (λ (list : List (List ℕ)). segments c.args.self.now.pass.own
    ++ (let s : Segment = record { clauses = list; cube = c.args.cube } in s) ∷ [])
    (c.of-clauses.ensures ∙ c.take_pending.ensures.taken)
