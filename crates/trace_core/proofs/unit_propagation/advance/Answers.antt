use Rattle.std.proofs.Common.{◌≡◌, ℕ, false, []}
use Rattle.std.proofs.Common.{◌∷◌, ◌++◌}
use Rattle.std.specs.Prelude.{IsTrue, MatchBool}
use Rattle.std.proofs.lemmas.Result.{IfOk-weaker}
use Rattle.trace_core.specs.Propagation.{IsUnit}
use Rattle.trace_core.specs.Marking.{holds}
use Rattle.trace_core.specs.declared.marks.Found.TheVariants.{Nothing, More}
use Rattle.trace_core.proofs.UnitLemmas.{no_unit, unit_added}
use Rattle.trace_core.proofs.unit_propagation.advance.Goals as goal

pub returns-in-One-clause-unit : goal.returns-in-One-clause-unit
returns-in-One-clause-unit c =
    IfOk-weaker c.add.result
    (λ added. MatchBool added ((holds c.scan.new.marks c.in-One.lit ≡ false) × (c.add.new.set.items ≡ c.args.set.now.items ++ c.in-One.lit ∷ [])) (IsTrue (holds c.scan.new.marks c.in-One.lit)))
    (λ added. MatchBool added ((lit : ℕ) × IsUnit c.args.set.now.items c.args.hint.now lit × (c.add.new.set.items ≡ c.args.set.now.items ++ lit ∷ [])) ((lit : ℕ) → IsUnit c.args.set.now.items c.args.hint.now lit → ⊥))
    (λ added is. unit_added c.args.marks.now c.scan.new.marks c.args.set.now.items c.add.new.set.items c.args.hint.now c.in-One.lit added c.in-One.ensures.found c.requires.agree c.scan.ensures.holding is)
    c.add.ensures.added

pub returns-in-Nothing-clause-unit : goal.returns-in-Nothing-clause-unit
returns-in-Nothing-clause-unit c = no_unit c.args.marks.now c.args.set.now.items c.args.hint.now Nothing (λ lit same. cc) c.in-Nothing.ensures.found c.requires.agree

pub returns-in-More-clause-unit : goal.returns-in-More-clause-unit
returns-in-More-clause-unit c = no_unit c.args.marks.now c.args.set.now.items c.args.hint.now More (λ lit same. cc) c.in-More.ensures.found c.requires.agree
