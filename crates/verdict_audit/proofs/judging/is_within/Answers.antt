use Rattle.std.proofs.Common.{subst, sym, refl, length}
use Rattle.std.specs.Prelude.{◌↔◌, ◌==◌, All, Contains, IsTrue}
use Rattle.verdict_audit.proofs.Within.{passed_all, is_front_within}
use Rattle.verdict_audit.proofs.judging.is_within.Goals as goal

pub returns : goal.returns
returns c = subst (λ b. IsTrue b ↔ All (Contains c.args.cube.now) c.args.part.now) (sym (passed_all c.args.part.now c.args.cube.now c.loop-lit.at c.loop-lit.lit-index (c.loop-lit.at == length c.args.part.now) c.loop-lit.invariant.within c.loop-lit-test.false refl c.loop-lit.invariant.front))
    (is_front_within c.args.part.now c.args.cube.now c.requires.part c.requires.cube)
