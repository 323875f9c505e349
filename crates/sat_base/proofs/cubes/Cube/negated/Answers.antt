use Rattle.std.proofs.Common.{◌∙◌, ap, map}
use Rattle.std.specs.Prelude.{ℕ, ◌↔◌, Contains}
use Rattle.std.proofs.lemmas.Result.{IfOk-weaker}
use Rattle.sat_base.specs.Lit.{opposite}
use Rattle.sat_base.proofs.Opposite.{Contains-negations}
use Rattle.sat_base.proofs.cubes.Cube.negated.Goals as goal

pub returns : goal.returns
returns c =
    let members = Contains-negations c.args.self.now c.deref-2.result.now
    (c.deref-2.ensures.value ∙ c.in_ok-lits.ensures ∙ ap (map opposite) (c.deref.ensures.value ∙ c.self.view_is)) in
    record {
      members = IfOk-weaker c.from_lits.result
          (λ clause. (lit : ℕ) → Contains clause lit ↔ Contains c.deref-2.result.now lit)
          (λ clause. (lit : ℕ) → Contains clause lit ↔ Contains c.args.self.now (opposite lit))
          (λ clause h lit. (λ has. (members lit).0 ((h lit).0 has), λ has. (h lit).1 ((members lit).1 has)))
          c.from_lits.ensures.members;
    }
