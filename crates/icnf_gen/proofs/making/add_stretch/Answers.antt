use Rattle.icnf_gen.proofs.Drawing.{in_stretch}
use Rattle.icnf_gen.proofs.making.add_stretch.Goals as goal

pub returns : goal.returns
returns c = λ seed before from.
    in_stretch seed before c.args.draws.now _ _ c.args.list.now.items _ _ from c.in_ok-add_clauses.ensures c.in_ok-add_cubes.ensures
