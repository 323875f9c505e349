use Rattle.std.proofs.Common.{◌∙◌, [], ap}
use Rattle.tarmo_run.specs.Client.{queries_behind}
use Rattle.tarmo_run.proofs.Finishing.{begun_same}
use Rattle.tarmo_run.proofs.Results.{on_ok_weaker}
use Rattle.tarmo_run.proofs.reader.read_sum.Goals as goal

pub returns-clause-sum : goal.returns-clause-sum
returns-clause-sum g c = record {
  first = begun_same _ _ _ c.close_input.ensures.more.segments c.add_sum-added.ensures.first;
  all = on_ok_weaker c.add_sum-added.result
      (λ is. ap (queries_behind []) c.close_input.ensures.more.segments ∙ is)
      c.add_sum-added.ensures.all;
  accepted = c.add_sum-added.ensures.accepted;
}
