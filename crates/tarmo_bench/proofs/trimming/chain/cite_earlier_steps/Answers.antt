use Rattle.tarmo_bench.proofs.Earlier.{looks_back}
use Rattle.tarmo_bench.proofs.trimming.chain.cite_earlier_steps.Goals as goal

pub returns : goal.returns
returns c = λ ok. looks_back c.args.inputs c.args.own.now (c.cite_earlier.ensures ok)
