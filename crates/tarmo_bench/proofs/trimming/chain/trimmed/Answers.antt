use Rattle.std.proofs.Common.{[], rules, subst, sym}
use Rattle.std.specs.Prelude.{IsTrue}
use Rattle.trace_trim.specs.Names.{CiteEarlierSteps}
use Rattle.tarmo_bench.proofs.trimming.chain.trimmed.Goals as goal

pub trim-requires-clause-earlier : goal.trim-requires-clause-earlier
trim-requires-clause-earlier c =
    let ok : IsTrue c.cite_earlier_steps-earlier.result = search rules in
    subst (CiteEarlierSteps []) (sym c.requires.own) (c.cite_earlier_steps-earlier.ensures ok)
