use Rattle.trace_trim.proofs.Found.{not_missed, found_at}
use Rattle.trace_trim.proofs.renumber.place_of.Goals as goal

pub unreachable-requires : goal.unreachable-requires
unreachable-requires c = not_missed c.args.names.now c.args.name c.in-Err.field-0 c.requires.ascending c.requires.there c.in-Err.ensures.position

pub returns : goal.returns
returns c = found_at c.args.names.now c.args.name c.in-Ok.index c.in-Ok.ensures.bound c.in-Ok.ensures.ok
