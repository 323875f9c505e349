use Rattle.trace_trim.proofs.Numbers.{number_not_missed, number_found_at}
use Rattle.trace_trim.proofs.own_renumber.place_among.Goals as goal

pub unreachable-requires : goal.unreachable-requires
unreachable-requires c = number_not_missed c.args.numbers.now c.args.number c.in-Err.field-0 c.requires.ascending c.requires.there c.in-Err.ensures.position

pub returns : goal.returns
returns c = number_found_at c.args.numbers.now c.args.number c.in-Ok.index c.in-Ok.ensures.bound c.in-Ok.ensures.ok
