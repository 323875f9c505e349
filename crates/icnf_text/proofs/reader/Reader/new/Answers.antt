use Rattle.std.proofs.Common.{ap}
use Rattle.icnf_text.specs.Machine.{HasRead, Parse, start}
use Rattle.icnf_text.proofs.reader.Reader.new.Goals as goal

pub returns : goal.returns
unfolding HasRead
returns c = ap (λ (p : Parse). record start { parse = p }) c.new.ensures
