use Rattle.trace_text.proofs.RoundTrip.{read_back}
use Rattle.trace_text.proofs.reading.read.Goals as goal

pub returns-clause-read_back : goal.returns-clause-read_back
returns-clause-read_back c = read_back (λ v. v.items) c.args.tags.now c.args.bytes.now c.read_lines.result c.read_lines.ensures
