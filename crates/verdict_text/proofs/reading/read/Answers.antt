use Rattle.verdict_text.proofs.RoundTrip.{read_back}
use Rattle.verdict_text.proofs.reading.read.Goals as goal

pub returns-clause-read_back : goal.returns-clause-read_back
returns-clause-read_back c = read_back (λ v. v.items) c.args.tags.now c.args.sizes.now c.args.bytes.now c.read_lines.result c.requires.jobs c.requires.sizes c.read_lines.ensures
