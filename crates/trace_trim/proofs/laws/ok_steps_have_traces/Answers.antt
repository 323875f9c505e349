use Rattle.trace_trim.proofs.Existence.{ok_steps_have_traces}
use Rattle.trace_trim.proofs.laws.ok_steps_have_traces.Goals as goal

pub returns : goal.returns
returns c = ok_steps_have_traces
