use Rattle.std.proofs.Common.{◌≡◌, ◌≤◌, ◌+◌, length}
use Rattle.line_tokens.specs.Token.{lines_of}
use Rattle.verdict_audit.specs.Audit.{Finds, HasJob, start}
use Rattle.verdict_audit.specs.Problem.{IsSpare}
use Rattle.verdict_audit.specs.declared.findings.Finding.{Finding}
use Rattle.verdict_audit.proofs.auditing.audit_lines.Given as goal

abbrev pub invariant-loop-line : goal.invariant-loop-line
invariant-loop-line l = record {
  whole : (finding : Finding) → Finds l.problem (record { tally = l.tally; place = l.place }) l.number l.before (lines_of l.rest) finding → Finds l.problem start 1 0 (lines_of l.output) finding;
  job : HasJob l.problem l.tally l.place;
  spare : IsSpare l.problem l.spare;
  number : l.number + length l.rest ≤ length l.output + 1;
  before : l.before + length l.rest ≡ length l.output;
}

abbrev pub decreases-loop-line : goal.decreases-loop-line
decreases-loop-line l = length l.rest
