-- The rules that the words of a run give.
use Rattle.words.specs.Accepted.{Asked}
use Rattle.entry_core.specs.declared.rules.Rules.{Rules}

-- the rules of a run on one thread: one client and one worker
abbrev pub rules_of : Asked → Rules
rules_of command = record {
  clients = 1;
  workers = 1;
  attempts = command.attempts;
  conflicts = command.conflicts;
  first = command.first;
  traces = command.trace;
}

-- the rules of a run on many threads: one client adds the jobs, and one writes their blocks
abbrev pub shared_rules_of : Asked → Rules
shared_rules_of command = record {
  clients = 2;
  workers = command.workers;
  attempts = command.attempts;
  conflicts = command.conflicts;
  first = command.first;
  traces = command.trace;
}
