-- What a task's rules become on many threads.
use Rattle.entry_core.specs.declared.rules.Rules.{Rules}
use Rattle.tarmo_run.specs.declared.asking.Task.{Task}

-- two clients, and the workers of the words
abbrev pub shared_rules : Task → Rules
shared_rules task = record task.rules { clients = 2; workers = task.workers }
