use Rattle.service.specs.Passes.{IsReady, IsClientPass}
use Rattle.tarmo_bench.proofs.clients.threads.ask_often.Given as goal

abbrev pub invariant-loop-job : goal.invariant-loop-job
invariant-loop-job g l = record {
  ready : IsReady l.service.lock l.pass;
  client : IsClientPass l.service.lock l.pass;
}
