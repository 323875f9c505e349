use Rattle.service.specs.Passes.{IsReady, IsClientPass}
use Rattle.tarmo_bench.proofs.clients.threads.add_often.Given as goal

abbrev pub invariant-loop : goal.invariant-loop
invariant-loop g l = record {
  ready : IsReady l.service.lock l.pass;
  client : IsClientPass l.service.lock l.pass;
}
