-- The clauses on bytes say nothing of a sink that tells none.
use Rattle.std.proofs.Common.{refl}
use Rattle.run_io.proofs.Always.{after_ok, after_err}
use Rattle.run_io.proofs.door_sink.DoorSinkSink.TheImpl.Goals as goal

pub write-tells : goal.write-tells
write-tells g c = record {
  count = c.ensures.count;
  some = c.ensures.some;
  bytes = after_ok c.result _ (λ n. refl);
  err = after_err c.result _ refl;
  cause = c.ensures.cause;
}
