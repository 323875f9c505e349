-- The clauses on bytes say nothing of a source that tells none.
use Rattle.std.proofs.Common.{refl}
use Rattle.run_io.proofs.Always.{after_ok, after_err, on_ok}
use Rattle.run_io.proofs.door_source.DoorSourceSource.TheImpl.Goals as goal

pub start-tells : goal.start-tells
start-tells g c = record {
  left = refl;
  ended = c.ensures.ended;
  opened = on_ok c.result _ refl;
  cause = c.ensures.cause;
}

pub read-tells : goal.read-tells
read-tells g c = record {
  count = c.ensures.count;
  bytes = after_ok c.result _ (λ n. refl);
  end = after_ok c.result _ (λ n nothing room. tt);
  ended = c.ensures.ended;
  opened = λ name is. refl;
  err = after_err c.result _ refl;
  cause = c.ensures.cause;
}
