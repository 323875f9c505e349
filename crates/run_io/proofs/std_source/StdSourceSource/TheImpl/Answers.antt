-- The clauses on bytes say nothing of a source that tells none.
use Rattle.std.proofs.Common.{refl}
use Rattle.run_io.proofs.Always.{after_ok, after_err}
use Rattle.run_io.proofs.Inputs.{still_fits}
use Rattle.run_io.proofs.std_source.StdSourceSource.TheImpl.Goals as goal

pub read-tells : goal.read-tells
read-tells g c = record {
  count = c.ensures.count;
  bytes = after_ok c.result _ (λ n. refl);
  end = after_ok c.result _ (λ n nothing room. tt);
  ended = c.ensures.ended;
  opened = still_fits _ _ _ _ c.ensures.kept.0 c.ensures.kept.1;
  err = after_err c.result _ refl;
  cause = c.ensures.cause;
}
