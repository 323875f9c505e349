-- A worker's pass at the beginning.
use Rattle.std.proofs.Common.{◌≡◌, ◌∙◌, ℕ, ◌+◌, List, [], ◌++◌, All, length, sym, subst, refl, arith, length-append}
use Rattle.std.specs.Prelude.{IsSome, slice_index_or}
use Rattle.std.proofs.lemmas.List.{get_or-append-add}
use Rattle.trace_core.proofs.Items.{item_at-within}
use Rattle.entry_core.specs.Attempts.{Attempt}
use Rattle.entry_core.specs.Legal.{IsLegal}
use Rattle.turn_lock.specs.Entries.{entries_of}
use Rattle.turn_lock.specs.Passes.{AreNew, new_pass}
use Rattle.service.specs.Passes.{BoardLock, BoardPass, IsReady, IsWorkerPass, caller_of}
use Rattle.worker_loop.specs.Slices.{IsAtWork}
use Rattle.worker_loop.specs.Work.{Rests}

fresh : (lock : BoardLock) (floor number : ℕ) (pass : BoardPass) → pass ≡ new_pass lock floor number → IsReady lock pass → IsWorkerPass lock pass → IsAtWork lock pass × Rests lock pass
fresh lock floor number pass is ready worker = (
  record {
    ready = ready;
    worker = worker;
    legal = subst (λ (p : BoardPass). IsLegal lock.basis p.seen) (sym is) tt;
    own = subst (λ (p : BoardPass). entries_of caller_of p.number p.seen ≡ p.own) (sym is) refl;
  },
  subst (Rests lock) (sym is) (λ other own. (let within = item_at-within {X = Attempt} [] other (subst IsSome (sym own.running.found) refl) in omega (arith, within.0, within.1))),
)

-- The passes of the workers of a new service are at work, and rest.
pub workers_at_work : (lock : BoardLock) (clients workers : List BoardPass) → AreNew lock 0 (clients ++ workers) → All (λ pass. IsReady lock pass × IsWorkerPass lock pass) workers → All (λ pass. IsAtWork lock pass × Rests lock pass) workers
workers_at_work lock clients workers new all k d lt =
    let at = get_or-append-add clients workers k d in
    let is = new (length clients + k) d (omega (arith, lt, length-append clients workers)) in
    let both = all k d lt in
    fresh lock 0 (length clients + k + 1) (slice_index_or workers k d) (sym at ∙ is) both.0 both.1
