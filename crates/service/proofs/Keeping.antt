-- What a pass knows stays true of it.
use Rattle.std.proofs.Common.{◌∙◌, ◌++◌, refl, ap, append_assoc}
use Rattle.turn_lock.proofs.Entries.{starts_self}
use Rattle.service.specs.Passes.{BoardLock, BoardPass, IsReady, Keeps}

pub keeps_none : (lock : BoardLock) (pass : BoardPass) → IsReady lock pass → Keeps lock pass pass
keeps_none lock pass ready = record { ready = ready; number = refl; later = starts_self pass.seen }

pub keeps_then : (lock : BoardLock) (before mid after : BoardPass) → Keeps lock before mid → Keeps lock mid after
    → Keeps lock before after
keeps_then lock before mid after first second = record {
  ready = second.ready;
  number = second.number ∙ first.number;
  later = (first.later.0 ++ second.later.0, second.later.1 ∙ ap (λ l. l ++ second.later.0) first.later.1 ∙ append_assoc before.seen first.later.0 second.later.0);
}
