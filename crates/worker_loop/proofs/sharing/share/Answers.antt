use Rattle.std.proofs.Common.{subst, sym}
use Rattle.std.specs.Prelude.{All}
use Rattle.session.specs.Session.{SessionView}
use Rattle.worker_loop.specs.Shared.{IsLesson}
use Rattle.worker_loop.proofs.sharing.share.Goals as goal

pub share_all-requires-clause-lessons : goal.share_all-requires-clause-lessons
share_all-requires-clause-lessons c = subst (λ (s : SessionView). All (IsLesson s.solver) c.args.learnt.now) (sym c.read_packets.ensures.session) c.requires.lessons
