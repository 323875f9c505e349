use Rattle.worker_loop.proofs.Slicing.{job_still}
use Rattle.worker_loop.proofs.slices.share_and_look.Goals as goal

pub is_settled-requires : goal.is_settled-requires
is_settled-requires c = job_still c.args.board.now c.share.new.board c.args.caller c.args.job c.share.ensures.more c.requires.job
