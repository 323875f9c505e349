use Rattle.board_core.proofs.WorkedJob.{is_job}
use Rattle.board_core.proofs.tests.worked.a_job_has_the_segment_that_was_added.Goals as goal

pub segment-requires : goal.segment-requires
segment-requires g c = is_job c.in_ok-board.board c.in_ok-board.ensures.job
