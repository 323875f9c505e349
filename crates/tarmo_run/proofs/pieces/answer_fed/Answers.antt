use Rattle.tarmo_run.proofs.Reached.{written_still}
use Rattle.tarmo_run.proofs.pieces.answer_fed.Goals as goal

pub returns-in-Ok-clause-writes : goal.returns-in-Ok-clause-writes
returns-in-Ok-clause-writes g c = λ before took.
    c.in-Ok.ensures.wrote before (written_still _ _ _ _ _ before _ c.advance-advanced.ensures.longer
    c.advance-advanced.ensures.writer c.requires.between.counted.few took)

pub returns-in-Err-Memory-clause-writes : goal.returns-in-Err-Memory-clause-writes
returns-in-Err-Memory-clause-writes g c = λ before took.
    (rw c.in-Err-Memory.field-0-is at c.in-Err-Memory.ensures.wrote) before
    (written_still _ _ _ _ _ before _ c.advance-advanced.ensures.longer
    c.advance-advanced.ensures.writer c.requires.between.counted.few took)

pub returns-in-Err-Unwritten-clause-breaks : goal.returns-in-Err-Unwritten-clause-breaks
returns-in-Err-Unwritten-clause-breaks g c = λ before took.
    (rw c.in-Err-Unwritten.field-0-is at c.in-Err-Unwritten.ensures.wrote) before
    (written_still _ _ _ _ _ before _ c.advance-advanced.ensures.longer
    c.advance-advanced.ensures.writer c.requires.between.counted.few took)
