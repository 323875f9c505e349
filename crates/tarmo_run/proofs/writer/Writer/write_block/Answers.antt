use Rattle.std.proofs.Common.{◌≤◌, length, arith, refl}
use Rattle.tarmo_run.proofs.Blocks.{broke_one, due_written, wrote_one}
use Rattle.tarmo_run.proofs.writer.Writer.write_block.Goals as goal

pub returns-in-Ok-clause-wrote : goal.returns-in-Ok-clause-wrote
returns-in-Ok-clause-wrote g c = λ board is before took.
    wrote_one c.args.trace board c.args.self.now.written c.args.due.now.job c.deref.result.now
    before _ _ is.next
    (rw c.deref.ensures.value (c.in_ok-printed.ensures.text board is)) c.in-Ok.ensures.whole took

pub returns-clause-wrote : goal.returns-clause-wrote
returns-clause-wrote g c = λ board is before took.
    let front = c.in-Err.ensures.front in
    let within : front.0 ≤ length c.deref.result.now = omega (arith, front.1) in
    broke_one c.args.trace board c.args.self.now.written c.args.due.now.job front.0
    c.deref.result.now before _ _ is.next is.verdict.there.added
    (rw c.deref.ensures.value (c.in_ok-printed.ensures.text board is)) within front.2 took

pub returns-in-Ok-clause-counted : goal.returns-in-Ok-clause-counted
returns-in-Ok-clause-counted g c = λ board is.
    due_written c.args.self.now _ board c.args.due.now is c.print.ensures.within refl
    (c.in_ok-printed.ensures.inputs board is)
