use Rattle.std.proofs.Common.{length, arith}
use Rattle.board_core.proofs.Overtaken.{ended_le}
use Rattle.board_core.proofs.index.Index.overtake.Goals as goal

pub overflow_add-self : goal.overflow_add-self
overflow_add-self c =
    let size = length c.args.self.now.jobs.items in
    let le = ended_le c.overtake-more.new.jobs.items (length c.args.self.now.jobs.items) in
    let sum = c.overtake-more.ensures.settled in
    let few = c.requires.few in
    let settled = c.requires.settled in
    omega arith
