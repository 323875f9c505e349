use Rattle.std.proofs.Common.{ap, refl, Some}
use Rattle.std.proofs.lemmas.List.{drop-drop}
use Rattle.run_io.proofs.Parts.{read_gives}
use Rattle.run_io.proofs.memory_source.MemorySourceSource.read.Goals as goal

pub returns-clause-bytes : goal.returns-clause-bytes
returns-clause-bytes c =
    rw (← c.self.view_is)
    (ap Some (read_gives _ _ _ _ _ _ _ c.deref.ensures.value c.copy_front-count.ensures.count c.copy_front-count.ensures.buffer))

pub returns-clause-given : goal.returns-clause-given
returns-clause-given c =
    rw (← c.self.view_is, c.most_by_next_cut-most.ensures.rest, c.in_ok-call.ensures.answered, c.finds_end.ensures, c.copy_front-count.auto.buf, drop-drop)
    refl
