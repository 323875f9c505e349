-- What a session answers about its inputs is right for the job that is loaded.
use Rattle.std.proofs.Common.{◌≡◌, ℕ, Bool, List, subst}
use Rattle.std.specs.Arc.{arc_value}
use Rattle.trace_core.specs.Known.{Known}
use Rattle.entry_core.specs.declared.answers.Answer.{Answer}
use Rattle.entry_core.specs.declared.answers.Answer.TheVariants as answer
use Rattle.entry_core.specs.declared.entries.Entry.{Entry}
use Rattle.entry_core.specs.declared.rules.Rules.{Rules}
use Rattle.entry_core.specs.Journal.{inputs_of, cube_of}
use Rattle.entry_core.specs.Right.{IsRightAnswer}
use Rattle.worker_loop.specs.declared.ends.End.{End}
use Rattle.worker_loop.specs.declared.ends.End.TheVariants.{Answered, Spent}
use Rattle.worker_loop.specs.Asked.{IsEndOver, IsRightOver}
use Rattle.worker_loop.specs.Ends.{IsEnd}

right_for_job : (traces : Bool) (journal : List Entry) (job : ℕ) (given : Answer) → IsRightOver traces (inputs_of journal job) (cube_of journal job) given → IsRightAnswer traces journal job given
right_for_job traces journal job (answer.Model values) right = right
right_for_job traces journal job (answer.Refuted part steps) right = right

at_job : (rules : Rules) (journal : List Entry) (job : ℕ) (end : End) → IsEndOver rules.traces (inputs_of journal job) (cube_of journal job) rules.conflicts end → IsEnd rules journal job end
at_job rules journal job (Answered given) is = right_for_job rules.traces journal job (arc_value given) is
at_job rules journal job (Spent learnt) is = is

pub end_for_job : (rules : Rules) (journal : List Entry) (inputs : List Known) (cube : List ℕ) (job : ℕ) (end : End) → inputs ≡ inputs_of journal job → cube ≡ cube_of journal job
    → IsEndOver rules.traces inputs cube rules.conflicts end → IsEnd rules journal job end
end_for_job rules journal inputs cube job end all same is =
    at_job rules journal job end (subst (λ (xs : List Known). IsEndOver rules.traces xs (cube_of journal job) rules.conflicts end) all
    (subst (λ (lits : List ℕ). IsEndOver rules.traces inputs lits rules.conflicts end) same is))
