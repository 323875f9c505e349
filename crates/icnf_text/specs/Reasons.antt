-- The words of the reasons why a text is wrong.
use Rattle.std.specs.Prelude.{ℕ, List, codes}
use Rattle.icnf_text.specs.declared.faults.Reason.{Reason}
use Rattle.icnf_text.specs.declared.faults.Reason.TheVariants as reason

-- the word of a reason, as a refusal shows it
abbrev pub reason_text : Reason → List ℕ
reason_text reason.Header = codes "header"
reason_text reason.Token = codes "token"
reason_text reason.Variable = codes "variable"
reason_text reason.Unfinished = codes "unfinished"
reason_text reason.TooMany = codes "too-many"
reason_text reason.TooLong = codes "too-long"
