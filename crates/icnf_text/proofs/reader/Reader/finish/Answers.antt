use Rattle.std.proofs.Common.{◌∙◌, ◌++◌, List, ap}
use Rattle.icnf_text.specs.declared.statements.Numbered.{Numbered}
use Rattle.icnf_text.specs.Machine.{State, finished}
use Rattle.icnf_text.proofs.Runs.{finish_given, finish_fault}
use Rattle.icnf_text.proofs.reader.Reader.finish.Goals as goal

pub returns-clause-given : goal.returns-clause-given
returns-clause-given c = λ text has.
    finish_given c.args.self text c.of.result (c.of.ensures ∙ c.in_ok-end.ensures.given ∙ ap (λ (g : List Numbered). g ++ (finished c.args.self).given) c.new-given.ensures.items) has

pub returns-clause-fault : goal.returns-clause-fault
returns-clause-fault c = λ text has.
    finish_fault c.args.self text c.reader-2.inside.fault (ap (λ (s : State). s.fault) (c.reader-2.view_is ∙ c.in_ok-end.ensures.state)) has
