use Rattle.std.proofs.Common.{◌∙◌, ◌++◌, List, ap}
use Rattle.icnf_text.specs.declared.statements.Numbered.{Numbered}
use Rattle.icnf_text.specs.Machine.{State, read_bytes, quiet}
use Rattle.icnf_text.proofs.Runs.{feed_read, feed_given, feed_fault, feed_after_fault}
use Rattle.icnf_text.proofs.reader.Reader.feed.Goals as goal

pub returns-in-Ok-clause-read : goal.returns-in-Ok-clause-read
returns-in-Ok-clause-read c = λ text has. feed_read c.args.self.now c.read_all.new.self text c.args.piece.now c.in-Ok.ensures.state has

pub returns-in-Ok-clause-given : goal.returns-in-Ok-clause-given
returns-in-Ok-clause-given c = λ text has. feed_given c.args.self.now text c.args.piece.now c.of.result (c.of.ensures ∙ c.in-Ok.ensures.given ∙ ap (λ (g : List Numbered). g ++ (read_bytes (quiet c.args.self.now) c.args.piece.now).given) c.new-given.ensures.items) has

pub returns-in-Ok-clause-fault : goal.returns-in-Ok-clause-fault
returns-in-Ok-clause-fault c = λ text has. ap (λ (s : State). s.fault) c.self-2.view_is ∙ feed_fault c.args.self.now c.read_all.new.self text c.args.piece.now c.in-Ok.ensures.state has

pub returns-in-Ok-clause-after_fault : goal.returns-in-Ok-clause-after_fault
returns-in-Ok-clause-after_fault c = λ text fault has h.
    let both = feed_after_fault c.args.self.now c.read_all.new.self text c.args.piece.now c.of.result fault c.in-Ok.ensures.state
    (c.of.ensures ∙ c.in-Ok.ensures.given ∙ ap (λ (g : List Numbered). g ++ (read_bytes (quiet c.args.self.now) c.args.piece.now).given) c.new-given.ensures.items) has h in
    (both.0, ap (λ (s : State). s.fault) c.self-2.view_is ∙ both.1)
