use Rattle.std.proofs.Common.{◌≡◌, ℕ, List, Option, Some, true, refl, subst, map, option_map, string_bytes}
use Rattle.words.specs.declared.command.Work.{Work}
use Rattle.words.specs.Accepted.{Asked, accepted, input_of}
use Rattle.tarmo_run.specs.Asking.{rules_of}
use Rattle.tarmo_run.proofs.Promises.{over_sum, over_text, without_memory, words_refused}
use Rattle.tarmo_run.proofs.alone.run_alone.Goals as goal

pub returns-in-Text : goal.returns-in-Text
returns-in-Text g c =
    over_text g.S.Source.left g.S.Source.faults g.S.Source.ended g.S.Source.opened g.O.Sink.taken
    g.O.Sink.faults rules_of (map string_bytes c.args.words.now) c.args.source.now
    c.run_over.new.source c.args.out.now c.run_over.new.out c.run_over.result c.in-Ok.task.rules
    (option_map string_bytes c.in-Text.file)
    c.verdicts_have_causes.ensures c.large_budgets_answer.ensures c.in-Ok.ensures.rules
    (subst (λ (work : Work). (command : Asked) →
    accepted (map string_bytes c.args.words.now) ≡ Some command → command.work ≡ input_of work)
    c.in-Text.is c.in-Ok.ensures.work)
    (λ command. refl) c.in-Ok.ensures.limits c.run_over.ensures.run
    c.run_over.ensures.closed c.run_over.ensures.none_open
    (λ three four six. subst (λ (name : Option (List ℕ)).
    g.S.Source.opened c.run_over.new.source name ≡ true) c.as_deref.ensures.value
    (c.run_over.ensures.opened three four six))
    c.run_over.ensures.whole c.run_over.ensures.sink c.run_over.ensures.counts
