use Rattle.std.proofs.Common.{◌≡◌, ℕ, List, Option, Some, true, refl, subst, sym, map, option_map, string_bytes}
use Rattle.entry_core.specs.declared.rules.Rules.{Rules}
use Rattle.entry_core.specs.Legal.{AreWithinLimits}
use Rattle.words.specs.declared.command.Work.{Work}
use Rattle.words.specs.Accepted.{Asked, accepted, input_of}
use Rattle.tarmo_run.specs.Asking.{shared_rules_of}
use Rattle.tarmo_run.proofs.Promises.{over_sum, over_text, without_memory, words_refused}
use Rattle.tarmo_run.proofs.top.run.Goals as goal

pub returns-in-Text : goal.returns-in-Text
returns-in-Text g c =
    over_text g.S.Source.left g.S.Source.faults g.S.Source.ended g.S.Source.opened g.O.Sink.taken
    g.O.Sink.faults shared_rules_of (map string_bytes c.args.words.now) c.args.source.now
    c.run_text.new.source c.args.out.now c.run_text.new.out c.run_text.result
    c.shared_rules-rules.result (option_map string_bytes c.in-Text.file)
    c.verdicts_have_causes.ensures c.large_budgets_answer.ensures
    (subst (λ (given : Rules). option_map shared_rules_of (accepted (map string_bytes c.args.words.now))
    ≡ Some given) (sym c.shared_rules-rules.ensures) c.in-Ok.ensures.shared)
    (subst (λ (work : Work). (command : Asked) →
    accepted (map string_bytes c.args.words.now) ≡ Some command → command.work ≡ input_of work)
    c.in-Text.is c.in-Ok.ensures.work)
    (λ command. refl)
    (subst AreWithinLimits (sym c.shared_rules-rules.ensures) c.in-Ok.ensures.few)
    c.run_text.ensures.run c.run_text.ensures.closed c.run_text.ensures.none_open
    (λ three four six. subst (λ (name : Option (List ℕ)).
    g.S.Source.opened c.run_text.new.source name ≡ true) c.as_deref.ensures.value
    (c.run_text.ensures.opened three four six))
    c.run_text.ensures.whole c.run_text.ensures.sink c.run_text.ensures.counts
