use Rattle.std.proofs.Common.{◌≡◌, ◌∙◌, List, ℕ, None, true, false, subst}
use Rattle.std.specs.Prelude.{OnOk}
use Rattle.icnf_text.specs.Judgement.{wrong}
use Rattle.tarmo_run.specs.Client.{queries_on}
use Rattle.tarmo_run.specs.Output.{queries_in}
use Rattle.tarmo_run.specs.Reading.{AsksFirst}
use Rattle.tarmo_run.specs.Sides.{own_of, progress_by}
use Rattle.tarmo_run.proofs.Results.{on_ok_always}
use Rattle.tarmo_run.proofs.Sums.{asks_none}
use Rattle.tarmo_run.proofs.reader.add_sum.Goals as goal

pub returns-in-Err-clause-first : goal.returns-in-Err-clause-first
returns-in-Err-clause-first g c =
    asks_none (progress_by c.args.service.now.lock c.args.adder.now) _ c.requires.new

pub returns-in-Ok-clause-first : goal.returns-in-Ok-clause-first
returns-in-Ok-clause-first g c =
    subst (λ (bytes : List ℕ). AsksFirst
    (record { bytes = bytes; ended = true; failed = false })
    (own_of c.args.service.now.lock c.add_text.new.adder.pass))
    (c.deref.ensures.value ∙ c.in-Ok.ensures.text) c.add_text.ensures.first

pub returns-in-Ok-clause-all : goal.returns-in-Ok-clause-all
returns-in-Ok-clause-all g c =
    subst (λ (bytes : List ℕ). OnOk c.add_text.result
    (queries_on (own_of c.args.service.now.lock c.add_text.new.adder.pass) ≡ queries_in bytes true))
    (c.deref.ensures.value ∙ c.in-Ok.ensures.text) c.add_text.ensures.all

pub returns-in-Ok-clause-accepted : goal.returns-in-Ok-clause-accepted
returns-in-Ok-clause-accepted g c =
    on_ok_always c.add_text.result
    (subst (λ (bytes : List ℕ). wrong bytes true ≡ None) c.in-Ok.ensures.text
    c.in-Ok.ensures.accepted)

pub returns-in-Err-clause-all : goal.returns-in-Err-clause-all
returns-in-Err-clause-all g c = tt

pub returns-in-Err-clause-accepted : goal.returns-in-Err-clause-accepted
returns-in-Err-clause-accepted g c = tt
