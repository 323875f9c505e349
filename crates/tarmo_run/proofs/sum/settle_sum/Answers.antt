use Rattle.std.proofs.Common.{◌≡◌, ◌∙◌, List, ℕ, None, true, false, subst}
use Rattle.std.specs.Prelude.{OnOk}
use Rattle.icnf_text.specs.Judgement.{wrong}
use Rattle.tarmo_run.specs.Client.{queries_on}
use Rattle.tarmo_run.specs.Output.{queries_in}
use Rattle.tarmo_run.specs.Reading.{AsksFirst}
use Rattle.tarmo_run.specs.Desk.{progress_of}
use Rattle.tarmo_run.proofs.Desks.{new_at_first}
use Rattle.tarmo_run.proofs.Results.{on_ok_always}
use Rattle.tarmo_run.proofs.Sums.{asks_none}
use Rattle.tarmo_run.proofs.sum.settle_sum.Goals as goal

pub returns-in-Err-clause-first : goal.returns-in-Err-clause-first
returns-in-Err-clause-first c =
    asks_none (progress_of c.args.desk.now) _ (new_at_first _ c.requires.fresh)

pub returns-in-Ok-clause-first : goal.returns-in-Ok-clause-first
returns-in-Ok-clause-first c =
    subst (λ (bytes : List ℕ). AsksFirst
    (record { bytes = bytes; ended = true; failed = false }) c.settle_text.new.desk.board)
    (c.deref.ensures.value ∙ c.in-Ok.ensures.text) c.settle_text.ensures.first

pub returns-in-Ok-clause-all : goal.returns-in-Ok-clause-all
returns-in-Ok-clause-all c =
    subst (λ (bytes : List ℕ). OnOk c.settle_text.result
    (queries_on c.settle_text.new.desk.board ≡ queries_in bytes true))
    (c.deref.ensures.value ∙ c.in-Ok.ensures.text) c.settle_text.ensures.all

pub returns-in-Ok-clause-accepted : goal.returns-in-Ok-clause-accepted
returns-in-Ok-clause-accepted c =
    on_ok_always c.settle_text.result
    (subst (λ (bytes : List ℕ). wrong bytes true ≡ None) c.in-Ok.ensures.text
    c.in-Ok.ensures.accepted)

pub returns-in-Err-clause-all : goal.returns-in-Err-clause-all
returns-in-Err-clause-all c = tt

pub returns-in-Err-clause-accepted : goal.returns-in-Err-clause-accepted
returns-in-Err-clause-accepted c = tt
