use Rattle.std.proofs.Common.{List, subst}
use Rattle.std.specs.Prelude.{OnOk}
use Rattle.icnf_text.specs.declared.statements.Numbered.{Numbered}
use Rattle.tarmo_run.specs.Client.{Adds, AddsFirst}
use Rattle.tarmo_run.specs.Desk.{progress_of}
use Rattle.tarmo_run.proofs.Desks.{new_at_first}
use Rattle.tarmo_run.proofs.Sums.{asks_all, asks_more, asks_none, asks_some}
use Rattle.tarmo_run.proofs.sum.settle_text.Goals as goal

pub returns-in_err-fed-clause-first : goal.returns-in_err-fed-clause-first
returns-in_err-fed-clause-first c = asks_none (progress_of c.args.desk.now) _
    (new_at_first _ c.requires.fresh)

pub returns-in_err-rest-clause-first : goal.returns-in_err-rest-clause-first
returns-in_err-rest-clause-first c = asks_none (progress_of c.args.desk.now) _
    (new_at_first _ c.requires.fresh)

pub returns-in_err-advance-clause-first : goal.returns-in_err-advance-clause-first
returns-in_err-advance-clause-first c =
    asks_some (progress_of c.args.desk.now) (progress_of c.advance.new.self) c.args.text.now
    c.in_ok-fed.fed.statements
    c.in_ok-rest.rest.statements (c.in_ok-fed.ensures.given _ c.new-reader.ensures)
    (c.in_ok-rest.ensures.given _ (c.in_ok-fed.ensures.read _ c.new-reader.ensures))
    (new_at_first _ c.requires.fresh)
    (subst (λ (list : List Numbered). AddsFirst c.args.desk.now.client c.args.desk.now.board
    c.advance.new.self.board list) c.into_items.ensures c.advance.ensures.first)

pub returns-clause-first : goal.returns-clause-first
returns-clause-first c =
    asks_more (progress_of c.args.desk.now) (progress_of c.advance.new.self)
    (progress_of c.advance-2.new.self) c.args.text.now
    c.in_ok-fed.fed.statements
    c.in_ok-rest.rest.statements (c.in_ok-fed.ensures.given _ c.new-reader.ensures)
    (c.in_ok-rest.ensures.given _ (c.in_ok-fed.ensures.read _ c.new-reader.ensures))
    (new_at_first _ c.requires.fresh)
    (subst (λ (list : List Numbered). Adds c.args.desk.now.client c.args.desk.now.board
    c.advance.new.self.client c.advance.new.self.board list) c.into_items.ensures
    c.in_ok-advance.ensures.all)
    (subst (λ (list : List Numbered). AddsFirst c.advance.new.self.client c.advance.new.self.board
    c.advance-2.new.self.board list) c.into_items-2.ensures c.advance-2.ensures.first)

pub returns-clause-all : goal.returns-clause-all
returns-clause-all c =
    asks_all (progress_of c.args.desk.now) (progress_of c.advance.new.self)
    (progress_of c.advance-2.new.self) c.args.text.now
    c.in_ok-fed.fed.statements
    c.in_ok-rest.rest.statements c.advance-2.result
    (c.in_ok-fed.ensures.given _ c.new-reader.ensures)
    (c.in_ok-rest.ensures.given _ (c.in_ok-fed.ensures.read _ c.new-reader.ensures))
    (new_at_first _ c.requires.fresh)
    (subst (λ (list : List Numbered). Adds c.args.desk.now.client c.args.desk.now.board
    c.advance.new.self.client c.advance.new.self.board list) c.into_items.ensures
    c.in_ok-advance.ensures.all)
    (subst (λ (list : List Numbered). OnOk c.advance-2.result (Adds c.advance.new.self.client
    c.advance.new.self.board c.advance-2.new.self.client c.advance-2.new.self.board list))
    c.into_items-2.ensures c.advance-2.ensures.all)
