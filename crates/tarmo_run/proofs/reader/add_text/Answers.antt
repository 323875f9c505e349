use Rattle.std.proofs.Common.{List, subst}
use Rattle.std.specs.Prelude.{OnOk}
use Rattle.icnf_text.specs.declared.statements.Numbered.{Numbered}
use Rattle.tarmo_run.specs.Client.{Adds, AddsFirst}
use Rattle.tarmo_run.specs.Sides.{own_of, progress_by}
use Rattle.tarmo_run.proofs.Sums.{asks_all, asks_more, asks_none, asks_some}
use Rattle.tarmo_run.proofs.reader.add_text.Goals as goal

pub returns-in_err-fed-clause-first : goal.returns-in_err-fed-clause-first
returns-in_err-fed-clause-first g c = asks_none
    (progress_by c.args.service.now.lock c.args.adder.now) _ c.requires.new

pub returns-in_err-rest-clause-first : goal.returns-in_err-rest-clause-first
returns-in_err-rest-clause-first g c = asks_none
    (progress_by c.args.service.now.lock c.args.adder.now) _ c.requires.new

pub returns-in_err-add_all-clause-first : goal.returns-in_err-add_all-clause-first
returns-in_err-add_all-clause-first g c =
    asks_some (progress_by c.args.service.now.lock c.args.adder.now)
    (progress_by c.args.service.now.lock c.add_all.new.self) c.args.text.now
    c.in_ok-fed.fed.statements
    c.in_ok-rest.rest.statements (c.in_ok-fed.ensures.given _ c.new-reader.ensures)
    (c.in_ok-rest.ensures.given _ (c.in_ok-fed.ensures.read _ c.new-reader.ensures))
    c.requires.new
    (subst (λ (list : List Numbered). AddsFirst c.args.adder.now.client
    (own_of c.args.service.now.lock c.args.adder.now.pass)
    (own_of c.args.service.now.lock c.add_all.new.self.pass) list) c.into_items.ensures
    c.add_all.ensures.first)

pub returns-clause-first : goal.returns-clause-first
returns-clause-first g c =
    asks_more (progress_by c.args.service.now.lock c.args.adder.now)
    (progress_by c.args.service.now.lock c.add_all.new.self)
    (progress_by c.args.service.now.lock c.add_all-2.new.self) c.args.text.now
    c.in_ok-fed.fed.statements
    c.in_ok-rest.rest.statements (c.in_ok-fed.ensures.given _ c.new-reader.ensures)
    (c.in_ok-rest.ensures.given _ (c.in_ok-fed.ensures.read _ c.new-reader.ensures))
    c.requires.new
    (subst (λ (list : List Numbered). Adds c.args.adder.now.client
    (own_of c.args.service.now.lock c.args.adder.now.pass)
    c.add_all.new.self.client
    (own_of c.args.service.now.lock c.add_all.new.self.pass) list) c.into_items.ensures
    c.in_ok-add_all.ensures.all)
    (subst (λ (list : List Numbered). AddsFirst c.add_all.new.self.client
    (own_of c.args.service.now.lock c.add_all.new.self.pass)
    (own_of c.args.service.now.lock c.add_all-2.new.self.pass) list) c.into_items-2.ensures
    c.add_all-2.ensures.first)

pub returns-clause-all : goal.returns-clause-all
returns-clause-all g c =
    asks_all (progress_by c.args.service.now.lock c.args.adder.now)
    (progress_by c.args.service.now.lock c.add_all.new.self)
    (progress_by c.args.service.now.lock c.add_all-2.new.self) c.args.text.now
    c.in_ok-fed.fed.statements
    c.in_ok-rest.rest.statements c.add_all-2.result
    (c.in_ok-fed.ensures.given _ c.new-reader.ensures)
    (c.in_ok-rest.ensures.given _ (c.in_ok-fed.ensures.read _ c.new-reader.ensures))
    c.requires.new
    (subst (λ (list : List Numbered). Adds c.args.adder.now.client
    (own_of c.args.service.now.lock c.args.adder.now.pass)
    c.add_all.new.self.client
    (own_of c.args.service.now.lock c.add_all.new.self.pass) list) c.into_items.ensures
    c.in_ok-add_all.ensures.all)
    (subst (λ (list : List Numbered). OnOk c.add_all-2.result (Adds c.add_all.new.self.client
    (own_of c.args.service.now.lock c.add_all.new.self.pass) c.add_all-2.new.self.client
    (own_of c.args.service.now.lock c.add_all-2.new.self.pass) list))
    c.into_items-2.ensures c.add_all-2.ensures.all)
