use Rattle.std.proofs.Common.{◌∙◌, ◌+◌, ◌≤◌, refl, ap, sym, subst, arith}
use Rattle.sat_base.specs.Lit.{variable, greatest_of}
use Rattle.sat_base.proofs.Members.{All-from_members}
use Rattle.propagate.specs.Store.{StoreView}
use Rattle.session.specs.Searching.{IsSearching}
use Rattle.session.proofs.UpTo.{below_greatest}
use Rattle.session.proofs.Reserved.{search_input}
use Rattle.session.specs.Loading.{HasInputsOnly}
use Rattle.session.proofs.Loaded.{input_came, no_inputs_came}
use Rattle.session.proofs.inputs.push_clause.Goals as goal

pub add-requires : goal.add-requires
add-requires c =
    All-from_members (λ lit. variable lit ≤ c.args.search.now.store.vars) c.args.clause.now
    (λ lit has. (let low = below_greatest c.args.clause.now lit has in
    omega (arith, low, c.requires.entered, c.requires.kept.order.reserved, c.requires.kept.room.in_store)))

pub returns-in_err-add-clause-kept : goal.returns-in_err-add-clause-kept
returns-in_err-add-clause-kept c =
    subst (λ (store : StoreView). IsSearching (record c.args.search.now { store = store }))
    (sym c.in_err-add.ensures.err) c.requires.kept

pub returns-in_err-add-clause-parts : goal.returns-in_err-add-clause-parts
returns-in_err-add-clause-parts c =
    let s = c.args.search.now in
    subst (λ (store : StoreView). HasInputsOnly s (record s { store = store }))
    (sym c.in_err-add.ensures.err) (no_inputs_came s)

pub returns-clause-kept : goal.returns-clause-kept
returns-clause-kept c =
    let s = c.args.search.now in
    let greatest = c.greatest_variable.ensures.value ∙ ap greatest_of c.lits.ensures.value in
    search_input s c.args.clause.now c.add.new.self c.args.job
    (s.inputs + 1) c.greatest_variable.result c.max-search.result c.requires.kept c.requires.zero c.lits.ensures.set c.requires.job refl greatest c.max-search.ensures
    (omega (arith, greatest, c.requires.entered)) c.in_ok-add.ensures.ok c.in_ok-add.ensures.fresh c.in_ok-add.ensures.vars

pub returns-clause-parts : goal.returns-clause-parts
returns-clause-parts c = (input_came c.args.search.now _ c.args.clause.now c.args.job
    (c.args.search.now.inputs + 1) c.lits.ensures.set refl c.in_ok-add.ensures.ok c.in_ok-add.ensures.fresh c.in_ok-add.ensures.vars refl).0

pub returns-clause-ok : goal.returns-clause-ok
returns-clause-ok c = (input_came c.args.search.now _ c.args.clause.now c.args.job
    (c.args.search.now.inputs + 1) c.lits.ensures.set refl c.in_ok-add.ensures.ok c.in_ok-add.ensures.fresh c.in_ok-add.ensures.vars refl).1
