use Rattle.std.proofs.Common.{◌≡◌, List, sym, subst, arith}
use Rattle.std.proofs.lemmas.List.{get_or_read}
use Rattle.trail_core.specs.Trail.{Entry}
use Rattle.session.specs.Cursors.{cursor_at}
use Rattle.session.specs.Orders.{IsOrderOf, OffersFree}
use Rattle.session.proofs.Orders.{order_changed}
use Rattle.session.proofs.Learnings.{search_back}
use Rattle.session.proofs.OnCubes.{on_cube_back}
use Rattle.session.proofs.levels.backjump.Goals as goal

cursor_read : (c : goal.After-depth) → c.index.result.now ≡ cursor_at c.args.search.now.cursors.items c.args.level
cursor_read c = get_or_read c.args.search.now.cursors.items c.args.level c.index.result.now
    (omega (arith, c.requires.within, c.requires.kept.levels)) c.index.ensures
    (record { literals = 0 })

-- the order, after what was taken back
ordered : (c : goal.After-depth) → IsOrderOf c.args.search.now.greatest c.back_to.new.self c.put_back_above.new.self
ordered c =
    let e = c.put_back_above.ensures in
    order_changed c.args.search.now.greatest c.args.search.now.trail c.back_to.new.self c.args.search.now.order c.put_back_above.new.self e.is e.vars c.back_to.ensures.vars
    (subst (λ (es : List Entry). OffersFree es c.put_back_above.new.self.ranking)
    (sym c.back_to.ensures.entries) e.offers) c.requires.kept.order

pub returns-clause-kept : goal.returns-clause-kept
returns-clause-kept c =
    search_back c.args.search.now c.back_to.new.self c.args.level _ c.truncate.new.self c.put_back_above.new.self c.requires.kept c.depth.ensures.trail c.requires.within c.back_to.ensures.entries c.back_to.ensures.depth c.back_to.ensures.vars c.back_to.ensures.looked
    (cursor_read c) c.truncate.ensures.items c.requires.nothing_new (ordered c)

pub returns-clause-cubes : goal.returns-clause-cubes
returns-clause-cubes c =
    on_cube_back c.args.search.now c.back_to.new.self c.args.level _ c.truncate.new.self c.put_back_above.new.self c.requires.kept c.requires.within c.back_to.ensures.entries c.back_to.ensures.depth
    (cursor_read c) c.truncate.ensures.items
