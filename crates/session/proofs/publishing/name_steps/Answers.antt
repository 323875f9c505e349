use Rattle.std.proofs.Common.{◌≤◌, length, refl, arith, get_or}
use Rattle.session.proofs.Renamed.{naming_starts, naming_next, naming_done, is_among}
use Rattle.session.proofs.publishing.name_steps.Goals as goal

pub loop-index-init : goal.loop-index-init
loop-index-init c = naming_starts c.args.names.now.items c.args.numbers.now c.args.place

-- the next number is that of a step which can have a name
bounds : (c : goal.After-row_known-1) → (1 ≤ get_or c.args.numbers.now c.loop-index.index 0)
    × (get_or c.args.numbers.now c.loop-index.index 0 ≤ length c.args.names.now.items)
bounds c = c.requires.low (get_or c.args.numbers.now c.loop-index.index 0)
    (is_among c.args.numbers.now c.loop-index.index
    (get_or c.args.numbers.now c.loop-index.index 0) c.loop-index-test.true refl)

pub overflow_sub-number : goal.overflow_sub-number
overflow_sub-number c = (bounds c).0

pub index_mut-requires : goal.index_mut-requires
index_mut-requires c = let within = bounds c in omega
    (arith, within.0, within.1, c.loop-index.invariant.size)

pub loop-index-preserved : goal.loop-index-preserved
loop-index-preserved c =
    let within = c.requires.low (get_or c.args.numbers.now c.loop-index.index 0)
    (is_among c.args.numbers.now c.loop-index.index
    (get_or c.args.numbers.now c.loop-index.index 0) c.loop-index-test.true refl) in
    naming_next c.args.names.now.items c.loop-index.names.items c.args.numbers.now c.args.place c.loop-index.index c.loop-index.invariant c.requires.ascending c.loop-index-test.true within.0 within.1

pub returns-clause-named : goal.returns-clause-named
returns-clause-named c = naming_done c.args.names.now.items c.loop-index.names.items c.args.numbers.now c.args.place c.loop-index.index c.loop-index.invariant c.loop-index-test.false

pub returns-clause-size : goal.returns-clause-size
returns-clause-size c = c.loop-index.invariant.size
