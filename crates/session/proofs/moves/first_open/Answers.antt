use Rattle.std.proofs.Common.{◌+◌, List, ℕ, take, All, Contains, sym, subst}
use Rattle.trail_core.specs.Trail.{lits_of}
use Rattle.session.proofs.Choices.{more_true, cube_true_from}
use Rattle.session.proofs.moves.first_open.Goals as goal

pub loop-cursor-preserved : goal.loop-cursor-preserved
loop-cursor-preserved c =
    let trues = lits_of c.args.trail.now.entries in
    let passed : (n : ℕ) → List ℕ → Type 0 = λ n lits. All (Contains trues) (take n lits) in
    subst (passed (c.loop-cursor.cursor + 1)) c.lits-lits.ensures.value
    (more_true trues c.lits-lits.result.now c.loop-cursor.cursor c.index-lits-cursor.result c.loop-cursor-test.true c.index-lits-cursor.is
    (subst (passed c.loop-cursor.cursor) (sym c.lits-lits.ensures.value) c.loop-cursor.invariant) c.if-not-is_true.ensures.value)

pub returns-clause-none : goal.returns-clause-none
returns-clause-none c =
    let trues = lits_of c.args.trail.now.entries in
    let passed : List ℕ → Type 0 = λ lits. All (Contains trues) (take c.loop-cursor.cursor lits) in
    cube_true_from trues c.lits-lits.result.now c.args.cube.now c.loop-cursor.cursor c.lits-lits.ensures.value c.loop-cursor-test.false
    (subst passed (sym c.lits-lits.ensures.value) c.loop-cursor.invariant)
