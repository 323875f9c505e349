use Rattle.std.proofs.Common.{◌∙◌, refl, ap, sym, subst, arith}
use Rattle.std.specs.Prelude.{IfOk, max}
use Rattle.sat_base.specs.Lit.{greatest_of}
use Rattle.session.specs.Solver.{Solver}
use Rattle.session.specs.Solving.{Keeps, Solves}
use Rattle.session.specs.Searching.{solver_of}
use Rattle.session.specs.declared.search.Cursor.{Cursor}
use Rattle.session.specs.declared.search.Search.{Search}
use Rattle.session.proofs.Keeping.{search_moved}
use Rattle.session.proofs.OnCubes.{on_cube_at_zero}
use Rattle.session.proofs.Solved.{few_variables, few_in_cube}
use Rattle.session.proofs.solving.solve_deep.Goals as goal

pub run_round-requires : goal.run_round-requires
run_round-requires c =
    let s = c.args.search.now in
    let mid = c.reserve.new.search in
    let cursor : Cursor = record { literals = 0 } in
    let begun : Search = record mid { cursor = cursor } in
    let e = c.in_ok-reserve.ensures in
    let low = few_variables s c.requires.kept in
    let low_cube = few_in_cube c.args.cube.now c.lits-lits.ensures.set in
    let of_cube = c.greatest_variable.ensures.value ∙ ap greatest_of c.lits-lits.ensures.value in
    record {
      round = record {
        kept = search_moved mid cursor mid.cursors mid.order e.kept refl e.kept.order;
        on_cube = on_cube_at_zero c.args.cube.now begun e.kept.trail (e.depth ∙ c.requires.zero) refl;
        variables = record {
          are = c.max-vars.ensures ∙ ap (λ n. max n c.greatest_variable.result) (sym e.numbers.0)
              ∙ ap (max mid.greatest) of_cube;
          low = e.ok;
          few = omega (arith, c.max-vars.ensures, low, low_cube, of_cube);
          set = c.lits-lits.ensures.set;
        };
      };
    }

pub returns-clause-keeps : goal.returns-clause-keeps
returns-clause-keeps c = subst (λ (solver : Solver). Keeps solver
    (solver_of c.run_round.new.search)) c.in_ok-reserve.ensures.solver c.run_round.ensures.keeps

pub returns-clause-round : goal.returns-clause-round
returns-clause-round c =
    subst (λ (solver : Solver). IfOk c.run_round.result
    (Solves solver (solver_of c.run_round.new.search) c.args.cube.now c.args.limit)) c.in_ok-reserve.ensures.solver c.run_round.ensures.round
