-- The statements that a seed stands for.
use Rattle.std.specs.Prelude.{ℕ, ◌+◌, ◌*◌, List, [], ◌∷◌, ◌++◌, map}
use Rattle.std.specs.List.{flat_map, range_with_len}
use Rattle.sat_base.specs.Lit.{in_order}
use Rattle.icnf_text.specs.declared.statements.Statement.{Statement}
use Rattle.icnf_text.specs.declared.statements.Statement.TheVariants.{Clause, Cube}
use Rattle.icnf_gen.specs.Draws.{drawn_lit}

-- a variable implies the next one
abbrev pub implication : ℕ → Statement
implication variable = Clause ((2 * variable + 1) ∷ (2 * (variable + 1)) ∷ [])

-- 10,000 implications, from variable 101 up to variable 10,101
abbrev pub chain : List Statement
chain = map implication (range_with_len 101 10000)

-- the clause of the three literals that are drawn behind so many draws
abbrev pub drawn_clause : ℕ → ℕ → Statement
drawn_clause seed draws = Clause (in_order (
    drawn_lit seed (draws + 1) ∷ drawn_lit seed (draws + 2) ∷ drawn_lit seed (draws + 3) ∷ []))

-- the cube of two literals that are drawn, and variable 101
abbrev pub drawn_cube : ℕ → ℕ → Statement
drawn_cube seed draws = Cube (in_order (
    drawn_lit seed (draws + 1) ∷ drawn_lit seed (draws + 2) ∷ 202 ∷ []))

-- sixteen such clauses, one behind the other
abbrev pub drawn_clauses : ℕ → ℕ → List Statement
drawn_clauses seed draws =
    map (λ place. drawn_clause seed (draws + 3 * place)) (range_with_len 0 16)

-- four such cubes
abbrev pub drawn_cubes : ℕ → ℕ → List Statement
drawn_cubes seed draws = map (λ place. drawn_cube seed (draws + 2 * place)) (range_with_len 0 4)

-- sixteen clauses and behind them four cubes: 56 draws
abbrev pub stretch : ℕ → ℕ → List Statement
stretch seed draws = drawn_clauses seed draws ++ drawn_cubes seed (draws + 48)

-- thirty stretches
abbrev pub stretches : ℕ → List Statement
stretches seed = flat_map (λ place. stretch seed (56 * place)) (range_with_len 0 30)

-- the chain, and behind it the stretches
abbrev pub generated : ℕ → List Statement
generated seed = chain ++ stretches seed
