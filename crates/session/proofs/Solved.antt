-- Variables are few.
use Rattle.std.proofs.Common.{◌∙◌, ℕ, ◌≤◌, List, ap, sym, subst, arith}
use Rattle.std.specs.Prelude.{All, Contains}
use Rattle.std.proofs.lemmas.List.Elements.{All-contains}
use Rattle.sat_base.specs.Lit.{IsLit, IsLitSet, variable, greatest_of}
use Rattle.sat_base.proofs.Members.{Contains-from_map}
use Rattle.std.specs.Prelude.{filter}
use Rattle.trace_core.specs.Known.{Known}
use Rattle.clause_arena.specs.Arena.{ArenaClause}
use Rattle.session.specs.declared.search.Search.{Search}
use Rattle.session.specs.Solver.{inputs_of, clauses_of, known_clause, is_input}
use Rattle.session.specs.Searching.{IsSearching}
use Rattle.trace_core.proofs.Items.{Contains-from_filter}
use Rattle.sat_base.proofs.InOrder.{in_order-has}
use Rattle.session.proofs.UpTo.{greatest_within, greatest_all_within}

lit_bound : (lit : ℕ) → IsLit lit → variable lit ≤ 8388607
lit_bound lit is = omega (arith, is.within)

pub few_variables : (s : Search) → IsSearching s → s.greatest ≤ 8388607
few_variables s kept = subst (λ n. n ≤ 8388607) (sym kept.counted.greatest_is)
    (greatest_all_within (clauses_of (inputs_of s.store.clauses)) 8388607
    (λ lits has. each lits has))
  where
    each : (lits : List ℕ) → Contains (clauses_of (inputs_of s.store.clauses)) lits
        → greatest_of lits ≤ 8388607
    each lits has =
        let (known, known_in, is) = Contains-from_map (λ (one : Known). one.clause)
        (inputs_of s.store.clauses) lits has in
        let (clause, clause_in, clause_is) = Contains-from_map known_clause
        (filter (λ c. is_input c.origin) s.store.clauses) known known_in in
        let all = All-contains (λ
        (c : ArenaClause). All IsLit c.lits) s.store.clauses clause kept.stock.lits
        (Contains-from_filter (λ (c : ArenaClause). is_input c.origin)
        s.store.clauses clause clause_in).0 in
        subst (λ xs. greatest_of xs ≤ 8388607) (ap (λ (one : Known). one.clause) clause_is ∙ is)
        (greatest_within (known_clause clause).clause 8388607
        (λ lit lit_in. lit_bound lit (All-contains IsLit clause.lits lit all
        ((in_order-has clause.lits lit).0 lit_in))))

pub few_in_cube : (cube : List ℕ) → IsLitSet cube → greatest_of cube ≤ 8388607
few_in_cube cube set = greatest_within cube 8388607
    (λ lit has. lit_bound lit (All-contains IsLit cube lit set.each has))
