-- A search keeps what every solver keeps.
use Rattle.std.proofs.Common.{◌≡◌, ℕ, ◌≤◌, List, filter, Some}
use Rattle.std.specs.Prelude.{All, Contains}
use Rattle.std.proofs.lemmas.List.Elements.{All-map, All-filter, All-contains}
use Rattle.sat_base.specs.Lit.{IsLit}
use Rattle.sat_base.specs.Truth.{Entails}
use Rattle.sat_base.proofs.Members.{All-from_members, Contains-map}
use Rattle.sat_base.specs.declared.origins.Ref.{Ref}
use Rattle.trace_core.specs.Known.{Known}
use Rattle.clause_arena.specs.Arena.{ArenaClause}
use Rattle.session.proofs.Lists.{All-under}
use Rattle.sat_base.proofs.InOrder.{in_order-has}
use Rattle.session.specs.declared.search.Search.{Search}
use Rattle.session.specs.Solver.{IsSound, inputs_of, held_of, clauses_of, known_clause}
use Rattle.sat_base.specs.Lit.{in_order}
use Rattle.session.specs.Solver.{is_input, IsWithinItsTag}
use Rattle.session.specs.Searching.{IsSearching, solver_of, table_of}

-- what is kept of a list stands in it
kept_held : (clauses : List ArenaClause) → All (Contains (held_of clauses)) (inputs_of clauses)
kept_held clauses =
    All-map (Contains (held_of clauses)) known_clause
    (filter (λ (clause : ArenaClause). is_input clause.origin) clauses)
    (All-filter (λ (clause : ArenaClause). is_input clause.origin)
    (λ clause. Contains (held_of clauses) (known_clause clause)) clauses
    (All-from_members (λ (clause : ArenaClause). Contains (held_of clauses)
    (known_clause clause)) clauses
    (λ clause has. Contains-map known_clause clauses clause has)))

-- the codes of literals
codes : (lits : List ℕ) → All IsLit lits → All (λ lit. 2 ≤ lit) (in_order lits)
codes lits all = All-from_members (λ lit. 2 ≤ lit) (in_order lits) (λ lit has.
    (let is = All-contains IsLit lits lit all ((in_order-has lits lit).0 has) in is.not_zero))

pub sound : (search : Search) → IsSearching search → IsSound (solver_of search)
sound search kept = record {
  inputs_held = kept_held search.store.clauses;
  named = All-map (λ (one : Known). (name : Ref)
      × (table_of search name ≡ Some one)) known_clause search.store.clauses
      (All-under (λ (clause : ArenaClause). table_of search clause.origin
      ≡ Some (known_clause clause)) (λ clause. (name : Ref)
      × (table_of search name ≡ Some (known_clause clause))) search.store.clauses
      (λ clause is. (clause.origin, is)) kept.stock.named);
  literals = All-map (λ (one : Known). All
      (λ lit. 2 ≤ lit) one.clause) known_clause search.store.clauses
      (All-under (λ (clause : ArenaClause). All IsLit clause.lits)
      (λ clause. All (λ lit. 2 ≤ lit) (in_order clause.lits))
      search.store.clauses (λ clause lits. codes clause.lits lits) kept.stock.lits);
  entailed = All-map (λ (one : Known). Entails (clauses_of
      (inputs_of search.store.clauses)) one.clause) known_clause search.store.clauses kept.stock.entailed;
  bounded = All-map (λ (one : Known). one.tag ≤ search.bound) known_clause search.store.clauses kept.stock.bounded;
  within = All-map (IsWithinItsTag
      (inputs_of search.store.clauses)) known_clause search.store.clauses kept.stock.within;
  steps_entailed = kept.stock.steps_entailed;
  steps_within = kept.stock.steps_within;
  ok = kept.stock.ok;
  packets_held = kept.stock.packets_held;
  learnt_held = kept.counted.learnt_held;
}
