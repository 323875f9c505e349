-- All clauses of a store.
use Rattle.std.proofs.Common.{◌≡◌, ℕ, ◌<◌, ◌≤◌, List, [], length, refl, subst, sym, arith}
use Rattle.std.specs.Prelude.{All}
use Rattle.std.proofs.lemmas.List.{get_or-map, length-map}
use Rattle.std.proofs.lemmas.List.Elements.{All-from_get_or, All-contains_itself}
use Rattle.clause_arena.specs.Arena.{ArenaClause, clause_at, no_clause, lits_of_each}
use Rattle.trail_core.specs.Trail.{Entry, lits_of}
use Rattle.trail_core.specs.UnderTrail.{lits_at, IsOpenClause, IsComplete}
use Rattle.trail_core.proofs.Levels.{up_to_all}
use Rattle.propagate.specs.Store.{HasSameClauses}

pub length-lits_of_each : (clauses : List ArenaClause) → length (lits_of_each clauses) ≡ length clauses
length-lits_of_each clauses = length-map clauses (λ c. c.lits)

pub lits_at-each : (clauses : List ArenaClause) (id : ℕ) → id < length clauses → lits_at (lits_of_each clauses) id ≡ (clause_at clauses id).lits
lits_at-each clauses id lt = get_or-map (λ (c : ArenaClause). c.lits) clauses id no_clause [] lt

pub all_open : (trues : List ℕ) (clauses : List ArenaClause) → ((id : ℕ) → id < length clauses → IsOpenClause trues (clause_at clauses id).lits) → All (IsOpenClause trues) (lits_of_each clauses)
all_open trues clauses each =
    All-from_get_or (IsOpenClause trues) (lits_of_each clauses) []
    (λ id lt. let known : id < length clauses = omega (arith, lt, length-lits_of_each clauses) in
    subst (IsOpenClause trues) (sym (lits_at-each clauses id known)) (each id known))

pub complete_from : (entries : List Entry) (depth : ℕ) (clauses : List (List ℕ)) → All (λ e. e.level ≤ depth) entries → All (IsOpenClause (lits_of entries)) clauses → IsComplete entries depth clauses
complete_from entries depth clauses below each = record {
  each = subst (λ (xs : List Entry). All (IsOpenClause (lits_of xs)) clauses) (sym (up_to_all depth entries below)) each;
}

pub same_clauses : (clauses : List ArenaClause) → HasSameClauses clauses clauses
same_clauses clauses = record {
  count = refl;
  each = λ id lt. record {
    kept = All-contains_itself (clause_at clauses id).lits;
    no_more = All-contains_itself (clause_at clauses id).lits;
    size = refl;
    tag = refl;
    origin = refl;
  };
}
