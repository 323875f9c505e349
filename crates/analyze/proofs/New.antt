-- A learnt clause contains no clause of the arena, where propagation was complete before the last decision.
use Rattle.std.proofs.Common.{◌≡◌, ◌≢◌, ◌∙◌, ℕ, ◌-◌, List, ap, sym, inl, inr, arith}
use Rattle.std.specs.Prelude.{Contains, ◌⊎◌}
use Rattle.std.proofs.lemmas.Bool.{cases_eq}
use Rattle.std.proofs.lemmas.List.Elements.{All-contains}
use Rattle.sat_base.specs.Lit.{variable, opposite}
use Rattle.sat_base.proofs.Opposite.{variable-opposite, opposite-opposite}
use Rattle.sat_base.proofs.Members.{All-from_members}
use Rattle.clause_arena.specs.Arena.{ArenaClause, clause_at}
use Rattle.trail_core.specs.Trail.{TrailView, lits_of, up_to}
use Rattle.trail_core.specs.UnderTrail.{IsFalseLit}
use Rattle.analyze.specs.Graph.{lit_at}
use Rattle.analyze.specs.Learnt.{IsNew}
use Rattle.analyze.proofs.Forced.{some_or_all, false_below, unassigned_below, open_at_id}
use Rattle.analyze.proofs.Taught.{Taught, IsClauseOf, kept_within, kept_lower, kept_place, point_kept}

pub new_clause : (trail : TrailView) (clauses : List ArenaClause) (conflict point : ℕ)
    (resolved_from analyzed kept resolved clause : List ℕ)
    → Taught trail clauses conflict point resolved_from analyzed kept resolved
    → IsClauseOf clause (lit_at trail.entries) kept → IsNew clauses clause
new_clause trail clauses conflict point resolved_from analyzed kept resolved clause t members id
    known within = by_literal
    (some_or_all (λ lit. lit ≡ opposite (lit_at trail.entries point)) Low
    (clause_at clauses id).lits look)
  where
    Low : ℕ → Type 0
    Low lit = IsFalseLit (lits_of (up_to (trail.depth - 1) trail.entries)) lit

    low : (lit : ℕ) → lit ≢ opposite (lit_at trail.entries point) → ((place : ℕ) × Contains kept place × (lit_at trail.entries place ≡ opposite lit)) → Low lit
    low lit differs at =
        let apart : at.0 ≢ point = λ same. differs (sym (opposite-opposite lit) ∙ ap opposite (sym at.2 ∙ ap (lit_at trail.entries) same)) in
        false_below trail.entries (trail.depth - 1) lit at.0
        (kept_within trail clauses conflict point resolved_from analyzed kept resolved t at.0 at.1)
        at.2
        (omega (
          arith,
          (kept_lower trail clauses conflict point resolved_from analyzed kept resolved
              t at.0 at.1 apart).1,
        ))

    look : (lit : ℕ) → Contains (clause_at clauses id).lits lit → (lit ≡ opposite (lit_at trail.entries point)) ⊎ Low lit
    look lit has = by_lit (cases_eq lit (opposite (lit_at trail.entries point)))
      where
        by_lit : (lit ≡ opposite (lit_at trail.entries point)) ⊎ (lit ≡ opposite (lit_at trail.entries point) → ⊥) → (lit ≡ opposite (lit_at trail.entries point)) ⊎ Low lit
        by_lit (inl same) = inl same
        by_lit (inr differs) = inr (low lit differs (kept_place trail.entries kept clause members lit (All-contains (Contains clause) (clause_at clauses id).lits lit within has)))

    others : (lit other : ℕ) → lit ≡ opposite (lit_at trail.entries point) → Contains (clause_at clauses id).lits other → other ≢ lit → Low other
    others lit other same has differs = low other (λ e. differs (e ∙ sym same)) (kept_place trail.entries kept clause members other (All-contains (Contains clause) (clause_at clauses id).lits other within has))

    at_point : (lit : ℕ) → lit ≡ opposite (lit_at trail.entries point) → variable (lit_at trail.entries point) ≡ variable lit
    at_point lit same = sym (ap variable same ∙ variable-opposite (lit_at trail.entries point))

    by_literal : ((lit : ℕ) × Contains (clause_at clauses id).lits lit × (lit ≡ opposite (lit_at trail.entries point))) ⊎ ((lit : ℕ) → Contains (clause_at clauses id).lits lit → Low lit) → ⊥
    by_literal (inl found) = (open_at_id clauses trail.entries (trail.depth - 1) id t.complete known).not_unit found.0 (record {
      free = unassigned_below trail.entries (trail.depth - 1) found.0 point t.is.once
          (record {
            within =
                kept_within trail clauses conflict point resolved_from analyzed kept resolved t
                point
                (point_kept trail clauses conflict point resolved_from analyzed kept resolved t);
            is =
                at_point found.0 found.2;
          })
          (omega (arith, t.at.present, t.deep));
      rest = record { stands = found.1; others = λ other has differs. others found.0 other found.2 has differs };
    })
    by_literal (inr all) = (open_at_id clauses trail.entries (trail.depth - 1) id t.complete known).not_false (record { each = All-from_members Low (clause_at clauses id).lits all })
