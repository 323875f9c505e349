-- Where all was looked at and nothing is new, no clause is false or unit.
use Rattle.std.proofs.Common.{◌≡◌, ◌∙◌, ℕ, ◌+◌, ◌-◌, ◌*◌, ◌/◌, ◌<◌, ◌≤◌, List, [], length, ap, subst, sym, inl, inr, arith, get_or}
use Rattle.std.specs.Prelude.{◌⊎◌, All, Contains}
use Rattle.std.proofs.lemmas.Bool.{cases_eq, cases_lt}
use Rattle.std.proofs.lemmas.List.Elements.{All-get_or, Contains-get_or}
use Rattle.sat_base.specs.Lit.{opposite}
use Rattle.clause_arena.specs.Arena.{ArenaClause, HasNoRepeat, clause_at, no_clause, lits_of_each}
use Rattle.trail_core.specs.Trail.{TrailView, IsTrail, lits_of}
use Rattle.trail_core.specs.UnderTrail.{IsTrueLit, IsFalseLit, IsUnassigned, IsOpenClause, IsComplete}
use Rattle.propagate.specs.Pairing.{IsOld, IsSide, IsPaired}
use Rattle.propagate.proofs.Fresh.{any_old}
use Rattle.propagate.proofs.Judged.{open_by_true, open_by_two}
use Rattle.propagate.proofs.Literals.{member, entry_of, up_true, watched_is, watched_other}
use Rattle.propagate.proofs.Whole.{all_open, complete_from}

-- the other watched literal beside a false one is true
beside : (clauses : List ArenaClause) (trail : TrailView) (id side : ℕ) → IsPaired clauses [] trail.entries trail.looked → trail.looked ≡ length trail.entries → id < length clauses → 2 ≤ length (clause_at clauses id).lits → side < 2 → IsFalseLit (lits_of trail.entries) (get_or (clause_at clauses id).lits side 0) → IsTrueLit (lits_of trail.entries) (get_or (clause_at clauses id).lits (1 - side) 0)
beside clauses trail id side p looked known wide side_in f =
    let e = entry_of trail.entries _ f.stands in
    let half : id ≡ (2 * id + side) / 2 = omega arith in
    let is_side : IsSide clauses [] (2 * id + side) = record {
      clause = subst (λ n. IsOld clauses [] n) half (any_old clauses id known);
      wide = subst (λ n. 2 ≤ length (clause_at clauses n).lits) half wide;
    } in
    let t = p.pairs (2 * id + side) e.place is_side (omega (arith, looked, e.within)) (e.is ∙ ap opposite (sym (watched_is clauses id side side_in))) in
    subst (IsTrueLit (lits_of trail.entries)) (watched_other clauses id side side_in) (up_true trail.entries _ _ t)

open_at : (clauses : List ArenaClause) (trail : TrailView) (id : ℕ) → IsTrail trail → IsPaired clauses [] trail.entries trail.looked → trail.looked ≡ length trail.entries → HasNoRepeat (clause_at clauses id).lits → id < length clauses → IsOpenClause (lits_of trail.entries) (clause_at clauses id).lits
open_at clauses trail id t p looked distinct known = by_size (cases_eq (length lits) 1) (cases_lt 1 (length lits))
  where
    lits : List ℕ
    lits = (clause_at clauses id).lits

    trues : List ℕ
    trues = lits_of trail.entries

    lit : ℕ → ℕ
    lit n = get_or lits n 0

    by_true : (n : ℕ) → n < length lits → IsTrueLit trues (lit n) → IsOpenClause trues lits
    by_true n lt h = open_by_true trues lits (lit n) t.consistent (Contains-get_or lits n 0 lt) h

    free : (n : ℕ) → (IsTrueLit trues (lit n) → ⊥) → (IsFalseLit trues (lit n) → ⊥) → IsUnassigned trues (lit n)
    free n a b = record { not_true = a; not_false = b }

    two : 2 ≤ length lits → Contains trues (lit 0) ⊎ (Contains trues (lit 0) → ⊥) → Contains trues (lit 1) ⊎ (Contains trues (lit 1) → ⊥) → Contains trues (opposite (lit 0)) ⊎ (Contains trues (opposite (lit 0)) → ⊥) → Contains trues (opposite (lit 1)) ⊎ (Contains trues (opposite (lit 1)) → ⊥) → IsOpenClause trues lits
    two wide (inl a) _ _ _ = by_true 0 (omega arith) (record { stands = a })
    two wide (inr a) (inl b) _ _ = by_true 1 wide (record { stands = b })
    two wide (inr a) (inr b) (inl c) _ = absurd (b (beside clauses trail id 0 p looked known wide (omega arith) (record { stands = c })).stands)
    two wide (inr a) (inr b) (inr c) (inl d) = absurd (a (beside clauses trail id 1 p looked known wide (omega arith) (record { stands = d })).stands)
    two wide (inr a) (inr b) (inr c) (inr d) =
        open_by_two trues lits 0 1 distinct (omega arith) wide (free 0 (λ h. a h.stands) (λ h. c h.stands)) (free 1 (λ h. b h.stands) (λ h. d h.stands))

    by_size : (length lits ≡ 1) ⊎ (length lits ≡ 1 → ⊥) → (1 < length lits) ⊎ (length lits ≤ 1) → IsOpenClause trues lits
    by_size (inl one) _ = by_true 0 (omega (arith, one)) (up_true trail.entries (lit 0) 0 (p.single id (any_old clauses id known) one))
    by_size (inr n) (inl wide) = two wide (member trues (lit 0)) (member trues (lit 1)) (member trues (opposite (lit 0))) (member trues (opposite (lit 1)))
    by_size (inr n) (inr few) = let some = p.some id (any_old clauses id known) in absurd (n (omega (arith, few, some)))

pub complete_paired : (clauses : List ArenaClause) (trail : TrailView) → IsTrail trail → IsPaired clauses [] trail.entries trail.looked → trail.looked ≡ length trail.entries → All (λ clause. HasNoRepeat clause.lits) clauses → IsComplete trail.entries trail.depth (lits_of_each clauses)
complete_paired clauses trail t p looked distinct =
    complete_from trail.entries trail.depth (lits_of_each clauses) t.below
    (all_open (lits_of trail.entries) clauses
    (λ id known. open_at clauses trail id t p looked (All-get_or (λ (c : ArenaClause). HasNoRepeat c.lits) clauses id no_clause known distinct) known))
