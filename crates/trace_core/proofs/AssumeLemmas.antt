-- The negations of a clause's literals, which hold at the start.
use Rattle.std.proofs.Common.{◌≡◌, ◌∙◌, ℕ, zero, suc, ◌+◌, ◌*◌, ◌/◌, ◌<◌, ◌≤◌, List, [], ◌∷◌, ◌++◌, map, take, length, get_or, set, true, false, refl, ap, subst, sym, inl, inr, arith}
use Rattle.std.specs.Prelude.{IsTrue, Contains, ◌⊎◌, ◌↔◌}
use Rattle.std.specs.List.{concat}
use Rattle.std.proofs.lemmas.Bool.{both_ways, cases_Bool, cases_eq}
use Rattle.std.proofs.lemmas.List.{take_all, map_push}
use Rattle.std.proofs.lemmas.List.Elements.{Contains-push, Contains-push_cases, Contains-append_left, Contains-append_right, Contains-append_cases, Contains-get_or}
use Rattle.sat_base.specs.Lit.{opposite}
use Rattle.sat_base.proofs.Opposite.{opposite-opposite}
use Rattle.sat_base.proofs.Members.{Contains-here, Contains-there}
use Rattle.trace_core.specs.Propagation.{StandsInOneOf}
use Rattle.trace_core.specs.Marking.{holds, is_uncovered, is_held_mark, is_uncovered_mark, Agree, AreFree, HasRoom, CoveredBy}
use Rattle.trace_core.proofs.MarkLemmas.{marked_within, mark_written, mark_other, seen_more}
use Rattle.trace_core.proofs.Items.{nothing_in}
use Rattle.trace_core.proofs.UnitLemmas.{agree_added}
use Rattle.trace_core.specs.declared.marks.Mark.{Mark}
use Rattle.trace_core.specs.declared.marks.Mark.TheVariants.{Free, Held, Uncovered}

-- the negations of exactly these literals hold, and none is covered
pub record Assumed (seen : List ℕ) (marks : List Mark) (lits : List ℕ) : Type 0 where
  pub agree : Agree marks lits
  pub negations : lits ≡ map opposite seen
  pub uncovered : (lit : ℕ) → IsTrue (is_uncovered marks lit) ↔ Contains seen (opposite lit)

-- a mark that isn't held isn't uncovered
held_if_uncovered : (mark : Mark) → IsTrue (is_uncovered_mark mark) → IsTrue (is_held_mark mark)
held_if_uncovered Free h = h
held_if_uncovered Held h = refl
held_if_uncovered Uncovered h = h

pub assumed_none : (marks : List Mark) (lits : List ℕ) → AreFree marks → lits ≡ [] → Assumed [] marks lits
assumed_none marks lits free empty = record {
  agree = λ lit. (
    λ h. absurd (both_ways (holds marks lit) (free lit) h),
    λ h. absurd
        (nothing_in lit (subst (λ (ls : List ℕ). Contains ls lit) empty h)),
  );
  negations = empty;
  uncovered = λ lit. (
    λ h. absurd (both_ways (holds marks lit) (free lit)
        (held_if_uncovered (get_or marks lit Free) h)),
    λ h. nothing_in (opposite lit) h,
  );
}

-- one more literal is assumed false
assumed_next : (seen : List ℕ) (marks : List Mark) (lits : List ℕ) (lit : ℕ) → opposite lit < length marks → Assumed seen marks lits → Assumed (seen ++ lit ∷ []) (set marks (opposite lit) Uncovered) (lits ++ opposite lit ∷ [])
assumed_next seen marks lits lit lt state = record {
  agree = agree_added marks lits (opposite lit) Uncovered state.agree lt refl;
  negations = ap (λ (ls : List ℕ). ls ++ opposite lit ∷ []) state.negations ∙ sym (map_push opposite seen lit);
  uncovered = λ z. by_literal z (cases_eq z (opposite lit));
}
  where
    before : (z : ℕ) → (z ≡ opposite lit → ⊥) → Contains seen (opposite z) ⊎ (lit ≡ opposite z) → Contains seen (opposite z)
    before z differs (inl h) = h
    before z differs (inr same) = absurd (differs (sym (opposite-opposite z) ∙ ap opposite (sym same)))

    by_literal : (z : ℕ) → (z ≡ opposite lit) ⊎ (z ≡ opposite lit → ⊥) → IsTrue (is_uncovered (set marks (opposite lit) Uncovered) z) ↔ Contains (seen ++ lit ∷ []) (opposite z)
    by_literal z (inl same) = (
      λ _. subst (Contains (seen ++ lit ∷ [])) (sym (opposite-opposite lit) ∙ ap opposite (sym same)) (Contains-push seen lit),
      λ _. ap (is_uncovered (set marks (opposite lit) Uncovered)) same ∙ ap is_uncovered_mark (mark_written marks (opposite lit) Uncovered lt),
    )
    by_literal z (inr differs) = (
      λ h. Contains-append_left seen (lit ∷ []) (opposite z) ((state.uncovered z).0 (sym (ap is_uncovered_mark (mark_other marks (opposite lit) z Uncovered differs)) ∙ h)),
      λ h. ap is_uncovered_mark (mark_other marks (opposite lit) z Uncovered differs) ∙ (state.uncovered z).1 (before z differs (Contains-push_cases seen lit (opposite z) h)),
    )

pub assumed_more : (clause : List ℕ) (i : ℕ) (marks marks' : List Mark) (lits lits' : List ℕ) (lit code : ℕ) → i < length clause → lit ≡ get_or clause i lit → code ≡ opposite lit → code < length marks
    → marks' ≡ set marks code Uncovered → lits' ≡ lits ++ code ∷ [] → Assumed (take i clause) marks lits → Assumed (take (i + 1) clause) marks' lits'
assumed_more clause i marks marks' lits lits' lit code lt is at within written pushed state =
    let next : Assumed (take i clause ++ lit ∷ []) (set marks (opposite lit) Uncovered) (lits ++ opposite lit ∷ []) = assumed_next (take i clause) marks lits lit (omega arith) state in
    subst (λ (ls : List ℕ). Assumed (take (i + 1) clause) marks' ls) (ap (λ k. lits ++ k ∷ []) (sym at) ∙ sym pushed)
    (subst (λ (ms : List Mark). Assumed (take (i + 1) clause) ms (lits ++ opposite lit ∷ [])) (ap (λ k. set marks k Uncovered) (sym at) ∙ sym written)
    (subst (λ (seen : List ℕ). Assumed seen (set marks (opposite lit) Uncovered) (lits ++ opposite lit ∷ [])) (seen_more clause i lit lt is) next))

pub assumed_whole : (clause : List ℕ) (i : ℕ) (marks : List Mark) (lits : List ℕ) → length clause ≤ i → Assumed (take i clause) marks lits → Assumed clause marks lits
assumed_whole clause i marks lits le state = subst (λ (seen : List ℕ). Assumed seen marks lits) (take_all i clause le) state

-- one more literal of the clause is covered
pub covered_next : (clause : List ℕ) (i : ℕ) (marks : List Mark) (lit code : ℕ) → i < length clause → lit ≡ get_or clause i lit → code ≡ opposite lit → (get_or marks code Free ≡ Uncovered → ⊥)
    → ((z : ℕ) → Contains (take i clause) z → is_uncovered marks (opposite z) ≡ false) → (z : ℕ) → Contains (take (i + 1) clause) z → is_uncovered marks (opposite z) ≡ false
covered_next clause i marks lit code lt is at not_uncovered each z has =
    either (Contains-push_cases (take i clause) lit z (subst (λ (ls : List ℕ). Contains ls z) (sym (seen_more clause i lit lt is)) has))
  where
    by_mark : (mark : Mark) → (mark ≡ Uncovered → ⊥) → is_uncovered_mark mark ≡ false
    by_mark Free never = refl
    by_mark Held never = refl
    by_mark Uncovered never = absurd (never refl)

    either : Contains (take i clause) z ⊎ (lit ≡ z) → is_uncovered marks (opposite z) ≡ false
    either (inl before) = each z before
    either (inr same) = ap (λ k. is_uncovered marks k) (ap opposite (sym same) ∙ sym at) ∙ by_mark (get_or marks code Free) not_uncovered

pub covered_whole : (clause : List ℕ) (i : ℕ) (marks : List Mark) → length clause ≤ i → ((z : ℕ) → Contains (take i clause) z → is_uncovered marks (opposite z) ≡ false) → (z : ℕ) → Contains clause z → is_uncovered marks (opposite z) ≡ false
covered_whole clause i marks le each z has = each z (subst (λ (ls : List ℕ). Contains ls z) (sym (take_all i clause le)) has)

-- a literal that stays uncovered refutes that all are covered
pub not_covered : (clause : List ℕ) (i : ℕ) (marks : List Mark) (lit code : ℕ) → i < length clause → lit ≡ get_or clause i lit → code ≡ opposite lit → get_or marks code Free ≡ Uncovered
    → ((z : ℕ) → Contains clause z → is_uncovered marks (opposite z) ≡ false) → ⊥
not_covered clause i marks lit code lt is at uncovered each =
    both_ways (is_uncovered marks (opposite lit)) (each lit (subst (Contains clause) (sym is) (Contains-get_or clause i lit lt))) (ap (λ k. is_uncovered marks k) (sym at) ∙ ap is_uncovered_mark uncovered)

-- what the joined literals of clauses have, one of the clauses has
in_one : (clauses : List (List ℕ)) (lit : ℕ) → Contains (concat clauses) lit → StandsInOneOf clauses lit
in_one [] lit none = nothing_in lit none
in_one (clause ∷ clauses) lit has = first_or_later (λ h. in_one clauses lit h) (Contains-append_cases clause (concat clauses) lit has)
  where
    first_or_later : (Contains (concat clauses) lit → StandsInOneOf clauses lit) → Contains clause lit ⊎ Contains (concat clauses) lit → StandsInOneOf (clause ∷ clauses) lit
    first_or_later recur (inl h) = (clause, Contains-here clause clauses, h)
    first_or_later recur (inr h) = let m = recur h in (m.0, Contains-there clause m.0 clauses m.1, m.2)

in_concat : (clauses : List (List ℕ)) (clause : List ℕ) (lit : ℕ) → Contains clauses clause → Contains clause lit → Contains (concat clauses) lit
in_concat [] clause lit (k, lt, is) h = absurd (omega arith)
in_concat (first ∷ clauses) clause lit (zero, lt, is) h = Contains-append_left first (concat clauses) lit (subst (λ (c : List ℕ). Contains c lit) (sym is) h)
in_concat (first ∷ clauses) clause lit (suc k, lt, is) h = Contains-append_right first (concat clauses) lit (in_concat clauses clause lit (k, omega arith, is) h)

-- The clause is covered exactly where each of its literals stands in a hinted clause.
pub covered_exactly : (clause : List ℕ) (clauses : List (List ℕ)) (before after : List Mark) → ((lit : ℕ) → IsTrue (is_uncovered before lit) ↔ Contains clause (opposite lit)) → CoveredBy before (concat clauses) after
    → ((lit : ℕ) → Contains clause lit → is_uncovered after (opposite lit) ≡ false) ↔ ((lit : ℕ) → Contains clause lit → StandsInOneOf clauses lit)
covered_exactly clause clauses before after uncovered covered = (
  λ all lit has. in_one clauses lit (subst (Contains (concat clauses)) (opposite-opposite lit) (covered.covered (opposite lit) (was lit has) (all lit has))),
  λ all lit has. by_mark lit (all lit has) (cases_Bool (is_uncovered after (opposite lit))),
)
  where
    was : (lit : ℕ) → Contains clause lit → IsTrue (is_uncovered before (opposite lit))
    was lit has = (uncovered (opposite lit)).1 (subst (Contains clause) (sym (opposite-opposite lit)) has)

    by_mark : (lit : ℕ) → StandsInOneOf clauses lit → (is_uncovered after (opposite lit) ≡ true) ⊎ (is_uncovered after (opposite lit) ≡ false) → is_uncovered after (opposite lit) ≡ false
    by_mark lit one (inr h) = h
    by_mark lit one (inl h) = absurd ((covered.still (opposite lit) h).1 (subst (Contains (concat clauses)) (sym (opposite-opposite lit)) (in_concat clauses one.0 lit one.1 one.2)))

-- a literal that holds has a mark
pub set_within : (marks : List Mark) (lits : List ℕ) (lit : ℕ) → Agree marks lits → Contains lits lit → lit < length marks
set_within marks lits lit agree has = marked_within marks lit ((agree lit).1 has)

-- the negation of a literal of a clause with room has a mark
pub negation_within : (size : ℕ) (clause : List ℕ) (i lit : ℕ) → HasRoom size clause → i < length clause → lit ≡ get_or clause i lit → opposite lit < size
negation_within size clause i lit room lt is =
    let h : 2 * (lit / 2) + 1 < size = room lit (subst (Contains clause) (sym is) (Contains-get_or clause i lit lt)) in
    omega arith
