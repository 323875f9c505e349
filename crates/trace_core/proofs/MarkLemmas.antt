-- Marks of literals, and what a scan of a clause finds.
use Rattle.std.proofs.Common.{◌≡◌, ◌≢◌, ◌∙◌, ℕ, ◌+◌, ◌<◌, ◌≤◌, List, [], ◌∷◌, ◌++◌, take, length}
use Rattle.std.proofs.Common.{get_or, set, true, false, refl, ap, subst, sym, inl, inr}
use Rattle.std.proofs.Common.{get_or-set_same, get_or-set_other}
use Rattle.std.specs.Prelude.{IsTrue, Contains, ◌⊎◌}
use Rattle.std.proofs.lemmas.Bool.{both_ways, cases_eq, cases_lt}
use Rattle.std.proofs.lemmas.List.{take_more, take_all, get_or_past}
use Rattle.std.proofs.lemmas.List.Elements.{Contains-push, Contains-push_cases, Contains-append_left}
use Rattle.sat_base.specs.Lit.{opposite}
use Rattle.sat_base.proofs.Opposite.{opposite-opposite}
use Rattle.trace_core.specs.Marking.{holds, is_uncovered, is_held_mark, is_uncovered_mark, IsFound, CoveredBy}
use Rattle.trace_core.specs.declared.marks.Mark.{Mark}
use Rattle.trace_core.specs.declared.marks.Mark.TheVariants.{Free, Held, Uncovered}
use Rattle.trace_core.specs.declared.marks.Found.{Found}
use Rattle.trace_core.specs.declared.marks.Found.TheVariants.{Nothing, One, More}
use Rattle.trace_core.proofs.Items.{nothing_in}

-- a scan that has looked at nothing
pub found_none : (marks : List Mark) → IsFound marks [] Nothing
found_none marks lit none = nothing_in lit none

pub covered_none : (marks : List Mark) → CoveredBy marks [] marks
covered_none marks = record {
  still = λ lit h. (h, λ none. nothing_in (opposite lit) none);
  covered = λ lit h k. absurd (both_ways (is_uncovered marks lit) k h);
}

-- each literal but the given one keeps its false negation where one more false literal comes
others_more : (marks : List Mark) (clause : List ℕ) (lit : ℕ) (P : ℕ → Type 0) → ((other : ℕ) → Contains clause other → P other → IsTrue (holds marks (opposite other)))
    → (P lit → IsTrue (holds marks (opposite lit))) → (other : ℕ) → Contains (clause ++ lit ∷ []) other → P other → IsTrue (holds marks (opposite other))
others_more marks clause lit P each last other has p = either (Contains-push_cases clause lit other has)
  where
    either : Contains clause other ⊎ (lit ≡ other) → IsTrue (holds marks (opposite other))
    either (inl before) = each other before p
    either (inr same) = subst (λ z. IsTrue (holds marks (opposite z))) same (last (subst P (sym same) p))

-- one more literal that is false
pub found_false : (marks : List Mark) (clause : List ℕ) (found : Found) (lit : ℕ) → IsFound marks clause found → IsTrue (holds marks (opposite lit)) → IsFound marks (clause ++ lit ∷ []) found
found_false marks clause Nothing lit is falsified = λ other has. others_more marks clause lit (λ _. Unit {0}) (λ o h _. is o h) (λ _. falsified) other has tt
found_false marks clause (One z) lit is falsified =
    (Contains-append_left clause (lit ∷ []) z is.0, is.1, others_more marks clause lit (λ o. o ≢ z) is.2 (λ _. falsified))
found_false marks clause More lit is falsified =
    (is.0, is.1, is.2, Contains-append_left clause (lit ∷ []) is.0 is.3, Contains-append_left clause (lit ∷ []) is.1 is.4, is.5, is.6)

-- the first literal that isn't false
pub found_first : (marks : List Mark) (clause : List ℕ) (lit : ℕ) → IsFound marks clause Nothing → holds marks (opposite lit) ≡ false → IsFound marks (clause ++ lit ∷ []) (One lit)
found_first marks clause lit is free =
    (Contains-push clause lit, free, others_more marks clause lit (λ o. o ≢ lit) (λ o h _. is o h) (λ differs. absurd (differs refl)))

-- that literal again
pub found_again : (marks : List Mark) (clause : List ℕ) (first lit : ℕ) → first ≡ lit → IsFound marks clause (One first) → IsFound marks (clause ++ lit ∷ []) (One first)
found_again marks clause first lit same is =
    (Contains-append_left clause (lit ∷ []) first is.0, is.1, others_more marks clause lit (λ o. o ≢ first) is.2 (λ differs. absurd (differs (sym same))))

-- a second one
pub found_second : (marks : List Mark) (clause : List ℕ) (first lit : ℕ) → (first ≡ lit → ⊥) → IsFound marks clause (One first) → holds marks (opposite lit) ≡ false → IsFound marks (clause ++ lit ∷ []) More
found_second marks clause first lit differs is free =
    (lit, first, differs, Contains-push clause lit, Contains-append_left clause (lit ∷ []) first is.0, free, is.1)

-- one more
pub found_more : (marks : List Mark) (clause : List ℕ) (lit : ℕ) → IsFound marks clause More → IsFound marks (clause ++ lit ∷ []) More
found_more marks clause lit is =
    (is.0, is.1, is.2, Contains-append_left clause (lit ∷ []) is.0 is.3, Contains-append_left clause (lit ∷ []) is.1 is.4, is.5, is.6)

-- a literal whose negation isn't uncovered shows nothing new
pub covered_same : (before after : List Mark) (shown : List ℕ) (lit : ℕ) → CoveredBy before shown after → is_uncovered after (opposite lit) ≡ false → CoveredBy before (shown ++ lit ∷ []) after
covered_same before after shown lit is free = record {
  still = λ z h. let old = is.still z h in (old.0, λ has. refuse z h old.1 (Contains-push_cases shown lit (opposite z) has));
  covered = λ z h k. Contains-append_left shown (lit ∷ []) (opposite z) (is.covered z h k);
}
  where
    refuse : (z : ℕ) → IsTrue (is_uncovered after z) → (Contains shown (opposite z) → ⊥) → Contains shown (opposite z) ⊎ (lit ≡ opposite z) → ⊥
    refuse z h never (inl has) = never has
    refuse z h never (inr same) = both_ways (is_uncovered after z) (ap (is_uncovered after) (sym (opposite-opposite z) ∙ ap opposite (sym same)) ∙ free) h

-- a literal that holds has a mark
pub marked_within : (marks : List Mark) (lit : ℕ) → IsTrue (holds marks lit) → lit < length marks
marked_within marks lit h = either (cases_lt lit (length marks))
  where
    either : (lit < length marks) ⊎ (length marks ≤ lit) → lit < length marks
    either (inl lt) = lt
    either (inr le) = absurd (both_ways (holds marks lit) (ap is_held_mark (get_or_past marks lit Free le)) h)

-- the mark of a literal that is written, and those of the others
pub mark_written : (marks : List Mark) (lit : ℕ) (mark : Mark) → lit < length marks → get_or (set marks lit mark) lit Free ≡ mark
mark_written marks lit mark lt = get_or-set_same marks lit mark Free lt

pub mark_other : (marks : List Mark) (lit other : ℕ) (mark : Mark) → (other ≡ lit → ⊥) → get_or (set marks lit mark) other Free ≡ get_or marks other Free
mark_other marks lit other mark differs = get_or-set_other marks lit other mark Free differs

-- a write that keeps whether the literal holds
pub holds_kept : (marks : List Mark) (lit : ℕ) (mark : Mark) → lit < length marks → holds marks lit ≡ is_held_mark mark → (other : ℕ) → holds (set marks lit mark) other ≡ holds marks other
holds_kept marks lit mark lt same other = either (cases_eq other lit)
  where
    either : (other ≡ lit) ⊎ (other ≡ lit → ⊥) → holds (set marks lit mark) other ≡ holds marks other
    either (inl is) = ap (holds (set marks lit mark)) is ∙ ap is_held_mark (mark_written marks lit mark lt) ∙ sym same ∙ ap (holds marks) (sym is)
    either (inr differs) = ap is_held_mark (mark_other marks lit other mark differs)

-- a literal of the clause is shown
pub covered_shown : (before after : List Mark) (shown : List ℕ) (lit : ℕ) → CoveredBy before shown after → opposite lit < length after → is_uncovered after (opposite lit) ≡ true
    → CoveredBy before (shown ++ lit ∷ []) (set after (opposite lit) Held)
covered_shown before after shown lit is lt was = record {
  still = λ z h. other_still z h (cases_eq z (opposite lit));
  covered = λ z h k. here_or_old z h k (cases_eq z (opposite lit));
}
  where
    refuse : (z : ℕ) → (z ≡ opposite lit → ⊥) → (Contains shown (opposite z) → ⊥) → Contains shown (opposite z) ⊎ (lit ≡ opposite z) → ⊥
    refuse z differs never (inl has) = never has
    refuse z differs never (inr same) = differs (sym (opposite-opposite z) ∙ ap opposite (sym same))

    other_still : (z : ℕ) → IsTrue (is_uncovered (set after (opposite lit) Held) z) → (z ≡ opposite lit) ⊎ (z ≡ opposite lit → ⊥) → IsTrue (is_uncovered before z) × (Contains (shown ++ lit ∷ []) (opposite z) → ⊥)
    other_still z h (inl same) = absurd (both_ways (is_uncovered (set after (opposite lit) Held) z) (ap (is_uncovered (set after (opposite lit) Held)) same ∙ ap is_uncovered_mark (mark_written after (opposite lit) Held lt)) h)
    other_still z h (inr differs) =
        let old = is.still z (sym (ap is_uncovered_mark (mark_other after (opposite lit) z Held differs)) ∙ h) in
        (old.0, λ has. refuse z differs old.1 (Contains-push_cases shown lit (opposite z) has))

    here_or_old : (z : ℕ) → IsTrue (is_uncovered before z) → is_uncovered (set after (opposite lit) Held) z ≡ false → (z ≡ opposite lit) ⊎ (z ≡ opposite lit → ⊥) → Contains (shown ++ lit ∷ []) (opposite z)
    here_or_old z h k (inl same) = subst (Contains (shown ++ lit ∷ [])) (sym (opposite-opposite lit) ∙ ap opposite (sym same)) (Contains-push shown lit)
    here_or_old z h k (inr differs) =
        Contains-append_left shown (lit ∷ []) (opposite z) (is.covered z h (sym (ap is_uncovered_mark (mark_other after (opposite lit) z Held differs)) ∙ k))

-- A scan that has seen these literals of the clause, from the marks at its start.
pub record Scanned (start : List Mark) (seen : List ℕ) (marks : List Mark) (found : Found) : Type 0 where
  pub is_found : IsFound start seen found
  pub holding : (lit : ℕ) → holds marks lit ≡ holds start lit
  pub covered : CoveredBy start seen marks

pub scanned_none : (marks : List Mark) → Scanned marks [] marks Nothing
scanned_none marks = record { is_found = found_none marks; holding = λ lit. refl; covered = covered_none marks }

pub seen_more : (clause : List ℕ) (i lit : ℕ) → i < length clause → lit ≡ get_or clause i lit → take i clause ++ lit ∷ [] ≡ take (i + 1) clause
seen_more clause i lit lt is = ap (λ z. take i clause ++ z ∷ []) is ∙ sym (take_more clause i lit lt)

-- the next literal isn't false
pub scanned_free : (start marks marks' : List Mark) (clause : List ℕ) (i lit code : ℕ) (found found' : Found) → i < length clause → lit ≡ get_or clause i lit → code ≡ opposite lit
    → get_or marks code Free ≡ Free → marks' ≡ marks → ((before : List Mark) (seen : List ℕ) → IsFound before seen found → holds before (opposite lit) ≡ false → IsFound before (seen ++ lit ∷ []) found')
    → Scanned start (take i clause) marks found → Scanned start (take (i + 1) clause) marks' found'
scanned_free start marks marks' clause i lit code found found' lt is at free same more state =
    let free_here : get_or marks (opposite lit) Free ≡ Free = ap (λ k. get_or marks k Free) (sym at) ∙ free in
    let next : Scanned start (take i clause ++ lit ∷ []) marks found' = record {
      is_found = more start (take i clause) state.is_found (sym (state.holding (opposite lit)) ∙ ap is_held_mark free_here);
      holding = state.holding;
      covered = covered_same start marks (take i clause) lit state.covered (ap is_uncovered_mark free_here);
    } in
    subst (λ (ms : List Mark). Scanned start (take (i + 1) clause) ms found') (sym same) (subst (λ (seen : List ℕ). Scanned start seen marks found') (seen_more clause i lit lt is) next)

-- the next literal is false and doesn't stand in the clause that is derived, or was shown before
pub scanned_held : (start marks marks' : List Mark) (clause : List ℕ) (i lit code : ℕ) (found found' : Found) → i < length clause → lit ≡ get_or clause i lit → code ≡ opposite lit
    → get_or marks code Free ≡ Held → marks' ≡ marks → found' ≡ found → Scanned start (take i clause) marks found → Scanned start (take (i + 1) clause) marks' found'
scanned_held start marks marks' clause i lit code found found' lt is at held same same_found state =
    let held_here : get_or marks (opposite lit) Free ≡ Held = ap (λ k. get_or marks k Free) (sym at) ∙ held in
    let next : Scanned start (take i clause ++ lit ∷ []) marks found = record {
      is_found = found_false start (take i clause) found lit state.is_found (sym (state.holding (opposite lit)) ∙ ap is_held_mark held_here);
      holding = state.holding;
      covered = covered_same start marks (take i clause) lit state.covered (ap is_uncovered_mark held_here);
    } in
    subst (Scanned start (take (i + 1) clause) marks') (sym same_found)
    (subst (λ (ms : List Mark). Scanned start (take (i + 1) clause) ms found) (sym same) (subst (λ (seen : List ℕ). Scanned start seen marks found) (seen_more clause i lit lt is) next))

-- the next literal stands in the clause that is derived, and is shown
pub scanned_shown : (start marks marks' : List Mark) (clause : List ℕ) (i lit code : ℕ) (found found' : Found) → i < length clause → lit ≡ get_or clause i lit → code ≡ opposite lit
    → get_or marks code Free ≡ Uncovered → marks' ≡ set marks code Held → found' ≡ found → Scanned start (take i clause) marks found → Scanned start (take (i + 1) clause) marks' found'
scanned_shown start marks marks' clause i lit code found found' lt is at was written same_found state =
    let was_here : get_or marks (opposite lit) Free ≡ Uncovered = ap (λ k. get_or marks k Free) (sym at) ∙ was in
    let within_here : opposite lit < length marks = marked_within marks (opposite lit) (ap is_held_mark was_here) in
    let next : Scanned start (take i clause ++ lit ∷ []) (set marks (opposite lit) Held) found = record {
      is_found = found_false start (take i clause) found lit state.is_found (sym (state.holding (opposite lit)) ∙ ap is_held_mark was_here);
      holding = λ z. holds_kept marks (opposite lit) Held within_here (ap is_held_mark was_here) z ∙ state.holding z;
      covered = covered_shown start marks (take i clause) lit state.covered within_here (ap is_uncovered_mark was_here);
    } in
    subst (Scanned start (take (i + 1) clause) marks') (sym same_found)
    (subst (λ (ms : List Mark). Scanned start (take (i + 1) clause) ms found) (ap (λ k. set marks k Held) (sym at) ∙ sym written) (subst (λ (seen : List ℕ). Scanned start seen (set marks (opposite lit) Held) found) (seen_more clause i lit lt is) next))

-- the whole clause was looked at
pub scanned_whole : (start marks : List Mark) (clause : List ℕ) (i : ℕ) (found : Found) → length clause ≤ i → Scanned start (take i clause) marks found → Scanned start clause marks found
scanned_whole start marks clause i found le state = subst (λ (seen : List ℕ). Scanned start seen marks found) (take_all i clause le) state
