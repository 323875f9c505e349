-- Unit propagation over hints: what is kept from one hint to the next.
use Rattle.std.proofs.Common.{◌≡◌, ◌∙◌, ℕ, ◌+◌, ◌<◌, List, [], ◌∷◌, ◌++◌, take, drop, length, get_or, set, true, false, refl, ap, subst, sym, inl, inr, arith, length-drop}
use Rattle.std.specs.Prelude.{IsTrue, Contains, ◌⊎◌, ◌↔◌, ◌==◌}
use Rattle.std.specs.List.{concat}
use Rattle.std.proofs.lemmas.Bool.{both_ways, cases_Bool, cases_eq}
use Rattle.std.proofs.lemmas.Bool.Decides.{nat_tests}
use Rattle.std.proofs.lemmas.List.{take_more, take_all, drop_more, drop_all, append_assoc, append-nil, get_or-map, length-map}
use Rattle.std.proofs.lemmas.List.Elements.{Contains-append_left, Contains-append_right, Contains-append_cases, Contains-get_or}
use Rattle.sat_base.specs.Lit.{opposite}
use Rattle.trace_core.specs.Propagation.{IsFalsified, IsUnit, ReachesConflict}
use Rattle.trace_core.specs.Marking.{holds, is_uncovered, Agree, HasRoom, IsFound, CoveredBy}
use Rattle.sat_base.specs.declared.origins.Ref.{Ref}
use Rattle.sat_base.specs.declared.origins.Ref.TheVariants.{Input}
use Rattle.trace_core.specs.Known.{Known, clause_of}
use Rattle.trace_core.specs.Checked.{HaveRoom, hinted, known_to}
use Rattle.trace_core.proofs.MarkLemmas.{covered_none}
use Rattle.trace_core.specs.declared.marks.Mark.{Mark}
use Rattle.trace_core.specs.declared.marks.Found.{Found}
use Rattle.trace_core.specs.declared.marks.Found.TheVariants.{Nothing, One, More}

-- what two stretches of hints have shown
pub covered_both : (before middle after : List Mark) (first second : List ℕ) → CoveredBy before first middle → CoveredBy middle second after → CoveredBy before (first ++ second) after
covered_both before middle after first second one two = record {
  still = λ lit h. let later = two.still lit h in let earlier = one.still lit later.0 in
      (earlier.0, λ has. neither lit earlier.1 later.1 (Contains-append_cases first second (opposite lit) has));
  covered = λ lit h k. by_middle lit h k (cases_Bool (is_uncovered middle lit));
}
  where
    neither : (lit : ℕ) → (Contains first (opposite lit) → ⊥) → (Contains second (opposite lit) → ⊥) → Contains first (opposite lit) ⊎ Contains second (opposite lit) → ⊥
    neither lit f s (inl h) = f h
    neither lit f s (inr h) = s h

    by_middle : (lit : ℕ) → IsTrue (is_uncovered before lit) → is_uncovered after lit ≡ false → (is_uncovered middle lit ≡ true) ⊎ (is_uncovered middle lit ≡ false) → Contains (first ++ second) (opposite lit)
    by_middle lit h k (inl m) = Contains-append_right first second (opposite lit) (two.covered lit m k)
    by_middle lit h k (inr m) = Contains-append_left first second (opposite lit) (one.covered lit h m)

-- After the first i hints: the rest decides as the whole does.
pub record Ran (clauses : List (List ℕ)) (before : List Mark) (start : List ℕ) (i : ℕ) (marks : List Mark) (set : List ℕ) : Type 0 where
  pub agree : Agree marks set
  pub covered : CoveredBy before (concat (take i clauses)) marks
  pub rest : ReachesConflict start clauses ↔ ReachesConflict set (drop i clauses)

pub ran_none : (clauses : List (List ℕ)) (marks : List Mark) (set : List ℕ) → Agree marks set → Ran clauses marks set 0 marks set
ran_none clauses marks set agree = record { agree = agree; covered = covered_none marks; rest = (λ h. h, λ h. h) }

units_same : (lits clause : List ℕ) (a b : ℕ) → IsUnit lits clause a → IsUnit lits clause b → a ≡ b
units_same lits clause a b one two = either (cases_eq a b)
  where
    either : (a ≡ b) ⊎ (a ≡ b → ⊥) → a ≡ b
    either (inl same) = same
    either (inr differs) = absurd (one.not_false (two.others_false a one.stands differs))

concat_push : (clauses : List (List ℕ)) (clause : List ℕ) → concat (clauses ++ clause ∷ []) ≡ concat clauses ++ clause
concat_push [] clause = append-nil clause
concat_push (first ∷ clauses) clause = ap (λ (rest : List ℕ). first ++ rest) (concat_push clauses clause) ∙ sym (append_assoc first (concat clauses) clause)

-- a unit hint adds its literal, and the rest decides
goes_on : (lits lits' clause : List ℕ) (rest : List (List ℕ)) (lit : ℕ) → 0 < length rest → IsUnit lits clause lit → lits' ≡ lits ++ lit ∷ [] → ReachesConflict lits (clause ∷ rest) ↔ ReachesConflict lits' rest
goes_on lits lits' clause [] lit some unit added = absurd (omega arith)
goes_on lits lits' clause (next ∷ more) lit some unit added = (
  λ h. subst (λ ls. ReachesConflict ls (next ∷ more)) (ap (λ z. lits ++ z ∷ []) (units_same lits clause h.0 lit h.1 unit) ∙ sym added) h.2,
  λ h. (lit, unit, subst (λ ls. ReachesConflict ls (next ∷ more)) added h),
)

-- a hint that isn't unit ends the propagation, where it isn't the last
stops : (lits clause : List ℕ) (rest : List (List ℕ)) → 0 < length rest → ((lit : ℕ) → IsUnit lits clause lit → ⊥) → ReachesConflict lits (clause ∷ rest) → ⊥
stops lits clause [] some never h = omega arith
stops lits clause (next ∷ more) some never h = never h.0 h.1

-- what is left from place i on begins with the clause there
left_at : (clauses : List (List ℕ)) (i : ℕ) (clause : List ℕ) → i < length clauses → clause ≡ get_or clauses i [] → drop i clauses ≡ clause ∷ drop (i + 1) clauses
left_at clauses i clause lt is = drop_more clauses i [] lt ∙ ap (λ (c : List ℕ). c ∷ drop (i + 1) clauses) (sym is)

shown_more : (clauses : List (List ℕ)) (i : ℕ) (clause : List ℕ) → i < length clauses → clause ≡ get_or clauses i [] → concat (take i clauses) ++ clause ≡ concat (take (i + 1) clauses)
shown_more clauses i clause lt is =
    ap (λ (c : List ℕ). concat (take i clauses) ++ c) is ∙ sym (concat_push (take i clauses) (get_or clauses i [])) ∙ ap concat (sym (take_more clauses i [] lt))

pub ran_more : (clauses : List (List ℕ)) (before : List Mark) (start : List ℕ) (i : ℕ) (marks marks' : List Mark) (lits lits' clause : List ℕ) → i + 1 < length clauses → clause ≡ get_or clauses i []
    → Ran clauses before start i marks lits → Agree marks' lits' → CoveredBy marks clause marks' → (lit : ℕ) × IsUnit lits clause lit × (lits' ≡ lits ++ lit ∷ []) → Ran clauses before start (i + 1) marks' lits'
ran_more clauses before start i marks marks' lits lits' clause lt is ran agree covered unit =
    let left : drop i clauses ≡ clause ∷ drop (i + 1) clauses = left_at clauses i clause (omega arith) is in
    let some : 0 < length (drop (i + 1) clauses) = omega (arith, length-drop (i + 1) clauses) in
    let on = goes_on lits lits' clause (drop (i + 1) clauses) unit.0 some unit.1 unit.2 in
    record {
      agree = agree;
      covered = subst (λ (shown : List ℕ). CoveredBy before shown marks') (shown_more clauses i clause (omega arith) is) (covered_both before marks marks' (concat (take i clauses)) clause ran.covered covered);
      rest = (λ h. on.0 (subst (ReachesConflict lits) left (ran.rest.0 h)), λ h. ran.rest.1 (subst (ReachesConflict lits) (sym left) (on.1 h)));
    }

pub ran_stops : (clauses : List (List ℕ)) (before : List Mark) (start : List ℕ) (i : ℕ) (marks : List Mark) (lits clause : List ℕ) → i + 1 < length clauses → clause ≡ get_or clauses i []
    → Ran clauses before start i marks lits → ((lit : ℕ) → IsUnit lits clause lit → ⊥) → ReachesConflict start clauses → ⊥
ran_stops clauses before start i marks lits clause lt is ran never h =
    stops lits clause (drop (i + 1) clauses) (omega (arith, length-drop (i + 1) clauses)) never (subst (ReachesConflict lits) (left_at clauses i clause (omega arith) is) (ran.rest.0 h))

-- the last hint has to be falsified
pub ran_last : (clauses : List (List ℕ)) (before : List Mark) (start : List ℕ) (i : ℕ) (marks : List Mark) (lits clause : List ℕ) → i + 1 ≡ length clauses → clause ≡ get_or clauses i []
    → Ran clauses before start i marks lits → ReachesConflict start clauses ↔ IsFalsified lits clause
ran_last clauses before start i marks lits clause last is ran =
    let left : drop i clauses ≡ clause ∷ [] = left_at clauses i clause (omega arith) is ∙ ap (λ (rest : List (List ℕ)). clause ∷ rest) (drop_all (i + 1) clauses (omega arith)) in
    (λ h. subst (ReachesConflict lits) left (ran.rest.0 h), λ h. ran.rest.1 (subst (ReachesConflict lits) (sym left) h))

pub falsified : (marks : List Mark) (lits clause : List ℕ) → IsFound marks clause Nothing → Agree marks lits → IsFalsified lits clause
falsified marks lits clause is agree lit has = (agree (opposite lit)).0 (is lit has)

pub not_falsified : (marks : List Mark) (lits clause : List ℕ) (found : Found) → (found ≡ Nothing → ⊥) → IsFound marks clause found → Agree marks lits → IsFalsified lits clause → ⊥
not_falsified marks lits clause Nothing not_nothing is agree h = not_nothing refl
not_falsified marks lits clause (One lit) not_nothing is agree h = both_ways (holds marks (opposite lit)) is.1 ((agree (opposite lit)).1 (h lit is.0))
not_falsified marks lits clause More not_nothing is agree h = both_ways (holds marks (opposite is.0)) is.5 ((agree (opposite is.0)).1 (h is.0 is.3))

-- all clauses are shown once the last one is
pub covered_last : (clauses : List (List ℕ)) (before : List Mark) (start : List ℕ) (i : ℕ) (marks marks' : List Mark) (lits clause : List ℕ) → i + 1 ≡ length clauses → clause ≡ get_or clauses i []
    → Ran clauses before start i marks lits → CoveredBy marks clause marks' → CoveredBy before (concat clauses) marks'
covered_last clauses before start i marks marks' lits clause last is ran covered =
    subst (λ (shown : List ℕ). CoveredBy before shown marks') (shown_more clauses i clause (omega arith) is ∙ ap concat (take_all (i + 1) clauses (omega arith)))
    (covered_both before marks marks' (concat (take i clauses)) clause ran.covered covered)

-- a clause among the hinted ones has room
pub room_at : (size : ℕ) (clauses : List (List ℕ)) (i : ℕ) (clause : List ℕ) → HaveRoom size clauses → i < length clauses → clause ≡ get_or clauses i [] → HasRoom size clause
room_at size clauses i clause room lt is = room clause (subst (Contains clauses) (sym is) (Contains-get_or clauses i [] lt))

-- the clause of a hint stands at its place among the hinted ones
pub at_hint : (inputs steps : List Known) (hints : List Ref) (i j : ℕ) (clause : List ℕ) → j ≡ i → i < length hints → clause ≡ clause_of (known_to inputs steps (get_or hints j (Input 0))) → clause ≡ get_or (hinted inputs steps hints) i []
at_hint inputs steps hints i j clause same lt is =
    is ∙ ap (λ k. clause_of (known_to inputs steps (get_or hints k (Input 0)))) same ∙ sym (get_or-map (λ hint. clause_of (known_to inputs steps hint)) hints i (Input 0) [] lt)

pub some_hint : (size : ℕ) → false ≡ (size == 0) → 0 < size
some_hint size h = grind (arith, nat_tests)

pub length-hinted : (inputs steps : List Known) (hints : List Ref) → length (hinted inputs steps hints) ≡ length hints
length-hinted inputs steps hints = length-map hints (λ hint. clause_of (known_to inputs steps hint))
