-- Trails that grow by forced literals.
use Rattle.std.proofs.Common.{◌≡◌, ◌≢◌, ◌∙◌, ℕ, ◌+◌, ◌<◌, ◌≤◌, List, [], ◌∷◌, ◌++◌, length, take, refl, ap, subst, sym, inl, inr, arith}
use Rattle.std.specs.Prelude.{◌⊎◌, Some, None}
use Rattle.std.proofs.lemmas.Bool.{cases_lt}
use Rattle.std.proofs.lemmas.List.{length_push, get_or_push, get_or_append_left, take-append-le, take_at, take_all, take-take, get_or-take}
use Rattle.trail_core.specs.Trail.{Entry, no_entry, entry_at, lits_of}
use Rattle.trail_core.specs.UnderTrail.{lits_at, IsUnitClause, IsForced, IsFounded, HasGrown}

pub old_entry : (t : List Entry) (e : Entry) (i : ℕ) → i < length t → entry_at (t ++ e ∷ []) i ≡ entry_at t i
old_entry t e i lt = get_or_append_left t (e ∷ []) no_entry i lt

pub new_entry : (t : List Entry) (e : Entry) (i : ℕ) → i ≡ length t → entry_at (t ++ e ∷ []) i ≡ e
new_entry t e i at = get_or_push t e no_entry i (sym at)

old_forced : (clauses : List (List ℕ)) (t : List Entry) (e : Entry) (i : ℕ) → i < length t → IsForced clauses (take i t) (entry_at t i) → IsForced clauses (take i (t ++ e ∷ [])) (entry_at (t ++ e ∷ []) i)
old_forced clauses t e i lt f =
    subst (λ (x : Entry). IsForced clauses (take i (t ++ e ∷ [])) x) (sym (old_entry t e i lt))
    (subst (λ (xs : List Entry). IsForced clauses xs (entry_at t i)) (sym (take-append-le i t (e ∷ []) (omega arith))) f)

new_forced : (clauses : List (List ℕ)) (t : List Entry) (e : Entry) (i : ℕ) → i ≡ length t → IsForced clauses t e → IsForced clauses (take i (t ++ e ∷ [])) (entry_at (t ++ e ∷ []) i)
new_forced clauses t e i at f =
    subst (λ (x : Entry). IsForced clauses (take i (t ++ e ∷ [])) x) (sym (new_entry t e i at))
    (subst (λ (xs : List Entry). IsForced clauses xs e) (sym (take_at t (e ∷ []) i (sym at))) f)

pub grown_none : (clauses : List (List ℕ)) (depth : ℕ) (t : List Entry) → HasGrown clauses depth t t
grown_none clauses depth t = record {
  longer = omega arith;
  before = take_all (length t) t (omega arith);
  forced = λ i from to. absurd (omega arith);
  level = λ i from to. absurd (omega arith);
}

pub grown_push : (clauses : List (List ℕ)) (depth : ℕ) (old t : List Entry) (e : Entry) → HasGrown clauses depth old t → IsForced clauses t e → e.level ≡ depth → HasGrown clauses depth old (t ++ e ∷ [])
grown_push clauses depth old t e grown f level = record {
  longer = omega (arith, grown.longer, size);
  before = take-append-le (length old) t (e ∷ []) grown.longer ∙ grown.before;
  forced = λ i from to. forced_at i from to (cases_lt i (length t));
  level = λ i from to. level_at i from to (cases_lt i (length t));
}
  where
    size : length (t ++ e ∷ []) ≡ length t + 1
    size = length_push t e

    forced_at : (i : ℕ) → length old ≤ i → i < length (t ++ e ∷ []) → (i < length t) ⊎ (length t ≤ i) → IsForced clauses (take i (t ++ e ∷ [])) (entry_at (t ++ e ∷ []) i)
    forced_at i from to (inl lt) = old_forced clauses t e i lt (grown.forced i from lt)
    forced_at i from to (inr ge) = new_forced clauses t e i (omega (arith, size)) f

    level_at : (i : ℕ) → length old ≤ i → i < length (t ++ e ∷ []) → (i < length t) ⊎ (length t ≤ i) → (entry_at (t ++ e ∷ []) i).level ≡ depth
    level_at i from to (inl lt) = ap (λ x. x.level) (old_entry t e i lt) ∙ grown.level i from lt
    level_at i from to (inr ge) = ap (λ x. x.level) (new_entry t e i (omega (arith, size))) ∙ level

pub grown_twice : (clauses : List (List ℕ)) (depth : ℕ) (old mid new : List Entry) → HasGrown clauses depth old mid → HasGrown clauses depth mid new → HasGrown clauses depth old new
grown_twice clauses depth old mid new a b = record {
  longer = omega (arith, a.longer, b.longer);
  before = sym (take-take (length old) (length mid) new a.longer) ∙ ap (take (length old)) b.before ∙ a.before;
  forced = λ i from to. forced_at i from to (cases_lt i (length mid));
  level = λ i from to. level_at i from to (cases_lt i (length mid));
}
  where
    same : (i : ℕ) → i < length mid → entry_at new i ≡ entry_at mid i
    same i lt = sym (get_or-take (length mid) new i no_entry lt) ∙ ap (λ (xs : List Entry). entry_at xs i) b.before

    front : (i : ℕ) → i < length mid → take i new ≡ take i mid
    front i lt = sym (take-take i (length mid) new (omega arith)) ∙ ap (take i) b.before

    forced_at : (i : ℕ) → length old ≤ i → i < length new → (i < length mid) ⊎ (length mid ≤ i) → IsForced clauses (take i new) (entry_at new i)
    forced_at i from to (inl lt) =
        subst (λ (x : Entry). IsForced clauses (take i new) x) (sym (same i lt))
        (subst (λ (xs : List Entry). IsForced clauses xs (entry_at mid i)) (sym (front i lt)) (a.forced i from lt))
    forced_at i from to (inr ge) = b.forced i ge to

    level_at : (i : ℕ) → length old ≤ i → i < length new → (i < length mid) ⊎ (length mid ≤ i) → (entry_at new i).level ≡ depth
    level_at i from to (inl lt) = ap (λ x. x.level) (same i lt) ∙ a.level i from lt
    level_at i from to (inr ge) = b.level i ge to

-- a forced literal at the depth keeps a trail founded
pub founded_push : (clauses : List (List ℕ)) (t : List Entry) (depth : ℕ) (e : Entry) → IsFounded clauses t depth → IsForced clauses t e → e.level ≡ depth → IsFounded clauses (t ++ e ∷ []) depth
founded_push clauses t depth e founded f level = record {
  begun = λ l above within.
      let b = founded.begun l above within in
      (b.0, omega (arith, b.1, size), ap (λ x. x.level) (old_entry t e b.0 b.1) ∙ b.2);
  first = λ i lt above alone. first_at i lt above alone (cases_lt i (length t));
  other = λ i k lt above before same. other_at i k lt above before same (cases_lt i (length t));
}
  where
    all : List Entry
    all = t ++ e ∷ []

    size : length all ≡ length t + 1
    size = length_push t e

    first_at : (i : ℕ) → i < length all → 0 < (entry_at all i).level → ((k : ℕ) → k < i → (entry_at all k).level ≢ (entry_at all i).level) → (i < length t) ⊎ (length t ≤ i) → (entry_at all i).reason ≡ None
    first_at i lt above alone (inl old) =
        let here = old_entry t e i old in
        ap (λ x. x.reason) here ∙ founded.first i old (omega (arith, above, ap (λ x. x.level) here))
        (λ k before same. alone k before (ap (λ x. x.level) (old_entry t e k (omega arith)) ∙ same ∙ sym (ap (λ x. x.level) here)))
    first_at i lt above alone (inr new) =
        let here = ap (λ x. x.level) (new_entry t e i (omega (arith, size))) ∙ level in
        let b = founded.begun depth (omega (arith, above, here)) (omega arith) in
        absurd (alone b.0 (omega (arith, b.1)) (ap (λ x. x.level) (old_entry t e b.0 b.1) ∙ b.2 ∙ sym here))

    other_at : (i k : ℕ) → i < length all → 0 < (entry_at all i).level → k < i → (entry_at all k).level ≡ (entry_at all i).level → (i < length t) ⊎ (length t ≤ i) → IsForced clauses (take i all) (entry_at all i)
    other_at i k lt above before same (inl old) =
        let here = ap (λ x. x.level) (old_entry t e i old) in
        old_forced clauses t e i old (founded.other i k old (omega (arith, above, here)) before (sym (ap (λ x. x.level) (old_entry t e k (omega arith))) ∙ same ∙ here))
    other_at i k lt above before same (inr new) = new_forced clauses t e i (omega (arith, size)) f

-- the literal of a unit clause is forced by it
pub forced_unit : (clauses : List (List ℕ)) (t : List Entry) (id lit level : ℕ) → id < length clauses → IsUnitClause (lits_of t) (lits_at clauses id) lit → IsForced clauses t (record { lit = lit; level = level; reason = Some id })
forced_unit clauses t id lit level known unit = record { id = id; reason = refl; known = known; rest = unit.rest }
