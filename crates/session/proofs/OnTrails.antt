-- How a trail stands after each step of a search.
use Rattle.std.proofs.Common.{◌≡◌, ◌≢◌, ◌∙◌, ℕ, ◌+◌, ◌<◌, ◌≤◌, List, [], ◌∷◌, ◌++◌, length, take}
use Rattle.std.proofs.Common.{None, refl, ap, sym, subst, inl, inr, arith}
use Rattle.std.specs.Prelude.{◌⊎◌, All}
use Rattle.std.proofs.lemmas.Bool.{cases_lt}
use Rattle.std.proofs.lemmas.Option.{none-some}
use Rattle.std.proofs.lemmas.List.{length_push, get_or_push, get_or_append_left, take-append-le}
use Rattle.std.proofs.lemmas.List.{take_at}
use Rattle.clause_arena.specs.Arena.{ArenaClause, lits_of_each}
use Rattle.trail_core.specs.Trail.{Entry, TrailView, IsTrail, no_entry, entry_at, lits_of, up_to}
use Rattle.trail_core.specs.UnderTrail.{IsForced, IsFounded, IsComplete, IsOpenClause, HasGrown}
use Rattle.propagate.specs.Store.{HasSameClauses}
use Rattle.propagate.proofs.Grown.{founded_push}
use Rattle.session.specs.OnTrail.{IsForcedAtZero, IsCompleteBelow, IsForCube, IsChoice, IsOnTrail}
use Rattle.session.proofs.Fronts.{level_at, Ascends, front_of, up_to_is, complete_take}
use Rattle.session.proofs.Fronts.{complete_untake, zero_take, cube_take, founded_front, entry_in}
use Rattle.session.proofs.Fronts.{front_in}
use Rattle.session.proofs.Forcing.{forced_same, complete_same, founded_more, zero_more}
use Rattle.session.proofs.Forcing.{complete_more}

-- a jump back
pub back_on_trail : (clauses : List (List ℕ)) (entries : List Entry) (depth level : ℕ)
    → Ascends entries → level ≤ depth → IsOnTrail clauses entries depth
    → IsOnTrail clauses (up_to level entries) level
back_on_trail clauses entries depth level up le on =
    let (n, front) = front_of entries level up in
    subst (λ (es : List Entry). IsOnTrail clauses es level) (sym (up_to_is entries level n front)) (record {
      founded = founded_front clauses entries depth level n on.founded front le;
      zero = zero_take clauses entries n front.within on.zero;
      below = record {
        each = λ l lt. complete_take clauses entries n l front.within
            (record {
              each = λ k from to. let h = front.high.each k from to in omega
                  (arith, h, lt);
            }) (on.below.each l (omega (arith, lt, le)));
      };
    })

-- One more entry.
old_entry : (entries : List Entry) (entry : Entry) (place : ℕ) → place < length entries
    → entry_at (entries ++ entry ∷ []) place ≡ entry_at entries place
old_entry entries entry place lt = get_or_append_left entries (entry ∷ []) no_entry place lt

new_entry : (entries : List Entry) (entry : Entry) (place : ℕ) → place ≡ length entries
    → entry_at (entries ++ entry ∷ []) place ≡ entry
new_entry entries entry place is = get_or_push entries entry no_entry place (sym is)

old_front : (entries : List Entry) (entry : Entry) (place : ℕ) → place ≤ length entries
    → take place (entries ++ entry ∷ []) ≡ take place entries
old_front entries entry place le = take-append-le place entries (entry ∷ []) le

zero_push : (clauses : List (List ℕ)) (entries : List Entry) (entry : Entry)
    → IsForcedAtZero clauses entries → (entry.level ≡ 0 → IsForced clauses entries entry)
    → IsForcedAtZero clauses (entries ++ entry ∷ [])
zero_push clauses entries entry zero_ok one = record {
  forced = λ place lt level. at place lt level
      (cases_lt place (length entries));
}
  where
    at : (place : ℕ) → place < length (entries ++ entry ∷ [])
        → level_at (entries ++ entry ∷ []) place ≡ 0
        → (place < length entries) ⊎ (length entries ≤ place)
        → IsForced clauses (take place (entries ++ entry ∷ []))
        (entry_at (entries ++ entry ∷ []) place)
    at place lt level (inl old) =
        subst (λ (e : Entry). IsForced clauses (take place (entries ++ entry ∷ [])) e)
        (sym (old_entry entries entry place old))
        (subst (λ (es : List Entry). IsForced clauses es (entry_at entries place))
        (sym (old_front entries entry place (omega (arith, old))))
        (zero_ok.forced place old (ap (λ (e : Entry). e.level)
        (sym (old_entry entries entry place old)) ∙ level)))
    at place lt level (inr new) =
        let last : place ≡ length entries = omega (arith, lt, new, length_push entries entry) in
        subst (λ (e : Entry). IsForced clauses (take place (entries ++ entry ∷ [])) e)
        (sym (new_entry entries entry place last))
        (subst (λ (es : List Entry). IsForced clauses es entry)
        (sym (take_at entries (entry ∷ []) place (sym last)))
        (one (ap (λ (e : Entry). e.level) (sym (new_entry entries entry place last)) ∙ level)))

pub cube_push : (cube : List ℕ) (entries : List Entry) (entry : Entry) → IsForCube cube entries
    → (entry.reason ≡ None → IsChoice cube (lits_of entries) entry.lit)
    → IsForCube cube (entries ++ entry ∷ [])
cube_push cube entries entry for_cube one = record { each = λ place lt above free. at place lt above free (cases_lt place (length entries)) }
  where
    at : (place : ℕ) → place < length (entries ++ entry ∷ [])
        → 0 < level_at (entries ++ entry ∷ []) place
        → (entry_at (entries ++ entry ∷ []) place).reason ≡ None
        → (place < length entries) ⊎ (length entries ≤ place)
        → IsChoice cube (lits_of (take place (entries ++ entry ∷ [])))
        (entry_at (entries ++ entry ∷ []) place).lit
    at place lt above free (inl old) =
        let same = old_entry entries entry place old in
        subst (λ (es : List Entry). IsChoice cube (lits_of es)
        (entry_at (entries ++ entry ∷ []) place).lit)
        (sym (old_front entries entry place (omega (arith, old))))
        (subst (λ (e : Entry). IsChoice cube (lits_of (take place entries)) e.lit) (sym same)
        (for_cube.each place old (subst (λ (e : Entry). 0 < e.level) same above)
        (ap (λ (e : Entry). e.reason) (sym same) ∙ free)))
    at place lt above free (inr new) =
        let last : place ≡ length entries = omega (arith, lt, new, length_push entries entry) in
        let same = new_entry entries entry place last in
        subst (λ (es : List Entry). IsChoice cube (lits_of es)
        (entry_at (entries ++ entry ∷ []) place).lit)
        (sym (take_at entries (entry ∷ []) place (sym last)))
        (subst (λ (e : Entry). IsChoice cube (lits_of entries) e.lit) (sym same)
        (one (ap (λ (e : Entry). e.reason) (sym same) ∙ free)))

-- where an entry at the depth comes, what was complete below stays so
below_push : (clauses : List (List ℕ)) (entries : List Entry) (entry : Entry) (depth : ℕ)
    → depth ≤ entry.level → IsCompleteBelow clauses entries depth
    → IsCompleteBelow clauses (entries ++ entry ∷ []) depth
below_push clauses entries entry depth le below = record {
  each = λ level lt. complete_untake clauses (entries ++ entry ∷ []) (length entries) level
      (omega (arith, length_push entries entry))
      (record {
        each = λ k from to. subst (λ (e : Entry). level < e.level)
            (sym (new_entry entries entry k (omega (arith, from, to, length_push entries entry))))
            (omega (arith, lt, le));
      })
      (subst (λ (es : List Entry). IsComplete es level clauses)
      (sym (take_at entries (entry ∷ []) (length entries) refl)) (below.each level lt));
}

-- a forced literal at the depth
pub forced_on_trail : (clauses : List (List ℕ)) (entries : List Entry) (depth : ℕ) (entry : Entry)
    → IsOnTrail clauses entries depth → IsForced clauses entries entry → entry.level ≡ depth
    → IsOnTrail clauses (entries ++ entry ∷ []) depth
forced_on_trail clauses entries depth entry on forced level = record {
  founded = founded_push clauses entries depth entry on.founded forced level;
  zero = zero_push clauses entries entry on.zero (λ _. forced);
  below = below_push clauses entries entry depth (omega (arith, level)) on.below;
}

-- a decision on a new level
pub decided_on_trail : (clauses : List (List ℕ)) (entries : List Entry) (depth lit : ℕ)
    → All (λ e. e.level ≤ depth) entries → IsComplete entries depth clauses
    → IsOnTrail clauses entries depth
    → IsOnTrail clauses (entries ++ record { lit = lit; level = depth + 1; reason = None } ∷ [])
    (depth + 1)
decided_on_trail clauses entries depth lit low complete on = record {
  founded = record {
    begun = λ l pos within. begun_at l pos within (cases_lt depth l);
    first = λ place lt above alone. first_at place lt above alone (cases_lt place (length entries));
    other = λ place k lt above before equal. other_at place k lt above before equal
        (cases_lt place (length entries));
  };
  zero = zero_push clauses entries entry on.zero (λ zero_is. absurd (omega (arith, zero_is)));
  below = record { each = λ level lt. below_at level lt (cases_lt level depth) };
}
  where
    entry : Entry
    entry = record { lit = lit; level = depth + 1; reason = None }

    all : List Entry
    all = entries ++ entry ∷ []

    size : length all ≡ length entries + 1
    size = length_push entries entry

    low_at : (place : ℕ) → place < length entries → level_at entries place ≤ depth
    low_at place lt = low place no_entry lt

    begun_at : (l : ℕ) → 0 < l → l ≤ depth + 1 → (depth < l) ⊎ (l ≤ depth)
        → (place : ℕ) × (place < length all) × (level_at all place ≡ l)
    begun_at l pos within (inl here) = (
      length entries,
      omega (arith, size),
      ap
          (λ (e : Entry). e.level) (new_entry entries entry (length entries) refl)
          ∙ omega (arith, here, within),
    )
    begun_at l pos within (inr lower) =
        let b = on.founded.begun l pos lower in (
          b.0,
          omega (arith, b.1, size),
          ap (λ (e : Entry). e.level)
              (old_entry entries entry b.0 b.1) ∙ b.2,
        )

    first_at : (place : ℕ) → place < length all → 0 < level_at all place
        → ((k : ℕ) → k < place → level_at all k ≢ level_at all place)
        → (place < length entries) ⊎ (length entries ≤ place) → (entry_at all place).reason ≡ None
    first_at place lt above alone (inl old) =
        let same = old_entry entries entry place old in
        ap (λ (e : Entry). e.reason) same ∙ on.founded.first place old
        (subst (λ (e : Entry). 0 < e.level) same above)
        (λ k before equal. alone k before (ap (λ (e : Entry). e.level)
        (old_entry entries entry k (omega (arith, before, old))) ∙ equal
        ∙ sym (ap (λ (e : Entry). e.level) same)))
    first_at place lt above alone (inr new) = ap (λ (e : Entry). e.reason)
        (new_entry entries entry place (omega (arith, lt, new, size)))

    other_at : (place k : ℕ) → place < length all → 0 < level_at all place → k < place
        → level_at all k ≡ level_at all place → (place < length entries) ⊎ (length entries ≤ place)
        → IsForced clauses (take place all) (entry_at all place)
    other_at place k lt above before equal (inl old) =
        let same = old_entry entries entry place old in
        subst (λ (e : Entry). IsForced clauses (take place all) e) (sym same)
        (subst (λ (es : List Entry). IsForced clauses es (entry_at entries place))
        (sym (old_front entries entry place (omega (arith, old))))
        (on.founded.other place k old (subst (λ (e : Entry). 0 < e.level) same above) before
        (sym (ap (λ (e : Entry). e.level) (old_entry entries entry k (omega (arith, before, old))))
        ∙ equal ∙ ap (λ (e : Entry). e.level) same)))
    other_at place k lt above before equal (inr new) =
        let last : place ≡ length entries = omega (arith, lt, new, size) in
        let k_in : k < length entries = omega (arith, before, last) in
        let of_k = low_at k k_in in
        let k_level = ap (λ (e : Entry). e.level) (old_entry entries entry k k_in) in
        let here = ap (λ (e : Entry). e.level) (new_entry entries entry place last) in
        absurd (omega (arith, of_k, k_level, here, equal))

    below_at : (level : ℕ) → level < depth + 1 → (level < depth) ⊎ (depth ≤ level)
        → IsComplete all level clauses
    below_at level lt which = complete_untake clauses all (length entries) level
        (omega (arith, size))
        (record {
          each = λ k from to. subst (λ (e : Entry). level < e.level)
              (sym (new_entry entries entry k (omega (arith, from, to, size)))) lt;
        })
        (subst (λ (es : List Entry). IsComplete es level clauses)
        (sym (take_at entries (entry ∷ []) (length entries) refl))
        (elim which [
          | inl lower ↦ on.below.each level lower
          | inr here ↦ subst
              (λ n. IsComplete entries n clauses) (omega (arith, here, lt)) complete
        ]))

-- a new clause that is open at each level below the depth
pub more_on_trail : (clauses : List (List ℕ)) (clause : List ℕ) (entries : List Entry) (depth : ℕ)
    → ((level : ℕ) → level < depth → IsOpenClause (lits_of (up_to level entries)) clause)
    → IsOnTrail clauses entries depth → IsOnTrail (clauses ++ clause ∷ []) entries depth
more_on_trail clauses clause entries depth each on = record {
  founded = founded_more clauses clause entries depth on.founded;
  zero = zero_more clauses clause entries on.zero;
  below = record {
    each = λ level lt. complete_more clauses clause entries level
        (on.below.each level lt) (each level lt);
  };
}

-- propagation
pub propagated_on_trail : (olds news : List ArenaClause) (old new : List Entry) (depth : ℕ)
    → HasSameClauses olds news → HasGrown (lits_of_each news) depth old new
    → IsFounded (lits_of_each news) new depth
    → IsOnTrail (lits_of_each olds) old depth → IsOnTrail (lits_of_each news) new depth
propagated_on_trail olds news old new depth same grown founded on = record {
  founded = founded;
  zero = record { forced = λ place lt level. zero_at place lt level (cases_lt place n) };
  below = record {
    each = λ level lt. complete_untake (lits_of_each news) new n level grown.longer
        (record { each = λ k from to. let here = grown.level k from to in omega (arith, here, lt) })
        (subst (λ (es : List Entry). IsComplete es level (lits_of_each news)) (sym grown.before)
        (complete_same olds news old level same (on.below.each level lt)));
  };
}
  where
    n : ℕ
    n = length old

    entry_same : (place : ℕ) → place < n → entry_at new place ≡ entry_at old place
    entry_same place lt = sym (entry_in new n place lt)
        ∙ ap (λ (es : List Entry). entry_at es place) grown.before

    front_same : (place : ℕ) → place ≤ n → take place new ≡ take place old
    front_same place le = sym (front_in new n place le) ∙ ap (take place) grown.before

    zero_at : (place : ℕ) → place < length new → level_at new place ≡ 0 → (place < n) ⊎ (n ≤ place)
        → IsForced (lits_of_each news) (take place new) (entry_at new place)
    zero_at place lt level (inl before) =
        subst (λ (e : Entry). IsForced (lits_of_each news) (take place new) e)
        (sym (entry_same place before))
        (subst (λ (es : List Entry). IsForced (lits_of_each news) es (entry_at old place))
        (sym (front_same place (omega (arith, before))))
        (forced_same olds news (take place old) (entry_at old place) same
        (on.zero.forced place before (ap (λ (e : Entry). e.level)
        (sym (entry_same place before)) ∙ level))))
    zero_at place lt level (inr behind) = grown.forced place behind lt

-- What the cube's rounds add to the trail stays where it goes back, where entries with reasons
-- come, and begins at level 0.
pub cube_back : (cube : List ℕ) (entries : List Entry) (level : ℕ) → Ascends entries
    → IsForCube cube entries → IsForCube cube (up_to level entries)
cube_back cube entries level up for_cube =
    let (n, front) = front_of entries level up in
    subst (IsForCube cube) (sym (up_to_is entries level n front))
    (cube_take cube entries n front.within for_cube)

pub cube_grown : (clauses : List (List ℕ)) (cube : List ℕ) (old new : List Entry) (depth : ℕ)
    → HasGrown clauses depth old new → IsForCube cube old → IsForCube cube new
cube_grown clauses cube old new depth grown for_cube = record { each = λ place lt above free. cube_at place lt above free (cases_lt place (length old)) }
  where
    entry_same : (place : ℕ) → place < length old → entry_at new place ≡ entry_at old place
    entry_same place lt = sym (entry_in new (length old) place lt)
        ∙ ap (λ (es : List Entry). entry_at es place) grown.before

    front_same : (place : ℕ) → place ≤ length old → take place new ≡ take place old
    front_same place le = sym (front_in new (length old) place le) ∙ ap (take place) grown.before

    cube_at : (place : ℕ) → place < length new → 0 < level_at new place
        → (entry_at new place).reason ≡ None → (place < length old) ⊎ (length old ≤ place)
        → IsChoice cube (lits_of (take place new)) (entry_at new place).lit
    cube_at place lt above free (inl before) =
        let here = entry_same place before in
        subst (λ (es : List Entry). IsChoice cube (lits_of es) (entry_at new place).lit)
        (sym (front_same place (omega (arith, before))))
        (subst (λ (e : Entry). IsChoice cube (lits_of (take place old)) e.lit) (sym here)
        (for_cube.each place before (subst (λ (e : Entry). 0 < e.level) here above)
        (ap (λ (e : Entry). e.reason) (sym here) ∙ free)))
    cube_at place lt above free (inr behind) = absurd
        (none-some (grown.forced place behind lt).id
        (sym free ∙ (grown.forced place behind lt).reason))

pub cube_at_zero : (trail : TrailView) (cube : List ℕ) → IsTrail trail → trail.depth ≡ 0
    → IsForCube cube trail.entries
cube_at_zero trail cube is zero = record {
  each = λ place lt above.
      (let low = is.below place no_entry lt in absurd (omega (arith, low, zero, above)));
}
