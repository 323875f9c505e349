-- Fronts of a trail.
use Rattle.std.proofs.Common.{◌≡◌, ◌∙◌, ℕ, zero, suc, ◌+◌, ◌<◌, ◌≤◌, List, [], ◌∷◌, ◌++◌, length}
use Rattle.std.proofs.Common.{take, drop, filter, Bool, false, ap, sym, subst, inl, inr, arith}
use Rattle.std.specs.Prelude.{◌⊎◌, All, nat_le}
use Rattle.std.proofs.lemmas.Bool.{cases_lt, lt-leb}
use Rattle.std.proofs.lemmas.List.{append-nil, take-append-drop, get_or-drop, length-drop}
use Rattle.std.proofs.lemmas.List.{get_or-take, take-take, length-take-le}
use Rattle.std.proofs.lemmas.List.Elements.{All-from_get_or, filter-append}
use Rattle.trail_core.specs.Trail.{Entry, no_entry, entry_at, lits_of, up_to}
use Rattle.trail_core.specs.UnderTrail.{IsForced, IsFounded, IsComplete, IsOpenClause}
use Rattle.trail_core.proofs.Levels.{filter_none, up_to_front}
use Rattle.session.specs.OnTrail.{IsForcedAtZero, IsForCube, IsChoice}

abbrev pub level_at : List Entry → ℕ → ℕ
level_at entries place = (entry_at entries place).level

-- what stands behind a front is above the level
pub record IsAbove (entries : List Entry) (n level : ℕ) : Type 0 where
  pub each : (k : ℕ) → n ≤ k → k < length entries → level < level_at entries k

pub up_to_take : (entries : List Entry) (n level : ℕ) → n ≤ length entries
    → IsAbove entries n level → up_to level entries ≡ up_to level (take n entries)
up_to_take entries n level within above =
    let p : Entry → Bool = λ e. nat_le e.level level in
    let rest : All (λ e. p e ≡ false) (drop n entries) = All-from_get_or
    (λ (e : Entry). p e ≡ false) (drop n entries) no_entry
    (λ k lt. lt-leb _ _ (subst (λ (e : Entry). level < e.level)
    (sym (get_or-drop n entries k no_entry)) (above.each (n + k) (omega arith)
    (omega (arith, lt, length-drop n entries))))) in
    ap (filter p) (sym (take-append-drop n entries))
    ∙ filter-append p (take n entries) (drop n entries)
    ∙ ap (λ xs. filter p (take n entries) ++ xs) (filter_none p (drop n entries) rest)
    ∙ append-nil (filter p (take n entries))

pub complete_take : (clauses : List (List ℕ)) (entries : List Entry) (n level : ℕ)
    → n ≤ length entries → IsAbove entries n level → IsComplete entries level clauses
    → IsComplete (take n entries) level clauses
complete_take clauses entries n level within above complete = record {
  each = subst (λ (es : List Entry). All (IsOpenClause (lits_of es)) clauses)
      (up_to_take entries n level within above) complete.each;
}

pub complete_untake : (clauses : List (List ℕ)) (entries : List Entry) (n level : ℕ)
    → n ≤ length entries → IsAbove entries n level → IsComplete (take n entries) level clauses
    → IsComplete entries level clauses
complete_untake clauses entries n level within above complete = record {
  each = subst (λ (es : List Entry). All (IsOpenClause (lits_of es)) clauses)
      (sym (up_to_take entries n level within above)) complete.each;
}

-- a front of exactly those up to the level
pub record IsFront (entries : List Entry) (level n : ℕ) : Type 0 where
  pub within : n ≤ length entries
  pub low : (k : ℕ) → k < n → level_at entries k ≤ level
  pub high : IsAbove entries n level

abbrev pub Ascends : List Entry → Type 0
Ascends entries = (i j : ℕ) → i ≤ j → j < length entries → level_at entries i ≤ level_at entries j

pub front_of : (entries : List Entry) (level : ℕ) → Ascends entries
    → (n : ℕ) × IsFront entries level n
front_of [] level up = (
  0,
  record {
    within = omega arith;
    low = λ k lt. absurd (omega (arith, lt));
    high = record { each = λ k from to. absurd (omega (arith, to)) };
  },
)
front_of (e ∷ es) level up = at (cases_lt level e.level)
    (front_of es level (λ i j le lt. up (suc i) (suc j) (omega (arith, le)) (omega (arith, lt))))
  where
    at : (level < e.level) ⊎ (e.level ≤ level) → ((n : ℕ) × IsFront es level n)
        → (n : ℕ) × IsFront (e ∷ es) level n
    at (inl above) _ = (
      0,
      record {
        within = omega arith;
        low = λ k lt. absurd (omega (arith, lt));
        high = record {
          each = λ k from to. let h = up 0 k (omega arith) to in omega
              (arith, above, h);
        };
      },
    )
    at (inr below) (n, front) = (
      suc n,
      record {
        within = omega (arith, front.within);
        low = λ k lt. low_at k lt;
        high = record { each = λ k from to. high_at k from to };
      },
    )
      where
        low_at : (k : ℕ) → k < suc n → level_at (e ∷ es) k ≤ level
        low_at zero lt = below
        low_at (suc k) lt = front.low k (omega (arith, lt))

        high_at : (k : ℕ) → suc n ≤ k → k < length (e ∷ es) → level < level_at (e ∷ es) k
        high_at zero from to = absurd (omega (arith, from))
        high_at (suc k) from to = front.high.each k (omega (arith, from)) (omega (arith, to))

pub up_to_is : (entries : List Entry) (level n : ℕ) → IsFront entries level n
    → up_to level entries ≡ take n entries
up_to_is entries level n front =
    up_to_front level entries n front.within
    (All-from_get_or (λ (e : Entry). e.level ≤ level) (take n entries) no_entry (λ k lt.
    let k_in : k < n = omega (arith, lt, length-take-le n entries front.within) in
    subst (λ (e : Entry). e.level ≤ level) (sym (get_or-take n entries k no_entry k_in))
    (front.low k k_in)))
    front.high.each

-- the entries up to a level, among those up to a higher one
pub up_to_twice : (entries : List Entry) (level high : ℕ) → Ascends entries → level ≤ high
    → up_to level (up_to high entries) ≡ up_to level entries
up_to_twice entries level high up le =
    let (n, front) = front_of entries high up in
    ap (up_to level) (up_to_is entries high n front)
    ∙ sym (up_to_take entries n level front.within
    (record { each = λ k from to. let h = front.high.each k from to in omega (arith, h, le) }))

-- entries of a front, and the fronts before them
pub entry_in : (entries : List Entry) (n k : ℕ) → k < n
    → entry_at (take n entries) k ≡ entry_at entries k
entry_in entries n k lt = get_or-take n entries k no_entry lt

pub front_in : (entries : List Entry) (n k : ℕ) → k ≤ n → take k (take n entries) ≡ take k entries
front_in entries n k le = take-take k n entries le

pub forced_in : (clauses : List (List ℕ)) (entries : List Entry) (n k : ℕ) → k < n
    → IsForced clauses (take k entries) (entry_at entries k)
    → IsForced clauses (take k (take n entries)) (entry_at (take n entries) k)
forced_in clauses entries n k lt forced =
    subst (λ (e : Entry). IsForced clauses (take k (take n entries)) e)
    (sym (entry_in entries n k lt))
    (subst (λ (es : List Entry). IsForced clauses es (entry_at entries k))
    (sym (front_in entries n k (omega (arith, lt)))) forced)

pub zero_take : (clauses : List (List ℕ)) (entries : List Entry) (n : ℕ) → n ≤ length entries
    → IsForcedAtZero clauses entries → IsForcedAtZero clauses (take n entries)
zero_take clauses entries n within zero_ok = record {
  forced = λ place lt level.
      let place_in : place < n = omega (arith, lt, length-take-le n entries within) in
      forced_in clauses entries n place place_in
      (zero_ok.forced place (omega (arith, place_in, within))
      (ap (λ (e : Entry). e.level) (sym (entry_in entries n place place_in)) ∙ level));
}

pub cube_take : (cube : List ℕ) (entries : List Entry) (n : ℕ) → n ≤ length entries
    → IsForCube cube entries → IsForCube cube (take n entries)
cube_take cube entries n within for_cube = record {
  each = λ place lt above free.
      let place_in : place < n = omega (arith, lt, length-take-le n entries within) in
      let same = entry_in entries n place place_in in
      let was = for_cube.each place (omega (arith, place_in, within))
      (subst (λ (e : Entry). 0 < e.level) same above)
      (ap (λ (e : Entry). e.reason) (sym same) ∙ free) in
      subst (λ (es : List Entry). IsChoice cube (lits_of es) (entry_at (take n entries) place).lit)
      (sym (front_in entries n place (omega (arith, place_in))))
      (subst (λ (e : Entry). IsChoice cube (lits_of (take place entries)) e.lit) (sym same) was);
}

pub founded_front : (clauses : List (List ℕ)) (entries : List Entry) (depth level n : ℕ)
    → IsFounded clauses entries depth → IsFront entries level n → level ≤ depth
    → IsFounded clauses (take n entries) level
founded_front clauses entries depth level n founded front le = record {
  begun = λ l pos within.
      let b = founded.begun l pos (omega (arith, within, le)) in
      let in_front : b.0 < n = below b.0 b.1 (omega (arith, b.2, within)) in (
        b.0,
        omega (arith, in_front, size),
        ap (λ (e : Entry). e.level)
            (entry_in entries n b.0 in_front) ∙ b.2,
      );
  first = λ place lt above alone.
      let p : place < n = omega (arith, lt, size) in
      let same = entry_in entries n place p in
      ap (λ (e : Entry). e.reason) same ∙ founded.first place (omega (arith, p, front.within))
      (subst (λ (e : Entry). 0 < e.level) same above)
      (λ k before equal. alone k before (ap (λ (e : Entry). e.level)
      (entry_in entries n k (omega (arith, before, p))) ∙ equal
      ∙ sym (ap (λ (e : Entry). e.level) same)));
  other = λ place k lt above before equal.
      let p : place < n = omega (arith, lt, size) in
      let same = entry_in entries n place p in
      forced_in clauses entries n place p
      (founded.other place k (omega (arith, p, front.within))
      (subst (λ (e : Entry). 0 < e.level) same above) before
      (sym (ap (λ (e : Entry). e.level) (entry_in entries n k (omega (arith, before, p)))) ∙ equal
      ∙ ap (λ (e : Entry). e.level) same));
}
  where
    size : length (take n entries) ≡ n
    size = length-take-le n entries front.within

    below : (place : ℕ) → place < length entries → level_at entries place ≤ level → place < n
    below place lt low = at (cases_lt place n)
      where
        at : (place < n) ⊎ (n ≤ place) → place < n
        at (inl yes_in) = yes_in
        at (inr beyond) = let h = front.high.each place beyond lt in absurd (omega (arith, h, low))
