-- Cursors that pass true literals.
use Rattle.std.proofs.Common.{◌≡◌, ◌∙◌, ℕ, ◌+◌, ◌<◌, ◌≤◌, List, [], ◌∷◌, ◌++◌, length, take}
use Rattle.std.proofs.Common.{drop, ap, sym, subst, inl, inr, arith}
use Rattle.std.specs.Prelude.{◌⊎◌, All, Contains, nat_le}
use Rattle.std.proofs.lemmas.Bool.{cases_lt}
use Rattle.std.proofs.lemmas.List.{map-append, take-append-drop, get_or_append_left, get_or_push}
use Rattle.std.proofs.lemmas.List.{get_or-take}
use Rattle.std.proofs.lemmas.List.Elements.{Contains-append_left, filter-append}
use Rattle.trail_core.specs.Trail.{Entry, TrailView, lits_of, up_to}
use Rattle.trail_core.specs.UnderTrail.{HasGrown}
use Rattle.trail_core.proofs.Levels.{up_to_all}
use Rattle.session.specs.declared.search.Cursor.{Cursor}
use Rattle.session.specs.Cursors.{AreCursors, PassesTrue, cursor_at}
use Rattle.session.proofs.Lists.{All-under}
use Rattle.session.proofs.Fronts.{Ascends, up_to_twice}

-- What cursors may pass stays so where more literals are true.
abbrev pub Stays : (List ℕ → Cursor → Type 0) → Type 0
Stays Passes = (trues more : List ℕ) (cursor : Cursor)
    → ((x : ℕ) → Contains trues x → Contains more x) → Passes trues cursor → Passes more cursor

pub true_stays : (cube : List ℕ) → Stays (PassesTrue cube)
true_stays cube trues more cursor grows all = All-under (Contains trues) (Contains more)
    (take cursor.literals cube) grows all

still_true : (old more new : List Entry) → new ≡ old ++ more → (x : ℕ) → Contains (lits_of old) x
    → Contains (lits_of new) x
still_true old more new is x has = subst (λ (es : List Entry). Contains (lits_of es) x) (sym is)
    (subst (λ (xs : List ℕ). Contains xs x) (sym (map-append (λ (e : Entry). e.lit) old more))
    (Contains-append_left (lits_of old) (lits_of more) x has))

up_to_more : (level : ℕ) (old more new : List Entry) → new ≡ old ++ more
    → up_to level new ≡ up_to level old ++ up_to level more
up_to_more level old more new is = ap (up_to level) is
    ∙ filter-append (λ (e : Entry). nat_le e.level level) old more

-- entries come at the depth
pub cursors_more : (Passes : List ℕ → Cursor → Type 0) (old new : TrailView) (more : List Entry)
    (now : Cursor) (cursors : List Cursor) → Stays Passes → new.entries ≡ old.entries ++ more
    → new.depth ≡ old.depth → AreCursors Passes old now cursors → AreCursors Passes new now cursors
cursors_more Passes old new more now cursors stays is depth_is are = record {
  present = stays (lits_of old.entries) (lits_of new.entries) now
      (still_true old.entries more new.entries is) are.present;
  below = λ level lt. stays (lits_of (up_to level old.entries)) (lits_of (up_to level new.entries))
      (cursor_at cursors level) (still_true (up_to level old.entries) (up_to level more)
      (up_to level new.entries) (up_to_more level old.entries more new.entries is))
      (are.below level (omega (arith, lt, depth_is)));
}

pub cursors_grown : (Passes : List ℕ → Cursor → Type 0) (clauses : List (List ℕ))
    (old new : TrailView) (now : Cursor) (cursors : List Cursor) → Stays Passes
    → HasGrown clauses old.depth old.entries new.entries → new.depth ≡ old.depth
    → AreCursors Passes old now cursors → AreCursors Passes new now cursors
cursors_grown Passes clauses old new now cursors stays grown depth_is =
    cursors_more Passes old new (drop (length old.entries) new.entries) now cursors stays
    (sym (take-append-drop (length old.entries) new.entries) ∙ ap
    (λ (es : List Entry). es ++ drop (length old.entries) new.entries) grown.before) depth_is

-- a level is opened
pub cursors_opened : (Passes : List ℕ → Cursor → Type 0) (old new : TrailView) (entry : Entry)
    (now : Cursor) (cursors opened : List Cursor) → Stays Passes
    → All (λ e. e.level ≤ old.depth) old.entries → length cursors ≡ old.depth
    → new.entries ≡ old.entries ++ entry ∷ [] → new.depth ≡ old.depth + 1
    → opened ≡ cursors ++ now ∷ [] → AreCursors Passes old now cursors
    → AreCursors Passes new now opened
cursors_opened Passes old new entry now cursors opened stays low size is depth_is opened_is are = record {
  present = stays (lits_of old.entries) (lits_of new.entries) now
      (still_true old.entries (entry ∷ []) new.entries is) are.present;
  below = λ level lt. stays (lits_of (up_to level old.entries)) (lits_of (up_to level new.entries))
      (cursor_at opened level) (still_true (up_to level old.entries) (up_to level (entry ∷ []))
      (up_to level new.entries) (up_to_more level old.entries (entry ∷ []) new.entries is))
      (was level lt (cases_lt level old.depth));
}
  where
    none : Cursor
    none = record { literals = 0 }

    was : (level : ℕ) → level < new.depth → (level < old.depth) ⊎ (old.depth ≤ level)
        → Passes (lits_of (up_to level old.entries)) (cursor_at opened level)
    was level lt (inl lower) = subst (Passes (lits_of (up_to level old.entries)))
        (sym (ap (λ xs. cursor_at xs level) opened_is
        ∙ get_or_append_left cursors (now ∷ []) none level (omega (arith, lower, size))))
        (are.below level lower)
    was level lt (inr last) =
        let here : level ≡ old.depth = omega (arith, lt, last, depth_is) in
        subst (Passes (lits_of (up_to level old.entries)))
        (sym (ap (λ xs. cursor_at xs level) opened_is
        ∙ get_or_push cursors now none level (size ∙ sym here)))
        (subst (λ (es : List Entry). Passes (lits_of es) now)
        (sym (ap (λ n. up_to n old.entries) here ∙ up_to_all old.depth old.entries low))
        are.present)

-- levels are taken back
pub cursors_back : (Passes : List ℕ → Cursor → Type 0) (old new : TrailView) (level : ℕ)
    (now then : Cursor) (cursors left : List Cursor) → Ascends old.entries → level < old.depth
    → new.entries ≡ up_to level old.entries → new.depth ≡ level
    → then ≡ cursor_at cursors level → left ≡ take level cursors
    → AreCursors Passes old now cursors → AreCursors Passes new then left
cursors_back Passes old new level now then cursors left up lt entries_are depth_is then_is left_is are = record {
  present = subst (λ (es : List Entry). Passes (lits_of es) then) (sym entries_are)
      (subst (Passes (lits_of (up_to level old.entries))) (sym then_is) (are.below level lt));
  below = λ l low.
      let l_low : l < level = omega (arith, low, depth_is) in
      subst (λ (es : List Entry). Passes (lits_of es) (cursor_at left l))
      (sym (ap (up_to l) entries_are
      ∙ up_to_twice old.entries l level up (omega (arith, l_low))))
      (subst (Passes (lits_of (up_to l old.entries)))
      (sym (ap (λ xs. cursor_at xs l) left_is
      ∙ get_or-take level cursors l (record { literals = 0 }) l_low))
      (are.below l (omega (arith, l_low, lt))));
}

-- the present cursor moves
pub cursors_moved : (Passes : List ℕ → Cursor → Type 0) (trail : TrailView) (now then : Cursor)
    (cursors moved : List Cursor) → moved ≡ cursors → Passes (lits_of trail.entries) then
    → AreCursors Passes trail now cursors → AreCursors Passes trail then moved
cursors_moved Passes trail now then cursors moved same present are = record {
  present = present;
  below = λ level lt. subst (Passes (lits_of (up_to level trail.entries)))
      (sym (ap (λ xs. cursor_at xs level) same)) (are.below level lt);
}

-- no level is open
pub cursors_at_zero : (Passes : List ℕ → Cursor → Type 0) (trail : TrailView) (now : Cursor)
    (cursors : List Cursor) → trail.depth ≡ 0 → Passes (lits_of trail.entries) now
    → AreCursors Passes trail now cursors
cursors_at_zero Passes trail now cursors zero present = record {
  present = present;
  below = λ level lt. absurd (omega (arith, lt, zero));
}
