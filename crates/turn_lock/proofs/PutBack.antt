-- A seat from the moment at which its hold's value is back in the slot.
use Rattle.std.proofs.Common.{◌≡◌, ℕ, ◌<◌, false, List, [], ◌∷◌, ◌++◌, Option, Some, All, sym, ap, ◌∙◌, subst}
use Rattle.atomic_table.specs.Table.{Me, rest}
use Rattle.atomic_table.specs.Seated.{TableId}
use Rattle.turn_lock.specs.declared.view.SeatView.{SeatView}
use Rattle.turn_lock.specs.Entries.{AddsOwn, entries_of}
use Rattle.turn_lock.specs.Turns.{tallying, in_hand}
use Rattle.turn_lock.specs.Passes.{PassView, pass_view, IsPassSeat}
use Rattle.turn_lock.proofs.Entries.{of_more}

module _ {T E G : Type 0} (entries : T → List E) (caller : E → ℕ) where
  -- the value is in the seat's slot, and goes on from what was seen by the pass's own entries
  pub record HasBack (m : Me (Option T) (SeatView E G)) (value : T) (added : List E) : Type 0 where
    pub low : 0 < m.0.number
    pub busy : m.0.idle ≡ false
    pub has : m.1 ≡ (0, Some value) ∷ []
    pub own_are : entries_of caller m.0.number m.0.seen ≡ m.0.own
    pub longer : entries value ≡ m.0.seen ++ added
    pub own : All (λ e. caller e ≡ m.0.number) added

  -- the same once the count is stored: all entries are seen
  pub record HasTold (m : Me (Option T) (SeatView E G)) (value : T) : Type 0 where
    pub low : 0 < m.0.number
    pub busy : m.0.idle ≡ false
    pub has : m.1 ≡ (0, Some value) ∷ []
    pub seen : entries value ≡ m.0.seen

  pub puts_back : {number : ℕ} {table : TableId} {old new : Me (Option T) (SeatView E G)} {p : PassView E G} {value : T} → IsPassSeat caller number old → pass_view table old.0 ≡ p
      → new ≡ (old.0, (0, Some value) ∷ rest old.1) → p.idle ≡ false → (adds : AddsOwn caller p.number p.seen (entries value)) → HasBack new value adds.0
  puts_back {number} {table} {old} {new} {p} {value} seat is moved busy adds =
      let idle = ap (λ q. q.idle) is ∙ busy in
      subst (λ m. HasBack m value adds.0) (sym moved)
      (record {
        low = subst (λ n. 0 < n) (sym seat.number_is) seat.least;
        busy = idle;
        has = ap (λ (xs : List (ℕ × Option T)). (0, Some value) ∷ rest xs) (seat.holding idle);
        own_are = subst (λ n. entries_of caller n old.0.seen ≡ old.0.own) (sym seat.number_is) seat.own_are;
        longer = adds.1 ∙ ap (λ (q : PassView E G). q.seen ++ adds.0) (sym is);
        own = subst (λ (q : PassView E G). All (λ e. caller e ≡ q.number) adds.0) (sym is) adds.2;
      })

  pub tells : {m n : Me (Option T) (SeatView E G)} {value : T} {added : List E} {count : ℕ} → HasBack m value added → n ≡ (tallying m.0 (in_hand entries m.1) (entries_of caller m.0.number (in_hand entries m.1)) count, m.1) → HasTold n value
  tells {m} {n} {value} {added} {count} back told =
      subst (λ k. HasTold k value) (sym told) (record { low = back.low; busy = back.busy; has = back.has; seen = sym (ap (in_hand entries) back.has) })

  pub own_grows : {m n : Me (Option T) (SeatView E G)} {value : T} {added : List E} {count : ℕ} → HasBack m value added → n ≡ (tallying m.0 (in_hand entries m.1) (entries_of caller m.0.number (in_hand entries m.1)) count, m.1) → n.0.own ≡ m.0.own ++ added
  own_grows {m} {n} {value} {added} {count} back told =
      ap (λ k. k.0.own) told
      ∙ (ap (λ xs. entries_of caller m.0.number (in_hand entries xs)) back.has
      ∙ (ap (λ l. entries_of caller m.0.number l) back.longer
      ∙ (of_more caller m.0.number m.0.seen added back.own
      ∙ ap (λ l. l ++ added) back.own_are)))
