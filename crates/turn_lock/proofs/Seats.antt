-- Lists of views, of which one changes, or to which one comes.
use Rattle.std.proofs.Common.{◌≡◌, ◌≢◌, ℕ, zero, suc, ◌<◌, ◌⊎◌, List, [], ◌∷◌, ◌++◌, length, set, sym, refl, ap, ◌∙◌, subst, inl, inr, ⊎_elim, arith}
use mathlib.Core.Option.{some, some-injective, some-ne-none}
use mathlib.Core.Logic.{dite}
use native.Mathlib.Decide.{ℕ_discrete}
use lib.ListN.{get_elem?}
use Rattle.atomic_table.proofs.Lists.{at_set, set_here, set_else}
use Rattle.turn_lock.specs.declared.view.SeatView.{SeatView}
use Rattle.turn_lock.specs.Turns.{IsSeated}

module _ {A : Type 0} where
  pub at_within : (l : List A) (i : ℕ) (a : A) → get_elem? l i ≡ some a → i < length l
  at_within [] i a e = absurd (some-ne-none a (sym e))
  at_within (x ∷ xs) zero a e = omega arith
  at_within (x ∷ xs) (suc i) a e = let h = at_within xs i a e in omega arith

  -- what stands in a list with one more item is that item, or stood there before
  pub at_end : (l : List A) (a b : A) (j : ℕ) → get_elem? (l ++ a ∷ []) j ≡ some b → (get_elem? l j ≡ some b) ⊎ ((j ≡ length l) × (a ≡ b))
  at_end [] a b zero e = inr (refl, some-injective a b e)
  at_end [] a b (suc j) e = absurd (some-ne-none b (sym e))
  at_end (x ∷ xs) a b zero e = inl e
  at_end (x ∷ xs) a b (suc j) e = ⊎_elim (λ h. inl h) (λ (h : (j ≡ length xs) × (a ≡ b)). inr (ap suc h.0, h.1)) (at_end xs a b j e)

  pub at_longer_end : (l : List A) (a : A) → get_elem? (l ++ a ∷ []) (length l) ≡ some a
  at_longer_end [] a = refl
  at_longer_end (x ∷ xs) a = at_longer_end xs a

  pub same_at : (l : List A) (i : ℕ) (a b : A) → get_elem? l i ≡ some a → get_elem? l i ≡ some b → a ≡ b
  same_at l i a b p q = some-injective a b (sym p ∙ q)

module _ {E G : Type 0} (views : List (SeatView E G)) (id : ℕ) (v w : SeatView E G) (at : get_elem? views id ≡ some v) (same : w.number ≡ v.number) where
  -- a pass that has a seat still has one, after one seat's view changed but for its number
  pub still_seated : (number : ℕ) → IsSeated views number → IsSeated (set views id w) number
  still_seated number (j, u, there, is) =
      dite (ℕ_discrete j id)
      (λ (e : j ≡ id). (id, w, set_here views id w (at_within views id v at), same ∙ (ap (λ (x : SeatView E G). x.number) (same_at views id v u at (subst (λ k. get_elem? views k ≡ some u) e there)) ∙ is)))
      (λ (ne : j ≢ id). (j, u, set_else views id j w ne ∙ there, is))

  -- each view was there with its number and the past that it remembers
  pub stood : w.past ≡ v.past → (j : ℕ) (u : SeatView E G) → get_elem? (set views id w) j ≡ some u
      → (x : SeatView E G) × (get_elem? views j ≡ some x) × (x.number ≡ u.number) × (x.past ≡ u.past)
  stood past j u there =
      ⊎_elim
      (λ (h : (j ≡ id) × (w ≡ u)). (v, subst (λ k. get_elem? views k ≡ some v) (sym h.0) at, sym same ∙ ap (λ (x : SeatView E G). x.number) h.1, sym past ∙ ap (λ (x : SeatView E G). x.past) h.1))
      (λ (h : (j ≢ id) × (get_elem? views j ≡ some u)). (u, h.1, refl, refl))
      (at_set views id j w u there)
