-- A pass, its seat, and the lock that it was made with.
use Rattle.std.proofs.Common.{◌≡◌, ℕ, zero, suc, ◌+◌, ◌-◌, ◌<◌, true, List, [], ◌∷◌, ◌++◌, All, length, map, get_or, sym, refl, ap, ◌∙◌, subst, ⊎_elim, append_assoc, append-nil, length-append, eq-or-lt_of_le, arith}
use Rattle.std.proofs.lemmas.List.{get_or_append_left, get_or-append-add, map-append}
use Rattle.std.proofs.Math.Seq.{get_or-append_seam}
use Rattle.turn_lock.specs.declared.view.Look.{Look}
use Rattle.turn_lock.specs.declared.view.Look.TheVariants.{Turn}
use mathlib.Core.Option.{some}
use lib.ListN.{get_elem?}
use Rattle.atomic_table.specs.Table.{Me, rest}
use Rattle.atomic_table.specs.Seated.{TableId}
use Rattle.atomic_table.proofs.Lists.{at_map}
use Rattle.turn_lock.specs.declared.view.SeatView.{SeatView}
use Rattle.turn_lock.specs.Turns.{blank, keeper}
use Rattle.turn_lock.specs.Passes.{LockView, PassView, IsOf, AreNew, AreIdleInOrder, AllPast, FitsPasts, AgreesWith, new_pass, remembered}

at_or : {A : Type 0} (l : List A) (i : ℕ) (d : A) → i < length l → get_elem? l i ≡ some (get_or l i d)
at_or [] i d h = absurd (omega arith)
at_or (x ∷ xs) zero d h = refl
at_or (x ∷ xs) (suc i) d h = at_or xs i d (omega arith)

module _ {E G : Type 0} where
  pub same_table : {c p : PassView E G} {l lock : LockView G} → c ≡ p → IsOf lock p → l ≡ lock → c.lock ≡ l.id
  same_table is_p of is_l = ap (λ x. x.lock) is_p ∙ (of.0 ∙ sym (ap (λ x. x.id) is_l))

  pub is_idle : {c p : PassView E G} → c ≡ p → p.idle ≡ true → c.idle ≡ true
  is_idle is_p idle = ap (λ x. x.idle) is_p ∙ idle

  -- one more look at the turn
  pub looks_more : (first p q : PassView E G) (found : List ℕ) (word : ℕ) → p ≡ record first { looks = first.looks ++ map Turn found } → q ≡ record p { looks = p.looks ++ Turn word ∷ [] }
      → q ≡ record first { looks = first.looks ++ map Turn (found ++ word ∷ []) }
  looks_more first p q found word before now =
      now ∙ (ap (λ (x : PassView E G). record x { looks = x.looks ++ Turn word ∷ [] }) before
      ∙ ap (λ (l : List Look). record first { looks = l }) (append_assoc first.looks (map Turn found) (Turn word ∷ []) ∙ ap (λ l. first.looks ++ l) (sym (map-append Turn found (word ∷ [])))))

  -- one more new pass
  pub new_more : (lock : LockView G) (floor : ℕ) (passes : List (PassView E G)) (p : PassView E G) → AreNew lock floor passes → p ≡ new_pass lock floor (length passes + 1) → AreNew lock floor (passes ++ p ∷ [])
  new_more lock floor passes p new is k d within =
      ⊎_elim
      (λ (e : k ≡ length passes). subst (λ n. get_or (passes ++ p ∷ []) n d ≡ new_pass lock floor (n + 1)) (sym e) (get_or-append_seam passes p [] d ∙ is))
      (λ (h : k < length passes). get_or_append_left passes (p ∷ []) d k h ∙ new k d h)
      (eq-or-lt_of_le (let l = length-append passes (p ∷ []) in omega arith))

  -- idle passes of a lock are of its table
  pub idle_of : (lock : LockView G) (table : TableId) (passes : List (PassView E G)) → table ≡ lock.id → AreIdleInOrder lock passes → All (λ p. (p.lock ≡ table) × (p.idle ≡ true)) passes
  idle_of lock table passes is all k d within = let h = all k d within in (h.0.0 ∙ sym is, h.2)

  -- all passes are past ones, where one seat remembers them in order
  pub all_past : (lock : LockView G) (passes : List (PassView E G)) (most : ℕ) → length passes ≡ most → AreIdleInOrder lock passes → AllPast most (map remembered passes)
  all_past lock passes most is all number low within =
      let d = new_pass {E = E} lock 0 0 in
      let k : ℕ = number - 1 in
      let inside : k < length passes = omega arith in
      let p = get_or passes k d in
      let named : p.number ≡ k + 1 = (all k d inside).1 in (
        k,
        remembered p,
        at_map remembered passes k p (at_or passes k d inside),
        omega arith,
      )

  -- what fits a value of past passes, the value keeps of each pass
  pub all_agree : {T : Type 0} (entries : T → List E) (caller : E → ℕ) (count : T → ℕ) (most : ℕ) (passes : List (PassView E G)) (value : T)
      → FitsPasts entries caller count most (map remembered passes) value → All (λ p. AgreesWith entries caller count p value) passes
  all_agree entries caller count most passes value fits k d within =
      let p = get_or passes k d in
      let f = fits k (remembered p) (at_map remembered passes k p (at_or passes k d within)) in
      record { seen = f.seen; own = f.own; floor = f.floor }

  -- what the seat of no pass remembers, once it took in two lists of passes, the second first
  pub past_is : {S : Type 0} (front back : List (PassView E G)) (first second third : Me S (SeatView E G)) → first ≡ (blank, []) → second ≡ (keeper (map remembered back ++ first.0.past), [])
      → third ≡ (keeper (map remembered front ++ second.0.past), []) → third.0.past ≡ map remembered (front ++ back)
  past_is front back first second third one two three =
      ap (λ m. m.0.past) three
      ∙ (ap (λ l. map remembered front ++ l) (ap (λ m. m.0.past) two ∙ (ap (λ m. map remembered back ++ m.0.past) one ∙ append-nil (map remembered back)))
      ∙ sym (map-append remembered front back))

module _ {A : Type 0} (P : A → Type 0) where
  pub all_front : (xs ys : List A) → All P (xs ++ ys) → All P xs
  all_front xs ys all k d within = subst P (get_or_append_left xs ys d k within) (all k d (let l = length-append xs ys in omega arith))

  pub all_back : (xs ys : List A) → All P (xs ++ ys) → All P ys
  all_back xs ys all k d within = subst P (get_or-append-add xs ys k d) (all (length xs + k) d (let l = length-append xs ys in omega arith))

-- the slot that a seat took last, whatever it took before
pub took : {S : Type 0} {c xs : List (ℕ × S)} {x : S} → c ≡ (0, x) ∷ xs → c ≡ (0, x) ∷ rest c
took {S} {c} {xs} {x} is = is ∙ ap (λ (l : List (ℕ × S)). (0, x) ∷ rest l) (sym is)
