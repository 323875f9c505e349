-- The rule as passes are taken in, and at the end.
use Rattle.std.proofs.Common.{◌≡◌, ◌≢◌, ℕ, zero, suc, ◌<◌, ◌≤◌, ◌⊎◌, true, List, [], ◌∷◌, Option, Some, IsSome, All, length, set, sym, refl, ap, ◌∙◌, subst, inl, inr, ⊎_elim, append-nil, le_trans, arith}
use mathlib.Core.Option.{some, none, some-injective, some-ne-none}
use lib.ListN.{get_elem?}
use Rattle.std.proofs.Math.Nat.{eq-zero-or-pos}
use Rattle.std.proofs.lemmas.List.Elements.{All-weaker}
use Rattle.atomic_table.specs.Table.{State, Enters, Joins, Final, Seen, step}
use Rattle.atomic_table.proofs.Lists.{at_set, set_else, at_longer}
use Rattle.turn_lock.specs.declared.view.PastView.{PastView}
use Rattle.turn_lock.specs.declared.view.SeatView.{SeatView}
use Rattle.turn_lock.specs.Entries.{StartsWith, entries_of}
use Rattle.turn_lock.specs.Turns.{FitsPast, IsGone, keeper, blank, observed, past_of, remembering}
use Rattle.turn_lock.specs.Passes.{AllPast, FitsPasts}
use Rattle.turn_lock.proofs.Seats.{at_end, same_at}
use Rattle.turn_lock.proofs.Steps.{Rule, CountsUp}

module _ {T E G : Type 0} (entries : T → List E) (caller : E → ℕ) (count : T → ℕ) (basis : T → G) (g : G) (most : ℕ) where
  -- the seat of no pass has the number 0
  no_pass : (pasts : List (PastView E)) (u : SeatView E G) → keeper pasts ≡ u → 0 < u.number → ⊥
  no_pass pasts u e h = let z : 0 ≡ u.number = ap (λ (x : SeatView E G). x.number) e in omega arith

  pub observes : (slots : ℕ) (first : SeatView E G) → Enters (Rule entries caller count basis g most) slots 0 (λ n w. observed {T = T} (step slots 0 0 0 none) (first, []) n (w, []))
  observes slots first s o wide _ = (
    blank,
    record {
      log = o.log;
      turn = o.turn;
      tally = o.tally;
      top = o.top;
      numberer = o.numberer;
      words = o.words;
      known = o.known;
      few = o.few;
      counted = o.counted;
      slot = o.slot;
      holder = λ taken. let h = o.holder taken in (h.0, h.1, at_longer s.views (blank ∷ []) h.0 h.1 h.2, h.3);
      each = λ j u there some_pass. ⊎_elim (λ in'. o.each j u in' some_pass) (λ (h : (j ≡ length s.views) × (blank ≡ u)). absurd (no_pass [] u h.1 some_pass)) (at_end s.views blank u j there);
      apart = λ i j a b p q some_pass e.
          ⊎_elim
          (λ p'. ⊎_elim (λ q'. o.apart i j a b p' q' some_pass e) (λ (h : (j ≡ length s.views) × (blank ≡ b)). absurd (no_pass [] b h.1 (subst (λ n. 0 < n) e some_pass))) (at_end s.views blank b j q))
          (λ (h : (i ≡ length s.views) × (blank ≡ a)). absurd (no_pass [] a h.1 some_pass))
          (at_end s.views blank a i p);
      pasts = λ j k u x p q.
          ⊎_elim
          (λ p'. let h = o.pasts j k u x p' q in (
            h.0,
            λ i a there e. ⊎_elim (λ in'. h.1 i a in' e) (λ (last : (i ≡ length s.views) × (blank ≡ a)). absurd (no_pass [] a last.1 (subst (λ n. 0 < n) (sym e) h.0.least))) (at_end s.views blank a i there),
          ))
          (λ (h : (j ≡ length s.views) × (blank ≡ u)). absurd (some-ne-none x (sym (subst (λ (y : SeatView E G). get_elem? y.past k ≡ some x) (sym h.1) q))))
          (at_end s.views blank u j p);
    },
    refl,
  )

  -- the first of a list, or one of the others
  first_or : {A : Type 0} (x y : A) (xs : List A) (k : ℕ) → get_elem? (x ∷ xs) k ≡ some y → (x ≡ y) ⊎ ((i : ℕ) × (get_elem? xs i ≡ some y))
  first_or x y xs zero e = inl (some-injective x y e)
  first_or x y xs (suc k) e = inr (k, e)

  pub takes_in : (id other : ℕ) (pasts : List (PastView E)) (w : SeatView E G) → 0 < w.number → w.idle ≡ true
      → Joins (Rule entries caller count basis g most) id (keeper pasts) other w (remembering (keeper pasts) w) blank
  takes_in id other pasts w low idle s o at distinct there =
      let both = remembering (keeper pasts) w in
      let one = set s.views id both in
      let two = set one other blank in
      let stands : get_elem? s.views other ≡ some w = sym (set_else s.views id other both distinct) ∙ there in
      let fits = o.each other w stands low in
      let was = λ (j : ℕ) (u : SeatView E G) (p : get_elem? two j ≡ some u) (some_pass : 0 < u.number).
      let R : Type 0 = (j ≢ other) × (get_elem? s.views j ≡ some u) in
      ⊎_elim {C = R}
      (λ (h : (j ≡ other) × (blank ≡ u)). absurd (no_pass [] u h.1 some_pass))
      (λ (h : (j ≢ other) × (get_elem? one j ≡ some u)).
      ⊎_elim {C = R}
      (λ (h' : (j ≡ id) × (both ≡ u)). absurd (no_pass (past_of w ∷ pasts) u h'.1 some_pass))
      (λ (h' : (j ≢ id) × (get_elem? s.views j ≡ some u)). (h.0, h'.1))
      (at_set s.views id j both u h.1))
      (at_set one other j blank u p) in
      let still_gone = λ (n : ℕ) (some_pass : 0 < n) (gone : IsGone s.views n) (i : ℕ) (a : SeatView E G) (p : get_elem? two i ≡ some a) (e : a.number ≡ n).
      gone i a (was i a p (subst (λ k. 0 < k) (sym e) some_pass)).1 e in
      record {
        log = o.log;
        turn = o.turn;
        tally = o.tally;
        top = o.top;
        numberer = o.numberer;
        words = o.words;
        known = o.known;
        few = o.few;
        counted = o.counted;
        slot = o.slot;
        holder = λ taken.
            let h = o.holder taken in
            let not_other : h.0 ≢ other = λ e. fits.idle idle (ap (λ (x : SeatView E G). x.number) (same_at s.views other w h.1 stands (subst (λ k. get_elem? s.views k ≡ some h.1) e h.2)) ∙ h.3) in
            let not_id : h.0 ≢ id = λ e. no_pass pasts h.1 (same_at s.views id (keeper pasts) h.1 at (subst (λ k. get_elem? s.views k ≡ some h.1) e h.2)) (subst (λ n. 0 < n) (sym h.3) taken) in
            (h.0, h.1, set_else one other h.0 blank not_other ∙ (set_else s.views id h.0 both not_id ∙ h.2), h.3);
        each = λ j u p some_pass. o.each j u (was j u p some_pass).1 some_pass;
        apart = λ i j a b p q some_pass e. o.apart i j a b (was i a p some_pass).1 (was j b q (subst (λ n. 0 < n) e some_pass)).1 some_pass e;
        pasts = λ j k u x p q.
            let R : Type 0 = FitsPast caller o.log o.tally o.top x × IsGone two x.number in
            let before : (i n : ℕ) (y : SeatView E G) → get_elem? s.views i ≡ some y → get_elem? y.past n ≡ some x → R = λ i n y p' q'. let h = o.pasts i n y x p' q' in (h.0, still_gone x.number h.0.least h.1) in
            ⊎_elim {C = R}
            (λ (h : (j ≡ other) × (blank ≡ u)). absurd (some-ne-none x (sym (subst (λ (y : SeatView E G). get_elem? y.past k ≡ some x) (sym h.1) q))))
            (λ (h : (j ≢ other) × (get_elem? one j ≡ some u)).
            ⊎_elim {C = R}
            (λ (h' : (j ≡ id) × (both ≡ u)).
            ⊎_elim {C = R}
            (λ (is : past_of w ≡ x).
            subst (λ y. FitsPast caller o.log o.tally o.top y × IsGone two y.number) is (
              record { least = low; most = fits.most; seen = fits.seen; own = fits.own; floor = fits.floor },
              λ i a p' e. let y = was i a p' (subst (λ n. 0 < n) (sym e) low) in y.0 (o.apart i other a w y.1 stands (subst (λ n. 0 < n) (sym e) low) e),
            ))
            (λ (in' : (i : ℕ) × (get_elem? pasts i ≡ some x)). before id in'.0 (keeper pasts) at in'.1)
            (first_or (past_of w) x pasts k (subst (λ (y : SeatView E G). get_elem? y.past k ≡ some x) (sym h'.1) q)))
            (λ (h' : (j ≢ id) × (get_elem? s.views j ≡ some u)). before j k u h'.1 q)
            (at_set s.views id j both u h.1))
            (at_set one other j blank u p);
      }

  -- What the value of a table is, all of whose passes are past ones of one seat.
  pub record IsLast (pasts : List (PastView E)) (value : T) : Type 0 where
    pub based : basis value ≡ g
    pub known : All (λ e. (0 < caller e) × (caller e ≤ most)) (entries value)
    pub fits : FitsPasts entries caller count most pasts value

  -- nobody has the turn, where all passes are past ones
  free : (s : State (Option T) (SeatView E G)) (o : Rule entries caller count basis g most s) (id : ℕ) (v : SeatView E G) → get_elem? s.views id ≡ some v → AllPast most v.past → o.turn ≡ 0
  free s o id v at all =
      ⊎_elim (λ (e : o.turn ≡ 0). e)
      (λ (taken : 0 < o.turn).
      let h = o.holder taken in
      let low = subst (λ n. 0 < n) (sym h.3) taken in
      let within = (o.each h.0 h.1 h.2 low).most in
      let few = o.few.0 in
      let past = all h.1.number low (omega arith) in
      absurd ((o.pasts id past.0 v past.1 at past.2).1 h.0 h.1 h.2 (sym past.3)))
      (eq-zero-or-pos o.turn)

  pub ends : CountsUp entries count basis → (words : List ℕ) (slots : List (Option T)) (id : ℕ) (v : SeatView E G) → Final (Seen (Rule entries caller count basis g most) id v) words slots
      → AllPast most v.past → (value : T) × (get_elem? slots 0 ≡ some (Some value)) × IsLast v.past value
  ends counts_up words slots id v last all =
      let s = last.0 in let o = last.1.0 in let at = last.1.1 in
      let h = o.slot.home (free s o id v at all) in
      let value = h.0 in
      let c = o.counted in
      let few = o.few.0 in
      let up : count c.value ≤ count value = counts_up c.value value [] (c.basis_is ∙ sym h.3) (h.2 ∙ (sym c.entries_are ∙ sym (append-nil (entries c.value)))) in
      let up' : o.tally ≤ count value = subst (λ n. n ≤ count value) c.count_is up in (
        value,
        last.4 0 (Some value) h.1,
        record {
          based = h.3;
          known = subst (All (λ e. (0 < caller e) × (caller e ≤ most))) (sym h.2)
              (All-weaker (λ e. (0 < caller e) × (caller e ≤ o.top)) (λ e. (0 < caller e) × (caller e ≤ most)) (λ e k. (k.0, le_trans k.1 few)) o.log o.known);
          fits = λ k x there.
              let f = (o.pasts id k v x at there).0 in
              record {
                least = f.least;
                most = le_trans f.most few;
                seen = subst (λ l. StartsWith l x.seen) (sym h.2) f.seen;
                own = ap (λ l. entries_of caller x.number l) h.2 ∙ f.own;
                floor = le_trans f.floor up';
              };
        },
      )

  -- the same of the value that the first slot was found to have
  pub last_value : CountsUp entries count basis → (words : List ℕ) (slots : List (Option T)) (id : ℕ) (v : SeatView E G) → Final (Seen (Rule entries caller count basis g most) id v) words slots
      → AllPast most v.past → (found : Option T) (value : T) → get_elem? slots 0 ≡ some found → found ≡ Some value → IsLast v.past value
  last_value counts_up words slots id v last all found value there is =
      let h = ends counts_up words slots id v last all in
      let same : Some h.0 ≡ Some value = some-injective (Some h.0) found (sym h.1 ∙ there) ∙ is in
      let are : h.0 ≡ value = cc in
      let F : T → Type 0 = λ x. IsLast v.past x in
      subst F are h.2

  pub found_some : CountsUp entries count basis → (words : List ℕ) (slots : List (Option T)) (id : ℕ) (v : SeatView E G) → Final (Seen (Rule entries caller count basis g most) id v) words slots
      → AllPast most v.past → (found : Option T) → get_elem? slots 0 ≡ some found → IsSome found
  found_some counts_up words slots id v last all found there =
      let h = ends counts_up words slots id v last all in
      subst IsSome (some-injective (Some h.0) found (sym h.1 ∙ there)) refl
