-- The rule at the start, and as passes are numbered.
use Rattle.std.proofs.Common.{◌≡◌, ◌≢◌, ℕ, zero, suc, ◌+◌, ◌<◌, ◌≤◌, List, [], ◌∷◌, Option, Some, length, set, sym, refl, ap, ◌∙◌, subst, ⊎_elim, le_refl, true≢false, arith}
use mathlib.Core.Option.{some, some-injective, some-ne-none}
use lib.ListN.{get_elem?}
use Rattle.std.proofs.Math.Nat.{eq-zero-or-pos}
use Rattle.std.proofs.lemmas.List.Elements.{All-nil, All-weaker}
use Rattle.atomic_table.specs.Table.{Splits, opening}
use Rattle.atomic_table.proofs.Lists.{at_set, at_longer}
use Rattle.turn_lock.specs.declared.view.SeatView.{SeatView}
use Rattle.turn_lock.specs.Turns.{FitsPass, first_pass, numbered, newcomer}
use Rattle.turn_lock.proofs.Entries.{of_others, starts_nil}
use Rattle.turn_lock.proofs.Seats.{at_end, still_seated, stood}
use Rattle.turn_lock.proofs.Steps.{Rule, turn_within}

alone : {A : Type 0} (a b : A) (j : ℕ) → get_elem? (a ∷ []) j ≡ some b → (j ≡ 0) × (a ≡ b)
alone a b zero e = (refl, some-injective a b e)
alone a b (suc j) e = absurd (some-ne-none b (sym e))

module _ {T E G : Type 0} (entries : T → List E) (caller : E → ℕ) (count : T → ℕ) (basis : T → G) (g : G) (most : ℕ) where
  pub opens : (value : T) (tally : ℕ) (slots : List (Option T)) → slots ≡ Some value ∷ [] → entries value ≡ [] → basis value ≡ g → tally ≡ count value → 0 < most → most ≤ 80
      → Rule entries caller count basis g most (opening (0 ∷ tally ∷ []) slots (first_pass g (count value)))
  opens value tally slots has empty based is some_pass few =
      subst (λ xs. Rule entries caller count basis g most (opening (0 ∷ tally ∷ []) xs (first_pass g (count value)))) (sym has)
      (record {
        log = [];
        turn = 0;
        tally = tally;
        top = 1;
        numberer = 0;
        words = refl;
        known = All-nil (λ e. (0 < caller e) × (caller e ≤ 1));
        few = (omega arith, few);
        counted = record { value = value; entries_are = empty; basis_is = based; count_is = sym is };
        slot = record { home = λ _. (value, refl, empty, based); out = λ h. absurd (omega arith) };
        holder = λ h. absurd (omega arith);
        each = λ j u there _.
            let h = alone (first_pass g (count value)) u j there in
            subst (λ x. FitsPass caller g [] 0 tally 1 0 j x) h.1
            (record {
              least = omega arith;
              most = omega arith;
              idle = λ _ e. absurd (omega arith);
              busy = λ e. absurd (true≢false e);
              seen = starts_nil [];
              own = refl;
              floor = subst (λ n. count value ≤ n) (sym is) (le_refl (count value));
              basis = refl;
              greatest = λ _. (h.0, refl);
            });
        apart = λ i j a b p q _ _. (alone (first_pass g (count value)) a i p).0 ∙ sym (alone (first_pass g (count value)) b j q).0;
        pasts = λ j k u x p q.
            let h = alone (first_pass g (count value)) u j p in
            let none_there = subst (λ (y : SeatView E G). get_elem? y.past k ≡ some x) (sym h.1) q in
            absurd (some-ne-none x (sym none_there));
      })

  -- a pass fits a greater number given out, if it is not the one that numbers the next
  raised : {log : List E} {turn tally top numberer j : ℕ} {u : SeatView E G} (top' numberer' : ℕ) → top ≤ top' → (0 < u.greatest → ⊥) → FitsPass caller g log turn tally top numberer j u → FitsPass caller g log turn tally top' numberer' j u
  raised top' numberer' up not_it f =
      record {
        least = f.least;
        most = (let m = f.most in omega arith);
        idle = f.idle;
        busy = f.busy;
        seen = f.seen;
        own = f.own;
        floor = f.floor;
        basis = f.basis;
        greatest = λ h. absurd (not_it h);
      }

  pub numbers : (id : ℕ) (v : SeatView E G) → 0 < v.number → 0 < v.greatest → v.greatest < most → Splits (Rule entries caller count basis g most) id v (numbered v) (newcomer v)
  numbers id v low it room s o at =
      let R = FitsPass caller g o.log o.turn o.tally in
      let fits = o.each id v at low in
      let is = fits.greatest it in
      let next : ℕ = v.greatest + 1 in
      let up : o.top ≤ next = (let h = is.1 in omega arith) in
      let few : next ≤ most = omega arith in
      let views = set s.views id (numbered v) in
      let was = stood s.views id v (numbered v) at refl refl in
      let turn : o.turn ≤ o.top = ⊎_elim (λ (e : o.turn ≡ 0). omega arith) (λ h. turn_within entries caller count basis g most s o h) (eq-zero-or-pos o.turn) in
      let within = λ (j : ℕ) (u : SeatView E G) (there : get_elem? views j ≡ some u) (some_pass : 0 < u.number).
      let x = was j u there in
      subst (λ n. n ≤ o.top) x.2 (o.each j x.0 x.1 (subst (λ n. 0 < n) (sym x.2) some_pass)).most in
      record {
        log = o.log;
        turn = o.turn;
        tally = o.tally;
        top = next;
        numberer = length views;
        words = o.words;
        few = (few, o.few.1);
        counted = o.counted;
        slot = o.slot;
        known = All-weaker (λ e. (0 < caller e) × (caller e ≤ o.top)) (λ e. (0 < caller e) × (caller e ≤ next)) (λ e h. (h.0, (let m = h.1 in omega arith))) o.log o.known;
        holder = λ taken.
            let h = still_seated s.views id v (numbered v) at refl o.turn (o.holder taken) in
            (h.0, h.1, at_longer views (newcomer v ∷ []) h.0 h.1 h.2, h.3);
        each = λ j u there some_pass.
            ⊎_elim
            (λ (in' : get_elem? views j ≡ some u).
            ⊎_elim
            (λ (h : (j ≡ id) × (numbered v ≡ u)).
            subst (λ x. R next (length views) j x) h.1
            (subst (λ k. R next (length views) k (numbered v)) (sym h.0)
            (record {
              least = low;
              most = (let m = fits.most in omega arith);
              idle = fits.idle;
              busy = fits.busy;
              seen = fits.seen;
              own = fits.own;
              floor = fits.floor;
              basis = fits.basis;
              greatest = λ h. absurd (omega arith);
            })))
            (λ (h : (j ≢ id) × (get_elem? s.views j ≡ some u)).
            let f = o.each j u h.1 some_pass in
            raised next (length views) up (λ mine. h.0 ((f.greatest mine).0 ∙ sym is.0)) f)
            (at_set s.views id j (numbered v) u in'))
            (λ (h : (j ≡ length views) × (newcomer v ≡ u)).
            subst (λ x. R next (length views) j x) h.1
            (record {
              least = omega arith;
              most = le_refl next;
              idle = λ _ e. (let m = is.1 in absurd (omega arith));
              busy = λ e. absurd (true≢false e);
              seen = starts_nil o.log;
              own = of_others caller next o.log (All-weaker (λ e. (0 < caller e) × (caller e ≤ o.top)) (λ e. caller e ≢ next) (λ e known same. (let m = is.1 in let k = known.1 in absurd (omega arith))) o.log o.known);
              floor = fits.floor;
              basis = fits.basis;
              greatest = λ _. (h.0, refl);
            }))
            (at_end views (newcomer v) u j there);
        apart = λ i j a b p q some_pass e.
            ⊎_elim
            (λ (p' : get_elem? views i ≡ some a).
            ⊎_elim
            (λ (q' : get_elem? views j ≡ some b).
            let x = was i a p' in let y = was j b q' in
            o.apart i j x.0 y.0 x.1 y.1 (subst (λ n. 0 < n) (sym x.2) some_pass) (x.2 ∙ (e ∙ sym y.2)))
            (λ (h : (j ≡ length views) × (newcomer v ≡ b)).
            let m = within i a p' some_pass in let k : next ≡ b.number = ap (λ (x : SeatView E G). x.number) h.1 in let t = is.1 in absurd (omega arith))
            (at_end views (newcomer v) b j q))
            (λ (h : (i ≡ length views) × (newcomer v ≡ a)).
            ⊎_elim
            (λ (q' : get_elem? views j ≡ some b).
            let k : next ≡ a.number = ap (λ (x : SeatView E G). x.number) h.1 in
            let m = within j b q' (subst (λ n. 0 < n) e some_pass) in let t = is.1 in absurd (omega arith))
            (λ (h' : (j ≡ length views) × (newcomer v ≡ b)). h.0 ∙ sym h'.0)
            (at_end views (newcomer v) b j q))
            (at_end views (newcomer v) a i p);
        pasts = λ j k u x p q.
            ⊎_elim
            (λ (p' : get_elem? views j ≡ some u).
            let y = was j u p' in
            let h = o.pasts j k y.0 x y.1 (subst (λ l. get_elem? l k ≡ some x) (sym y.3) q) in
            let f = h.0 in (
              record { least = f.least; most = (let m = f.most in omega arith); seen = f.seen; own = f.own; floor = f.floor },
              λ i a there e.
                  ⊎_elim
                  (λ (in' : get_elem? views i ≡ some a). let z = was i a in' in h.1 i z.0 z.1 (z.2 ∙ e))
                  (λ (last : (i ≡ length views) × (newcomer v ≡ a)). let k : next ≡ a.number = ap (λ (x : SeatView E G). x.number) last.1 in let m = f.most in let t = is.1 in absurd (omega arith))
                  (at_end views (newcomer v) a i there),
            ))
            (λ (h : (j ≡ length views) × (newcomer v ≡ u)).
            let none_there = subst (λ (y : SeatView E G). get_elem? y.past k ≡ some x) (sym h.1) q in
            absurd (some-ne-none x (sym none_there)))
            (at_end views (newcomer v) u j p);
      }
