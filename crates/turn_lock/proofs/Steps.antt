-- Each step of a pass that has its number keeps the rule.
use Rattle.std.proofs.Common.{◌≡◌, ◌≢◌, ℕ, ◌<◌, ◌≤◌, false, List, [], ◌∷◌, ◌++◌, Option, Some, All, length, get_or, set, eqb, sym, refl, ap, ◌∙◌, subst, ⊎_elim, append-nil, le_trans, le_of_eq, le_refl, true≢false, arith}
use mathlib.Core.Option.{Option as Maybe, some, none}
use prog.Atomic.{either}
use lib.ListN.{get_elem?}
use Rattle.std.proofs.Math.Nat.{eq-zero-or-pos}
use Rattle.std.proofs.lemmas.List.Elements.{All-append, All-weaker}
use Rattle.atomic_table.specs.Table.{State, Me, Act, keeps, takes, gives, step, stepped, carried_after, Valid, Allows}
use Rattle.atomic_table.proofs.Lists.{at_set, set_here, exchanged}
use Rattle.turn_lock.specs.declared.view.PastView.{PastView}
use Rattle.turn_lock.specs.declared.view.SeatView.{SeatView}
use Rattle.turn_lock.specs.Entries.{StartsWith, entries_of}
use Rattle.turn_lock.specs.Turns.{FitsPass, FitsPast, FitsSlot, IsCountOf, IsOneHistory, IsSeated, Shows, holding, refused, tallying, leaving, counting, acquired, count_stored, released, count_loaded}
use Rattle.turn_lock.proofs.Entries.{starts_self, starts_on, of_same}
use Rattle.turn_lock.proofs.Seats.{still_seated, stood}

-- where one value's entries go on from another's, its count is no less
abbrev pub CountsUp : {T E G : Type 0} → (T → List E) → (T → ℕ) → (T → G) → Type 0
CountsUp {T} {E} entries count basis = (x y : T) (more : List E) → basis x ≡ basis y → entries y ≡ entries x ++ more → count x ≤ count y

module _ {T E G : Type 0} (entries : T → List E) (caller : E → ℕ) (count : T → ℕ) (basis : T → G) (g : G) (most : ℕ) where
  abbrev pub Rule : State (Option T) (SeatView E G) → Type 0
  Rule = IsOneHistory entries caller count basis g most

  -- what a step of the seat id owes where the word becomes n
  abbrev Goes : State (Option T) (SeatView E G) → ℕ → ℕ → Me (Option T) (SeatView E G) → (ℕ → Me (Option T) (SeatView E G) → Type 0) → ℕ → Type 0
  Goes s word id m then n = (w : SeatView E G) × (a : Act (Option T)) × Valid s.homes m.1 a × Rule (stepped s word n id m.1 w a) × then (get_or s.words word 0) (w, carried_after m.1 a)

  -- The seat of one pass gets a new view: what is owed of that view, of the history, and of those that hold still.
  pub restep : (s : State (Option T) (SeatView E G)) (o : Rule s) (id : ℕ) (v w : SeatView E G) → get_elem? s.views id ≡ some v → 0 < v.number → w.number ≡ v.number → w.past ≡ v.past
      → (words : List ℕ) (homes : List (Maybe (Option T))) (log : List E) (turn tally : ℕ) → words ≡ turn ∷ tally ∷ []
      → All (λ e. (0 < caller e) × (caller e ≤ o.top)) log
      → IsCountOf entries count basis g log tally
      → FitsSlot entries basis g log turn homes
      → (0 < turn → IsSeated s.views turn)
      → FitsPass caller g log turn tally o.top o.numberer id w
      → ((j : ℕ) (u : SeatView E G) → u.number ≢ v.number → FitsPass caller g o.log o.turn o.tally o.top o.numberer j u → FitsPass caller g log turn tally o.top o.numberer j u)
      → ((x : PastView E) → x.number ≢ v.number → FitsPast caller o.log o.tally o.top x → FitsPast caller log tally o.top x)
      → Rule record { words = words; homes = homes; views = set s.views id w }
  restep s o id v w at low same past words homes log turn tally are known counted slot held mine others olds =
      let was = stood s.views id v w at same past in
      record {
        log = log;
        turn = turn;
        tally = tally;
        top = o.top;
        numberer = o.numberer;
        words = are;
        known = known;
        few = o.few;
        counted = counted;
        slot = slot;
        holder = λ taken. still_seated s.views id v w at same turn (held taken);
        each = λ j u there numbered.
            ⊎_elim
            (λ (h : (j ≡ id) × (w ≡ u)). subst (λ k. FitsPass caller g log turn tally o.top o.numberer k u) (sym h.0) (subst (λ x. FitsPass caller g log turn tally o.top o.numberer id x) h.1 mine))
            (λ (h : (j ≢ id) × (get_elem? s.views j ≡ some u)). others j u (λ e. h.0 (o.apart j id u v h.1 at numbered e)) (o.each j u h.1 numbered))
            (at_set s.views id j w u there);
        apart = λ i j a b p q numbered e.
            let x = was i a p in let y = was j b q in
            o.apart i j x.0 y.0 x.1 y.1 (subst (λ n. 0 < n) (sym x.2) numbered) (x.2 ∙ (e ∙ sym y.2));
        pasts = λ j k u x p q.
            let t = was j u p in
            let h = o.pasts j k t.0 x t.1 (subst (λ l. get_elem? l k ≡ some x) (sym t.3) q) in
            (olds x (λ e. h.1 id v at (sym e)) h.0, λ i a there e. let y = was i a there in h.1 i y.0 y.1 (y.2 ∙ e));
      }

  -- the same where the words, the slot and the history stay
  pub unmoved : (s : State (Option T) (SeatView E G)) (o : Rule s) (id : ℕ) (v w : SeatView E G) → get_elem? s.views id ≡ some v → 0 < v.number → w.number ≡ v.number → w.past ≡ v.past
      → (words : List ℕ) → words ≡ o.turn ∷ o.tally ∷ [] → FitsPass caller g o.log o.turn o.tally o.top o.numberer id w
      → Rule record { words = words; homes = s.homes; views = set s.views id w }
  unmoved s o id v w at low same past words are mine =
      restep s o id v w at low same past words s.homes o.log o.turn o.tally are o.known o.counted o.slot o.holder mine (λ j u _ f. f) (λ x _ f. f)

  -- the turn is the number of a pass
  pub turn_within : (s : State (Option T) (SeatView E G)) (o : Rule s) → 0 < o.turn → o.turn ≤ o.top
  turn_within s o taken =
      let h = o.holder taken in
      let fits = o.each h.0 h.1 h.2 (subst (λ n. 0 < n) (sym h.3) taken) in
      subst (λ n. n ≤ o.top) h.3 fits.most

  module _ (counts_up : CountsUp entries count basis) where
    -- a value with the history for its entries shows a pass what the rule says of it
    shows : (s : State (Option T) (SeatView E G)) (o : Rule s) (j : ℕ) (v : SeatView E G) (value : T) → entries value ≡ o.log → basis value ≡ g
        → FitsPass caller g o.log o.turn o.tally o.top o.numberer j v → Shows entries caller count basis v value
    shows s o j v value is based fits =
        let c = o.counted in
        let up : count c.value ≤ count value = counts_up c.value value [] (c.basis_is ∙ sym based) (is ∙ (sym c.entries_are ∙ sym (append-nil (entries c.value)))) in
        record {
          seen = subst (λ l. StartsWith l v.seen) (sym is) fits.seen;
          own = ap (λ l. entries_of caller v.number l) is ∙ fits.own;
          floor = le_trans fits.floor (subst (λ n. n ≤ count value) c.count_is up);
          basis_is = fits.basis ∙ ap (λ x. Some x) (sym based);
        }

    pub acquires : (slots id number : ℕ) (m : Me (Option T) (SeatView E G)) → slots ≡ 1 → m.0.number ≡ number → 0 < number
        → Allows Rule slots id m 0 (λ n. either (eqb n 0) number n) (acquired entries caller count basis (step slots 0 0 number none) m)
    acquires slots id number m one is low s o wide at _ =
        let v = m.0 in
        let low' : 0 < v.number = subst (λ n. 0 < n) (sym is) low in
        let fits = o.each id v at low' in
        let word : get_or s.words 0 0 ≡ o.turn = ap (λ ws. get_or ws 0 0) o.words in
        exchanged (get_or s.words 0 0) 0 number (Goes s 0 id m (acquired entries caller count basis (step slots 0 0 number none) m))
        (λ free.
        let h = o.slot.home (sym word ∙ free) in
        let value = h.0 in
        let w = holding v (entries value) in
        let inside : 0 < length s.homes = omega arith in (
          w,
          takes 0 (Some value),
          h.1,
          restep s o id v w at low' refl refl (set s.words 0 number) (set s.homes 0 none) o.log number o.tally (ap (λ ws. set ws 0 number) o.words) o.known o.counted
              (record { home = λ none. absurd (omega arith); out = λ _. set_here s.homes 0 none inside })
              (λ _. (id, v, at, is))
              (record {
                least = low';
                most = fits.most;
                idle = λ e. absurd (true≢false (sym e));
                busy = λ _. (is, h.2);
                seen = subst (λ l. StartsWith o.log l) (sym h.2) (starts_self o.log);
                own = fits.own;
                floor = fits.floor;
                basis = fits.basis;
                greatest = fits.greatest;
              })
              (λ j u ne f. record {
                least = f.least;
                most = f.most;
                idle = λ _ e. ne (e ∙ sym is);
                busy = λ b. let n = (f.busy b).0 ∙ (sym word ∙ free) in let l = f.least in absurd (omega arith);
                seen = f.seen;
                own = f.own;
                floor = f.floor;
                basis = f.basis;
                greatest = f.greatest;
              })
              (λ x _ f. f),
          (λ _. (value, refl, shows s o id v value h.2 h.3 fits), λ taken. absurd (taken free)),
        ))
        (λ taken.
        let found = get_or s.words 0 0 in
        let w = refused v found in
        let turn = ⊎_elim (λ (e : o.turn ≡ 0). absurd (taken (word ∙ e))) (λ (h : 0 < o.turn). h) (eq-zero-or-pos o.turn) in
        let within = turn_within s o turn in
        let few = o.few in
        let high : found ≤ 80 = omega arith in (
          w,
          keeps,
          tt,
          unmoved s o id v w at low' refl refl (set s.words 0 found) (ap (λ ws. set ws 0 (get_or ws 0 0)) o.words)
              (record { least = low'; most = fits.most; idle = fits.idle; busy = fits.busy; seen = fits.seen; own = fits.own; floor = fits.floor; basis = fits.basis; greatest = fits.greatest }),
          (λ free. absurd (taken free), λ _. (high, refl)),
        ))

    pub stores : (slots id n : ℕ) (m : Me (Option T) (SeatView E G)) (value : T) (added : List E) → m.1 ≡ (0, Some value) ∷ [] → 0 < m.0.number → m.0.idle ≡ false
        → basis value ≡ g → entries value ≡ m.0.seen ++ added → All (λ e. caller e ≡ m.0.number) added → n ≡ count value
        → Allows Rule slots id m 1 (λ _. n) (λ _. count_stored entries caller (step slots 1 n 0 none) m n)
    stores slots id n m value added has low busy based longer own is =
        subst (λ c. Allows Rule slots id (m.0, c) 1 (λ _. n) (λ _. count_stored entries caller (step slots 1 n 0 none) (m.0, c) n)) (sym has)
        (λ s o wide at _.
        let v = m.0 in
        let fits = o.each id v at low in
        let held = fits.busy busy in
        let grown : entries value ≡ o.log ++ added = longer ∙ ap (λ l. l ++ added) held.1 in
        let c = o.counted in
        let up : count c.value ≤ count value = counts_up c.value value added (c.basis_is ∙ sym based) (grown ∙ ap (λ l. l ++ added) (sym c.entries_are)) in
        let up' : o.tally ≤ n = subst (λ k. k ≤ n) c.count_is (subst (λ k. count c.value ≤ k) (sym is) up) in
        let w = tallying v (entries value) (entries_of caller v.number (entries value)) n in
        let seen_on = λ (seen : List E) (h : StartsWith o.log seen). subst (λ l. StartsWith l seen) (sym grown) (starts_on o.log seen added h) in
        let own_on = λ (k : ℕ) (ne : k ≢ v.number). ap (λ l. entries_of caller k l) grown ∙ of_same caller k o.log added (All-weaker (λ e. caller e ≡ v.number) (λ e. caller e ≢ k) (λ e mine here. ne (sym here ∙ mine)) added own) in (
          w,
          keeps,
          tt,
          restep s o id v w at low refl refl (set s.words 1 n) s.homes (entries value) o.turn n (ap (λ ws. set ws 1 n) o.words)
              (subst (All (λ e. (0 < caller e) × (caller e ≤ o.top))) (sym grown)
              (All-append (λ e. (0 < caller e) × (caller e ≤ o.top)) o.log added o.known
              (All-weaker (λ e. caller e ≡ v.number) (λ e. (0 < caller e) × (caller e ≤ o.top)) (λ e mine. (subst (λ k. 0 < k) (sym mine) low, subst (λ k. k ≤ o.top) (sym mine) fits.most)) added own)))
              (record { value = value; entries_are = refl; basis_is = based; count_is = sym is })
              (record { home = λ free. let t = held.0 in absurd (omega arith); out = o.slot.out })
              o.holder
              (record {
                least = low;
                most = fits.most;
                idle = fits.idle;
                busy = λ _. (held.0, refl);
                seen = starts_self (entries value);
                own = refl;
                floor = le_refl n;
                basis = fits.basis;
                greatest = fits.greatest;
              })
              (λ j u ne f. record {
                least = f.least;
                most = f.most;
                idle = f.idle;
                busy = λ b. absurd (ne ((f.busy b).0 ∙ sym held.0));
                seen = seen_on u.seen f.seen;
                own = own_on u.number ne ∙ f.own;
                floor = le_trans f.floor up';
                basis = f.basis;
                greatest = f.greatest;
              })
              (λ x ne f. record { least = f.least; most = f.most; seen = seen_on x.seen f.seen; own = own_on x.number ne ∙ f.own; floor = le_trans f.floor up' }),
          refl,
        ))

  pub releases : (slots id : ℕ) (m : Me (Option T) (SeatView E G)) (value : T) → slots ≡ 1 → m.1 ≡ (0, Some value) ∷ [] → 0 < m.0.number → m.0.idle ≡ false
      → basis value ≡ g → entries value ≡ m.0.seen
      → Allows Rule slots id m 0 (λ _. 0) (λ _. released {T = T} (step slots 0 0 0 none) m 0)
  releases slots id m value one has low busy based seen =
      subst (λ c. Allows Rule slots id (m.0, c) 0 (λ _. 0) (λ _. released {T = T} (step slots 0 0 0 none) (m.0, c) 0)) (sym has)
      (λ s o wide at _.
      let v = m.0 in
      let fits = o.each id v at low in
      let held = fits.busy busy in
      let inside : 0 < length s.homes = omega arith in (
        leaving v,
        gives,
        tt,
        restep s o id v (leaving v) at low refl refl (set s.words 0 0) (set s.homes 0 (some (Some value))) o.log 0 o.tally (ap (λ ws. set ws 0 0) o.words) o.known o.counted
            (record { home = λ _. (value, set_here s.homes 0 (some (Some value)) inside, seen ∙ held.1, based); out = λ h. absurd (omega arith) })
            (λ h. absurd (omega arith))
            (record {
              least = low;
              most = fits.most;
              idle = λ _ e. absurd (omega arith);
              busy = λ e. absurd (true≢false e);
              seen = fits.seen;
              own = fits.own;
              floor = fits.floor;
              basis = fits.basis;
              greatest = fits.greatest;
            })
            (λ j u ne f. record {
              least = f.least;
              most = f.most;
              idle = λ _ e. let l = f.least in absurd (omega arith);
              busy = λ b. absurd (ne ((f.busy b).0 ∙ sym held.0));
              seen = f.seen;
              own = f.own;
              floor = f.floor;
              basis = f.basis;
              greatest = f.greatest;
            })
            (λ x _ f. f),
        refl,
      ))

  pub loads : (slots id : ℕ) (m : Me (Option T) (SeatView E G)) → 0 < m.0.number
      → Allows Rule slots id m 1 (λ n. n) (count_loaded {T = T} (step slots 1 0 0 none) m)
  loads slots id m low s o wide at _ =
      let v = m.0 in
      let found = get_or s.words 1 0 in
      let fits = o.each id v at low in
      let is : found ≡ o.tally = ap (λ ws. get_or ws 1 0) o.words in
      let w = counting v found in (
        w,
        keeps,
        tt,
        unmoved s o id v w at low refl refl (set s.words 1 found) (ap (λ ws. set ws 1 (get_or ws 1 0)) o.words)
            (record { least = low; most = fits.most; idle = fits.idle; busy = fits.busy; seen = fits.seen; own = fits.own; floor = le_of_eq is; basis = fits.basis; greatest = fits.greatest }),
        (refl, subst (λ n. v.floor ≤ n) (sym is) fits.floor),
      )
