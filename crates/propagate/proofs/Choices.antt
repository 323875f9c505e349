-- Two literals of a new clause in front.
use Rattle.std.proofs.Common.{◌≡◌, ◌≢◌, ◌∙◌, ℕ, ◌<◌, ◌≤◌, List, length, ap, subst, sym, inl, inr, arith, get_or}
use Rattle.std.specs.Prelude.{◌⊎◌, Contains}
use Rattle.std.proofs.lemmas.Bool.{cases_eq, cases_lt}
use Rattle.std.proofs.lemmas.List.{get_or_default}
use Rattle.std.proofs.lemmas.List.Elements.{All-contains, All-from_get_or}
use Rattle.sat_base.specs.Lit.{variable, opposite}
use Rattle.clause_arena.specs.Arena.{ArenaClause}
use Rattle.trail_core.specs.Trail.{Entry, TrailView, IsTrail, StandsAt, no_entry, entry_at, lits_of}
use Rattle.trail_core.specs.UnderTrail.{IsFalseLit, IsFalseClause}
use Rattle.propagate.specs.Store.{IsSameClause}
use Rattle.propagate.specs.Pairing.{IsReady}
use Rattle.propagate.specs.Places.{IsFreePlace, AreFalseFrom, AreNotAtFrom}
use Rattle.propagate.specs.Choice.{IsOneLeft, AreTwoLeft}
use Rattle.propagate.proofs.Literals.{entry_in}
use Rattle.propagate.proofs.Swaps.{IsSwap}

-- a clause that is ready stays so with its literals in other places
pub ready_same : (entries : List Entry) (depth : ℕ) (a b : ArenaClause) → IsSameClause a b → IsReady entries depth a.lits → IsReady entries depth b.lits
ready_same entries depth a b s (inl two) = inl (record {
  first = two.first;
  second = two.second;
  first_in = All-contains (Contains b.lits) a.lits two.first s.kept two.first_in;
  second_in = All-contains (Contains b.lits) a.lits two.second s.kept two.second_in;
  differ = two.differ;
  first_left = two.first_left;
  second_left = two.second_left;
})
ready_same entries depth a b s (inr (inl f)) = inr (inl (record {
  place = f.place;
  within = f.within;
  stands = All-contains (Contains b.lits) a.lits _ s.kept f.stands;
  is = f.is;
}))
ready_same entries depth a b s (inr (inr z)) = inr (inr z)

-- none isn't false
pub all_false_from : (trues lits : List ℕ) → AreFalseFrom trues lits 0 → IsFalseClause trues lits
all_false_from trues lits f = record { each = All-from_get_or (IsFalseLit trues) lits 0 (λ k lt. f.each k (omega arith) lt) }

-- What holds where one literal, the first one, isn't false.

-- a literal of the clause that isn't false is the first one
is_first : (trues lits : List ℕ) → AreFalseFrom trues lits 1 → (lit : ℕ) → Contains lits lit → (IsFalseLit trues lit → ⊥) → lit ≡ get_or lits 0 0
is_first trues lits f lit c left = at c.0 c.1 (get_or_default lits c.0 0 lit c.1 ∙ c.2) (cases_lt 0 c.0)
  where
    at : (k : ℕ) → k < length lits → get_or lits k 0 ≡ lit → (0 < k) ⊎ (k ≤ 0) → lit ≡ get_or lits 0 0
    at k lt is (inl some) = absurd (left (subst (IsFalseLit trues) is (f.each k (omega (arith, some)) lt)))
    at k lt is (inr none) = let z : k ≡ 0 = omega arith in sym is ∙ ap (λ n. get_or lits n 0) z

-- a literal that an entry makes false
false_by : (trail : TrailView) (lits : List ℕ) (place : ℕ) → IsTrail trail → place < length trail.entries → Contains (lits_of trail.entries) (entry_at trail.entries place).lit → IsFalseLit (lits_of trail.entries) (opposite (entry_at trail.entries place).lit)
false_by trail lits place t lt c =
    let e : opposite (opposite (entry_at trail.entries place).lit) ≡ (entry_at trail.entries place).lit = omega arith in
    record { stands = subst (Contains (lits_of trail.entries)) (sym e) c }

-- so a clause that is ready has a false literal at the depth, in a later place, or the depth is 0
pub record IsLaterAt (trail : TrailView) (lits : List ℕ) (depth : ℕ) : Type 0 where
  pub k : ℕ
  pub behind : 1 ≤ k
  pub within : k < length lits
  pub at : ℕ
  pub stands : StandsAt trail.entries (variable (get_or lits k 0)) at
  pub level : (entry_at trail.entries at).level ≡ depth

later_or_zero : (trail : TrailView) (lits : List ℕ) → IsTrail trail → (IsFalseLit (lits_of trail.entries) (get_or lits 0 0) → ⊥) → AreFalseFrom (lits_of trail.entries) lits 1 → IsReady trail.entries trail.depth lits → IsLaterAt trail lits trail.depth ⊎ (trail.depth ≡ 0)
later_or_zero trail lits t left f (inl two) =
    let a = is_first (lits_of trail.entries) lits f two.first two.first_in two.first_left in
    let b = is_first (lits_of trail.entries) lits f two.second two.second_in two.second_left in
    absurd (two.differ (a ∙ sym b))
later_or_zero trail lits t left f (inr (inr z)) = inr z
later_or_zero trail lits t left f (inr (inl h)) = at h.stands.0 h.stands.1 (get_or_default lits h.stands.0 0 _ h.stands.1 ∙ h.stands.2) (cases_lt 0 h.stands.0)
  where
    lit : ℕ
    lit = opposite (entry_at trail.entries h.place).lit

    is_false : IsFalseLit (lits_of trail.entries) lit
    is_false = false_by trail lits h.place t h.within (entry_in trail.entries h.place h.within)

    at : (k : ℕ) → k < length lits → get_or lits k 0 ≡ lit → (0 < k) ⊎ (k ≤ 0) → IsLaterAt trail lits trail.depth ⊎ (trail.depth ≡ 0)
    at k lt is (inl some) = inl (record {
      k = k;
      behind = omega (arith, some);
      within = lt;
      at = h.place;
      stands = record { within = h.within; is = omega (arith, is) };
      level = h.is;
    })
    at k lt is (inr none) = let z : k ≡ 0 = omega arith in absurd (left (subst (IsFalseLit (lits_of trail.entries)) (sym is ∙ ap (λ n. get_or lits n 0) z) is_false))

-- what the choice of the second place leaves
pub one_left : (trail : TrailView) (lits : List ℕ) → IsTrail trail → 0 < length lits → (IsFalseLit (lits_of trail.entries) (get_or lits 0 0) → ⊥) → AreFalseFrom (lits_of trail.entries) lits 1 → IsReady trail.entries trail.depth lits → ((place : ℕ) → 2 ≤ length lits → IsLaterAt trail lits trail.depth ⊎ (trail.depth ≡ 0) → place < length trail.entries → (entry_at trail.entries place).lit ≡ opposite (get_or lits 1 0) → (entry_at trail.entries place).level ≡ trail.depth) → IsOneLeft trail.entries trail.depth lits
one_left trail lits t some left f ready top = record {
  some = some;
  left = left;
  others = f;
  alone = λ one. alone one (later_or_zero trail lits t left f ready);
  top = λ wide place lt is. top place wide (later_or_zero trail lits t left f ready) lt is;
}
  where
    alone : length lits ≡ 1 → IsLaterAt trail lits trail.depth ⊎ (trail.depth ≡ 0) → trail.depth ≡ 0
    alone one (inl h) = let b = h.behind in let w = h.within in absurd (omega (arith, one, b, w))
    alone one (inr z) = z

stands_false : (entries : List Entry) (lit place : ℕ) → place < length entries → (entry_at entries place).lit ≡ opposite lit → StandsAt entries (variable lit) place
stands_false entries lit place lt is = record { within = lt; is = omega (arith, is) }

-- no later literal is at the depth: then the depth is 0
pub one_left_none : (trail : TrailView) (lits : List ℕ) → IsTrail trail → 0 < length lits → (IsFalseLit (lits_of trail.entries) (get_or lits 0 0) → ⊥) → AreFalseFrom (lits_of trail.entries) lits 1 → IsReady trail.entries trail.depth lits → AreNotAtFrom trail.entries lits trail.depth 1 (length lits) → IsOneLeft trail.entries trail.depth lits
one_left_none trail lits t some left f ready none = one_left trail lits t some left f ready (λ place wide how lt is. at place how lt)
  where
    at : (place : ℕ) → IsLaterAt trail lits trail.depth ⊎ (trail.depth ≡ 0) → place < length trail.entries → (entry_at trail.entries place).level ≡ trail.depth
    at place (inl h) lt = absurd (none.each h.k h.at h.behind h.within h.stands h.level)
    at place (inr z) lt = let low = t.below place no_entry lt in omega (arith, z, low)

-- the second literal is at the depth
pub one_left_top : (trail : TrailView) (lits : List ℕ) → IsTrail trail → 0 < length lits → (IsFalseLit (lits_of trail.entries) (get_or lits 0 0) → ⊥) → AreFalseFrom (lits_of trail.entries) lits 1 → IsReady trail.entries trail.depth lits → ((at : ℕ) → StandsAt trail.entries (variable (get_or lits 1 0)) at → (entry_at trail.entries at).level ≡ trail.depth) → IsOneLeft trail.entries trail.depth lits
one_left_top trail lits t some left f ready top =
    one_left trail lits t some left f ready (λ place wide how lt is. top place (stands_false trail.entries (get_or lits 1 0) place lt is))

-- The swaps.

-- the first place has a literal that isn't false
pub first_left : (trues old new : List ℕ) (place : ℕ) → IsSwap old new 0 place → IsFreePlace trues old 0 place → (IsFalseLit trues (get_or new 0 0) → ⊥) × (0 < length new)
first_left trues old new place s free = (
  λ f. free.left (subst (IsFalseLit trues) s.first f),
  let w = free.within in omega (arith, w, s.size),
)

-- so has the second one
pub two_left : (trues old new : List ℕ) (place : ℕ) → IsSwap old new 1 place → IsFreePlace trues old 1 place → (IsFalseLit trues (get_or old 0 0) → ⊥) → AreTwoLeft trues new
two_left trues old new place s free left =
    let w = free.within in
    let b = free.behind in
    let first : get_or new 0 0 ≡ get_or old 0 0 = s.rest 0 (λ e. absurd (omega (arith, e))) (λ e. absurd (omega (arith, e, b))) in
    record {
      wide = omega (arith, w, b, s.size);
      first = λ f. left (subst (IsFalseLit trues) first f);
      second = λ f. free.left (subst (IsFalseLit trues) s.first f);
    }

-- the later literals are false in other places too
pub later_false : (trues old new : List ℕ) (place : ℕ) → IsSwap old new 1 place → 1 ≤ place → place < length old → AreFalseFrom trues old 1 → AreFalseFrom trues new 1
later_false trues old new place s behind within f = record { each = λ k from to. at k from to (cases_eq k 1) (cases_eq k place) }
  where
    at : (k : ℕ) → 1 ≤ k → k < length new → (k ≡ 1) ⊎ (k ≢ 1) → (k ≡ place) ⊎ (k ≢ place) → IsFalseLit trues (get_or new k 0)
    at k from to (inl e) _ = subst (IsFalseLit trues) (sym s.first ∙ sym (ap (λ n. get_or new n 0) e)) (f.each place behind within)
    at k from to (inr n) (inl e) = subst (IsFalseLit trues) (sym s.second ∙ sym (ap (λ i. get_or new i 0) e)) (f.each 1 (omega arith) (omega arith))
    at k from to (inr n) (inr m) = subst (IsFalseLit trues) (sym (s.rest k n m)) (f.each k from (omega (arith, to, s.size)))

pub first_stays : (trues old new : List ℕ) (place : ℕ) → IsSwap old new 1 place → 1 ≤ place → (IsFalseLit trues (get_or old 0 0) → ⊥) → IsFalseLit trues (get_or new 0 0) → ⊥
first_stays trues old new place s behind left f =
    let first : get_or new 0 0 ≡ get_or old 0 0 = s.rest 0 (λ e. absurd (omega (arith, e))) (λ e. absurd (omega (arith, e, behind))) in
    left (subst (IsFalseLit trues) first f)
