-- A learnt clause is unit at the level that the trail goes back to, and open below it.
use Rattle.std.proofs.Common.{◌≡◌, ◌≢◌, ◌∙◌, ℕ, ◌<◌, ◌≤◌, List, length, take, refl, ap, sym, subst}
use Rattle.std.proofs.Common.{inl, inr, arith}
use Rattle.std.specs.Prelude.{◌⊎◌, Contains}
use Rattle.std.proofs.lemmas.Bool.{cases_lt, cases_eq}
use Rattle.std.proofs.lemmas.List.{length-map, get_or-map, length-take-le}
use Rattle.std.proofs.lemmas.List.Elements.{All-contains}
use Rattle.sat_base.specs.Lit.{variable, opposite}
use Rattle.sat_base.proofs.Opposite.{variable-opposite, opposite-opposite}
use Rattle.trail_core.specs.Trail.{Entry, no_entry, entry_at, lits_of, up_to, StandsAt}
use Rattle.trail_core.specs.UnderTrail.{IsFalseLit, IsUnassigned, IsFalseClause, IsUnitClause}
use Rattle.trail_core.specs.UnderTrail.{IsOpenClause, HasOthersFalse}
use Rattle.propagate.specs.Pairing.{HasFalseAt}
use Rattle.analyze.specs.Graph.{IsOfLevel}
use Rattle.analyze.specs.Learnt.{IsAsserting}
use Rattle.session.proofs.Fronts.{level_at, IsFront, Ascends, front_of, up_to_is, entry_in}

abbrev pub IsOnce : List Entry → Type 0
IsOnce entries = (var i j : ℕ) → StandsAt entries var i → StandsAt entries var j → i ≡ j

-- where a true literal stands, and that what stands there is true
pub place_of_true : (entries : List Entry) (lit : ℕ) → Contains (lits_of entries) lit
    → (place : ℕ) × (place < length entries) × ((entry_at entries place).lit ≡ lit)
place_of_true entries lit (k, lt, is) =
    let k_in : k < length entries = omega (arith, lt, length-map entries (λ (e : Entry). e.lit)) in
    (k, k_in, sym (get_or-map (λ (e : Entry). e.lit) entries k no_entry lit k_in) ∙ is)

pub true_at : (entries : List Entry) (place : ℕ) → place < length entries
    → Contains (lits_of entries) (entry_at entries place).lit
true_at entries place lt = (
  place,
  omega (arith, lt, length-map entries (λ (e : Entry). e.lit)),
  get_or-map
      (λ (e : Entry). e.lit) entries place no_entry (entry_at entries place).lit lt,
)

-- a literal whose variable was assigned above a level is unassigned up to that level
assigned_above : (entries : List Entry) (lit x level high : ℕ) → Ascends entries → IsOnce entries
    → IsOfLevel entries lit high → level < high → variable x ≡ variable lit
    → Contains (lits_of (up_to level entries)) x → ⊥
assigned_above entries lit x level high up once of above same has =
    let (n, front) = front_of entries level up in
    let (k, k_lt, k_is) = place_of_true (take n entries) x
    (subst (λ (es : List Entry). Contains (lits_of es) x)
    (up_to_is entries level n front) has) in
    let k_in : k < n = omega (arith, k_lt, length-take-le n entries front.within) in
    let here : (entry_at entries k).lit ≡ x = ap (λ (e : Entry). e.lit)
    (sym (entry_in entries n k k_in)) ∙ k_is in
    let at_k : StandsAt entries (variable lit) k = record {
      within = omega
          (arith, k_in, front.within);
      is = ap variable here ∙ same;
    } in
    let one : k ≡ of.place = once (variable lit) k of.place at_k of.at in
    let low = front.low k k_in in
    absurd (omega (arith, low, above, of.is, ap (level_at entries) one))

pub unassigned_above : (entries : List Entry) (lit level high : ℕ) → Ascends entries
    → IsOnce entries → IsOfLevel entries lit high → level < high
    → IsUnassigned (lits_of (up_to level entries)) lit
unassigned_above entries lit level high up once of above = record {
  not_true = λ is. assigned_above entries lit lit level high up once of above refl is.stands;
  not_false = λ is. assigned_above entries lit (opposite lit) level high up once of above
      (variable-opposite lit) is.stands;
}

-- a false literal whose variable was assigned up to a level is false up to that level
pub false_up_to : (entries : List Entry) (lit level low : ℕ) → Ascends entries → IsOnce entries
    → IsOfLevel entries lit low → low ≤ level → IsFalseLit (lits_of entries) lit
    → IsFalseLit (lits_of (up_to level entries)) lit
false_up_to entries lit level low up once of le false_now =
    let (n, front) = front_of entries level up in
    let (k, k_lt, k_is) = place_of_true entries (opposite lit) false_now.stands in
    let at_k : StandsAt entries (variable lit) k = record {
      within = k_lt;
      is = ap variable k_is
          ∙ variable-opposite lit;
    } in
    let one : k ≡ of.place = once (variable lit) k of.place at_k of.at in
    let k_in : k < n = in_front n front k k_lt (omega
    (arith, le, of.is, ap (level_at entries) one)) in
    record {
      stands = subst (λ (es : List Entry). Contains (lits_of es) (opposite lit))
          (sym (up_to_is entries level n front))
          (subst (Contains (lits_of (take n entries)))
          (ap (λ (e : Entry). e.lit) (entry_in entries n k k_in) ∙ k_is)
          (true_at (take n entries) k
          (omega (arith, k_in, length-take-le n entries front.within))));
    }
  where
    in_front : (n : ℕ) → IsFront entries level n → (k : ℕ) → k < length entries
        → level_at entries k ≤ level → k < n
    in_front n front k lt low = at (cases_lt k n)
      where
        at : (k < n) ⊎ (n ≤ k) → k < n
        at (inl yes_in) = yes_in
        at (inr beyond) = let h = front.high.each k beyond lt in absurd (omega (arith, h, low))

-- a false literal of a level stays false at it where the trail goes back to that level
pub false_at : (entries : List Entry) (clause : List ℕ) (lit level : ℕ) → Ascends entries
    → IsOnce entries → Contains clause lit → IsOfLevel entries lit level
    → IsFalseLit (lits_of entries) lit → HasFalseAt (up_to level entries) clause level
false_at entries clause lit level up once has of false_now =
    let (n, front) = front_of entries level up in
    let taken = up_to_is entries level n front in
    let still = false_up_to entries lit level level up once of (omega arith) false_now in
    let (k, k_lt, k_is) = place_of_true (up_to level entries) (opposite lit) still.stands in
    let k_in : k < n = omega (arith, k_lt, ap length taken, length-take-le n entries front.within) in
    let same : entry_at (up_to level entries) k ≡ entry_at entries k = ap
    (λ (es : List Entry). entry_at es k) taken ∙ entry_in entries n k k_in in
    let at_k : StandsAt entries (variable lit) k = record {
      within = omega (arith, k_in, front.within);
      is = ap (λ (e : Entry). variable e.lit) (sym same) ∙ ap variable k_is ∙ variable-opposite lit;
    } in
    let one : k ≡ of.place = once (variable lit) k of.place at_k of.at in
    record {
      place = k;
      within = k_lt;
      stands = subst (Contains clause) (sym (ap opposite k_is ∙ opposite-opposite lit)) has;
      is = ap (λ (e : Entry). e.level) same ∙ ap (level_at entries) one ∙ of.is;
    }

-- below the level that the trail goes back to, two literals are unassigned
pub open_below : (entries : List Entry) (depth back level : ℕ) (clause : List ℕ) → Ascends entries
    → IsOnce entries → IsAsserting entries depth back clause → level < back
    → IsOpenClause (lits_of (up_to level entries)) clause
open_below entries depth back level clause up once asserting lt = at asserting.reached
  where
    free_lit : IsUnassigned (lits_of (up_to level entries)) asserting.lit
    free_lit = unassigned_above entries asserting.lit level depth up once asserting.present
        (omega (arith, lt, asserting.below))

    at : (back ≡ 0) ⊎ ((other : ℕ) × Contains clause other × IsOfLevel entries other back)
        → IsOpenClause (lits_of (up_to level entries)) clause
    at (inl none) = absurd (omega (arith, none, lt))
    at (inr (other, stands, of)) = record {
      not_false = λ all. free_lit.not_false (All-contains
          (IsFalseLit (lits_of (up_to level entries))) clause asserting.lit all.each asserting.stands);
      not_unit = λ lit unit. by_lit lit unit (cases_eq asserting.lit lit);
    }
      where
        free_other : IsUnassigned (lits_of (up_to level entries)) other
        free_other = unassigned_above entries other level back up once of lt

        differs : other ≢ asserting.lit
        differs same =
            let both : of.place ≡ asserting.present.place = once
            (variable other) of.place asserting.present.place of.at
            (subst (λ x. StandsAt entries (variable x) asserting.present.place)
            (sym same) asserting.present.at) in
            absurd (omega (
              arith,
              of.is,
              asserting.present.is,
              ap
                  (level_at entries) both,
              asserting.below,
            ))

        by_lit : (lit : ℕ) → IsUnitClause (lits_of (up_to level entries)) clause lit
            → (asserting.lit ≡ lit) ⊎ (asserting.lit ≡ lit → ⊥) → ⊥
        by_lit lit unit (inl is) = free_other.not_false
            (unit.rest.others other stands (λ e. differs (e ∙ sym is)))
        by_lit lit unit (inr n) = free_lit.not_false
            (unit.rest.others asserting.lit asserting.stands n)

-- at the level that the trail goes back to, the clause forces its literal of the present level
pub forces : (entries : List Entry) (depth back : ℕ) (clause : List ℕ) → Ascends entries
    → IsOnce entries → (a : IsAsserting entries depth back clause)
    → IsFalseClause (lits_of entries) clause
    → HasOthersFalse (lits_of (up_to back entries)) clause a.lit
forces entries depth back clause up once a all_false = record {
  stands = a.stands;
  others = λ other has differs.
      let o = a.others other has differs in
      false_up_to entries other back o.0 up once o.1 o.3
      (All-contains (IsFalseLit (lits_of entries)) clause other all_false.each has);
}
