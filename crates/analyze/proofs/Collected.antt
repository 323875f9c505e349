-- What is collected from places: a clause, a highest level, and variables.
use Rattle.std.proofs.Common.{◌≡◌, ◌≢◌, ◌∙◌, ℕ, ◌+◌, ◌<◌, ◌≤◌, List, [], ◌∷◌, ◌++◌, map, take, length, get_or, ap, subst, sym, inl, inr, arith, Result, Ok, Err}
use Rattle.std.specs.Prelude.{Contains, ◌⊎◌, ◌↔◌, IfOk}
use Rattle.std.proofs.lemmas.List.{take_all, take_more}
use Rattle.std.proofs.lemmas.List.Elements.{Contains-push, Contains-push_cases, Contains-append_left}
use Rattle.sat_base.specs.Lit.{variable, opposite}
use Rattle.sat_base.proofs.Opposite.{opposite-opposite}
use Rattle.sat_base.proofs.Members.{Contains-map, Contains-from_map}
use Rattle.trail_core.specs.Trail.{Entry}
use Rattle.analyze.specs.Graph.{IsVariableAbove, lit_at, level_at}
use Rattle.analyze.proofs.Taught.{IsClauseOf}

pub ok_weaker : {X E : Type 0} (r : Result X E) (P Q : X → Type 0) → ((x : X) → P x → Q x) → IfOk r P → IfOk r Q
ok_weaker (Ok x) P Q f h = f x h
ok_weaker (Err e) P Q f h = h

-- the clause of the negations of the literals at the places
pub negations : (lit_of : ℕ → ℕ) (places lits : List ℕ) → lits ≡ map (λ place. opposite (lit_of place)) places → (clause : List ℕ) → ((lit : ℕ) → Contains clause lit ↔ Contains lits lit) → IsClauseOf clause lit_of places
negations lit_of places lits is clause members lit = (
  λ has.
      let m = Contains-from_map (λ place. opposite (lit_of place)) places lit (subst (λ (xs : List ℕ). Contains xs lit) is ((members lit).0 has)) in
      subst (Contains (map lit_of places)) (sym (opposite-opposite (lit_of m.0)) ∙ ap opposite m.2) (Contains-map lit_of places m.0 m.1),
  λ has.
      let m = Contains-from_map lit_of places (opposite lit) has in
      (members lit).1 (subst (λ (xs : List ℕ). Contains xs lit) (sym is) (subst (Contains (map (λ place. opposite (lit_of place)) places)) (ap opposite m.2 ∙ opposite-opposite lit) (Contains-map (λ place. opposite (lit_of place)) places m.0 m.1))),
)

pub take_grows : (places : List ℕ) (i : ℕ) → i < length places → (place : ℕ) → Contains (take (i + 1) places) place → Contains (take i places) place ⊎ (get_or places i 0 ≡ place)
take_grows places i lt place has = Contains-push_cases (take i places) (get_or places i 0) place (subst (λ (xs : List ℕ). Contains xs place) (take_more places i 0 lt) has)

pub in_take : (places : List ℕ) (i place : ℕ) → length places ≤ i → Contains places place → Contains (take i places) place
in_take places i place le has = subst (λ (xs : List ℕ). Contains xs place) (sym (take_all i places le)) has

-- one more place counts, unless it is the one that doesn't
pub bound_more : (level_of : ℕ → ℕ) (places : List ℕ) (i but highest highest' : ℕ) → i < length places → highest ≤ highest' → (get_or places i 0 ≢ but → level_of (get_or places i 0) ≤ highest')
    → ((place : ℕ) → Contains (take i places) place → place ≢ but → level_of place ≤ highest) → (place : ℕ) → Contains (take (i + 1) places) place → place ≢ but → level_of place ≤ highest'
bound_more level_of places i but highest highest' lt grows here before place has differs = old_or_new (take_grows places i lt place has)
  where
    old_or_new : Contains (take i places) place ⊎ (get_or places i 0 ≡ place) → level_of place ≤ highest'
    old_or_new (inl old) = omega (arith, before place old differs)
    old_or_new (inr same) = subst (λ n. level_of n ≤ highest') same (here (λ is. differs (sym same ∙ is)))

pub reached_more : (level_of : ℕ → ℕ) (places : List ℕ) (place but highest highest' : ℕ) → Contains places place → place ≢ but → (highest' ≡ highest) ⊎ (highest' ≡ level_of place)
    → (highest ≡ 0) ⊎ ((k : ℕ) × Contains places k × (k ≢ but) × (level_of k ≡ highest)) → (highest' ≡ 0) ⊎ ((k : ℕ) × Contains places k × (k ≢ but) × (level_of k ≡ highest'))
reached_more level_of places place but highest highest' has differs (inl same) before = subst (λ h. (h ≡ 0) ⊎ ((k : ℕ) × Contains places k × (k ≢ but) × (level_of k ≡ h))) (sym same) before
reached_more level_of places place but highest highest' has differs (inr here) before = inr (place, has, differs, sym here)

-- one more place above level 0 brings its variable
pub variable_more : (entries : List Entry) (analyzed : List ℕ) (i : ℕ) (vars vars' : List ℕ)
    → i < length analyzed → 0 < level_at entries (get_or analyzed i 0)
    → vars' ≡ vars ++ variable (lit_at entries (get_or analyzed i 0)) ∷ []
    → ((var : ℕ) → Contains vars var ↔ IsVariableAbove entries (take i analyzed) var) → (var : ℕ)
    → Contains vars' var ↔ IsVariableAbove entries (take (i + 1) analyzed) var
variable_more entries analyzed i vars vars' lt above pushed before var = (
  λ has. to (Contains-push_cases vars (variable (lit_at entries (get_or analyzed i 0))) var
      (subst (λ (xs : List ℕ). Contains xs var) pushed has)),
  λ v. subst (λ (xs : List ℕ). Contains xs var) (sym pushed)
      (back v (take_grows analyzed i lt v.place v.stands)),
)
  where
    grows : take (i + 1) analyzed ≡ take i analyzed ++ get_or analyzed i 0 ∷ []
    grows = take_more analyzed i 0 lt

    to : Contains vars var ⊎ (variable (lit_at entries (get_or analyzed i 0)) ≡ var)
        → IsVariableAbove entries (take (i + 1) analyzed) var
    to (inl old) =
        let v = (before var).0 old in
        record {
          place = v.place;
          stands =
              subst (λ (xs : List ℕ). Contains xs v.place) (sym grows)
              (Contains-append_left (take i analyzed) (get_or analyzed i 0 ∷ []) v.place v.stands);
          is = v.is;
          above = v.above;
        }
    to (inr same) = record {
      place = get_or analyzed i 0;
      stands =
          subst (λ (xs : List ℕ). Contains xs (get_or analyzed i 0)) (sym grows)
          (Contains-push (take i analyzed) (get_or analyzed i 0));
      is = same;
      above = above;
    }

    back : (v : IsVariableAbove entries (take (i + 1) analyzed) var)
        → Contains (take i analyzed) v.place ⊎ (get_or analyzed i 0 ≡ v.place)
        → Contains (vars ++ variable (lit_at entries (get_or analyzed i 0)) ∷ []) var
    back v (inl old) =
        Contains-append_left vars (variable (lit_at entries (get_or analyzed i 0)) ∷ []) var
        ((before var).1 (record { place = v.place; stands = old; is = v.is; above = v.above }))
    back v (inr same) =
        subst (Contains (vars ++ variable (lit_at entries (get_or analyzed i 0)) ∷ []))
        (ap (λ n. variable (lit_at entries n)) same ∙ v.is)
        (Contains-push vars (variable (lit_at entries (get_or analyzed i 0))))

-- a place of level 0 brings none
pub variable_skip : (entries : List Entry) (analyzed : List ℕ) (i : ℕ) (vars : List ℕ)
    → i < length analyzed → level_at entries (get_or analyzed i 0) ≤ 0
    → ((var : ℕ) → Contains vars var ↔ IsVariableAbove entries (take i analyzed) var) → (var : ℕ)
    → Contains vars var ↔ IsVariableAbove entries (take (i + 1) analyzed) var
variable_skip entries analyzed i vars lt low before var = (
  λ has.
      let v = (before var).0 has in
      record {
        place = v.place;
        stands =
            subst (λ (xs : List ℕ). Contains xs v.place) (sym (take_more analyzed i 0 lt))
            (Contains-append_left (take i analyzed) (get_or analyzed i 0 ∷ []) v.place v.stands);
        is =
            v.is;
        above = v.above;
      },
  λ v. back v (take_grows analyzed i lt v.place v.stands),
)
  where
    back : (v : IsVariableAbove entries (take (i + 1) analyzed) var)
        → Contains (take i analyzed) v.place ⊎ (get_or analyzed i 0 ≡ v.place) → Contains vars var
    back v (inl old) = (before var).1 (record { place = v.place; stands = old; is = v.is; above = v.above })
    back v (inr same) = let low' : level_at entries v.place ≤ 0 = subst (λ n. level_at entries n ≤ 0) same low in absurd (omega (arith, v.above))

pub variable_whole : (entries : List Entry) (analyzed : List ℕ) (i : ℕ) (vars vars' : List ℕ)
    → length analyzed ≤ i → ((var : ℕ) → Contains vars' var ↔ Contains vars var)
    → ((var : ℕ) → Contains vars var ↔ IsVariableAbove entries (take i analyzed) var)
    → (var : ℕ) → Contains vars' var ↔ IsVariableAbove entries analyzed var
variable_whole entries analyzed i vars vars' le same all var =
    subst (λ (xs : List ℕ). Contains vars' var ↔ IsVariableAbove entries xs var)
    (take_all i analyzed le) (
      λ has. (all var).0 ((same var).0 has),
      λ v. (same var).1 ((all var).1 v),
    )
