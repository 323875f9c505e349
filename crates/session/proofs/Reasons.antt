-- Literals of level 0, their reasons and their unit clauses.
use Rattle.std.proofs.Common.{◌≡◌, ◌≢◌, ◌∙◌, ℕ, ◌+◌, ◌-◌, ◌<◌, ◌≤◌, List, [], ◌∷◌, length, take}
use Rattle.std.proofs.Common.{set, Option, None, Some, refl, ap, sym, subst, inl, inr, arith}
use Rattle.std.proofs.Common.{get_or-set_same, get_or-set_other}
use Rattle.std.specs.Prelude.{◌⊎◌, ◌↔◌, Contains}
use Rattle.std.proofs.lemmas.Bool.{cases_lt, cases_eq}
use Rattle.std.proofs.lemmas.List.{length-take-le}
use Rattle.sat_base.specs.Lit.{variable, opposite}
use Rattle.sat_base.specs.declared.origins.Ref.{Ref}
use Rattle.sat_base.specs.declared.origins.Ref.TheVariants.{Own, Input}
use Rattle.sat_base.proofs.Members.{Contains-cases}
use Rattle.sat_base.proofs.Opposite.{variable-opposite, opposite-opposite, opposite-differs}
use Rattle.trace_core.specs.Known.{Known}
use Rattle.trace_core.specs.Trace.{known_of}
use Rattle.trace_core.specs.declared.derivation.Step.{Step}
use Rattle.clause_arena.specs.Arena.{ArenaClause, clause_at, lits_of_each}
use Rattle.trail_core.specs.Trail.{Entry, TrailView, IsTrail, entry_at, lits_of}
use Rattle.trail_core.specs.UnderTrail.{HasOthersFalse, IsForced}
use Rattle.propagate.proofs.Whole.{length-lits_of_each, lits_at-each}
use Rattle.analyze.specs.Table.{IsNameOf, unit_of, tag_of_unit}
use Rattle.session.specs.Units.{IsNamed, KnowsOpposites}
use Rattle.session.proofs.Fronts.{entry_in}
use Rattle.session.proofs.Asserted.{place_of_true, true_at}

-- the clause that forced an entry
pub record IsReason (clauses : List ArenaClause) (entries : List Entry)
    (place id : ℕ) : Type 0 where
  pub known : id < length clauses
  pub rest : HasOthersFalse (lits_of (take place entries)) (clause_at clauses id).lits
      (entry_at entries place).lit

pub reason_is : (clauses : List ArenaClause) (entries : List Entry) (place id : ℕ)
    → IsForced (lits_of_each clauses) (take place entries) (entry_at entries place)
    → (entry_at entries place).reason ≡ Some id → IsReason clauses entries place id
reason_is clauses entries place id forced is = subst (IsReason clauses entries place) same (record {
  known = known;
  rest = subst (λ (lits : List ℕ). HasOthersFalse (lits_of (take place entries)) lits
      (entry_at entries place).lit) (lits_at-each clauses forced.id known) forced.rest;
})
  where
    known : forced.id < length clauses
    known = omega (arith, forced.known, length-lits_of_each clauses)

    same : forced.id ≡ id
    same = let both : Some forced.id ≡ Some id = sym forced.reason ∙ is in cc

-- what is true before a place isn't the literal at the place
not_before : (trail : TrailView) (place x : ℕ) → IsTrail trail → place < length trail.entries
    → variable x ≡ variable (entry_at trail.entries place).lit
    → Contains (lits_of (take place trail.entries)) x → ⊥
not_before trail place x is lt same has =
    let (k, k_lt, k_is) = place_of_true (take place trail.entries) x has in
    let k_in : k < place = omega (
      arith,
      k_lt,
      length-take-le place trail.entries
          (omega (arith, lt)),
    ) in
    let here : (entry_at trail.entries k).lit ≡ x = ap (λ (e : Entry). e.lit)
    (sym (entry_in trail.entries place k k_in)) ∙ k_is in
    let one : k ≡ place = is.once (variable x) k place
    (record { within = omega (arith, k_in, lt); is = ap variable here })
    (record { within = lt; is = sym same }) in
    omega (arith, one, k_in)

-- what is true before a place is true
pub true_before : (entries : List Entry) (place x : ℕ) → place < length entries
    → Contains (lits_of (take place entries)) x → Contains (lits_of entries) x
true_before entries place x lt has =
    let (k, k_lt, k_is) = place_of_true (take place entries) x has in
    let k_in : k < place = omega (arith, k_lt, length-take-le place entries (omega (arith, lt))) in
    subst (Contains (lits_of entries)) (ap (λ (e : Entry). e.lit)
    (sym (entry_in entries place k k_in)) ∙ k_is) (true_at entries k (omega (arith, k_in, lt)))

-- no reason has both signs of a variable
pub proper_reason : (clauses : List ArenaClause) (trail : TrailView) (place id : ℕ) → IsTrail trail
    → place < length trail.entries → IsReason clauses trail.entries place id
    → (x : ℕ) → Contains (clause_at clauses id).lits x
    → Contains (clause_at clauses id).lits (opposite x) → ⊥
proper_reason clauses trail place id is lt reason x has has_opposite = at (cases_eq x lit)
    (cases_eq (opposite x) lit)
  where
    lit : ℕ
    lit = (entry_at trail.entries place).lit

    at : (x ≡ lit) ⊎ (x ≡ lit → ⊥) → (opposite x ≡ lit) ⊎ (opposite x ≡ lit → ⊥) → ⊥
    at (inl same) _ =
        let before = (reason.rest.others (opposite x) has_opposite
        (λ e. opposite-differs x (e ∙ sym same))).stands in
        not_before trail place x is lt (ap variable same)
        (subst (Contains (lits_of (take place trail.entries))) (opposite-opposite x) before)
    at (inr differs) (inl same) =
        let before = (reason.rest.others x has differs).stands in
        not_before trail place (opposite x) is lt (ap variable same) before
    at (inr differs) (inr apart) =
        let a = (reason.rest.others x has differs).stands in
        let b = subst (Contains (lits_of (take place trail.entries))) (opposite-opposite x)
        (reason.rest.others (opposite x) has_opposite apart).stands in
        is.consistent x (true_before trail.entries place x lt b)
        (true_before trail.entries place (opposite x) lt a)

-- the opposites of a reason's other literals are known
pub opposites_known : (table : Ref → Option Known) (clauses : List ArenaClause)
    (entries : List Entry) (units : List Ref) (tags : List ℕ) (place id lit : ℕ)
    → place < length entries → lit ≡ (entry_at entries place).lit
    → IsReason clauses entries place id → IsNamed table entries units tags place
    → KnowsOpposites table units tags (Some lit) (clause_at clauses id).lits
opposites_known table clauses entries units tags place id lit lt is reason named = λ other has differs.
    let before = (reason.rest.others other has (λ same. differs
    (ap Some (is ∙ sym same)))).stands in
    let (k, k_lt, k_is) = place_of_true (take place entries) (opposite other) before in
    let k_in : k < place = omega (arith, k_lt, length-take-le place entries (omega (arith, lt))) in
    let here : (entry_at entries k).lit ≡ opposite other = ap (λ (e : Entry). e.lit)
    (sym (entry_in entries place k k_in)) ∙ k_is in
    subst (λ var. IsNameOf table (unit_of units var) (opposite other ∷ []) (tag_of_unit tags var))
    (ap variable here ∙ variable-opposite other)
    (subst (λ y. IsNameOf table (unit_of units (variable (entry_at entries k).lit)) (y ∷ [])
    (tag_of_unit tags (variable (entry_at entries k).lit))) here (named.known k k_in))

-- a reason of one literal is the unit clause itself
one_member : (lits : List ℕ) (lit : ℕ) → length lits ≡ 1 → Contains lits lit → (x : ℕ)
    → Contains lits x ↔ Contains (lit ∷ []) x
one_member [] lit size has x = absurd (omega (arith, size))
one_member (y ∷ z ∷ lits) lit size has x = absurd (omega (arith, size))
one_member (y ∷ []) lit size has x = elim (Contains-cases y lit [] has) [
  | inl same ↦ subst (λ w. Contains (y ∷ []) x ↔ Contains (w ∷ []) x) same (λ h. h, λ h. h)
  | inr (k, lt, is) ↦ absurd (omega (arith, lt))
]

pub name_of_reason : (table : Ref → Option Known) (clauses : List ArenaClause)
    (entries : List Entry) (place id lit : ℕ) → lit ≡ (entry_at entries place).lit
    → IsReason clauses entries place id
    → IsNameOf table (clause_at clauses id).origin (clause_at clauses id).lits
    (clause_at clauses id).tag → length (clause_at clauses id).lits ≡ 1
    → IsNameOf table (clause_at clauses id).origin (lit ∷ []) (clause_at clauses id).tag
name_of_reason table clauses entries place id lit is reason name size = record {
  named = name.named;
  is = name.is;
  members = λ x.
      let one = one_member (clause_at clauses id).lits lit size
      (subst (Contains (clause_at clauses id).lits) (sym is) reason.rest.stands) x in
      (λ h. one.0 ((name.members x).0 h), λ h. (name.members x).1 (one.1 h));
  same_tag = name.same_tag;
}

-- a step's name
pub name_of_step : (table : Ref → Option Known) (number : ℕ) (step : Step) (lit tag : ℕ)
    → table (Own number) ≡ Some (known_of step) → step.clause ≡ lit ∷ [] → step.tag ≡ tag
    → IsNameOf table (Own number) (lit ∷ []) tag
name_of_step table number step lit tag is clause_is tag_is = record {
  named = known_of step;
  is = is;
  members = λ x. subst (λ (lits : List ℕ). Contains step.clause x ↔ Contains lits x) clause_is
      (λ h. h, λ h. h);
  same_tag = tag_is;
}

-- one more unit clause is named
pub name_one : (table : Ref → Option Known) (trail : TrailView) (units units' : List Ref)
    (tags tags' : List ℕ) (place : ℕ) (name : Ref) (tag : ℕ) → IsTrail trail
    → place < length trail.entries → (entry_at trail.entries place).level ≡ 0
    → IsNamed table trail.entries units tags place
    → IsNameOf table name ((entry_at trail.entries place).lit ∷ []) tag
    → variable (entry_at trail.entries place).lit ≤ length units
    → variable (entry_at trail.entries place).lit ≤ length tags
    → units' ≡ set units (variable (entry_at trail.entries place).lit - 1) name
    → tags' ≡ set tags (variable (entry_at trail.entries place).lit - 1) tag
    → IsNamed table trail.entries units' tags' (place + 1)
name_one table trail units units' tags tags' place name tag is lt zero named one units_room tags_room units_are tags_are =
    subst (λ us. IsNamed table trail.entries us tags' (place + 1)) (sym units_are) (subst (λ ts. IsNamed table trail.entries (set units (var - 1) name) ts (place + 1)) (sym tags_are) (record {
      within = omega (arith, lt);
      zero = λ k k_lt. zero_at k (cases_lt k place) k_lt;
      known = λ k k_lt. known_at k (cases_lt k place) k_lt;
    }))
  where
    var : ℕ
    var = variable (entry_at trail.entries place).lit

    reserved : (k : ℕ) → k < length trail.entries → 1 ≤ variable (entry_at trail.entries k).lit
    reserved k k_lt = (is.reserved k (record { lit = 0; level = 0; reason = None }) k_lt).0

    zero_at : (k : ℕ) → (k < place) ⊎ (place ≤ k) → k < place + 1
        → (entry_at trail.entries k).level ≡ 0
    zero_at k (inl before) k_lt = named.zero k before
    zero_at k (inr here) k_lt = subst (λ n. (entry_at trail.entries n).level ≡ 0)
        (omega (arith, here, k_lt)) zero

    known_at : (k : ℕ) → (k < place) ⊎ (place ≤ k) → k < place + 1
        → IsNameOf table (unit_of (set units (var - 1) name)
        (variable (entry_at trail.entries k).lit)) ((entry_at trail.entries k).lit ∷ [])
        (tag_of_unit (set tags (var - 1) tag) (variable (entry_at trail.entries k).lit))
    known_at k (inr here) k_lt =
        subst (λ n. IsNameOf table (unit_of (set units (var - 1) name)
        (variable (entry_at trail.entries n).lit)) ((entry_at trail.entries n).lit ∷ [])
        (tag_of_unit (set tags (var - 1) tag) (variable (entry_at trail.entries n).lit)))
        (let e : place ≡ k = omega (arith, here, k_lt) in e)
        (subst (λ n. IsNameOf table n ((entry_at trail.entries place).lit ∷ [])
        (tag_of_unit (set tags (var - 1) tag) var))
        (sym (get_or-set_same units (var - 1) name (Input 0)
        (omega (arith, reserved place lt, units_room))))
        (subst (λ n. IsNameOf table name ((entry_at trail.entries place).lit ∷ []) n)
        (sym (get_or-set_same tags (var - 1) tag 0
        (omega (arith, reserved place lt, tags_room)))) one))
    known_at k (inl before) k_lt =
        let other : ℕ = variable (entry_at trail.entries k).lit in
        let differs : other - 1 ≢ var - 1 = λ e. (let same : k
        ≡ place = is.once other k place (record {
          within = omega (arith, before, lt);
          is = refl;
        }) (record {
          within = lt;
          is = omega
              (arith, e, reserved k (omega (arith, before, lt)), reserved place lt);
        }) in omega
        (arith, same, before)) in
        subst (λ n. IsNameOf table n ((entry_at trail.entries k).lit ∷ [])
        (tag_of_unit (set tags (var - 1) tag) other))
        (sym (get_or-set_other units (var - 1) (other - 1) name (Input 0) differs))
        (subst (λ n. IsNameOf table (unit_of units other) ((entry_at trail.entries k).lit ∷ []) n)
        (sym (get_or-set_other tags (var - 1) (other - 1) tag 0 differs))
        (named.known k before))

-- names stay where the table grows
pub name_stays : (table more : Ref → Option Known) (name : Ref) (lits : List ℕ) (tag : ℕ)
    → ((one : Ref) (known : Known) → table one ≡ Some known → more one ≡ Some known)
    → IsNameOf table name lits tag → IsNameOf more name lits tag
name_stays table more name lits tag grows is = record {
  named = is.named;
  is = grows name is.named is.is;
  members = is.members;
  same_tag = is.same_tag;
}

pub named_stays : (table more : Ref → Option Known) (entries : List Entry) (units : List Ref)
    (tags : List ℕ) (n : ℕ) → ((one : Ref) (known : Known) → table one ≡ Some known
    → more one ≡ Some known) → IsNamed table entries units tags n
    → IsNamed more entries units tags n
named_stays table more entries units tags n grows named = record {
  within = named.within;
  zero = named.zero;
  known = λ place lt. name_stays table more (unit_of units (variable (entry_at entries place).lit))
      ((entry_at entries place).lit ∷ []) (tag_of_unit tags
      (variable (entry_at entries place).lit)) grows (named.known place lt);
}
