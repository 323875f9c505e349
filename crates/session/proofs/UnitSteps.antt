-- Unit clauses take false literals out of a clause.
use Rattle.std.proofs.Common.{◌≡◌, ◌≢◌, ◌∙◌, ℕ, zero, suc, ◌+◌, ◌<◌, ◌≤◌, List, [], ◌∷◌, ◌++◌}
use Rattle.std.proofs.Common.{length, take, map, filter, max, Option, None, Some, Bool, true, false}
use Rattle.std.proofs.Common.{refl, ap, sym, subst, inl, inr, arith, get_or}
use Rattle.std.specs.Prelude.{◌⊎◌, ◌↔◌, ◌==◌, not, Contains, IsTrue, IsSome, cond}
use Rattle.std.proofs.lemmas.Bool.{cases_eq}
use Rattle.std.proofs.lemmas.Bool.Decides.{nat_tests}
use Rattle.std.proofs.lemmas.List.{map_push, append-nil, append_assoc, length_push, take_more}
use Rattle.std.proofs.lemmas.List.{take_all}
use Rattle.std.proofs.lemmas.List.Elements.{Contains-append_cases, Contains-append_left}
use Rattle.std.proofs.lemmas.List.Elements.{Contains-append_right, filter-append}
use Rattle.sat_base.specs.Lit.{variable, opposite}
use Rattle.sat_base.specs.declared.origins.Ref.{Ref}
use Rattle.sat_base.proofs.Members.{Contains-here, Contains-there, Contains-cases, Contains-map}
use Rattle.sat_base.proofs.Members.{Contains-from_map, Contains-filter, All-from_members}
use Rattle.sat_base.proofs.Opposite.{opposite-opposite, opposite-injective, opposite-differs}
use Rattle.trace_core.specs.Known.{Known, clause_of, tag_of}
use Rattle.trace_core.specs.Propagation.{IsUnit, IsFalsified, ReachesConflict, IsDerived}
use Rattle.trace_core.specs.Trace.{IsOkStep, greatest}
use Rattle.trace_core.specs.declared.derivation.Step.{Step}
use Rattle.clause_arena.specs.Arena.{HasNoRepeat}
use Rattle.analyze.specs.Table.{IsNameOf, unit_of, tag_of_unit}
use Rattle.session.specs.Units.{is_kept, others_of, only_kept, KnowsOpposites}
use Rattle.session.proofs.Lists.{map_same, map_map}
use Rattle.trace_core.proofs.Items.{Contains-from_filter}
use Rattle.trace_core.proofs.TagLemmas.{greatest_push}

-- no item stands twice
abbrev pub AreApart : List ℕ → Type 0
AreApart [] = Unit {0}
AreApart (x ∷ xs) = (Contains xs x → ⊥) × AreApart xs

pub apart : (lits : List ℕ) → HasNoRepeat lits → AreApart lits
apart [] distinct = tt
apart (x ∷ xs) distinct = (
  λ (k, lt, is). let zero_is : 0 ≡ suc k = distinct.each 0 (suc k) (omega arith)
      (omega (arith, lt)) (sym (get_or_any xs k lt x is)) in absurd (omega (arith, zero_is)),
  apart xs (record {
    each = λ i j i_in j_in same. let e = distinct.each (suc i) (suc j)
        (omega (arith, i_in)) (omega (arith, j_in)) same in omega (arith, e);
  }),
)
  where
    get_or_any : (xs : List ℕ) (k : ℕ) → k < length xs → (x : ℕ) → get_or xs k x ≡ x
        → get_or xs k 0 ≡ x
    get_or_any [] k lt x is = absurd (omega (arith, lt))
    get_or_any (y ∷ ys) zero lt x is = is
    get_or_any (y ∷ ys) (suc k) lt x is = get_or_any ys k (omega (arith, lt)) x is

apart_filter : (p : ℕ → Bool) (xs : List ℕ) → AreApart xs → AreApart (filter p xs)
apart_filter p [] a = tt
apart_filter p (x ∷ xs) a = by_test (p x) (apart_filter p xs a.1)
  where
    by_test : (b : Bool) → AreApart (filter p xs)
        → AreApart (cond b (x ∷ filter p xs) (filter p xs))
    by_test true rest = (λ has. a.0 (Contains-from_filter p xs x has).0, rest)
    by_test false rest = rest

goes_on : (set hint : List ℕ) (lit : ℕ) (more : List (List ℕ)) → 0 < length more
    → IsUnit set hint lit → ReachesConflict (set ++ lit ∷ []) more
    → ReachesConflict set (hint ∷ more)
goes_on set hint lit [] some unit rest = absurd (omega (arith, some))
goes_on set hint lit (next ∷ more) some unit rest = (lit, unit, rest)

-- Unit clauses of the opposites, one after another, and then a clause that they falsify.
reaches : (unit : ℕ → List ℕ) (rest set last : List ℕ)
    → ((lit : ℕ) → Contains rest lit → (x : ℕ) → Contains (unit lit) x ↔ Contains
    (opposite lit ∷ []) x) → AreApart rest
    → ((lit : ℕ) → Contains rest lit → (Contains set lit → ⊥) × (Contains set (opposite lit) → ⊥))
    → ((x y : ℕ) → Contains rest x → Contains rest y → opposite x ≢ y)
    → IsFalsified (set ++ map opposite rest) last → ReachesConflict set (map unit rest ++ last ∷ [])
reaches unit [] set last each apart_ok free cross final = subst
    (λ (xs : List ℕ). IsFalsified xs last) (append-nil set) final
reaches unit (x ∷ rest) set last each apart_ok free cross final =
    goes_on set (unit x) (opposite x) (map unit rest ++ last ∷ [])
    (omega (arith, length_push (map unit rest) last))
    (record {
      stands = (each x (Contains-here x rest) (opposite x)).1 (Contains-here (opposite x) []);
      not_false = λ has. (free x (Contains-here x rest)).0
          (subst (Contains set) (opposite-opposite x) has);
      not_true = (free x (Contains-here x rest)).1;
      others_false = λ other has differs. absurd (only_one (opposite x) other
          ((each x (Contains-here x rest) other).0 has) differs);
    })
    (reaches unit rest (set ++ opposite x ∷ []) last
    (λ lit has. each lit (Contains-there x lit rest has)) apart_ok.1
    (λ lit has. (not_there lit has, not_opposite lit has))
    (λ y z y_in z_in. cross y z (Contains-there x y rest y_in) (Contains-there x z rest z_in))
    (subst (λ (xs : List ℕ). IsFalsified xs last)
    (sym (append_assoc set (opposite x ∷ []) (map opposite rest))) final))
  where
    only_one : (y other : ℕ) → Contains (y ∷ []) other → other ≢ y → ⊥
    only_one y other has differs = elim (Contains-cases y other [] has) [
      | inl same ↦ differs
          (sym same)
      | inr (k, lt, is) ↦ omega (arith, lt)
    ]

    pushed : (y z : ℕ) → Contains (set ++ y ∷ []) z → Contains set z ⊎ (y ≡ z)
    pushed y z has = elim (Contains-append_cases set (y ∷ []) z has) [
      | inl old ↦ inl old
      | inr new ↦ (elim (Contains-cases y z [] new) [
        | inl same ↦ inr same
        | inr
            (k, lt, is) ↦ absurd (omega (arith, lt))
      ])
    ]

    not_there : (lit : ℕ) → Contains rest lit → Contains (set ++ opposite x ∷ []) lit → ⊥
    not_there lit has there = elim (pushed (opposite x) lit there) [
      | inl old ↦ (free lit (Contains-there x lit rest has)).0 old
      | inr same ↦ cross x lit (Contains-here x rest) (Contains-there x lit rest has) same
    ]

    not_opposite : (lit : ℕ) → Contains rest lit → Contains (set ++ opposite x ∷ []) (opposite lit)
        → ⊥
    not_opposite lit has there = elim (pushed (opposite x) (opposite lit) there) [
      | inl old ↦ (free lit (Contains-there x lit rest has)).1 old
      | inr same ↦ apart_ok.0 (subst (Contains rest) (sym (opposite-injective x lit same)) has)
    ]

-- which literals are others
differs_from : (kept : Option ℕ) (lit : ℕ) → IsTrue (not (is_kept kept lit)) → kept ≢ Some lit
differs_from None lit pass is = absurd (cc)
differs_from (Some k) lit pass is =
    let same : k ≡ lit = cc in
    let hit : (k == lit) ≡ true = grind (arith, nat_tests, same) in
    absurd (cc)

pub other_is : (kept : Option ℕ) (lits : List ℕ) (lit : ℕ) → Contains (others_of kept lits) lit
    → Contains lits lit × (kept ≢ Some lit)
other_is kept lits lit has = let p = Contains-from_filter (λ x. not (is_kept kept x)) lits lit has in
    (p.0, differs_from kept lit p.1)

kept_or_other : (kept : Option ℕ) (lits : List ℕ) (lit : ℕ) → Contains lits lit
    → Contains (only_kept kept) lit ⊎ Contains (others_of kept lits) lit
kept_or_other None lits lit has = inr (Contains-filter
    (λ x. not (is_kept None x)) lits lit has refl)
kept_or_other (Some k) lits lit has = elim (cases_eq k lit) [
  | inl same ↦ inl (subst (Contains (k ∷ [])) same (Contains-here k []))
  | inr differs ↦ inr (Contains-filter (λ x. not (is_kept (Some k) x)) lits lit has
      (let miss : (k == lit) ≡ false = grind (arith, nat_tests, differs) in ap not miss))
]

only_kept_is : (kept : Option ℕ) (lit : ℕ) → Contains (only_kept kept) lit → kept ≡ Some lit
only_kept_is None lit (k, lt, is) = absurd (omega (arith, lt))
only_kept_is (Some k) lit has = elim (Contains-cases k lit [] has) [
  | inl same ↦ ap Some same
  | inr
      (j, lt, is) ↦ absurd (omega (arith, lt))
]

abbrev pub names_of : List Ref → Option ℕ → List ℕ → List Ref
names_of units kept lits = map (λ lit. unit_of units (variable lit)) (others_of kept lits)

abbrev pub tags_of : List ℕ → Option ℕ → List ℕ → List ℕ
tags_of tags kept lits = map (λ lit. tag_of_unit tags (variable lit)) (others_of kept lits)

-- The step is ok over every table that knows the clause and the unit clauses.
pub unit_step_ok : (table : Ref → Option Known) (units : List Ref) (tags : List ℕ)
    (kept : Option ℕ) (lits : List ℕ) (origin : Ref) (tag : ℕ) (step : Step)
    → HasNoRepeat lits → ((lit : ℕ) → Contains lits lit → Contains lits (opposite lit) → ⊥)
    → ((lit : ℕ) → kept ≡ Some lit → Contains lits lit)
    → step.clause ≡ only_kept kept → step.hints ≡ names_of units kept lits ++ origin ∷ []
    → step.tag ≡ max (greatest (tags_of tags kept lits)) tag
    → IsNameOf table origin lits tag → KnowsOpposites table units tags kept lits
    → IsOkStep table step
unit_step_ok table units tags kept lits origin tag step distinct proper kept_in clause_is hints_are tag_is named opposites = record {
  all_known = All-from_members (λ hint. IsSome (table hint)) step.hints
      (λ hint has. known_hint hint (subst (λ (hs : List Ref). Contains hs hint) hints_are has));
  proved = inr (subst (λ (hinted : List (List ℕ)). IsDerived hinted step.clause) (sym hinted_are)
      (subst (IsDerived hinted) (sym clause_is) derived));
  exact_tag = tag_is ∙ sym (ap greatest (ap (map (λ hint. tag_of (table hint))) hints_are
      ∙ map_push (λ hint. tag_of (table hint)) (names_of units kept lits) origin)
      ∙ greatest_push (map (λ hint. tag_of (table hint)) (names_of units kept lits))
      (tag_of (table origin))
      ∙ ap (λ n. max n (tag_of (table origin))) (ap greatest same_tags)
      ∙ ap (max (greatest (tags_of tags kept lits))) (ap tag_of named.is ∙ named.same_tag));
}
  where
    others : List ℕ
    others = others_of kept lits

    name : ℕ → Ref
    name lit = unit_of units (variable lit)

    of : (lit : ℕ) → Contains others lit → IsNameOf table (name lit) (opposite lit ∷ [])
        (tag_of_unit tags (variable lit))
    of lit has = let o = other_is kept lits lit has in opposites lit o.0 o.1

    known_hint : (hint : Ref) → Contains (names_of units kept lits ++ origin ∷ []) hint
        → IsSome (table hint)
    known_hint hint has = elim (Contains-append_cases (names_of units kept lits)
        (origin ∷ []) hint has) [
          | inl among ↦ (let (lit, lit_in, is) = Contains-from_map name others hint among in
              subst (λ (h : Ref). IsSome (table h)) is (subst IsSome (sym (of lit lit_in).is) refl))
          | inr last ↦ (elim (Contains-cases origin hint [] last) [
            | inl same ↦ subst (λ (h : Ref). IsSome (table h)) same (subst IsSome (sym named.is) refl)
            | inr (k, lt, is) ↦ absurd (omega (arith, lt))
          ])
        ]

    same_tags : map (λ hint. tag_of (table hint)) (names_of units kept lits)
        ≡ tags_of tags kept lits
    same_tags = map_map (λ hint. tag_of (table hint)) name others
        ∙ map_same (λ lit. tag_of (table (name lit)))
        (λ lit. tag_of_unit tags (variable lit)) others
        (λ lit has. ap tag_of (of lit has).is ∙ (of lit has).same_tag)

    unit : ℕ → List ℕ
    unit lit = clause_of (table (name lit))

    hinted : List (List ℕ)
    hinted = map unit others ++ clause_of (table origin) ∷ []

    hinted_are : map (λ hint. clause_of (table hint)) step.hints ≡ hinted
    hinted_are = ap (map (λ hint. clause_of (table hint))) hints_are
        ∙ map_push (λ hint. clause_of (table hint)) (names_of units kept lits) origin
        ∙ ap (λ xs. xs ++ clause_of (table origin) ∷ [])
        (map_map (λ hint. clause_of (table hint)) name others)

    last_members : (x : ℕ) → Contains (clause_of (table origin)) x ↔ Contains lits x
    last_members x = subst (λ (o : Option Known). Contains (clause_of o) x ↔ Contains lits x)
        (sym named.is) (named.members x)

    unit_members : (lit : ℕ) → Contains others lit → (x : ℕ)
        → Contains (unit lit) x ↔ Contains (opposite lit ∷ []) x
    unit_members lit has x = subst (λ (o : Option Known). Contains (clause_of o) x ↔ Contains
        (opposite lit ∷ []) x) (sym (of lit has).is) ((of lit has).members x)

    start : List ℕ
    start = map opposite (only_kept kept)

    free : (lit : ℕ) → Contains others lit → (Contains start lit → ⊥)
        × (Contains start (opposite lit) → ⊥)
    free lit has = (
      λ there. (let (k, k_in, is) = Contains-from_map opposite (only_kept kept) lit there in
          let k_kept = kept_in k (only_kept_is kept k k_in) in
          proper k k_kept (subst (Contains lits) (sym is) (other_is kept lits lit has).0)),
      λ there. (let (k, k_in, is) = Contains-from_map opposite (only_kept kept)
          (opposite lit) there in
          (other_is kept lits lit has).1 (only_kept_is kept k k_in
          ∙ ap Some (opposite-injective k lit is))),
    )

    derived : IsDerived hinted (only_kept kept)
    derived = record {
      proper = λ tautology. (let a = only_kept_is kept tautology.lit tautology.has in
          let b = only_kept_is kept (opposite tautology.lit) tautology.has_opposite in
          let same : Some tautology.lit ≡ Some (opposite tautology.lit) = sym a ∙ b in
          let bare : tautology.lit ≡ opposite tautology.lit = cc in
          opposite-differs tautology.lit (sym bare));
      covered = λ lit has. (
        clause_of (table origin),
        Contains-append_right (map unit others) (clause_of (table origin) ∷ [])
            (clause_of (table origin)) (Contains-here (clause_of (table origin)) []),
        (last_members lit).1 (kept_in lit (only_kept_is kept lit has)),
      );
      conflict = reaches unit others start (clause_of (table origin)) unit_members
          (apart_filter (λ lit. not (is_kept kept lit)) lits (apart lits distinct)) free
          (λ x y x_in y_in is. proper x (other_is kept lits x x_in).0
          (subst (Contains lits) (sym is) (other_is kept lits y y_in).0))
          (λ lit has. (elim (kept_or_other kept lits lit ((last_members lit).0 has)) [
            | inl here ↦ Contains-append_left start (map opposite others) (opposite lit)
                (Contains-map opposite (only_kept kept) lit here)
            | inr there ↦ Contains-append_right start (map opposite others) (opposite lit)
                (Contains-map opposite others lit there)
          ]));
    }

-- One more literal of the clause.
others_more : (kept : Option ℕ) (lits : List ℕ) (lit : ℕ)
    → others_of kept (lits ++ lit ∷ []) ≡ others_of kept lits
    ++ cond (not (is_kept kept lit)) (lit ∷ []) []
others_more kept lits lit = filter-append (λ x. not (is_kept kept x)) lits (lit ∷ [])

pub other_more : {Y : Type 0} (f : ℕ → Y) (kept : Option ℕ) (lits : List ℕ) (i lit : ℕ)
    → i < length lits → lit ≡ get_or lits i lit → is_kept kept lit ≡ false
    → map f (others_of kept (take (i + 1) lits)) ≡ map f (others_of kept (take i lits))
    ++ f lit ∷ []
other_more f kept lits i lit lt is other =
    ap (λ xs. map f (others_of kept xs)) (take_more lits i lit lt
    ∙ ap (λ x. take i lits ++ x ∷ []) (sym is))
    ∙ ap (map f) (others_more kept (take i lits) lit)
    ∙ ap (λ b. map f (others_of kept (take i lits) ++ cond (not b) (lit ∷ []) [])) other
    ∙ map_push f (others_of kept (take i lits)) lit

pub kept_more : {Y : Type 0} (f : ℕ → Y) (kept : Option ℕ) (lits : List ℕ) (i lit : ℕ)
    → i < length lits → lit ≡ get_or lits i lit → is_kept kept lit ≡ true
    → map f (others_of kept (take (i + 1) lits)) ≡ map f (others_of kept (take i lits))
kept_more f kept lits i lit lt is here =
    ap (λ xs. map f (others_of kept xs)) (take_more lits i lit lt
    ∙ ap (λ x. take i lits ++ x ∷ []) (sym is))
    ∙ ap (map f) (others_more kept (take i lits) lit)
    ∙ ap (λ b. map f (others_of kept (take i lits) ++ cond (not b) (lit ∷ []) [])) here
    ∙ ap (map f) (append-nil (others_of kept (take i lits)))

pub all_taken : (read lits : List ℕ) (i : ℕ) → read ≡ lits → length read ≤ i → take i read ≡ lits
all_taken read lits i is le = take_all i read le ∙ is
