-- The clauses that hints name in a table.
use Rattle.std.proofs.Common.{◌≡◌, ◌∙◌, ℕ, ◌<◌, List, [], ◌∷◌, ◌++◌, map, max, length, cond, Bool, true, false, refl, ap, subst, sym, inl, inr, arith, Option, Some, true≢false}
use Rattle.std.specs.Prelude.{Contains, ◌⊎◌, ◌↔◌, ◌==◌, All, IsSome}
use Rattle.std.proofs.lemmas.Bool.{eqb-true, ne_eqb, eq-eqb}
use Rattle.std.proofs.lemmas.List.{map-append}
use Rattle.std.proofs.lemmas.List.Elements.{Contains-push_cases}
use Rattle.sat_base.specs.Lit.{variable}
use Rattle.sat_base.specs.declared.origins.Ref.{Ref}
use Rattle.sat_base.proofs.Members.{All-from_members, Contains-here, Contains-there, Contains-from_map}
use Rattle.trace_core.specs.Known.{Known, clause_of, tag_of}
use Rattle.trace_core.specs.Trace.{greatest}
use Rattle.clause_arena.specs.Arena.{ArenaClause, clause_at}
use Rattle.trail_core.specs.Trail.{Entry, entry_at}
use Rattle.analyze.specs.Graph.{lit_at, level_at}
use Rattle.analyze.specs.Table.{IsNameOf, KnowsArena, KnowsUnits, unit_of, tag_of_unit}
use Rattle.analyze.specs.Naming.{HasClause, reason_in, lits_for, name_for, tag_for}
use Rattle.trace_core.proofs.TagLemmas.{greatest_push}

-- what a name names
pub named_is : (table : Ref → Option Known) (name : Ref) (lits : List ℕ) (tag : ℕ) → IsNameOf table name lits tag → IsSome (table name)
named_is table name lits tag is = subst IsSome (sym is.is) refl

pub clause_members : (table : Ref → Option Known) (name : Ref) (lits : List ℕ) (tag : ℕ) → IsNameOf table name lits tag → (lit : ℕ) → Contains (clause_of (table name)) lit ↔ Contains lits lit
clause_members table name lits tag is lit = subst (λ (o : Option Known). Contains (clause_of o) lit ↔ Contains lits lit) (sym is.is) (is.members lit)

pub tag_is : (table : Ref → Option Known) (name : Ref) (lits : List ℕ) (tag : ℕ) → IsNameOf table name lits tag → tag_of (table name) ≡ tag
tag_is table name lits tag is = ap tag_of is.is ∙ is.same_tag

-- the name of the clause for a place names it
pub place_named : (table : Ref → Option Known) (clauses : List ArenaClause) (entries : List Entry) (units : List Ref) (tags : List ℕ) (place : ℕ) → KnowsArena table clauses → KnowsUnits table entries units tags
    → HasClause clauses entries place → IsNameOf table (name_for clauses entries units place) (lits_for clauses entries place) (tag_for clauses entries tags place)
place_named table clauses entries units tags place arena known has = by_level (level_at entries place == 0) refl
  where
    of_reason : (level_at entries place ≡ 0) ⊎ ((id : ℕ) × ((entry_at entries place).reason ≡ Some id) × (id < length clauses)) → (level_at entries place ≡ 0 → ⊥)
        → IsNameOf table (reason_in clauses (entry_at entries place).reason).origin (reason_in clauses (entry_at entries place).reason).lits (reason_in clauses (entry_at entries place).reason).tag
    of_reason (inl low) high = absurd (high low)
    of_reason (inr forced) high = subst (λ (o : Option ℕ). IsNameOf table (reason_in clauses o).origin (reason_in clauses o).lits (reason_in clauses o).tag) (sym forced.1) (arena forced.0 forced.2)

    by_level : (b : Bool) → level_at entries place == 0 ≡ b
        → IsNameOf table (cond b (unit_of units (variable (lit_at entries place))) (reason_in clauses (entry_at entries place).reason).origin) (cond b (lit_at entries place ∷ []) (reason_in clauses (entry_at entries place).reason).lits)
        (cond b (tag_of_unit tags (variable (lit_at entries place))) (reason_in clauses (entry_at entries place).reason).tag)
    by_level true is = known place has.within (eqb-true (level_at entries place) 0 is)
    by_level false is = of_reason has.known (λ low. absurd (true≢false (sym (eq-eqb (level_at entries place) 0 low) ∙ is)))

-- the clause for a place of level 0 is its literal, for another one the reason
pub lits_low : (clauses : List ArenaClause) (entries : List Entry) (place : ℕ) → level_at entries place ≡ 0 → lits_for clauses entries place ≡ lit_at entries place ∷ []
lits_low clauses entries place low = ap (λ b. cond b (lit_at entries place ∷ []) (reason_in clauses (entry_at entries place).reason).lits) (eq-eqb (level_at entries place) 0 low)

pub lits_high : (clauses : List ArenaClause) (entries : List Entry) (place id : ℕ) → 0 < level_at entries place → (entry_at entries place).reason ≡ Some id → lits_for clauses entries place ≡ (clause_at clauses id).lits
lits_high clauses entries place id high reason =
    ap (λ b. cond b (lit_at entries place ∷ []) (reason_in clauses (entry_at entries place).reason).lits) (ne_eqb (level_at entries place) 0 (λ low. omega arith))
    ∙ ap (λ o. (reason_in clauses o).lits) reason

pub map_map : {X Y Z : Type 0} (f : Y → Z) (g : X → Y) (xs : List X) → map f (map g xs) ≡ map (λ x. f (g x)) xs
map_map f g [] = refl
map_map f g (x ∷ xs) = ap (λ ys. f (g x) ∷ ys) (map_map f g xs)

pub map_same : {X Y : Type 0} (f g : X → Y) (xs : List X) → ((x : X) → Contains xs x → f x ≡ g x) → map f xs ≡ map g xs
map_same f g [] same = refl
map_same f g (x ∷ xs) same =
    let first : f x ≡ g x = same x (Contains-here x xs) in
    let rest : map f xs ≡ map g xs = map_same f g xs (λ y has. same y (Contains-there x y xs has)) in
    cc

-- the hinted clauses of places, and one more
pub hinted_places : (table : Ref → Option Known) (name : ℕ → Ref) (places : List ℕ) → map (λ hint. clause_of (table hint)) (map name places) ≡ map (λ place. clause_of (table (name place))) places
hinted_places table name places = map_map (λ hint. clause_of (table hint)) name places

pub hinted_more : (table : Ref → Option Known) (name : ℕ → Ref) (places : List ℕ) (last : Ref)
    → map (λ hint. clause_of (table hint)) (map name places ++ last ∷ []) ≡ map (λ place. clause_of (table (name place))) places ++ clause_of (table last) ∷ []
hinted_more table name places last = map-append (λ hint. clause_of (table hint)) (map name places) (last ∷ []) ∙ ap (λ (xs : List (List ℕ)). xs ++ clause_of (table last) ∷ []) (hinted_places table name places)

pub tags_places : (table : Ref → Option Known) (name : ℕ → Ref) (tag : ℕ → ℕ) (places : List ℕ) → ((place : ℕ) → Contains places place → tag_of (table (name place)) ≡ tag place)
    → map (λ hint. tag_of (table hint)) (map name places) ≡ map tag places
tags_places table name tag places same = map_map (λ hint. tag_of (table hint)) name places ∙ map_same (λ place. tag_of (table (name place))) tag places same

pub tags_more : (table : Ref → Option Known) (name : ℕ → Ref) (tag : ℕ → ℕ) (places : List ℕ) (last : Ref) (last_tag : ℕ) → ((place : ℕ) → Contains places place → tag_of (table (name place)) ≡ tag place)
    → tag_of (table last) ≡ last_tag → greatest (map (λ hint. tag_of (table hint)) (map name places ++ last ∷ [])) ≡ max (greatest (map tag places)) last_tag
tags_more table name tag places last last_tag same is =
    ap greatest (map-append (λ hint. tag_of (table hint)) (map name places) (last ∷ []))
    ∙ greatest_push (map (λ hint. tag_of (table hint)) (map name places)) (tag_of (table last))
    ∙ ap (λ ts. max (greatest ts) (tag_of (table last))) (tags_places table name tag places same)
    ∙ ap (max (greatest (map tag places))) is

pub known_places : (table : Ref → Option Known) (name : ℕ → Ref) (places : List ℕ) → ((place : ℕ) → Contains places place → IsSome (table (name place))) → All (λ hint. IsSome (table hint)) (map name places)
known_places table name places known = All-from_members (λ hint. IsSome (table hint)) (map name places) (λ hint has. let m = Contains-from_map name places hint has in subst (λ h. IsSome (table h)) m.2 (known m.0 m.1))

pub known_more : (table : Ref → Option Known) (name : ℕ → Ref) (places : List ℕ) (last : Ref) → ((place : ℕ) → Contains places place → IsSome (table (name place))) → IsSome (table last)
    → All (λ hint. IsSome (table hint)) (map name places ++ last ∷ [])
known_more table name places last known last_known = All-from_members (λ hint. IsSome (table hint)) (map name places ++ last ∷ []) (λ hint has. either hint (Contains-push_cases (map name places) last hint has))
  where
    either : (hint : Ref) → Contains (map name places) hint ⊎ (last ≡ hint) → IsSome (table hint)
    either hint (inl has) = let m = Contains-from_map name places hint has in subst (λ h. IsSome (table h)) m.2 (known m.0 m.1)
    either hint (inr same) = subst (λ h. IsSome (table h)) same last_known
