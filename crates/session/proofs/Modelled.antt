-- A trail that is complete gives a model.
use Rattle.std.proofs.Common.{◌≡◌, ◌∙◌, ℕ, ◌≤◌, List, [], ◌∷◌, filter, max, Bool, true, false, refl}
use Rattle.std.proofs.Common.{ap, sym, subst, inl, inr, arith, eqb}
use Rattle.std.specs.Prelude.{◌⊎◌, All, Contains, IsTrue}
use Rattle.std.specs.List.{list_any}
use Rattle.std.proofs.lemmas.Bool.{eqb-true, eq-eqb}
use Rattle.std.proofs.lemmas.List.Elements.{All-contains}
use Rattle.sat_base.specs.Lit.{IsLit, IsLitSet, variable, opposite, greatest_of}
use Rattle.sat_base.specs.Truth.{IsModelOf, lit_true, clause_true}
use Rattle.sat_base.proofs.Members.{Contains-here, Contains-there, Contains-cases, Contains-map}
use Rattle.sat_base.proofs.Members.{Contains-from_map, any_member, any_from_member}
use Rattle.sat_base.proofs.Members.{all_from_members, All-from_members}
use Rattle.trace_core.specs.Known.{Known}
use Rattle.clause_arena.specs.Arena.{ArenaClause, lits_of_each}
use Rattle.trail_core.specs.Trail.{Entry, lits_of}
use Rattle.trail_core.specs.UnderTrail.{IsFalseLit, IsFalseClause, IsUnassigned, IsOpenClause}
use Rattle.trail_core.specs.UnderTrail.{IsComplete}
use Rattle.trail_core.proofs.Levels.{up_to_all}
use Rattle.propagate.specs.Store.{AreWithin}
use Rattle.session.specs.declared.search.Search.{Search}
use Rattle.session.specs.Solver.{inputs_of, clauses_of, known_clause, is_input}
use Rattle.sat_base.specs.Lit.{in_order}
use Rattle.session.specs.Moves.{IsWhole}
use Rattle.session.specs.Models.{IsAssignmentOf}
use Rattle.session.specs.Searching.{IsSearching}
use Rattle.trace_core.proofs.Items.{Contains-from_filter}
use Rattle.sat_base.proofs.InOrder.{in_order-has}
use Rattle.session.proofs.UpTo.{below_greatest}

-- membership is decided
member : (xs : List ℕ) (x : ℕ) → Contains xs x ⊎ (Contains xs x → ⊥)
member xs x = at (list_any (eqb x) xs) refl
  where
    at : (b : Bool) → list_any (eqb x) xs ≡ b → Contains xs x ⊎ (Contains xs x → ⊥)
    at true is = let m = any_member (eqb x) xs is in inl
        (subst (Contains xs) (sym (eqb-true x m.0 m.2)) m.1)
    at false is = inr (λ has. (let hit = any_from_member (eqb x) xs x has
        (eq-eqb x x refl) in absurd (cc)))

-- a clause that isn't false, whose literals are all assigned, has a true literal
some_true : (trues lits : List ℕ) → ((lit : ℕ) → Contains lits lit → IsUnassigned trues lit → ⊥)
    → (IsFalseClause trues lits → ⊥) → (lit : ℕ) × Contains lits lit × Contains trues lit
some_true trues [] assigned open_yet = absurd (open_yet
    (record { each = λ i d lt. absurd (omega (arith, lt)) }))
some_true trues (x ∷ lits) assigned open_yet = at (member trues x)
    (some_true trues lits (λ lit has. assigned lit (Contains-there x lit lits has)))
  where
    at : Contains trues x ⊎ (Contains trues x → ⊥)
        → ((IsFalseClause trues lits → ⊥) → (lit : ℕ) × Contains lits lit × Contains trues lit)
        → (lit : ℕ) × Contains (x ∷ lits) lit × Contains trues lit
    at (inl holds) _ = (x, Contains-here x lits, holds)
    at (inr fails) later =
        let (lit, has, holds) = later (λ rest. refute rest (member trues (opposite x))) in
        (lit, Contains-there x lit lits has, holds)
      where
        refute : IsFalseClause trues lits → Contains trues (opposite x)
            ⊎ (Contains trues (opposite x) → ⊥) → ⊥
        refute rest (inl negated) = open_yet (record {
          each = All-from_members (IsFalseLit trues) (x ∷ lits)
              (λ lit has. elim (Contains-cases x lit lits has) [
                | inl same ↦ subst (IsFalseLit trues) same (record { stands = negated })
                | inr more ↦ All-contains (IsFalseLit trues) lits lit rest.each more
              ]);
        })
        refute rest (inr neither) = assigned x (Contains-here x lits)
            (record { not_true = λ h. fails h.stands; not_false = λ h. neither h.stands })

pub model_of : (s : Search) (cube : List ℕ) (vars ordered : ℕ) (values : List Bool) → IsSearching s
    → IsLitSet cube → vars ≡ max s.greatest (greatest_of cube) → s.greatest ≤ ordered
    → IsComplete s.trail.entries s.trail.depth (lits_of_each s.store.clauses)
    → IsWhole (lits_of s.trail.entries) cube ordered
    → IsAssignmentOf (lits_of s.trail.entries) vars values
    → IsModelOf (clauses_of (inputs_of s.store.clauses)) cube values
model_of s cube vars ordered values kept set vars_are has_inputs complete whole given = record {
  size = given.size ∙ vars_are ∙ ap (λ n. max n (greatest_of cube)) kept.counted.greatest_is;
  clauses_hold = all_from_members (clause_true values) (clauses_of (inputs_of s.store.clauses))
      (λ lits has. input_holds lits has);
  cube_holds = all_from_members (lit_true values) cube (λ lit has.
      given.agrees lit (All-contains IsLit cube lit set.each has)
      (let low = below_greatest cube lit has in omega (arith, low, vars_are))
      (whole.holds lit has));
}
  where
    trues : List ℕ
    trues = lits_of s.trail.entries

    all_open : All (IsOpenClause trues) (lits_of_each s.store.clauses)
    all_open = subst (λ (es : List Entry). All (IsOpenClause (lits_of es))
        (lits_of_each s.store.clauses))
        (up_to_all s.trail.depth s.trail.entries kept.trail.below) complete.each

    clause_holds : (clause : ArenaClause) → Contains s.store.clauses clause
        → IsTrue (clause_true values (in_order clause.lits))
    clause_holds clause has =
        let each = All-contains (λ
        (c : ArenaClause). All IsLit c.lits) s.store.clauses clause kept.stock.lits has in
        let within = All-contains
        (λ (c : ArenaClause). AreWithin s.greatest c.lits) s.store.clauses clause kept.room.over has in
        let low : (lit : ℕ) → Contains clause.lits lit
        → variable lit ≤ s.greatest = λ lit lit_in. All-contains
        (λ x. variable x ≤ s.greatest) clause.lits lit within lit_in in
        let is_open = All-contains (IsOpenClause trues)
        (lits_of_each s.store.clauses) clause.lits all_open
        (Contains-map (λ (c : ArenaClause). c.lits) s.store.clauses clause has) in
        let (lit, lit_in, holds) = some_true trues clause.lits
        (λ lit lit_in. whole.assigned lit (All-contains IsLit clause.lits lit each lit_in)
        (let h = low lit lit_in in omega (arith, h, has_inputs))) is_open.not_false in
        any_from_member (lit_true values) (in_order clause.lits) lit
        ((in_order-has clause.lits lit).1 lit_in)
        (given.agrees lit (All-contains IsLit clause.lits lit each lit_in)
        (let h = low lit lit_in in omega (arith, h, vars_are)) holds)

    input_holds : (lits : List ℕ) → Contains (clauses_of (inputs_of s.store.clauses)) lits
        → IsTrue (clause_true values lits)
    input_holds lits has =
        let (known, known_in, is) = Contains-from_map (λ (one : Known). one.clause)
        (inputs_of s.store.clauses) lits has in
        let (clause, clause_in, clause_is) = Contains-from_map known_clause
        (filter (λ c. is_input c.origin) s.store.clauses) known known_in in
        subst (λ xs. IsTrue (clause_true values xs))
        (ap (λ (one : Known). one.clause) clause_is ∙ is)
        (clause_holds clause (Contains-from_filter
        (λ (c : ArenaClause). is_input c.origin) s.store.clauses clause clause_in).0)
