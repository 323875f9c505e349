-- Parts that are refuted.
use Rattle.std.proofs.Common.{◌≡◌, ◌∙◌, ℕ, List, [], ◌∷◌, length, map, None, refl, ap, sym, subst}
use Rattle.std.proofs.Common.{inl, inr, arith}
use Rattle.std.specs.Prelude.{◌⊎◌, ◌↔◌, All, Contains}
use Rattle.std.proofs.lemmas.List.Elements.{All-contains}
use Rattle.sat_base.specs.Lit.{opposite, variable}
use Rattle.sat_base.specs.Truth.{Entails}
use Rattle.sat_base.specs.declared.origins.Ref.TheVariants.{Own}
use Rattle.sat_base.proofs.Members.{All-from_members}
use Rattle.sat_base.proofs.Opposite.{Contains-negations, variable-opposite}
use Rattle.sat_base.proofs.Entailment.{sees_members}
use Rattle.trace_core.specs.Known.{Known}
use Rattle.trace_core.specs.Trace.{known_of}
use Rattle.trace_core.specs.declared.derivation.Step.{Step}
use Rattle.trail_core.specs.Trail.{TrailView, IsTrail, entry_at, lits_of}
use Rattle.trail_core.specs.UnderTrail.{IsFalseLit, IsFalseClause}
use Rattle.analyze.specs.Table.{IsNameOf, KnowsUnits, unit_of, tag_of_unit}
use Rattle.analyze.specs.Graph.{IsDecision}
use Rattle.analyze.specs.Refuted.{IsPart}
use Rattle.session.specs.declared.search.Search.{Search}
use Rattle.session.specs.Solver.{inputs_of, clauses_of, IsStep}
use Rattle.session.specs.OnTrail.{IsForCube}
use Rattle.session.specs.Units.{KnowsOpposites}
use Rattle.session.specs.Searching.{IsSearching, packets_of, table_of}
use Rattle.session.specs.Refutations.{IsRefutation}
use Rattle.session.proofs.Stocked.{known_follows}
use Rattle.session.proofs.Asserted.{place_of_true}
use Rattle.session.proofs.Reasons.{true_before}

-- a clause that negates a part says that the part is refuted
refuted_by : (inputs : List Known) (part clause : List ℕ)
    → ((lit : ℕ) → Contains clause lit ↔ Contains part (opposite lit))
    → Entails (clauses_of inputs) clause → Entails (clauses_of inputs) (map opposite part)
refuted_by inputs part clause negates follows values all =
    sees_members values clause (map opposite part)
    (All-from_members (Contains (map opposite part)) clause
    (λ lit has. (Contains-negations part (map opposite part) refl lit).1 ((negates lit).0 has)))
    (follows values all)

pub refutation_from : (s : Search) (cube part : List ℕ) (number : ℕ) (step : Step) → IsSearching s
    → IsStep s.steps number (known_of step) → All (Contains cube) part
    → ((lit : ℕ) → Contains step.clause lit ↔ Contains part (opposite lit))
    → IsRefutation (inputs_of s.store.clauses) s.steps cube part number
refutation_from s cube part number step kept is within negates = record {
  right = record {
    within = within;
    refuted = refuted_by (inputs_of s.store.clauses) part step.clause negates
        (known_follows s.store.clauses (packets_of s) s.steps s.bound kept.stock (Own number)
        (known_of step) is);
  };
  one = known_of step;
  step = is;
  negates = negates;
}

-- the decisions of a part are of the cube
pub part_within : (trail : TrailView) (cube part : List ℕ) (lit : ℕ) → IsTrail trail
    → IsForCube cube trail.entries → IsPart trail.entries lit part → Contains cube lit
    → IsFalseLit (lits_of trail.entries) lit → All (Contains cube) part
part_within trail cube part lit is for_cube whole stands fails = All-from_members
    (Contains cube) part (λ other has. at other (whole.others other has))
  where
    at : (other : ℕ) → (other ≡ lit) ⊎ IsDecision trail.entries other → Contains cube other
    at other (inl same) = subst (Contains cube) (sym same) stands
    at other (inr d) = elim (for_cube.each d.place d.at.within d.level d.free) [
      | inl of_cube ↦ subst (Contains cube) d.is of_cube
      | inr holds ↦ absurd (is.consistent lit (true_before trail.entries d.place lit d.at.within
          (holds lit stands)) fails.stands)
    ]

-- at level 0 every false literal's opposite is known
pub zero_opposites : (s : Search) (lits : List ℕ) → IsSearching s → s.trail.depth ≡ 0
    → s.named ≡ length s.trail.entries → IsFalseClause (lits_of s.trail.entries) lits
    → KnowsOpposites (table_of s) s.units.items s.tags.items None lits
zero_opposites s lits kept zero all fails lit has _ =
    let falsified = All-contains (IsFalseLit (lits_of s.trail.entries)) lits lit fails.each has in
    let (place, lt, here) = place_of_true s.trail.entries (opposite lit) falsified.stands in
    let name = kept.named.known place (omega (arith, lt, all)) in
    subst (λ var. IsNameOf (table_of s) (unit_of s.units.items var) (opposite lit ∷ [])
    (tag_of_unit s.tags.items var)) (ap variable here ∙ variable-opposite lit)
    (subst (λ x. IsNameOf (table_of s) (unit_of s.units.items
    (variable (entry_at s.trail.entries place).lit)) (x ∷ [])
    (tag_of_unit s.tags.items (variable (entry_at s.trail.entries place).lit))) here name)

pub zero_units : (s : Search) → IsSearching s → s.named ≡ length s.trail.entries
    → KnowsUnits (table_of s) s.trail.entries s.units.items s.tags.items
zero_units s kept all place lt zero = kept.named.known place (omega (arith, lt, all))

-- the empty clause negates the empty part
pub nothing_negated : (clause part : List ℕ) → clause ≡ [] → part ≡ [] → (lit : ℕ)
    → Contains clause lit ↔ Contains part (opposite lit)
nothing_negated clause part clause_is part_is lit = (
  λ has. none clause lit clause_is has,
  λ has. none part (opposite lit) part_is has,
)
  where
    none : {A : Type 0} (xs : List ℕ) (x : ℕ) → xs ≡ [] → Contains xs x → A
    none xs x is has = let (k, lt, e) = subst (λ (ys : List ℕ). Contains ys x) is has in absurd
        (omega (arith, lt))
