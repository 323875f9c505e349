-- What ok steps prove is entailed.
use Rattle.std.proofs.Common.{◌≡◌, ◌∙◌, ℕ, zero, suc, ◌≤◌, List, [], ◌∷◌, ◌++◌, map, Bool, true}
use Rattle.std.proofs.Common.{false, not, Option, Some, None, cond, refl, ap, subst, sym, inl, inr}
use Rattle.std.proofs.Common.{arith}
use Rattle.std.specs.Prelude.{IsTrue, IsSome, Contains, ◌⊎◌, ◌==◌, nat_le, option_and_then}
use Rattle.std.specs.List.{filter}
use Rattle.std.proofs.lemmas.Bool.{both_ways, and_parts, cases_Bool, cases_eq}
use Rattle.std.proofs.lemmas.Bool.Decides.{nat_tests}
use Rattle.std.proofs.lemmas.List.Elements.{All-contains, Contains-push, Contains-push_cases}
use Rattle.sat_base.specs.Lit.{opposite}
use Rattle.sat_base.specs.Truth.{lit_true, clause_true, all_true, Entails}
use Rattle.sat_base.specs.declared.origins.Ref.{Ref}
use Rattle.sat_base.specs.declared.origins.Ref.TheVariants.{Input, Shared, Own}
use Rattle.sat_base.proofs.Entailment.{lit_true-opposite, grows, sees_members}
use Rattle.sat_base.proofs.Opposite.{Contains-negations}
use Rattle.sat_base.proofs.Members.{any_member, any_from_member, all_member, all_from_members, Contains-map, Contains-from_map, Contains-filter, Contains-here, Contains-there, Contains-cases, All-from_members}
use Rattle.trace_core.specs.Known.{Known, known, item_at, clause_of, tag_of}
use Rattle.trace_core.specs.Propagation.{IsFalsified, IsUnit, ReachesConflict, IsProved}
use Rattle.trace_core.specs.Trace.{IsOkStep, greatest, known_of, AreOkSteps}
use Rattle.trace_core.specs.Law.{OkStepStaysOk, StepIsSound, ProofIsSound, TautologyHolds, clauses_up_to, TagBoundsInputs, TraceIsSound}
use Rattle.trace_core.specs.declared.derivation.Step.{Step}
use Rattle.trace_core.proofs.Items.{item_at-contains}
use Rattle.trace_core.proofs.Items.{nothing_in, Contains-from_filter}

-- a true literal isn't false
not_both : (values : List Bool) (lit : ℕ) → IsTrue (lit_true values lit) → IsTrue (lit_true values (opposite lit)) → ⊥
not_both values lit holds fails = both_ways (lit_true values (opposite lit)) (lit_true-opposite values lit ∙ ap not holds) fails

-- a clause that is true isn't falsified by literals that hold
not_falsified : (values : List Bool) (set clause : List ℕ) → ((lit : ℕ) → Contains set lit → IsTrue (lit_true values lit)) → IsTrue (clause_true values clause) → IsFalsified set clause → ⊥
not_falsified values set clause hold is_true falsified =
    let m = any_member (lit_true values) clause is_true in
    not_both values m.0 m.2 (hold (opposite m.0) (falsified m.0 m.1))

-- the literal that a true unit clause adds holds
unit_holds : (values : List Bool) (set clause : List ℕ) (lit : ℕ) → ((lit : ℕ) → Contains set lit → IsTrue (lit_true values lit)) → IsTrue (clause_true values clause) → IsUnit set clause lit → IsTrue (lit_true values lit)
unit_holds values set clause lit hold is_true unit = same_or_other (cases_eq m.0 lit)
  where
    m : (other : ℕ) × Contains clause other × IsTrue (lit_true values other)
    m = any_member (lit_true values) clause is_true

    same_or_other : (m.0 ≡ lit) ⊎ (m.0 ≡ lit → ⊥) → IsTrue (lit_true values lit)
    same_or_other (inl same) = subst (λ other. IsTrue (lit_true values other)) same m.2
    same_or_other (inr differs) = absurd (not_both values m.0 m.2 (hold (opposite m.0) (unit.others_false m.0 m.1 differs)))

hold_more : (values : List Bool) (set : List ℕ) (lit : ℕ) → ((other : ℕ) → Contains set other → IsTrue (lit_true values other)) → IsTrue (lit_true values lit) → (other : ℕ) → Contains (set ++ lit ∷ []) other → IsTrue (lit_true values other)
hold_more values set lit hold holds other has = either (Contains-push_cases set lit other has)
  where
    either : Contains set other ⊎ (lit ≡ other) → IsTrue (lit_true values other)
    either (inl before) = hold other before
    either (inr same) = subst (λ z. IsTrue (lit_true values z)) same holds

-- propagation from literals that hold, over clauses that are true, meets no conflict
no_conflict : (values : List Bool) (set : List ℕ) (hints : List (List ℕ)) → ((lit : ℕ) → Contains set lit → IsTrue (lit_true values lit)) → IsTrue (all_true values hints) → ReachesConflict set hints → ⊥
no_conflict values set [] hold all conflict = conflict
no_conflict values set (hint ∷ []) hold all conflict = not_falsified values set hint hold (and_parts _ _ all).0 conflict
no_conflict values set (hint ∷ next ∷ hints) hold all conflict =
    no_conflict values (set ++ conflict.0 ∷ []) (next ∷ hints)
    (hold_more values set conflict.0 hold (unit_holds values set hint conflict.0 hold (and_parts _ _ all).0 conflict.1))
    (and_parts _ _ all).1 conflict.2

-- the negations of a false clause's literals hold
negations_hold : (values : List Bool) (clause : List ℕ) → clause_true values clause ≡ false → (lit : ℕ) → Contains (map opposite clause) lit → IsTrue (lit_true values lit)
negations_hold values clause is_false lit has = subst (λ z. IsTrue (lit_true values z)) m.2 (by_truth (cases_Bool (lit_true values m.0)))
  where
    m : (other : ℕ) × Contains clause other × (opposite other ≡ lit)
    m = Contains-from_map opposite clause lit has

    by_truth : (lit_true values m.0 ≡ true) ⊎ (lit_true values m.0 ≡ false) → IsTrue (lit_true values (opposite m.0))
    by_truth (inl holds) = absurd (both_ways (clause_true values clause) is_false (any_from_member (lit_true values) clause m.0 m.1 holds))
    by_truth (inr fails) = lit_true-opposite values m.0 ∙ ap not fails

pub tautology_holds : TautologyHolds
tautology_holds clause both values all = by_truth (cases_Bool (lit_true values both.lit))
  where
    by_truth : (lit_true values both.lit ≡ true) ⊎ (lit_true values both.lit ≡ false) → IsTrue (clause_true values clause)
    by_truth (inl holds) = any_from_member (lit_true values) clause both.lit both.has holds
    by_truth (inr fails) = any_from_member (lit_true values) clause (opposite both.lit) both.has_opposite (lit_true-opposite values both.lit ∙ ap not fails)

pub proof_is_sound : ProofIsSound
proof_is_sound hinted clause (inl excluded) values all = tautology_holds clause excluded.tautology values refl
proof_is_sound hinted clause (inr derived) values all = by_truth (cases_Bool (clause_true values clause))
  where
    by_truth : (clause_true values clause ≡ true) ⊎ (clause_true values clause ≡ false) → IsTrue (clause_true values clause)
    by_truth (inl holds) = holds
    by_truth (inr fails) = absurd (no_conflict values (map opposite clause) hinted (negations_hold values clause fails) all derived.conflict)

pub step_is_sound : StepIsSound
step_is_sound table step ok = proof_is_sound (map (λ hint. clause_of (table hint)) step.hints) step.clause ok.proved

-- what follows from clauses that follow
entails_through : (clauses middle : List (List ℕ)) (clause : List ℕ) → ((c : List ℕ) → Contains middle c → Entails clauses c) → Entails middle clause → Entails clauses clause
entails_through clauses middle clause each follows values all =
    follows values (all_from_members (clause_true values) middle (λ c has. each c has values all))

-- a number of the list is at most the greatest
pub at_most_greatest : (numbers : List ℕ) (n : ℕ) → Contains numbers n → n ≤ greatest numbers
at_most_greatest [] n (k, lt, is) = absurd (omega arith)
at_most_greatest (m ∷ numbers) n (zero, lt, is) = omega (arith, is)
at_most_greatest (m ∷ numbers) n (suc k, lt, is) = let h = at_most_greatest numbers n (k, omega arith, is) in omega arith

-- what a known reference names
pub named_of : (o : Option Known) → IsSome o → (named : Known) × (o ≡ Some named) × (clause_of o ≡ named.clause) × (tag_of o ≡ named.tag)
named_of None some = absurd (cc)
named_of (Some named) some = (named, refl, refl, refl)

-- Tables that agree on the hints give the same lists.
same_over : {X : Type 0} (f g : Ref → X) (hints : List Ref) → ((hint : Ref) → Contains hints hint → f hint ≡ g hint) → map f hints ≡ map g hints
same_over f g [] same = refl
same_over f g (hint ∷ hints) same =
    let first : f hint ≡ g hint = same hint (Contains-here hint hints) in
    let rest : map f hints ≡ map g hints = same_over f g hints (λ h has. same h (Contains-there hint h hints has)) in
    cc

-- The tag of what a hint of an ok step names is at most the step's.
pub hint_tag_within : (table : Ref → Option Known) (step : Step) (hint : Ref) (named : Known)
    → IsOkStep table step
    → Contains step.hints hint → table hint ≡ Some named → named.tag ≤ step.tag
hint_tag_within table step hint named ok has is =
    subst (λ bound. named.tag ≤ bound) (sym ok.exact_tag)
    (subst (λ tag. tag ≤ greatest (map (λ h. tag_of (table h)) step.hints)) (ap tag_of is)
    (at_most_greatest (map (λ h. tag_of (table h)) step.hints) (tag_of (table hint))
    (Contains-map (λ h. tag_of (table h)) step.hints hint has)))

pub stays_ok_up_to_tag : OkStepStaysOk
stays_ok_up_to_tag table more step keeps ok = record {
  all_known = All-from_members (λ hint. IsSome (more hint)) step.hints
      (λ hint has. subst IsSome (agree hint has) (known_here hint has));
  proved = subst (λ hinted. IsProved hinted step.clause)
      (same_over (λ hint. clause_of (table hint)) (λ hint. clause_of (more hint)) step.hints
      (λ hint has. ap clause_of (agree hint has))) ok.proved;
  exact_tag = ok.exact_tag
      ∙ ap greatest (same_over (λ hint. tag_of (table hint)) (λ hint. tag_of (more hint)) step.hints
      (λ hint has. ap tag_of (agree hint has)));
}
  where
    known_here : (hint : Ref) → Contains step.hints hint → IsSome (table hint)
    known_here hint has = All-contains (λ h. IsSome (table h)) step.hints hint ok.all_known has

    agree : (hint : Ref) → Contains step.hints hint → table hint ≡ more hint
    agree hint has =
        let named = named_of (table hint) (known_here hint has) in
        named.1 ∙ sym (keeps hint named.0 (hint_tag_within table step hint named.0 ok has named.1)
        named.1)

-- An ok step stays ok where more clauses are known.
pub ok_step_stays_ok : (table more : Ref → Option Known) (step : Step)
    → ((name : Ref) (named : Known) → table name ≡ Some named → more name ≡ Some named)
    → IsOkStep table step → IsOkStep more step
ok_step_stays_ok table more step keeps ok =
    stays_ok_up_to_tag table more step (λ name named low is. keeps name named is) ok

-- what each known clause follows from, the clause of an ok step follows from
through_hints : (clauses : List (List ℕ)) (table : Ref → Option Known) (step : Step) → IsOkStep table step
    → ((hint : Ref) (named : Known) → Contains step.hints hint → table hint ≡ Some named → Entails clauses named.clause) → Entails clauses step.clause
through_hints clauses table step ok each =
    entails_through clauses (map (λ hint. clause_of (table hint)) step.hints) step.clause hinted (step_is_sound table step ok)
  where
    hinted : (c : List ℕ) → Contains (map (λ hint. clause_of (table hint)) step.hints) c → Entails clauses c
    hinted c has =
        let m = Contains-from_map (λ hint. clause_of (table hint)) step.hints c has in
        let named = named_of (table m.0) (All-contains (λ hint. IsSome (table hint)) step.hints m.0 ok.all_known m.1) in
        subst (Entails clauses) (sym named.2 ∙ m.2) (each m.0 named.0 m.1 named.1)

-- more inputs count up to a greater tag
up_to_grows : (inputs : List Known) (low high : ℕ) (clause : List ℕ) → low ≤ high → Entails (clauses_up_to inputs low) clause → Entails (clauses_up_to inputs high) clause
up_to_grows inputs low high clause le =
    grows (clauses_up_to inputs low) (clauses_up_to inputs high) clause
    (All-from_members (Contains (clauses_up_to inputs high)) (clauses_up_to inputs low) there)
  where
    within : (tag : ℕ) → IsTrue (nat_le tag low) → IsTrue (nat_le tag high)
    within tag h = grind (arith, nat_tests)

    there : (c : List ℕ) → Contains (clauses_up_to inputs low) c → Contains (clauses_up_to inputs high) c
    there c has =
        let m = Contains-from_map (λ (input : Known). input.clause) (filter (λ input. nat_le input.tag low) inputs) c has in
        let f = Contains-from_filter (λ (input : Known). nat_le input.tag low) inputs m.0 m.1 in
        subst (Contains (clauses_up_to inputs high)) m.2
        (Contains-map (λ (input : Known). input.clause) (filter (λ input. nat_le input.tag high) inputs) m.0
        (Contains-filter (λ (input : Known). nat_le input.tag high) inputs m.0 f.0 (within m.0.tag f.1)))

pub tag_bounds_inputs : TagBoundsInputs
tag_bounds_inputs inputs table step each ok =
    through_hints (clauses_up_to inputs step.tag) table step ok
    (λ hint named has is. up_to_grows inputs named.tag step.tag named.clause
    (hint_tag_within table step hint named ok has is) (each hint named is))

-- Without packets a reference to a step of one names nothing.
pub no_shared : (packet step : ℕ)
    → IsSome (option_and_then (λ (steps : List Known). item_at steps step) (item_at [] packet)) → ⊥
no_shared packet step = guarded (packet == 0)
  where
    guarded : (b : Bool)
        → IsSome (option_and_then (λ (steps : List Known). item_at steps step) (cond b None None))
        → ⊥
    guarded true some = cc
    guarded false some = cc

pub nothing_shared : (packet step : ℕ) (named : Known)
    → option_and_then (λ (steps : List Known). item_at steps step) (item_at [] packet) ≡ Some named
    → ⊥
nothing_shared packet step named is = no_shared packet step (subst IsSome (sym is) refl)

-- Over inputs and own steps, where each own step's clause follows from the inputs, so does each known clause.
known_follow : (inputs own : List Known) → ((k : Known) → Contains own k → Entails (map (λ input. input.clause) inputs) k.clause)
    → (name : Ref) (named : Known) → known inputs [] own name ≡ Some named → Entails (map (λ input. input.clause) inputs) named.clause
known_follow inputs own each (Input number) named is = λ values all.
    all_member (clause_true values) (map (λ input. input.clause) inputs) named.clause all
    (Contains-map (λ (input : Known). input.clause) inputs named (item_at-contains inputs number named is))
known_follow inputs own each (Shared packet step) named is = absurd (nothing_shared packet step named is)
known_follow inputs own each (Own number) named is = each named (item_at-contains own number named is)

steps_follow : (inputs own : List Known) (steps : List Step) → ((k : Known) → Contains own k → Entails (map (λ input. input.clause) inputs) k.clause)
    → AreOkSteps inputs [] own steps → (step : Step) → Contains steps step → Entails (map (λ input. input.clause) inputs) step.clause
steps_follow inputs own [] each ok step (k, lt, is) = absurd (omega arith)
steps_follow inputs own (first ∷ steps) each ok step has =
    here_or_later (λ (more : (k : Known) → Contains (own ++ known_of first ∷ []) k → Entails (map (λ input. input.clause) inputs) k.clause) later. steps_follow inputs (own ++ known_of first ∷ []) steps more ok.1 step later) (Contains-cases first step steps has)
  where
    follows : Entails (map (λ input. input.clause) inputs) first.clause
    follows = through_hints (map (λ input. input.clause) inputs) (known inputs [] own) first ok.0 (λ hint named has is. known_follow inputs own each hint named is)

    more : (k : Known) → Contains (own ++ known_of first ∷ []) k → Entails (map (λ input. input.clause) inputs) k.clause
    more k has = old_or_new (Contains-push_cases own (known_of first) k has)
      where
        old_or_new : Contains own k ⊎ (known_of first ≡ k) → Entails (map (λ input. input.clause) inputs) k.clause
        old_or_new (inl old) = each k old
        old_or_new (inr same) = subst (λ (z : Known). Entails (map (λ input. input.clause) inputs) z.clause) same follows

    here_or_later : (((k : Known) → Contains (own ++ known_of first ∷ []) k → Entails (map (λ input. input.clause) inputs) k.clause) → Contains steps step → Entails (map (λ input. input.clause) inputs) step.clause)
        → (first ≡ step) ⊎ Contains steps step → Entails (map (λ input. input.clause) inputs) step.clause
    here_or_later recur (inl same) = subst (λ (z : Step). Entails (map (λ input. input.clause) inputs) z.clause) same follows
    here_or_later recur (inr later) = recur more later

pub trace_is_sound : TraceIsSound
trace_is_sound inputs part steps trace values all =
    sees_members values trace.last.clause (map opposite part)
    (All-from_members (Contains (map opposite part)) trace.last.clause (λ lit has. (Contains-negations part (map opposite part) refl lit).1 ((trace.refutes lit).0 has)))
    (steps_follow inputs [] steps (λ k none. nothing_in k none) trace.ok trace.last
    (subst (λ (xs : List Step). Contains xs trace.last) (sym trace.ends) (Contains-push trace.front trace.last)) values all)
