-- What a solver keeps when a step, a learnt clause or an input comes to it.
use Rattle.std.proofs.Common.{◌≡◌, ◌∙◌, ℕ, ◌+◌, ◌≤◌, List, [], ◌∷◌, ◌++◌, length, map, filter}
use Rattle.std.proofs.Common.{Option, None, Some, Bool, true, false, inl, inr, refl, ap, sym}
use Rattle.std.proofs.Common.{subst, arith}
use Rattle.std.specs.Prelude.{All, Contains, IsTrue, IsSome, ◌==◌, cond, option_map}
use Rattle.std.specs.Prelude.{option_and_then}
use Rattle.std.proofs.lemmas.List.{map_push, length-map, append-nil, append_assoc}
use Rattle.std.proofs.lemmas.List.Elements.{All-contains, filter-append, Contains-append_left}
use Rattle.std.proofs.lemmas.List.Elements.{Contains-append_right}
use Rattle.std.proofs.lemmas.Option.{none-some}
use Rattle.sat_base.specs.Lit.{IsLit, IsTautology, is_ascending, opposite, greatest_of_all}
use Rattle.sat_base.specs.Truth.{Entails, clause_true}
use Rattle.sat_base.specs.declared.origins.Ref.{Ref}
use Rattle.sat_base.specs.declared.origins.Ref.TheVariants.{Input, Shared, Own}
use Rattle.sat_base.proofs.Members.{Contains-here, Contains-map, Contains-from_map, all_member}
use Rattle.sat_base.proofs.Members.{all_from_members}
use Rattle.trace_core.specs.Known.{Known, known, item_at, clause_of, tag_of}
use Rattle.trace_core.specs.Law.{clauses_up_to}
use Rattle.trace_core.specs.Trace.{IsOkStep, AreOkSteps, known_of}
use Rattle.trace_core.specs.declared.derivation.Step.{Step}
use Rattle.trace_core.proofs.Soundness.{step_is_sound, ok_step_stays_ok, named_of}
use Rattle.trace_core.proofs.Items.{item_at-contains}
use Rattle.trace_core.proofs.Soundness.{at_most_greatest}
use Rattle.clause_arena.specs.Arena.{ArenaClause}
use Rattle.session.specs.Solver.{inputs_of, held_of, clauses_of, named_by, shared_by, known_in}
use Rattle.session.specs.Solver.{packet_at, last_step_of, known_clause, is_input, IsWithinItsTag}
use Rattle.session.specs.Stock.{IsStocked}
use Rattle.session.proofs.Lists.{All-push, All-under}
use Rattle.trace_core.proofs.Items.{item_at-append, item_at-last, item_at-map}
use Rattle.session.proofs.Lists.{greatest_below}
use Rattle.trace_core.proofs.Items.{Contains-from_filter}
use Rattle.sat_base.proofs.InOrder.{in_order-itself}
use Rattle.session.proofs.Proper.{hints_proper, negation_consistent}
use Rattle.session.proofs.UpTo.{below_greatest, greatest_within, greatest_grows, input_within}

-- A table grows with its inputs and its steps.
pub named_with_input : (inputs : List Known) (input : Known) (packets : List (Option (List Step)))
    (steps : List Step) (name : Ref) (one : Known) → named_by inputs packets steps name ≡ Some one
    → named_by (inputs ++ input ∷ []) packets steps name ≡ Some one
named_with_input inputs input packets steps (Input number) one is = item_at-append inputs
    (input ∷ []) number one is
named_with_input inputs input packets steps (Shared place step) one is = is
named_with_input inputs input packets steps (Own number) one is = is

pub named_with_step : (inputs : List Known) (packets : List (Option (List Step)))
    (steps : List Step) (step : Step) (name : Ref) (one : Known)
    → named_by inputs packets steps name ≡ Some one
    → named_by inputs packets (steps ++ step ∷ []) name ≡ Some one
named_with_step inputs packets steps step (Input number) one is = is
named_with_step inputs packets steps step (Shared place number) one is = is
named_with_step inputs packets steps step (Own number) one is =
    subst (λ knowns. item_at knowns number ≡ Some one) (sym (map_push known_of steps step))
    (item_at-append (map known_of steps) (known_of step ∷ []) number one is)

pub named_last : (inputs : List Known) (packets : List (Option (List Step))) (steps : List Step)
    (step : Step) (number : ℕ) → number ≡ length steps + 1
    → named_by inputs packets (steps ++ step ∷ []) (Own number) ≡ Some (known_of step)
named_last inputs packets steps step number last =
    subst (λ knowns. item_at knowns number ≡ Some (known_of step))
    (sym (map_push known_of steps step))
    (item_at-last (map known_of steps) (known_of step) number
    (omega (arith, last, length-map steps known_of)))

-- One more step is ok over the steps before it.
ok_push : (inputs : List Known) (shared : List (List Known)) (own : List Known) (steps : List Step)
    (step : Step) → AreOkSteps inputs shared own steps
    → IsOkStep (known inputs shared (own ++ map known_of steps)) step
    → AreOkSteps inputs shared own (steps ++ step ∷ [])
ok_push inputs shared own [] step ok one = (
  subst
      (λ knowns. IsOkStep (known inputs shared knowns) step) (append-nil own) one,
  tt,
)
ok_push inputs shared own (first ∷ steps) step ok one = (
  ok.0,
  ok_push inputs shared (own ++ known_of first ∷ []) steps step ok.1
      (subst (λ knowns. IsOkStep (known inputs shared knowns) step)
      (sym (append_assoc own (known_of first ∷ []) (map known_of steps))) one),
)

known_with_input : (inputs : List Known) (shared : List (List Known)) (own : List Known)
    (input : Known) (name : Ref) (one : Known) → known inputs shared own name ≡ Some one
    → known (inputs ++ input ∷ []) shared own name ≡ Some one
known_with_input inputs shared own input (Input number) one is = item_at-append inputs
    (input ∷ []) number one is
known_with_input inputs shared own input (Shared place step) one is = is
known_with_input inputs shared own input (Own number) one is = is

ok_with_input : (inputs : List Known) (shared : List (List Known)) (own : List Known)
    (input : Known) (steps : List Step) → AreOkSteps inputs shared own steps
    → AreOkSteps (inputs ++ input ∷ []) shared own steps
ok_with_input inputs shared own input [] ok = tt
ok_with_input inputs shared own input (step ∷ steps) ok = (
  ok_step_stays_ok (known inputs shared own) (known (inputs ++ input ∷ []) shared own) step
      (λ name one is. known_with_input inputs shared own input name one is) ok.0,
  ok_with_input inputs shared (own ++ known_of step ∷ []) input steps ok.1,
)

-- The last step of a known packet is one of the packet's steps.
last_is_shared : (packets : List (Option (List Step))) (own : List Known) (inputs : List Known)
    (place number : ℕ) (one : Known) → last_step_of (packet_at packets place) number ≡ Some one
    → known inputs (shared_by packets) own (Shared place number) ≡ Some one
last_is_shared packets own inputs place number one is = subst
    (λ (found : Option (List Known)). option_and_then (λ steps. item_at steps number) found
    ≡ Some one) (sym (item_at-map known_in packets place)) (at (item_at packets place) is)
  where
    at : (found : Option (Option (List Step))) → last_step_of
        (option_and_then (λ packet. packet) found) number ≡ Some one
        → option_and_then (λ steps. item_at steps number) (option_map known_in found) ≡ Some one
    at None is = absurd (none-some one is)
    at (Some None) is = absurd (none-some one is)
    at (Some (Some packet)) is = by_test (number == length packet) is
      where
        by_test : (b : Bool) → cond b (item_at (map known_of packet) number) None ≡ Some one
            → item_at (map known_of packet) number ≡ Some one
        by_test true is = is
        by_test false is = absurd (none-some one is)

-- What a solver names is known to its derivations.
pub named_is_known : (inputs : List Known) (packets : List (Option (List Step)))
    (steps : List Step) (name : Ref) (one : Known) → named_by inputs packets steps name ≡ Some one
    → known inputs (shared_by packets) (map known_of steps) name ≡ Some one
named_is_known inputs packets steps (Input number) one is = is
named_is_known inputs packets steps (Shared place number) one is = last_is_shared packets
    (map known_of steps) inputs place number one is
named_is_known inputs packets steps (Own number) one is = is

-- An input follows from the inputs.
input_follows : (inputs : List Known) (input : Known) → Contains inputs input
    → Entails (clauses_of inputs) input.clause
input_follows inputs input has = λ values all.
    all_member (clause_true values) (clauses_of inputs) input.clause all
    (Contains-map (λ (one : Known). one.clause) inputs input has)

-- With one more input, clauses follow as before.
follows_with_input : (inputs : List Known) (input : Known) (clause : List ℕ)
    → Entails (clauses_of inputs) clause → Entails (clauses_of (inputs ++ input ∷ [])) clause
follows_with_input inputs input clause follows = λ values all. follows values
    (all_from_members (clause_true values) (clauses_of inputs) (λ one has.
    all_member (clause_true values) (clauses_of (inputs ++ input ∷ [])) one all
    (subst (λ (lists : List (List ℕ)). Contains lists one)
    (sym (map_push (λ (x : Known). x.clause) inputs input))
    (Contains-append_left (clauses_of inputs) (input.clause ∷ []) one has))))

-- a held clause has what holds of all
held_has : (P : Known → Type 0) (clauses : List ArenaClause)
    → All (λ clause. P (known_clause clause)) clauses → (one : Known)
    → Contains (held_of clauses) one → P one
held_has P clauses all one has =
    let from = Contains-from_map known_clause clauses one has in
    subst P from.2 (All-contains (λ (clause : ArenaClause). P
    (known_clause clause)) clauses from.0 all from.1)

input_held : (clauses : List ArenaClause) (one : Known) → Contains (inputs_of clauses) one
    → Contains (held_of clauses) one
input_held clauses one has =
    let from = Contains-from_map known_clause (filter
    (λ clause. is_input clause.origin) clauses) one has in
    subst (Contains (held_of clauses)) from.2 (Contains-map known_clause clauses from.0
    (Contains-from_filter
    (λ (clause : ArenaClause). is_input clause.origin) clauses from.0 from.1).0)

-- What a solver names is a held clause or the clause of a step; so it follows from the inputs, and
-- its tag is at most the bound.
named_has : (P : Known → Type 0) (clauses : List ArenaClause) (packets : List (Option (List Step)))
    (steps : List Step) (bound : ℕ) → IsStocked clauses packets steps bound
    → All (λ clause. P (known_clause clause)) clauses → All (λ step. P (known_of step)) steps
    → (name : Ref) (one : Known) → named_by (inputs_of clauses) packets steps name ≡ Some one
    → P one
named_has P clauses packets steps bound stock held stepped
    (Input number) one is = held_has P clauses held one
    (input_held clauses one (item_at-contains (inputs_of clauses) number one is))
named_has P clauses packets steps bound stock held stepped
    (Shared place number) one is = held_has P clauses held one
    (stock.packets_held place number one is)
named_has P clauses packets steps bound stock held stepped (Own number) one is =
    let from = Contains-from_map known_of steps one
    (item_at-contains (map known_of steps) number one is) in
    subst P from.2 (All-contains (λ (step : Step). P (known_of step)) steps from.0 stepped from.1)

pub known_follows : (clauses : List ArenaClause) (packets : List (Option (List Step)))
    (steps : List Step) (bound : ℕ) → IsStocked clauses packets steps bound
    → (name : Ref) (one : Known) → named_by (inputs_of clauses) packets steps name ≡ Some one
    → Entails (clauses_of (inputs_of clauses)) one.clause
known_follows clauses packets steps bound stock name one is = named_has
    (λ (x : Known). Entails (clauses_of
    (inputs_of clauses)) x.clause) clauses packets steps bound stock stock.entailed stock.steps_entailed name one is

pub known_bounded : (clauses : List ArenaClause) (packets : List (Option (List Step)))
    (steps : List Step) (bound : ℕ) → IsStocked clauses packets steps bound
    → (name : Ref) (one : Known) → named_by (inputs_of clauses) packets steps name ≡ Some one
    → one.tag ≤ bound
known_bounded clauses packets steps bound stock name one is = named_has
    (λ (x : Known). x.tag ≤ bound) clauses packets steps bound stock stock.bounded stock.steps_bounded name one is

step_bounded : (clauses : List ArenaClause) (packets : List (Option (List Step)))
    (steps : List Step) (bound : ℕ) (step : Step) → IsStocked clauses packets steps bound
    → IsOkStep (named_by (inputs_of clauses) packets steps) step → step.tag ≤ bound
step_bounded clauses packets steps bound step stock ok =
    let table : Ref → Option Known = named_by (inputs_of clauses) packets steps in
    subst (λ tag. tag ≤ bound) (sym ok.exact_tag)
    (greatest_below (map (λ hint. tag_of (table hint)) step.hints) bound (λ tag has.
    let from = Contains-from_map (λ (hint : Ref). tag_of (table hint)) step.hints tag has in
    let one = named_of (table from.0) (All-contains
    (λ hint. IsSome (table hint)) step.hints from.0 ok.all_known from.1) in
    subst (λ n. n ≤ bound) (sym one.3 ∙ from.2)
    (known_bounded clauses packets steps bound stock from.0 one.0 one.1)))

-- What the clauses that its hints name entail, the inputs entail.
step_follows : (inputs : List Known) (table : Ref → Option Known) (step : Step)
    → ((name : Ref) (one : Known) → table name ≡ Some one → Entails (clauses_of inputs) one.clause)
    → IsOkStep table step → Entails (clauses_of inputs) step.clause
step_follows inputs table step follows ok values all =
    step_is_sound table step ok values (all_from_members (clause_true values)
    (map (λ hint. clause_of (table hint)) step.hints) (λ lits has.
    let from = Contains-from_map (λ (hint : Ref). clause_of (table hint)) step.hints lits has in
    let one = named_of (table from.0) (All-contains
    (λ hint. IsSome (table hint)) step.hints from.0 ok.all_known from.1) in
    subst (λ lits. IsTrue (clause_true values lits)) (sym one.2 ∙ from.2)
    (follows from.0 one.0 one.1 values all)))

-- A step's clause is over the variables of the clauses that its hints name, none of which is a
-- tautology, and their tags are no greater.
step_within : (clauses : List ArenaClause) (packets : List (Option (List Step)))
    (steps : List Step) (bound : ℕ) (step : Step) → IsStocked clauses packets steps bound
    → IsOkStep (named_by (inputs_of clauses) packets steps) step
    → IsWithinItsTag (inputs_of clauses) (known_of step)
step_within clauses packets steps bound step stock ok proper = elim ok.proved [
  | inl excluded ↦ absurd (proper excluded.tautology)
  | inr derived ↦ greatest_within step.clause most
      (λ lit has. (let (lits, among, there) = derived.covered lit has in
      let (hint, hinted, is) = Contains-from_map (λ (hint : Ref). clause_of
      (table hint)) step.hints lits among in
      let (one, found, lits_are, tag_is) = named_of (table hint)
      (All-contains (λ hint. IsSome (table hint)) step.hints hint ok.all_known hinted) in
      let one_proper : IsTautology one.clause → ⊥ = λ both. hints_proper (map opposite step.clause)
      (map (λ hint. clause_of (table hint)) step.hints)
      (negation_consistent step.clause proper) derived.conflict lits among
      (subst IsTautology (sym lits_are ∙ is) both) in
      let low = named_has (IsWithinItsTag
      (inputs_of clauses)) clauses packets steps bound stock stock.within stock.steps_within hint one found one_proper in
      let tag_low : one.tag ≤ step.tag = subst (λ n. one.tag ≤ n) (sym ok.exact_tag)
      (at_most_greatest (map (λ hint. tag_of (table hint)) step.hints) one.tag
      (subst (Contains (map (λ hint. tag_of (table hint)) step.hints)) tag_is
      (Contains-map (λ (hint : Ref). tag_of (table hint)) step.hints hint hinted))) in
      let wider = greatest_grows (inputs_of clauses) (inputs_of clauses) one.tag step.tag
      (λ _ h. h) tag_low in
      let here = below_greatest one.clause lit (subst (λ (xs : List ℕ). Contains xs lit)
      (sym is ∙ lits_are) there) in
      omega (arith, low, wider, here)))
]
  where
    table : Ref → Option Known
    table = named_by (inputs_of clauses) packets steps

    most : ℕ
    most = greatest_of_all (clauses_up_to (inputs_of clauses) step.tag)

-- A step that is ok comes behind the others.
pub stock_step : (clauses : List ArenaClause) (packets : List (Option (List Step)))
    (steps : List Step) (bound : ℕ) (step : Step) → IsStocked clauses packets steps bound
    → IsOkStep (named_by (inputs_of clauses) packets steps) step
    → IsStocked clauses packets (steps ++ step ∷ []) bound
stock_step clauses packets steps bound step stock ok = record {
  lits = stock.lits;
  named = All-under (λ clause. named_by (inputs_of clauses) packets steps clause.origin
      ≡ Some (known_clause clause)) (λ clause. named_by (inputs_of clauses) packets
      (steps ++ step ∷ []) clause.origin ≡ Some (known_clause clause)) clauses
      (λ clause is. named_with_step (inputs_of clauses) packets steps step clause.origin
      (known_clause clause) is) stock.named;
  entailed = stock.entailed;
  bounded = stock.bounded;
  within = stock.within;
  packets_held = stock.packets_held;
  ok = ok_push (inputs_of clauses) (shared_by packets) [] steps step stock.ok
      (ok_step_stays_ok (named_by (inputs_of clauses) packets steps)
      (known (inputs_of clauses) (shared_by packets) (map known_of steps)) step
      (named_is_known (inputs_of clauses) packets steps) ok);
  steps_entailed = All-push (λ (one : Step). Entails
      (clauses_of (inputs_of clauses)) one.clause) steps step stock.steps_entailed
      (step_follows (inputs_of clauses) (named_by (inputs_of clauses) packets steps) step
      (known_follows clauses packets steps bound stock) ok);
  steps_within = All-push (λ (one : Step). IsWithinItsTag (inputs_of clauses)
      (known_of one)) steps step stock.steps_within
      (step_within clauses packets steps bound step stock ok);
  steps_bounded = All-push (λ (one : Step). one.tag ≤ bound) steps step stock.steps_bounded
      (step_bounded clauses packets steps bound step stock ok);
}

-- A clause that isn't named as an input is none.
pub inputs_beside : (clauses : List ArenaClause) (one : ArenaClause) → is_input one.origin ≡ false
    → inputs_of (clauses ++ one ∷ []) ≡ inputs_of clauses
inputs_beside clauses one none =
    ap (map known_clause) (filter-append (λ (clause : ArenaClause). is_input clause.origin) clauses
    (one ∷ [])
    ∙ ap (λ (b : Bool). filter (λ (clause : ArenaClause). is_input clause.origin) clauses
    ++ cond b (one ∷ []) []) none
    ∙ append-nil (filter (λ (clause : ArenaClause). is_input clause.origin) clauses))

-- What was held stays so.
pub held_push : (clauses : List ArenaClause) (more : ArenaClause) (one : Known)
    → Contains (held_of clauses) one → Contains (held_of (clauses ++ more ∷ [])) one
held_push clauses more one has = subst (λ (held : List Known). Contains held one)
    (sym (map_push known_clause clauses more)) (Contains-append_left (held_of clauses)
    (known_clause more ∷ []) one has)

-- A learnt clause, the clause of a step, comes to be held.
pub stock_learnt : (clauses : List ArenaClause) (packets : List (Option (List Step)))
    (steps : List Step) (bound : ℕ) (step : Step) (number : ℕ)
    → IsStocked clauses packets steps bound
    → item_at (map known_of steps) number ≡ Some (known_of step) → All IsLit step.clause
    → IsTrue (is_ascending step.clause)
    → IsStocked (clauses ++ record {
      lits = step.clause;
      tag = step.tag;
      origin = Own number;
    } ∷ []) packets steps bound
stock_learnt clauses packets steps bound step number stock is lits ascending = record {
  lits = All-push (λ clause. All IsLit clause.lits) clauses learnt stock.lits lits;
  named = subst (λ inputs. All (λ clause. named_by inputs packets steps clause.origin
      ≡ Some (known_clause clause)) (clauses ++ learnt ∷ [])) (sym same)
      (All-push (λ clause. named_by (inputs_of clauses) packets steps clause.origin
      ≡ Some (known_clause clause)) clauses learnt stock.named (is ∙ ap Some known_is));
  entailed = subst (λ inputs. All (λ clause. Entails (clauses_of inputs)
      (known_clause clause).clause) (clauses ++ learnt ∷ [])) (sym same)
      (All-push (λ clause. Entails (clauses_of (inputs_of clauses))
      (known_clause clause).clause) clauses learnt stock.entailed
      (subst (λ (one : Known). Entails (clauses_of (inputs_of clauses)) one.clause) known_is
      (known_follows clauses packets steps bound stock (Own number) (known_of step) is)));
  bounded = All-push (λ clause. clause.tag ≤ bound) clauses learnt stock.bounded
      (known_bounded clauses packets steps bound stock (Own number) (known_of step) is);
  within = subst (λ inputs. All (λ clause. IsWithinItsTag inputs (known_clause clause))
      (clauses ++ learnt ∷ [])) (sym same)
      (All-push (λ clause. IsWithinItsTag (inputs_of clauses)
      (known_clause clause)) clauses learnt stock.within
      (subst (IsWithinItsTag (inputs_of clauses)) known_is
      (named_has (IsWithinItsTag
      (inputs_of clauses)) clauses packets steps bound stock stock.within stock.steps_within
      (Own number) (known_of step) is)));
  packets_held = λ place name one found. held_push clauses learnt one
      (stock.packets_held place name one found);
  ok = subst (λ inputs. AreOkSteps inputs (shared_by packets) [] steps) (sym same) stock.ok;
  steps_entailed = subst (λ inputs. All (λ one. Entails (clauses_of inputs) one.clause) steps)
      (sym same) stock.steps_entailed;
  steps_within = subst (λ inputs. All (λ one. IsWithinItsTag inputs (known_of one)) steps)
      (sym same) stock.steps_within;
  steps_bounded = stock.steps_bounded;
}
  where
    learnt : ArenaClause
    learnt = record { lits = step.clause; tag = step.tag; origin = Own number }

    same : inputs_of (clauses ++ learnt ∷ []) ≡ inputs_of clauses
    same = inputs_beside clauses learnt refl

    known_is : known_of step ≡ known_clause learnt
    known_is = ap (λ lits. record { clause = lits; tag = step.tag })
        (sym (in_order-itself step.clause ascending))

-- An input comes behind the others.
pub stock_input : (clauses : List ArenaClause) (packets : List (Option (List Step)))
    (steps : List Step) (bound tag number : ℕ) (clause : List ℕ)
    → IsStocked clauses packets steps bound → bound ≤ tag
    → number ≡ length (inputs_of clauses) + 1 → All IsLit clause → IsTrue (is_ascending clause)
    → IsStocked (clauses ++ record {
      lits = clause;
      tag = tag;
      origin = Input number;
    } ∷ []) packets steps tag
stock_input clauses packets steps bound tag number clause stock le last lits ascending = record {
  lits = All-push (λ one. All IsLit one.lits) clauses input stock.lits lits;
  named = subst (λ inputs. All (λ one. named_by inputs packets steps one.origin
      ≡ Some (known_clause one)) (clauses ++ input ∷ [])) (sym more)
      (All-push (λ one. named_by inputs packets steps one.origin
      ≡ Some (known_clause one)) clauses input
      (All-under (λ one. named_by (inputs_of clauses) packets steps one.origin
      ≡ Some (known_clause one)) (λ one. named_by inputs packets steps one.origin
      ≡ Some (known_clause one)) clauses
      (λ one is. named_with_input (inputs_of clauses) (known_clause input) packets steps one.origin
      (known_clause one) is) stock.named)
      (item_at-last (inputs_of clauses) (known_clause input) number last));
  entailed = subst (λ inputs. All (λ one. Entails (clauses_of inputs) (known_clause one).clause)
      (clauses ++ input ∷ [])) (sym more)
      (All-push (λ one. Entails (clauses_of inputs) (known_clause one).clause) clauses input
      (All-under (λ one. Entails (clauses_of (inputs_of clauses)) (known_clause one).clause)
      (λ one. Entails (clauses_of inputs) (known_clause one).clause) clauses
      (λ one follows. follows_with_input (inputs_of clauses) (known_clause input)
      (known_clause one).clause follows) stock.entailed)
      (input_follows inputs (known_clause input) (Contains-append_right (inputs_of clauses)
      (known_clause input ∷ []) (known_clause input) (Contains-here (known_clause input) []))));
  bounded = All-push (λ one. one.tag ≤ tag) clauses input
      (All-under (λ one. one.tag ≤ bound) (λ one. one.tag ≤ tag) clauses
      (λ one low. omega (arith, low, le)) stock.bounded) (omega arith);
  within = subst (λ inputs. All (λ one. IsWithinItsTag inputs (known_clause one))
      (clauses ++ input ∷ [])) (sym more)
      (All-push (λ one. IsWithinItsTag inputs (known_clause one)) clauses input
      (All-under (λ one. IsWithinItsTag (inputs_of clauses) (known_clause one))
      (λ one. IsWithinItsTag inputs (known_clause one)) clauses
      (λ one low. within_more (known_clause one) low) stock.within)
      (λ _. input_within inputs (known_clause input)
      (Contains-append_right (inputs_of clauses) (known_clause input ∷ []) (known_clause input)
      (Contains-here (known_clause input) []))));
  packets_held = λ place name one found. held_push clauses input one
      (stock.packets_held place name one found);
  ok = subst (λ inputs. AreOkSteps inputs (shared_by packets) [] steps) (sym more)
      (ok_with_input (inputs_of clauses) (shared_by packets) []
      (known_clause input) steps stock.ok);
  steps_entailed = subst (λ inputs. All (λ one. Entails (clauses_of inputs) one.clause) steps)
      (sym more)
      (All-under (λ (one : Step). Entails (clauses_of (inputs_of clauses)) one.clause)
      (λ one. Entails (clauses_of inputs) one.clause) steps
      (λ one follows. follows_with_input (inputs_of clauses)
      (known_clause input) one.clause follows) stock.steps_entailed);
  steps_within = subst (λ inputs. All (λ one. IsWithinItsTag inputs (known_of one)) steps)
      (sym more)
      (All-under (λ (one : Step). IsWithinItsTag (inputs_of clauses) (known_of one))
      (λ one. IsWithinItsTag inputs (known_of one)) steps
      (λ one low. within_more (known_of one) low) stock.steps_within);
  steps_bounded = All-under (λ (one : Step). one.tag ≤ bound) (λ one. one.tag ≤ tag) steps
      (λ one low. omega (arith, low, le)) stock.steps_bounded;
}
  where
    input : ArenaClause
    input = record { lits = clause; tag = tag; origin = Input number }

    inputs : List Known
    inputs = inputs_of clauses ++ known_clause input ∷ []

    within_more : (one : Known) → IsWithinItsTag (inputs_of clauses) one → IsWithinItsTag inputs one
    within_more one low proper =
        let wider = greatest_grows (inputs_of clauses) inputs one.tag one.tag
        (λ x h. Contains-append_left (inputs_of clauses) (known_clause input ∷ []) x h)
        (omega arith) in
        let was = low proper in
        omega (arith, wider, was)

    more : inputs_of (clauses ++ input ∷ []) ≡ inputs
    more = ap (map known_clause) (filter-append (λ
        (one : ArenaClause). is_input one.origin) clauses (input ∷ []))
        ∙ map_push known_clause (filter (λ (one : ArenaClause). is_input one.origin) clauses) input
