use Rattle.std.proofs.Common.{◌≡◌, ◌∙◌, ℕ, zero, suc, ◌+◌, ◌-◌, ◌<◌, ◌≤◌, [], ◌∷◌, rules, subst, sym, inl, inr, arith}
use Rattle.std.specs.Prelude.{Contains, ◌⊎◌, Some, slice_get}
use Rattle.sat_base.proofs.Members.{Contains-cases}
use Rattle.sat_base.specs.declared.origins.Ref.TheVariants.{Input, Own}
use Rattle.trace_core.specs.declared.derivation.Step.{Step}
use Rattle.trace_trim.specs.Packed.{CiteEarlierOwn}
use Rattle.trace_core.proofs.Items.{item_at-found}
use Rattle.trace_trim.proofs.tests.chain.Goals as goal

not_input : (n m : ℕ) → Contains (Input n ∷ []) (Own m) → ⊥
not_input n m has = by_case (Contains-cases (Input n) (Own m) [] has)
  where
    by_case : (Input n ≡ Own m) ⊎ Contains [] (Own m) → ⊥
    by_case (inl same) = absurd (cc)
    by_case (inr (k, lt, is)) = omega arith

first_own : (k n m : ℕ) → Contains (Own k ∷ Input n ∷ []) (Own m) → k ≡ m
first_own k n m has = by_case (Contains-cases (Own k) (Own m) (Input n ∷ []) has)
  where
    by_case : (Own k ≡ Own m) ⊎ Contains (Input n ∷ []) (Own m) → k ≡ m
    by_case (inl same) = cc
    by_case (inr later) = absurd (not_input n m later)

back_at : (a b c : Step) → a.hints ≡ Input 1 ∷ [] → b.hints ≡ Own 1 ∷ Input 2 ∷ [] → c.hints ≡ Own 2 ∷ Input 3 ∷ [] → (i other : ℕ) (step : Step)
    → slice_get (a ∷ b ∷ c ∷ []) i ≡ Some step → Contains step.hints (Own other) → (1 ≤ other) × (other < i + 1)
back_at a b c first second third zero other step is has =
    let one : a ≡ step = cc in
    absurd (not_input 1 other (subst (λ hints. Contains hints (Own other)) first (subst (λ (s : Step). Contains s.hints (Own other)) (sym one) has)))
back_at a b c first second third (suc zero) other step is has =
    let one : b ≡ step = cc in
    let same = first_own 1 2 other (subst (λ hints. Contains hints (Own other)) second (subst (λ (s : Step). Contains s.hints (Own other)) (sym one) has)) in
    (omega (arith, same), omega (arith, same))
back_at a b c first second third (suc (suc zero)) other step is has =
    let one : c ≡ step = cc in
    let same = first_own 2 3 other (subst (λ hints. Contains hints (Own other)) third (subst (λ (s : Step). Contains s.hints (Own other)) (sym one) has)) in
    (omega (arith, same), omega (arith, same))
back_at a b c first second third (suc (suc (suc i))) other step is has = absurd (cc)

chain_back : (a b c : Step) → a.hints ≡ Input 1 ∷ [] → b.hints ≡ Own 1 ∷ Input 2 ∷ [] → c.hints ≡ Own 2 ∷ Input 3 ∷ [] → CiteEarlierOwn (a ∷ b ∷ c ∷ [])
chain_back a b c first second third user other step is has =
    let at = item_at-found (a ∷ b ∷ c ∷ []) user step is in
    let back = back_at a b c first second third (user - 1) other step at.1 has in
    (back.0, omega (arith, at.0, back.1))

pub returns-clause-back : goal.returns-clause-back
returns-clause-back c =
    let a = c.in_ok-unit.field-0 in
    let b = c.in_ok-unit-2.field-0 in
    let d = c.in_ok-unit-3.field-0 in
    let all : c.push-3.new.self.items ≡ a ∷ b ∷ d ∷ [] = search rules in
    subst CiteEarlierOwn (sym (c.in_ok-of.ensures ∙ c.deref.ensures.value ∙ all)) (chain_back a b d c.in_ok-unit.ensures c.in_ok-unit-2.ensures c.in_ok-unit-3.ensures)
