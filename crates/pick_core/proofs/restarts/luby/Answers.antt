use Rattle.std.proofs.Common.{◌≡◌, ℕ, ◌+◌, ◌-◌, ◌*◌, ◌^◌, ◌%◌, ◌<◌, ◌≤◌, subst, sym, arith}
use Rattle.std.proofs.lemmas.Nat.{pow_below}
use Rattle.pick_core.specs.Luby.{IsLuby, Whole, Part}
use Rattle.pick_core.proofs.restarts.luby.Goals as goal

-- the power that a shift gives
half_is : (k : ℕ) → k < 64 → 1 * 2 ^ k % 18446744073709551616 ≡ 2 ^ k
half_is k lt =
    let below : 2 ^ k < 18446744073709551616 = pow_below k 64 lt in
    small (2 ^ k) below
  where
    small : (n : ℕ) → n < 18446744073709551616 → 1 * n % 18446744073709551616 ≡ n
    small n h = omega (arith, h)

-- the last of a block
at_end : (k i : ℕ) → 2 ^ k ≤ i → i - 2 ^ k + 1 ≡ 2 ^ k → IsLuby i (2 ^ k)
at_end k i low e = Whole k i (ends (2 ^ k) low e)
  where
    ends : (half : ℕ) → half ≤ i → i - half + 1 ≡ half → i + 1 ≡ 2 * half
    ends half le h = omega (arith, le, h)

-- any other place of a block
inside : (k i item : ℕ) → 2 ^ k ≤ i → i < 2 * 2 ^ k → (i - 2 ^ k + 1 ≡ 2 ^ k → ⊥) → IsLuby (i - 2 ^ k + 1) item → IsLuby i item
inside k i item low high n = Part k i item low (ends (2 ^ k) low high n)
  where
    ends : (half : ℕ) → half ≤ i → i < 2 * half → (i - half + 1 ≡ half → ⊥) → i + 1 < 2 * half
    ends half le lt m = omega (arith, le, lt, m)

pub returns-then-rest-half : goal.returns-then-rest-half
returns-then-rest-half c =
    let half = half_is c.ilog2.result c.ilog2.ensures.bound in
    let e : c.loop-place.at - 2 ^ c.ilog2.result + 1 ≡ 2 ^ c.ilog2.result = subst (λ n. c.loop-place.at - n + 1 ≡ n) half c.if-rest-half.true in
    subst (IsLuby c.args.place) (sym half) (c.loop-place.invariant.leads (2 ^ c.ilog2.result) (at_end c.ilog2.result c.loop-place.at c.ilog2.ensures.power_le e))

pub loop-place-preserved : goal.loop-place-preserved
loop-place-preserved c =
    let half = half_is c.ilog2.result c.ilog2.ensures.bound in
    record {
      low = omega arith;
      leads = λ item h. c.loop-place.invariant.leads item
          (inside c.ilog2.result c.loop-place.at item c.ilog2.ensures.power_le c.ilog2.ensures.next_power_gt
          (λ e. c.if-rest-half.false (subst (λ n. c.loop-place.at - n + 1 ≡ n) (sym half) e))
          (subst (λ n. IsLuby (c.loop-place.at - n + 1) item) half h));
    }
