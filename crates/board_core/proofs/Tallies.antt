-- How many jobs are settled after one more entry.
use Rattle.std.proofs.Common.{◌≡◌, ◌∙◌, ◌≢◌, ℕ, zero, suc, ◌+◌, ◌<◌, ◌≤◌, Bool, true, false, None, List, refl, ap, sym, inl, inr, arith, ◌⊎◌}
use Rattle.std.specs.Prelude.{is_some, if◌then◌else◌, nat_le}
use Rattle.std.proofs.lemmas.Bool.Decides.{nat_tests}
use Rattle.entry_core.specs.declared.entries.Entry.{Entry}
use Rattle.entry_core.specs.declared.rules.Rules.{Rules}
use Rattle.entry_core.specs.Settled.{settled, settled_up_to}

added : (b b' : Bool) (after before : ℕ) → b ≡ true → b' ≡ false → after ≡ before → after + (if b then 1 else 0) ≡ (before + (if b' then 1 else 0)) + 1
added true false after before p q r = omega arith
added false b' after before p q r = absurd (cc)
added true true after before p q r = absurd (cc)

carried : (b b' : Bool) (after before : ℕ) → b ≡ b' → after ≡ before + 1 → after + (if b then 1 else 0) ≡ (before + (if b' then 1 else 0)) + 1
carried true true after before p r = omega arith
carried false false after before p r = omega arith
carried true false after before p r = absurd (cc)
carried false true after before p r = absurd (cc)

-- the same jobs are settled
pub tally_same : (rules : Rules) (journal longer : List Entry) (most : ℕ) → ((job : ℕ) → job ≤ most → settled rules longer job ≡ settled rules journal job)
    → settled_up_to rules longer most ≡ settled_up_to rules journal most
tally_same rules journal longer zero same = refl
tally_same rules journal longer (suc most) same =
    ap (λ given. settled_up_to rules longer most + (if is_some given then 1 else 0)) (same (suc most) (omega arith))
    ∙ ap (λ n. n + (if is_some (settled rules journal (suc most)) then 1 else 0)) (tally_same rules journal longer most (λ job le. same job (omega arith)))

-- one job more is settled
pub tally_one : (rules : Rules) (journal longer : List Entry) (most one : ℕ) → 1 ≤ one → one ≤ most → settled rules journal one ≡ None → is_some (settled rules longer one) ≡ true
    → ((job : ℕ) → job ≢ one → settled rules longer job ≡ settled rules journal job)
    → settled_up_to rules longer most ≡ settled_up_to rules journal most + 1
tally_one rules journal longer zero one from to was is same = absurd (omega arith)
tally_one rules journal longer (suc most) one from to was is same =
    by_place (last_or_earlier one most to) (λ le. tally_one rules journal longer most one from le was is same)
  where
    last_or_earlier : (one most : ℕ) → one ≤ suc most → (one ≡ suc most) ⊎ (one ≤ most)
    last_or_earlier one most le = cases (nat_le one most) refl
      where
        cases : (b : Bool) → nat_le one most ≡ b → (one ≡ suc most) ⊎ (one ≤ most)
        cases true h = inr (grind (arith, nat_tests))
        cases false h = inl (grind (arith, nat_tests))

    by_place : (one ≡ suc most) ⊎ (one ≤ most) → (one ≤ most → settled_up_to rules longer most ≡ settled_up_to rules journal most + 1)
        → settled_up_to rules longer (suc most) ≡ settled_up_to rules journal (suc most) + 1
    by_place (inl last) recur =
        let others : settled_up_to rules longer most ≡ settled_up_to rules journal most = tally_same rules journal longer most (λ job le. same job (λ h. absurd (omega arith))) in
        let now : is_some (settled rules longer (suc most)) ≡ true = ap (λ n. is_some (settled rules longer n)) (sym last) ∙ is in
        let before : is_some (settled rules journal (suc most)) ≡ false = ap (λ n. is_some (settled rules journal n)) (sym last) ∙ ap is_some was in
        added (is_some (settled rules longer (suc most))) (is_some (settled rules journal (suc most))) _ _ now before others
    by_place (inr earlier) recur =
        let this : is_some (settled rules longer (suc most)) ≡ is_some (settled rules journal (suc most)) = ap is_some (same (suc most) (λ h. absurd (omega arith))) in
        carried (is_some (settled rules longer (suc most))) (is_some (settled rules journal (suc most))) _ _ this (recur earlier)

-- never more than there are, and fewer where one isn't settled
pub tally_le : (rules : Rules) (journal : List Entry) (most : ℕ) → settled_up_to rules journal most ≤ most
tally_le rules journal zero = omega arith
tally_le rules journal (suc most) = at_most (is_some (settled rules journal (suc most))) (settled_up_to rules journal most) most (tally_le rules journal most)
  where
    at_most : (b : Bool) (tally most : ℕ) → tally ≤ most → tally + (if b then 1 else 0) ≤ suc most
    at_most true tally most le = omega arith
    at_most false tally most le = omega arith

pub tally_lt : (rules : Rules) (journal : List Entry) (most one : ℕ) → 1 ≤ one → one ≤ most → settled rules journal one ≡ None → settled_up_to rules journal most < most
tally_lt rules journal zero one from to none = absurd (omega arith)
tally_lt rules journal (suc most) one from to none =
    by_place (λ le. tally_lt rules journal most one from le none) (nat_le one most) refl
  where
    at_most : (b : Bool) (tally most : ℕ) → tally < most → tally + (if b then 1 else 0) < suc most
    at_most true tally most lt = omega arith
    at_most false tally most lt = omega arith

    last_open : (b : Bool) (tally most : ℕ) → b ≡ false → tally ≤ most → tally + (if b then 1 else 0) < suc most
    last_open true tally most is le = absurd (cc)
    last_open false tally most is le = omega arith

    by_place : (one ≤ most → settled_up_to rules journal most < most) → (b : Bool) → nat_le one most ≡ b → settled_up_to rules journal (suc most) < suc most
    by_place recur true h = at_most (is_some (settled rules journal (suc most))) (settled_up_to rules journal most) most (recur (grind (arith, nat_tests)))
    by_place recur false h =
        let last : one ≡ suc most = grind (arith, nat_tests) in
        last_open (is_some (settled rules journal (suc most))) (settled_up_to rules journal most) most (ap (λ n. is_some (settled rules journal n)) (sym last) ∙ ap is_some none) (tally_le rules journal most)
