-- The numbers of new clauses.
use Rattle.std.proofs.Common.{◌≡◌, ◌∙◌, ℕ, ◌+◌, ◌-◌, ◌<◌, ◌≤◌, List, [], ◌∷◌, length, suc, ap, subst, inl, inr, arith, get_or}
use Rattle.std.specs.Prelude.{◌⊎◌, Contains, All}
use Rattle.std.specs.List.{range_with_len}
use Rattle.std.proofs.lemmas.Bool.{cases_lt}
use Rattle.std.proofs.lemmas.List.{get_or_default}
use Rattle.std.proofs.lemmas.List.Elements.{Contains-get_or, All-from_get_or}
use Rattle.std.proofs.lemmas.List.FromFn.{length-range_with_len, get_or-range_with_len}
use Rattle.clause_arena.specs.Arena.{ArenaClause}
use Rattle.propagate.specs.Pairing.{IsOld}
use Rattle.propagate.specs.Lists.{new_from}

pub length-new_from : (number : ℕ) (clauses : List ArenaClause) → length (new_from number clauses) ≡ length clauses - number
length-new_from number clauses = length-range_with_len number (length clauses - number)

pub in_new : (number : ℕ) (clauses : List ArenaClause) (id : ℕ) → number ≤ id → id < length clauses → Contains (new_from number clauses) id
in_new number clauses id ge lt =
    let k_in : id - number < length clauses - number = omega arith in
    let is : get_or (new_from number clauses) (id - number) 0 ≡ id = omega (arith, get_or-range_with_len number (length clauses - number) (id - number) 0 k_in) in
    subst (Contains (new_from number clauses)) is
    (Contains-get_or (new_from number clauses) (id - number) 0 (omega (arith, k_in, length-new_from number clauses)))

pub from_new : (number : ℕ) (clauses : List ArenaClause) (id : ℕ) → Contains (new_from number clauses) id → (number ≤ id) × (id < length clauses)
from_new number clauses id c =
    let k_in : c.0 < length clauses - number = omega (arith, c.1, length-new_from number clauses) in
    let is : get_or (new_from number clauses) c.0 0 ≡ id = get_or_default (new_from number clauses) c.0 0 id c.1 ∙ c.2 in
    let at = get_or-range_with_len number (length clauses - number) c.0 0 k_in in
    (omega (arith, is, at), omega (arith, is, at, k_in))

pub old_below : (number : ℕ) (clauses : List ArenaClause) (id : ℕ) → IsOld clauses (new_from number clauses) id → id < number
old_below number clauses id o = at (cases_lt id number)
  where
    at : (id < number) ⊎ (number ≤ id) → id < number
    at (inl lt) = lt
    at (inr ge) = absurd (o.not_new (in_new number clauses id ge o.known))

pub below_old : (number : ℕ) (clauses : List ArenaClause) (id : ℕ) → id < number → number ≤ length clauses → IsOld clauses (new_from number clauses) id
below_old number clauses id lt le = record {
  known = omega arith;
  not_new = λ c. let h = from_new number clauses id c in absurd (omega (arith, h.0, lt));
}

pub any_old : (clauses : List ArenaClause) (id : ℕ) → id < length clauses → IsOld clauses [] id
any_old clauses id lt = record { known = lt; not_new = λ c. absurd (omega (arith, c.1)) }

pub new_none : (number : ℕ) (clauses : List ArenaClause) → length clauses ≤ number → new_from number clauses ≡ []
new_none number clauses le = let e : length clauses - number ≡ 0 = omega arith in ap (range_with_len number) e

pub new_cons : (id : ℕ) (clauses : List ArenaClause) → id < length clauses → new_from id clauses ≡ id ∷ new_from (id + 1) clauses
new_cons id clauses lt = let e : length clauses - id ≡ suc (length clauses - (id + 1)) = omega arith in ap (range_with_len id) e

pub new_same : (number : ℕ) (old new : List ArenaClause) → length new ≡ length old → new_from number new ≡ new_from number old
new_same number old new e = ap (λ n. range_with_len number (n - number)) e

pub new_known : (number : ℕ) (clauses : List ArenaClause) → All (λ id. id < length clauses) (new_from number clauses)
new_known number clauses =
    All-from_get_or (λ (id : ℕ). id < length clauses) (new_from number clauses) 0
    (λ k lt. (from_new number clauses _ (Contains-get_or (new_from number clauses) k 0 lt)).1)

pub new_fewer : (number more : ℕ) (clauses : List ArenaClause) → number ≤ more → All (Contains (new_from number clauses)) (new_from more clauses)
new_fewer number more clauses le =
    All-from_get_or (Contains (new_from number clauses)) (new_from more clauses) 0
    (λ k lt. let h = from_new more clauses _ (Contains-get_or (new_from more clauses) k 0 lt) in in_new number clauses _ (omega (arith, h.0, le)) h.1)
