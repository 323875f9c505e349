-- Queues of variables as contracts see them.
use Rattle.std.specs.Prelude.{◌≡◌, ℕ, ◌+◌, ◌-◌, ◌≤◌, ◌==◌, not, Bool, true, false, List, [], ◌∷◌}
use Rattle.std.specs.Prelude.{◌++◌, length, filter, reverse, Contains}
use Rattle.std.specs.List.{range_with_len}

-- The variables from the end of the queue to its front, those of them, nearest the end, that a
-- search skips, and how many variables were entered: 1 to that number.
pub record QueueView : Type 0 where
  pub order : List ℕ
  pub skipped : List ℕ
  pub vars : ℕ

-- no number stands twice
abbrev pub IsOnce : List ℕ → Type 0
IsOnce [] = Unit {0}
IsOnce (number ∷ numbers) = (Contains numbers number → ⊥) × IsOnce numbers

-- the list without the number, the others in their order
abbrev pub without : ℕ → List ℕ → List ℕ
without number numbers = filter (λ other. not (other == number)) numbers

-- each of the variables 1 to this number stands in the list, once, and nothing else does
pub record HasEachOnce (order : List ℕ) (vars : ℕ) : Type 0 where
  pub once : IsOnce order
  pub known : (var : ℕ) → Contains order var → (1 ≤ var) × (var ≤ vars)
  pub each : (var : ℕ) → 1 ≤ var → var ≤ vars → Contains order var
  pub size : length order ≡ vars

pub record IsQueue (queue : QueueView) : Type 0 where
  pub variables : HasEachOnce queue.order queue.vars
  pub rest : List ℕ
  pub front : queue.order ≡ queue.skipped ++ rest

-- one more variable, at the end or at the front
abbrev pub with_next : Bool → ℕ → List ℕ → List ℕ
with_next true var order = var ∷ order
with_next false var order = order ++ var ∷ []

-- the order after the variables above `vars` up to `new` came in ascending order, each at the end
-- or each at the front
abbrev pub entered : Bool → List ℕ → ℕ → ℕ → List ℕ
entered true order vars new = reverse (range_with_len (vars + 1) (new - vars)) ++ order
entered false order vars new = order ++ range_with_len (vars + 1) (new - vars)
