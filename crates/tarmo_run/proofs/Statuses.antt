-- The status that the verdicts of a board give.
use Rattle.std.proofs.Common.{◌≡◌, ℕ, zero, suc, ◌+◌, ◌-◌, ◌≤◌, Bool, true, false, Option, ap, sym}
use Rattle.std.proofs.Common.{subst, arith, add-one}
use Rattle.std.specs.Prelude.{◌||◌}
use Rattle.entry_core.specs.declared.answers.Verdict.{Verdict}
use Rattle.entry_core.specs.Settled.{settled}
use Rattle.board_core.specs.State.{State}
use Rattle.tarmo_run.specs.Output.{is_one_so}

-- one that is so among the first is so among more
one_so_among : (kind : Option Verdict → Bool) (board : State) (first more : ℕ) →
    is_one_so kind board first ≡ true → is_one_so kind board (first + more) ≡ true
one_so_among kind board first zero so = let none : first ≡ first + 0 =
    omega arith in subst (λ n. is_one_so kind board n ≡ true) none so
one_so_among kind board first (suc more) so =
    let one : suc (first + more) ≡ first + suc more = omega arith in
    subst (λ n. is_one_so kind board n ≡ true) one
    (ap (λ b. b || kind (settled board.rules board.journal (suc (first + more))))
    (one_so_among kind board first more so))

pub one_so_of_all : (kind : Option Verdict → Bool) (board : State) (first all : ℕ) →
    is_one_so kind board first ≡ true → first ≤ all → true ≡ is_one_so kind board all
one_so_of_all kind board first all so le =
    let whole : first + (all - first) ≡ all = omega (arith, le) in
    sym (subst (λ n. is_one_so kind board n ≡ true) whole
    (one_so_among kind board first (all - first) so))

pub one_more : (kind : Option Verdict → Bool) (board : State) (job : ℕ) →
    is_one_so kind board job ≡ false →
    is_one_so kind board (job + 1) ≡ kind (settled board.rules board.journal (job + 1))
one_more kind board job none =
    subst (λ n. is_one_so kind board n ≡ kind (settled board.rules board.journal n))
    (sym (add-one job))
    (ap (λ b. b || kind (settled board.rules board.journal (suc job))) none)
