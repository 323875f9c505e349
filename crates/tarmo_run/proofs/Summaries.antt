-- What a summary counts.
use Rattle.std.proofs.Common.{◌≡◌, ◌∙◌, ℕ, zero, suc, ◌+◌, ◌≤◌, Bool, true, false, Option, length}
use Rattle.std.specs.Prelude.{codes}
use Rattle.std.proofs.Common.{◌++◌, List, refl, ap, sym, subst, arith, add-one, cond}
use Rattle.entry_core.specs.declared.answers.Verdict.{Verdict}
use Rattle.entry_core.specs.Journal.{inputs_of, jobs}
use Rattle.entry_core.specs.Settled.{settled}
use Rattle.board_core.specs.Replies.{IsJob}
use Rattle.board_core.specs.State.{State}
use Rattle.entry_core.proofs.Inputs.{inputs_of_none}
use Rattle.tarmo_run.specs.Body.{clause_count, count_of, is_of, number_of, numbered_line}
use Rattle.tarmo_run.specs.Body.{summary_of}
use Rattle.tarmo_run.specs.Growth.{HasNoJobMore, IsLonger}
use Rattle.tarmo_run.specs.Output.{AreSettled}
use Rattle.tarmo_run.specs.declared.summary.Kind.{Kind}
use Rattle.tarmo_run.specs.declared.summary.Kind.TheVariants as kinds
use Rattle.tarmo_run.proofs.Boards.{inputs_stay, more_jobs, one_same}

-- one more job, which is so
pub one_counted : (kind : Option Verdict → Bool) (board : State) (job count : ℕ) →
    count ≡ count_of kind board job →
    kind (settled board.rules board.journal (job + 1)) ≡ true →
    count + 1 ≡ count_of kind board (job + 1)
one_counted kind board job count is so =
    subst (λ n. count + 1 ≡ count_of kind board n) (sym (add-one job))
    (add-one count ∙ ap suc is
    ∙ ap (λ b. cond b (suc (count_of kind board job)) (count_of kind board job))
    (sym (subst (λ n. kind (settled board.rules board.journal n) ≡ true) (add-one job) so)))

-- one more job, which isn't so
pub none_counted : (kind : Option Verdict → Bool) (board : State) (job count : ℕ) →
    count ≡ count_of kind board job →
    kind (settled board.rules board.journal (job + 1)) ≡ false →
    count ≡ count_of kind board (job + 1)
none_counted kind board job count is so =
    subst (λ n. count ≡ count_of kind board n) (sym (add-one job))
    (is
    ∙ ap (λ b. cond b (suc (count_of kind board job)) (count_of kind board job))
    (sym (subst (λ n. kind (settled board.rules board.journal n) ≡ false) (add-one job) so)))

pub no_inputs : (board : State) → 0 ≡ length (inputs_of board.journal 0)
no_inputs board = sym (ap length (inputs_of_none board.journal))

-- what is settled is counted the same on a longer board
count_stays : (kind : Option Verdict → Bool) (old new : State) (job : ℕ) → IsLonger old new →
    AreSettled old → job ≤ jobs old.journal → count_of kind new job ≡ count_of kind old job
count_stays kind old new zero longer all few = refl
count_stays kind old new (suc job) longer all few =
    let there : IsJob old (suc job) = record { from_one = omega arith; added = few } in
    let same = one_same old new (suc job) longer (all (suc job) there) in
    let rest = count_stays kind old new job longer all (omega (arith, few)) in
    ap (λ n. cond (kind (settled new.rules new.journal (suc job))) (suc n) n) rest
    ∙ ap (λ (given : Option Verdict). cond (kind given) (suc (count_of kind old job))
    (count_of kind old job)) same

number_stays : (kind : Kind) (old new : State) → HasNoJobMore old new → AreSettled old →
    number_of kind new ≡ number_of kind old
number_stays kind old new more all =
    ap (count_of (is_of kind) new) (ap length more.segments)
    ∙ count_stays (is_of kind) old new (jobs old.journal) more.longer all (omega arith)

clauses_stay : (old new : State) → HasNoJobMore old new → clause_count new ≡ clause_count old
clauses_stay old new more =
    ap (λ n. length (inputs_of new.journal n)) (ap length more.segments)
    ∙ ap length (inputs_stay old new (jobs old.journal) more.longer (omega arith))

-- the summary with these numbers
abbrev summary_with : ℕ → ℕ → ℕ → ℕ → ℕ → ℕ → ℕ → ℕ → List ℕ
summary_with number clauses jobs s u k x m = numbered_line (codes "sum") number
    ++ numbered_line (codes "clauses") clauses
    ++ numbered_line (codes "jobs") jobs
    ++ numbered_line (codes "satisfiable") s
    ++ numbered_line (codes "unsatisfiable") u
    ++ numbered_line (codes "unknown") k
    ++ numbered_line (codes "cancelled") x
    ++ numbered_line (codes "nomemory") m

five_same : (number clauses jobs s u k x m s' u' k' x' m' : ℕ) → s ≡ s' → u ≡ u' → k ≡ k' →
    x ≡ x' → m ≡ m' →
    summary_with number clauses jobs s u k x m ≡ summary_with number clauses jobs s' u' k' x' m'
five_same number clauses jobs s u k x m s' u' k' x' m' a b c d e =
    ap (λ n. summary_with number clauses jobs n u k x m) a
    ∙ ap (λ n. summary_with number clauses jobs s' n k x m) b
    ∙ ap (λ n. summary_with number clauses jobs s' u' n x m) c
    ∙ ap (λ n. summary_with number clauses jobs s' u' k' n m) d
    ∙ ap (λ n. summary_with number clauses jobs s' u' k' x' n) e

-- where all is settled and no job comes, the summary stays
pub summary_stays : (number : ℕ) (old new : State) → HasNoJobMore old new → AreSettled old →
    summary_of number new ≡ summary_of number old
summary_stays number old new more all =
    ap (λ c. summary_with number c (jobs new.journal) (number_of kinds.Satisfiable new)
    (number_of kinds.Unsatisfiable new) (number_of kinds.Unknown new)
    (number_of kinds.Cancelled new)
    (number_of kinds.NoMemory new))
    (clauses_stay old new more)
    ∙ ap (λ j. summary_with number (clause_count old) j (number_of kinds.Satisfiable new)
    (number_of kinds.Unsatisfiable new) (number_of kinds.Unknown new)
    (number_of kinds.Cancelled new)
    (number_of kinds.NoMemory new))
    (ap length more.segments)
    ∙ five_same number (clause_count old) (jobs old.journal) _ _ _ _ _ _ _ _ _ _
    (number_stays kinds.Satisfiable old new more all)
    (number_stays kinds.Unsatisfiable old new more all)
    (number_stays kinds.Unknown old new more all) (number_stays kinds.Cancelled old new more all)
    (number_stays kinds.NoMemory old new more all)
