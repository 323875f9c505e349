-- Rounds, one after another.
use Rattle.std.proofs.Common.{◌≡◌, ◌∙◌, ℕ, ◌+◌, ◌-◌, ◌<◌, ◌≤◌, min, List, [], ◌++◌, length, drop, refl, ap, sym, subst, arith, append_assoc}
use Rattle.std.specs.Prelude.{All}
use Rattle.std.proofs.lemmas.List.{append-nil, length-append}
use Rattle.std.proofs.Math.Seq.{drop-append_seam}
use Rattle.entry_core.specs.declared.entries.Entry.{Entry}
use Rattle.trace_core.specs.Known.{item_at}
use Rattle.trace_core.specs.declared.derivation.Step.{Step}
use Rattle.entry_core.specs.Journal.{cube_of}
use Rattle.entry_core.specs.Right.{AreLiterals}
use Rattle.session.specs.declared.rounds.Round.{Round}
use Rattle.session.specs.declared.rounds.Round.TheVariants.{Model, Refuted, Paused}
use Rattle.session.specs.Rounds.{step_of_round}
use Rattle.session.specs.Solver.{Solver, IsSound, packet_at}
use Rattle.session.specs.Solving.{Ends, Keeps, Solves}
use Rattle.worker_loop.specs.declared.attempt.Attempt.{Attempt}
use Rattle.worker_loop.specs.declared.bench.Bench.{Bench}
use Rattle.worker_loop.specs.Asked.{clauses_at}
use Rattle.worker_loop.specs.Fits.{AreLearnt, FitsAttempt, read_by}
use Rattle.worker_loop.specs.Rounds.{HasLearntOn, IsRightRound, MakesRound}
use Rattle.worker_loop.proofs.Keeping.{keeps_itself, keeps_twice}
use Rattle.worker_loop.proofs.Learnt.{learnt_more, names_counted}

-- the steps behind those that were learnt before are what the round learnt
pub learnt_behind : (old new : Solver) (cube : List ℕ) (limit before : ℕ) (round : Round) → (s : Solves old new cube limit round) → before ≡ length old.learnt → drop before new.learnt ≡ s.learns.names
learnt_behind old new cube limit before round s counted =
    ap (λ n. drop n new.learnt) counted ∙ ap (drop (length old.learnt)) s.learns.learnt ∙ drop-append_seam old.learnt s.learns.names

pub round_made : (old new : Solver) (before after : Attempt) (budget limit place : ℕ) (round : Round) → Solves old new before.cube limit round → limit ≡ min 256 (budget - length before.learnt.items) → place ≡ length old.learnt
    → after ≡ record before { learnt = after.learnt } → after.learnt.items ≡ before.learnt.items ++ drop place new.learnt → MakesRound old new before after budget round
round_made old new before after budget limit place round s is counted same listed = made (subst (λ n. Solves old new before.cube n round) is s)
  where
    made : Solves old new before.cube (min 256 (budget - length before.learnt.items)) round → MakesRound old new before after budget round
    made t = record {
      solves = t;
      same = same;
      listed = listed ∙ ap (λ (more : List ℕ). before.learnt.items ++ more) (learnt_behind old new before.cube (min 256 (budget - length before.learnt.items)) place round t counted);
    }

-- What an attempt has learnt stays so after a round, with what the round taught.
pub learnt_round : (old new : Solver) (before after : Attempt) (budget : ℕ) (round : Round) → IsSound old → IsSound new
    → (m : MakesRound old new before after budget round) → All AreLiterals (clauses_at new.steps m.solves.learns.names)
    → AreLearnt old before.cube before.learnt.items → AreLearnt new after.cube after.learnt.items
learnt_round old new before after budget round was sound m literals learnt =
    subst (λ cube. AreLearnt new cube after.learnt.items) (sym (ap (λ (a : Attempt). a.cube) m.same))
    (subst (AreLearnt new before.cube) (sym m.listed)
    (learnt_more old new m.solves.more (step_of_round round) before.cube before.learnt.items was sound m.solves.learns literals learnt))

-- An attempt goes on to fit where its session keeps what it had, and what it learnt stays so.
pub attempt_fits : (old new : Bench) (before after : Attempt) (journal : List Entry) → Keeps old.session.solver new.session.solver → new ≡ record old { session = new.session } → after ≡ record before { learnt = after.learnt }
    → AreLearnt new.session.solver after.cube after.learnt.items → FitsAttempt old before journal → FitsAttempt new after journal
attempt_fits old new before after journal keeps bench same learnt fits = record {
  bound = keeps.bound ∙ fits.bound ∙ sym (ap (λ (a : Attempt). a.job) same);
  cube = ap (λ (a : Attempt). a.cube) same ∙ fits.cube ∙ ap (λ (a : Attempt). cube_of journal a.job) (sym same);
  known = λ place packet found low. ap (λ known. packet_at known place) keeps.packets
      ∙ fits.known place packet (ap (λ (all : List (List Step)). item_at all place) (sym (ap read_by bench)) ∙ found) (omega (arith, low, keeps.bound));
  learnt = learnt;
}

pub right_round : (solver : Solver) (cube : List ℕ) (limit count : ℕ) (round : Round) → Ends solver cube limit count round → IsRightRound solver cube round
right_round solver cube limit count (Model values) ends = ends.0
right_round solver cube limit count (Refuted part number) ends = ends.0
right_round solver cube limit count Paused ends = tt

least_low : (n : ℕ) → min 256 n ≤ n
least_low n = omega arith

least_some : (n : ℕ) → 0 < n → 0 < min 256 n
least_some n some = omega (arith, some)

-- a round learns no more than its limit
few_in_round : (solver : Solver) (cube : List ℕ) (limit count : ℕ) (round : Round) → Ends solver cube limit count round → count ≤ limit
few_in_round solver cube limit count (Model values) ends = omega (arith, ends.1)
few_in_round solver cube limit count (Refuted part number) ends = omega (arith, ends.1)
few_in_round solver cube limit count Paused ends = omega (arith, ends)

-- and after it the attempt lists no more than its budget allows
pub few_after : (old new : Solver) (before after : Attempt) (budget : ℕ) (round : Round) → length before.learnt.items < budget → (m : MakesRound old new before after budget round) → length after.learnt.items ≤ budget
few_after old new before after budget round left m =
    let few = few_in_round new before.cube (min 256 (budget - length before.learnt.items)) (length m.solves.more) round m.solves.ends in
    let count = names_counted new.steps m.solves.learns.names m.solves.more m.solves.learns.named in
    omega (arith, few, least_low (budget - length before.learnt.items), count, left, ap length m.listed, length-append before.learnt.items m.solves.learns.names)

-- a pause has taught something
paused_more : (solver : Solver) (cube : List ℕ) (limit count : ℕ) (round : Round) → Ends solver cube limit count round → round ≡ Paused → count ≡ limit
paused_more solver cube limit count round ends is = subst (λ (r : Round). Ends solver cube limit count r) is ends

-- so that less of the budget is left
pub less_left : (old new : Solver) (before after : Attempt) (budget : ℕ) (round : Round) → (m : MakesRound old new before after budget round) → round ≡ Paused → length before.learnt.items < budget → budget - length after.learnt.items < budget - length before.learnt.items
less_left old new before after budget round m paused left =
    let all = paused_more new before.cube (min 256 (budget - length before.learnt.items)) (length m.solves.more) round m.solves.ends paused in
    let some = least_some (budget - length before.learnt.items) (omega (arith, left)) in
    let count = names_counted new.steps m.solves.learns.names m.solves.more m.solves.learns.named in
    omega (arith, all, some, count, left, ap length m.listed, length-append before.learnt.items m.solves.learns.names)

pub learnt_on : (old mid new : Solver) (before middle after : Attempt) (budget : ℕ) (round : Round) → HasLearntOn old mid before middle budget → length middle.learnt.items < budget → Keeps mid new
    → (m : MakesRound mid new middle after budget round) → HasLearntOn old new before after budget
learnt_on old mid new before middle after budget round a left keeps m = record {
  keeps = keeps_twice old mid new a.keeps keeps;
  same = m.same ∙ ap (λ (x : Attempt). record x { learnt = after.learnt }) a.same;
  names = a.names ++ m.solves.learns.names;
  learnt = m.solves.learns.learnt ∙ ap (λ (xs : List ℕ). xs ++ m.solves.learns.names) a.learnt ∙ append_assoc old.learnt a.names m.solves.learns.names;
  listed = m.listed ∙ ap (λ (xs : List ℕ). xs ++ m.solves.learns.names) a.listed ∙ append_assoc before.learnt.items a.names m.solves.learns.names;
  few = few_after mid new middle after budget round left m;
}

pub nothing_learnt : (solver : Solver) (attempt : Attempt) (budget : ℕ) → length attempt.learnt.items ≤ budget → HasLearntOn solver solver attempt attempt budget
nothing_learnt solver attempt budget few = record {
  keeps = keeps_itself solver;
  same = refl;
  names = [];
  learnt = sym (append-nil solver.learnt);
  listed = sym (append-nil attempt.learnt.items);
  few = few;
}

-- after a pause the attempt lists so much more
pub grown : (old new : Solver) (before after : Attempt) (budget : ℕ) (round : Round) → (m : MakesRound old new before after budget round) → round ≡ Paused
    → length after.learnt.items ≡ length before.learnt.items + min 256 (budget - length before.learnt.items)
grown old new before after budget round m paused =
    let all = paused_more new before.cube (min 256 (budget - length before.learnt.items)) (length m.solves.more) round m.solves.ends paused in
    let count = names_counted new.steps m.solves.learns.names m.solves.more m.solves.learns.named in
    omega (arith, all, count, ap length m.listed, length-append before.learnt.items m.solves.learns.names)
