-- Slices of an attempt.
use Rattle.std.proofs.Common.{◌≡◌, ◌∙◌, ℕ, ◌+◌, ◌-◌, ◌<◌, ◌≤◌, ◌==◌, cond, Bool, true, false, List, [], ◌++◌, map, length, drop, take, Option, Some, None, refl, ap, sym, subst, arith, append-nil}
use Rattle.std.specs.Prelude.{All, Contains, is_some, IfSome, IfOk, IfErr, Result, Ok, Err, is_ok}
use Rattle.std.specs.Arc.{arc_value}
use Rattle.std.proofs.lemmas.Bool.Decides.{nat_tests}
use Rattle.std.proofs.lemmas.List.{length-drop, get_or-drop}
use Rattle.std.proofs.lemmas.List.Elements.{All-contains, Contains-append_left}
use Rattle.std.proofs.Math.Seq.{drop-append_seam}
use Rattle.sat_base.specs.Lit.{IsTautology, variables}
use Rattle.sat_base.proofs.Members.{All-from_members, Contains-map}
use Rattle.trace_core.specs.Known.{Known, item_at, clause_of}
use Rattle.trace_core.specs.Trace.{known_of}
use Rattle.trace_core.specs.declared.derivation.Step.{Step}
use Rattle.trace_core.proofs.Items.{place_of}
use Rattle.entry_core.specs.declared.answers.Outcome.{Outcome}
use Rattle.entry_core.specs.declared.entries.Entry.{Entry}
use Rattle.entry_core.specs.declared.rules.Rules.{Rules}
use Rattle.entry_core.specs.Journal.{jobs, cube_of, packets}
use Rattle.entry_core.specs.Legal.{IsLegal}
use Rattle.entry_core.specs.Right.{IsSpent}
use Rattle.entry_core.specs.Settled.{settled}
use Rattle.entry_core.proofs.LegalEntries.{right_kept, spent_kept}
use Rattle.entry_core.proofs.LongerJournals.{cubes_kept, longer_journal_keeps}
use Rattle.entry_core.proofs.SharedPackets.{packets_are_bounded}
use Rattle.board_core.specs.State.{State}
use Rattle.board_core.specs.declared.faults.LookFault.{LookFault}
use Rattle.board_core.specs.declared.faults.LookFault.TheVariants as look
use Rattle.board_core.specs.Replies.{HasOutcome, IsJob, IsLookFault}
use Rattle.session.specs.declared.rounds.Round.{Round}
use Rattle.session.specs.declared.rounds.Round.TheVariants.{Paused}
use Rattle.session.specs.Fronts.{IsFront}
use Rattle.session.specs.Solver.{Solver, IsSound, IsStep, last_step_of, packet_at, clauses_of}
use Rattle.worker_loop.specs.declared.attempt.Attempt.{Attempt}
use Rattle.worker_loop.specs.declared.bench.Bench.{Bench}
use Rattle.worker_loop.specs.declared.ends.End.{End}
use Rattle.worker_loop.specs.declared.ends.End.TheVariants as end
use Rattle.worker_loop.specs.declared.slices.Turn.{Turn}
use Rattle.worker_loop.specs.declared.slices.Turn.TheVariants as turn
use Rattle.worker_loop.specs.Asked.{clause_at, clauses_at}
use Rattle.worker_loop.specs.Ends.{IsEnd}
use Rattle.worker_loop.specs.Fits.{AreLearnt, FitsAttempt, KnowsRead, read_by}
use Rattle.worker_loop.specs.Importing.{HasImported}
use Rattle.worker_loop.specs.Kept.{KeepsLearnt}
use Rattle.worker_loop.specs.Rounds.{IsOfLearnt, IsOfRound, MakesRound}
use Rattle.worker_loop.specs.Shared.{HasSharedMore, IsLesson, KnowsMore}
use Rattle.worker_loop.specs.Slices.{HoldsShared, IsSlice, IsTurn, turn_with}
use Rattle.worker_loop.proofs.Bounded.{last_known}
use Rattle.worker_loop.proofs.Traced.{rest_of}

-- What was learnt may be shared.

lesson : (solver : Solver) (cube numbers : List ℕ) (number : ℕ) → AreLearnt solver cube numbers → Contains numbers number → IsLesson solver number
lesson solver cube numbers number learnt has =
    let held = All-contains (λ n. (one : Known) × IsStep solver.steps n one × Contains solver.held one) numbers number learnt.held has in
    let proper = All-contains (λ clause. IsTautology clause → ⊥) (clauses_at solver.steps numbers) (clause_at solver.steps number) learnt.rules.proper (Contains-map (clause_at solver.steps) numbers number has) in
    (held.0, held.1, held.2, λ t. proper (subst IsTautology (sym (ap clause_of held.1)) t))

all_behind : {X : Type 0} (P : X → Type 0) (n : ℕ) (xs : List X) → All P xs → All P (drop n xs)
all_behind P n xs all i d lt =
    subst P (sym (get_or-drop n xs i d)) (all (n + i) d (omega (arith, lt, length-drop n xs)))

pub lessons_behind : (solver : Solver) (cube numbers : List ℕ) (before : ℕ) → AreLearnt solver cube numbers → All (IsLesson solver) (take (length numbers - before) (drop before numbers))
lessons_behind solver cube numbers before learnt =
    subst (All (IsLesson solver)) (sym (rest_of numbers before))
    (all_behind (IsLesson solver) before numbers (All-from_members (IsLesson solver) numbers (λ number has. lesson solver cube numbers number learnt has)))

-- the numbers behind those that were listed are those of the round
pub names_behind : (old new : Solver) (before after : Attempt) (budget n : ℕ) (round : Round) → (m : MakesRound old new before after budget round) → n ≡ length before.learnt.items
    → take (length after.learnt.items - n) (drop n after.learnt.items) ≡ m.solves.learns.names
names_behind old new before after budget n round m is =
    rest_of after.learnt.items n ∙ ap (λ k. drop k after.learnt.items) is ∙ ap (drop (length before.learnt.items)) m.listed ∙ drop-append_seam before.learnt.items m.solves.learns.names

-- What was learnt stays so where no step and no held clause goes.
pub learnt_kept : (old new : Solver) (cube numbers : List ℕ) → new.inputs ≡ old.inputs → new.steps ≡ old.steps → IsFront old.held new.held → AreLearnt old cube numbers → AreLearnt new cube numbers
learnt_kept old new cube numbers inputs steps held learnt = record {
  held = All-from_members (λ number. (one : Known) × IsStep new.steps number one × Contains new.held one) numbers (λ number has.
      (let found = All-contains (λ number. (one : Known) × IsStep old.steps number one × Contains old.held one) numbers number learnt.held has in (
        found.0,
        subst (λ (all : List Step). IsStep all number found.0) (sym steps) found.1,
        subst (λ (all : List Known). Contains all found.0) (sym held.is) (Contains-append_left old.held held.more found.0 found.2),
      )));
  rules = subst (λ (all : List Known). IsSpent (clauses_of all) (variables (clauses_of all) cube) (length numbers) (clauses_at new.steps numbers)) (sym inputs)
      (subst (λ (all : List Step). IsSpent (clauses_of old.inputs) (variables (clauses_of old.inputs) cube) (length numbers) (clauses_at all numbers)) (sym steps) learnt.rules);
}

-- An attempt goes on to fit where its bench shared and imported.
pub fits_later : (mid two new : Bench) (attempt : Attempt) (seen later more : List Entry) → later ≡ seen ++ more → attempt.job ≤ jobs seen → KnowsMore mid.session.solver two.session.solver → HasImported two new
    → KnowsRead new → FitsAttempt mid attempt seen → FitsAttempt new attempt later
fits_later mid two new attempt seen later more is added knows imported read fits = record {
  bound = imported.bound ∙ ap (λ (s : Solver). s.bound) knows.same ∙ fits.bound;
  cube = fits.cube ∙ sym (ap (λ (entries : List Entry). cube_of entries attempt.job) is ∙ cubes_kept seen more attempt.job added);
  known = read;
  learnt = learnt_kept mid.session.solver new.session.solver attempt.cube attempt.learnt.items
      (imported.inputs ∙ ap (λ (s : Solver). s.inputs) knows.same) (imported.steps ∙ ap (λ (s : Solver). s.steps) knows.same)
      (record { more = imported.held.more; is = imported.held.is ∙ ap (λ (s : Solver). s.held ++ imported.held.more) knows.same }) fits.learnt;
}

pub kept_sharing : (old new : Solver) → KnowsMore old new → KeepsLearnt old new
kept_sharing old new knows = record {
  held = record { more = []; is = ap (λ (s : Solver). s.held) knows.same ∙ sym (append-nil old.held) };
  steps = record { more = []; is = ap (λ (s : Solver). s.steps) knows.same ∙ sym (append-nil old.steps) };
  learnt = record { more = []; is = ap (λ (s : Solver). s.learnt) knows.same ∙ sym (append-nil old.learnt) };
  packets = knows.stay;
}

-- Which turn a slice takes.

none_of : {X : Type 0} (o : Option X) → is_some o ≡ false → o ≡ None
none_of None is = refl
none_of (Some x) is = absurd (cc)

-- the end of an attempt stays one in a longer journal
pub end_kept : (rules : Rules) (seen more later : List Entry) (job : ℕ) (given : End) → later ≡ seen ++ more → job ≤ jobs seen → IsEnd rules seen job given → IsEnd rules later job given
end_kept rules seen more later job (end.Answered given) is added right =
    subst (λ (entries : List Entry). IsEnd rules entries job (end.Answered given)) (sym is) (right_kept rules seen more job (arc_value given) added right)
end_kept rules seen more later job (end.Spent learnt) is added right =
    subst (λ (entries : List Entry). IsEnd rules entries job (end.Spent learnt)) (sym is) (spent_kept rules seen more job rules.conflicts (arc_value learnt) added right)

pub is_turn : (rules : Rules) (seen : List Entry) (attempt : Attempt) (round : Round) (solver : Solver) (flag : Bool) (given : Option End) → flag ≡ is_some (settled rules seen attempt.job)
    → IfSome given (IsEnd rules seen attempt.job) → IsOfRound attempt rules.conflicts round given → IfSome given (IsOfLearnt solver attempt)
    → IsTurn rules seen attempt round (clauses_at solver.steps attempt.learnt.items) (turn_with flag given)
is_turn rules seen attempt round solver true given found right of listed = sym found
is_turn rules seen attempt round solver false None found right of listed = (none_of (settled rules seen attempt.job) (sym found), of.0, of.1)
is_turn rules seen attempt round solver false (Some (end.Answered given)) found right of listed = (none_of (settled rules seen attempt.job) (sym found), of, right)
is_turn rules seen attempt round solver false (Some (end.Spent learnt)) found right of listed = (none_of (settled rules seen attempt.job) (sym found), of.0, of.1, listed, right)

pub some_weaker : {X : Type 0} (P Q : X → Type 0) (o : Option X) → ((x : X) → P x → Q x) → IfSome o P → IfSome o Q
some_weaker P Q None under is = tt
some_weaker P Q (Some x) under is = under x is

-- a turn goes on where there is no end, after a pause
pub goes_on : (attempt : Attempt) (budget : ℕ) (round : Round) (flag : Bool) (given : Option End) → IsOfRound attempt budget round given → turn_with flag given ≡ turn.Going → round ≡ Paused
goes_on attempt budget round true given of going = absurd (cc)
goes_on attempt budget round false None of going = of.0
goes_on attempt budget round false (Some (end.Answered given)) of going = absurd (cc)
goes_on attempt budget round false (Some (end.Spent learnt)) of going = of.0

pub going_left : (rules : Rules) (seen : List Entry) (old new : Bench) (attempt attempt' : Attempt) (given : Turn) → IsSlice rules seen old new attempt attempt' given → given ≡ turn.Going → length attempt'.learnt.items < rules.conflicts
going_left rules seen old new attempt attempt' given s going =
    (subst (IsTurn rules seen attempt' s.round (clauses_at s.solver.steps attempt'.learnt.items)) going s.comes).2

-- What the session holds afterwards.
pub holds_shared : (rules : Rules) (seen : List Entry) (bench : Bench) (job : ℕ) → IsLegal rules seen → IsSound bench.session.solver → read_by bench ≡ packets seen → KnowsRead bench → bench.session.solver.bound ≡ job
    → HoldsShared bench.session.solver seen job
holds_shared rules seen bench job legal sound read known bound packet has low =
    let solver : Solver = bench.session.solver in
    let at = place_of (read_by bench) packet (subst (λ (ps : List (List Step)). Contains ps packet) (sym read) has) in
    let found : packet_at solver.packets at.0 ≡ Some packet = known at.0 packet at.1 (omega (arith, low, bound)) in
    let bounded = packets_are_bounded rules seen packet legal has in
    let last : item_at (map known_of packet) (length packet) ≡ Some (known_of bounded.last) = last_known packet bounded.front bounded.last bounded.ends in
    let itself : (length packet == length packet) ≡ true = grind (arith, nat_tests) in
    record {
      one = known_of bounded.last;
      last = last;
      held = sound.packets_held at.0 (length packet) (known_of bounded.last)
          (ap (λ o. last_step_of o (length packet)) found ∙ ap (λ b. cond b (item_at (map known_of packet) (length packet)) None) itself ∙ last);
    }

-- An outcome is given of a settled job.
pub outcome_tells : (board : State) (job : ℕ) (r : Result Outcome LookFault) → IsJob board job → IfOk r (HasOutcome board job) → IfErr r (IsLookFault board job) → is_ok r ≡ is_some (settled board.rules board.journal job)
outcome_tells board job (Ok outcome) there ok err = sym (ap is_some ok.is)
outcome_tells board job (Err (look.NoSuchJob number)) there ok err = absurd (err.missing there)
outcome_tells board job (Err look.NotYet) there ok err = sym (ap is_some err.unsettled)

-- a job stays one where packets came
pub job_still : (old new : State) (caller job : ℕ) → HasSharedMore old new caller → IsJob old job → IsJob new job
job_still old new caller job more there = record {
  from_one = there.from_one;
  added = let le = (longer_journal_keeps old.rules old.journal more.more).more_jobs in let was = there.added in omega (arith, le, was, ap jobs more.is);
}
