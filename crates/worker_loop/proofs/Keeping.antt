-- What was learnt is kept through one call after another.
use Rattle.std.proofs.Common.{◌≡◌, ℕ, ◌+◌, ◌≤◌, List, [], ◌++◌, length, Result, Ok, Err, refl, ap, subst, ◌∙◌}
use Rattle.std.specs.Prelude.{IfOk, OnErr, OnOk}
use Rattle.session.specs.Loading.{loaded, tagged}
use Rattle.session.specs.Session.{SessionView}
use Rattle.session.specs.Solver.{Solver, packet_at}
use Rattle.session.specs.Solving.{Keeps}
use Rattle.session.proofs.Settled.{same_front, front_twice}
use Rattle.worker_loop.specs.declared.attempt.Attempt.{Attempt}
use Rattle.worker_loop.specs.declared.ends.End.{End}
use Rattle.worker_loop.specs.Kept.{KeepsLearnt}
use Rattle.worker_loop.specs.Rounds.{HasLearntOn, HasPursued, IsLearntBefore, IsListOf, IsOfLearnt}

pub keeps_itself : (solver : Solver) → Keeps solver solver
keeps_itself solver = record {
  inputs = refl;
  bound = refl;
  packets = refl;
  held = same_front solver.held;
  steps = same_front solver.steps;
  learnt = same_front solver.learnt;
}

pub keeps_twice : (old mid new : Solver) → Keeps old mid → Keeps mid new → Keeps old new
keeps_twice old mid new a b = record {
  inputs = b.inputs ∙ a.inputs;
  bound = b.bound ∙ a.bound;
  packets = b.packets ∙ a.packets;
  held = front_twice old.held mid.held new.held a.held b.held;
  steps = front_twice old.steps mid.steps new.steps a.steps b.steps;
  learnt = front_twice old.learnt mid.learnt new.learnt a.learnt b.learnt;
}

pub kept_itself : (solver : Solver) → KeepsLearnt solver solver
kept_itself solver = record { held = same_front solver.held; steps = same_front solver.steps; learnt = same_front solver.learnt; packets = λ place packet is. is }

pub kept_twice : (old mid new : Solver) → KeepsLearnt old mid → KeepsLearnt mid new → KeepsLearnt old new
kept_twice old mid new a b = record {
  held = front_twice old.held mid.held new.held a.held b.held;
  steps = front_twice old.steps mid.steps new.steps a.steps b.steps;
  learnt = front_twice old.learnt mid.learnt new.learnt a.learnt b.learnt;
  packets = λ place packet is. b.packets place packet (a.packets place packet is);
}

-- a call that takes nothing away keeps what was learnt
pub kept_by : (old new : Solver) → Keeps old new → KeepsLearnt old new
kept_by old new keeps = record {
  held = keeps.held;
  steps = keeps.steps;
  learnt = keeps.learnt;
  packets = λ place packet is. ap (λ known. packet_at known place) keeps.packets ∙ is;
}

-- and so does one that loads a job
pub kept_loaded : (old : Solver) (clauses : List (List ℕ)) → KeepsLearnt old (loaded old clauses)
kept_loaded old clauses = record {
  held = record { more = tagged (old.bound + 1) clauses; is = refl };
  steps = same_front old.steps;
  learnt = same_front old.learnt;
  packets = λ place packet is. is;
}

-- one that loads a job, or finds no memory, learns nothing
pub loads_learnt : {T E : Type 0} (old new : SessionView) (clauses : List (List ℕ)) (r : Result T E) → OnOk r (new ≡ record old { solver = loaded old.solver clauses }) → OnErr r (new ≡ old) → new.solver.learnt ≡ old.solver.learnt
loads_learnt old new clauses (Ok done) ok err = ap (λ (s : SessionView). s.solver.learnt) ok
loads_learnt old new clauses (Err e) ok err = ap (λ (s : SessionView). s.solver.learnt) err

-- What an attempt learnt that began with no clause listed.
pub pursued : {E : Type 0} (old first new : Solver) (job budget : ℕ) (before after : Attempt) (r : Result End E) → IsLearntBefore old job first.learnt → before.learnt.items ≡ []
    → OnOk r (HasLearntOn first new before after budget) → IfOk r (IsOfLearnt new after) → IfOk r (HasPursued old new job budget)
pursued old first new job budget before after (Err e) begins none learns listed = tt
pursued old first new job budget before after (Ok end) begins none learns listed =
    let same : after.learnt.items ≡ learns.names = learns.listed ∙ ap (λ (all : List ℕ). all ++ learns.names) none in
    record {
      first = first.learnt;
      begins = begins;
      names = learns.names;
      learnt = learns.learnt;
      few = subst (λ (all : List ℕ). length all ≤ budget) same learns.few;
      listed = subst (λ (all : List ℕ). IsListOf new.steps all end) same listed;
    }
