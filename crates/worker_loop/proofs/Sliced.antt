-- Slices of an attempt, one after another.
use Rattle.std.proofs.Common.{◌≡◌, ◌∙◌, ℕ, ◌<◌, ◌≤◌, List, [], ◌++◌, length, Option, None, Result, Ok, Err, refl, ap, sym, subst, append_assoc, append-nil}
use Rattle.std.specs.Prelude.{IfOk, IfSome, IsSome, OnOk}
use Rattle.std.specs.Arc.{arc_value}
use Rattle.std.specs.declared.sync.Arc.{Arc}
use Rattle.std.specs.declared.alloc.Global.{Global}
use Rattle.sat_base.specs.declared.items.Items.{Items}
use Rattle.trace_core.specs.Known.{Known}
use Rattle.trace_core.specs.declared.derivation.Step.{Step}
use Rattle.entry_core.specs.declared.entries.Entry.{Entry}
use Rattle.entry_core.specs.declared.rules.Rules.{Rules}
use Rattle.entry_core.specs.Settled.{settled}
use Rattle.session.specs.Solver.{Solver, packet_at}
use Rattle.session.specs.Solving.{Learns}
use Rattle.worker_loop.specs.declared.attempt.Attempt.{Attempt}
use Rattle.worker_loop.specs.declared.bench.Bench.{Bench}
use Rattle.worker_loop.specs.declared.ends.End.{End}
use Rattle.worker_loop.specs.declared.ends.End.TheVariants as end
use Rattle.worker_loop.specs.declared.slices.Turn.{Turn}
use Rattle.worker_loop.specs.declared.slices.Turn.TheVariants as turn
use Rattle.worker_loop.specs.Asked.{clauses_at}
use Rattle.worker_loop.specs.Kept.{KeepsLearnt}
use Rattle.worker_loop.specs.Rounds.{HasPursued, IsLearntBefore, IsListOf, IsOfLearnt}
use Rattle.worker_loop.specs.Slices.{HasLearntSince, IsSlice, IsTurn}
use Rattle.worker_loop.specs.Work.{IsPursued}
use Rattle.worker_loop.proofs.InRounds.{few_after}
use Rattle.worker_loop.proofs.Keeping.{kept_itself, kept_twice}
use Rattle.worker_loop.proofs.Slicing.{some_weaker}

pub nothing_since : (solver : Solver) (attempt : Attempt) (budget : ℕ) → length attempt.learnt.items ≤ budget → HasLearntSince solver solver attempt attempt budget
nothing_since solver attempt budget few = record {
  kept = kept_itself solver;
  names = [];
  learnt = sym (append-nil solver.learnt);
  listed = sym (append-nil attempt.learnt.items);
  few = few;
}

-- a round takes nothing away
kept_round : (old new : Solver) (more : List Known) (last : List ℕ) → Learns old new more last → KeepsLearnt old new
kept_round old new more last learns = record {
  held = record { more = more; is = learns.held };
  steps = record { more = learns.steps.more; is = learns.steps.is };
  learnt = record { more = learns.names; is = learns.learnt };
  packets = λ place packet is. ap (λ known. packet_at known place) learns.packets ∙ is;
}

-- What was learnt since the slices began, with one slice more.
pub learnt_slice : (rules : Rules) (seen : List Entry) (first : Solver) (old new : Bench) (before middle after : Attempt) (given : Turn) → length middle.learnt.items < rules.conflicts
    → HasLearntSince first old.session.solver before middle rules.conflicts → IsSlice rules seen old new middle after given → HasLearntSince first new.session.solver before after rules.conflicts
learnt_slice rules seen first old new before middle after given left since s = record {
  kept = kept_twice first old.session.solver new.session.solver since.kept
      (kept_twice old.session.solver s.solver new.session.solver (kept_round old.session.solver s.solver s.made.solves.more _ s.made.solves.learns) s.kept);
  names = since.names ++ s.made.solves.learns.names;
  learnt = s.learnt ∙ s.made.solves.learns.learnt ∙ ap (λ (xs : List ℕ). xs ++ s.made.solves.learns.names) since.learnt ∙ append_assoc first.learnt since.names s.made.solves.learns.names;
  listed = s.made.listed ∙ ap (λ (xs : List ℕ). xs ++ s.made.solves.learns.names) since.listed ∙ append_assoc before.learnt.items since.names s.made.solves.learns.names;
  few = few_after old.session.solver s.solver middle after rules.conflicts s.round left s.made;
}

-- A spent list is what the attempt lists.
pub listed_slice : (rules : Rules) (seen : List Entry) (old new : Bench) (before after : Attempt) (given : Turn) (list : Arc (Items (List ℕ)) Global) → IsSlice rules seen old new before after given → given ≡ turn.Spent list
    → IsOfLearnt new.session.solver after (end.Spent list)
listed_slice rules seen old new before after given list s is =
    subst (λ (steps : List Step). arc_value list ≡ clauses_at steps after.learnt.items) (sym s.steps)
    (subst (IsTurn rules seen after s.round (clauses_at s.solver.steps after.learnt.items)) is s.comes).3

-- A slice is overtaken where the job is settled.
pub overtaken_slice : (rules : Rules) (seen : List Entry) (old new : Bench) (before after : Attempt) (given : Turn) (job : ℕ) → IsSlice rules seen old new before after given → given ≡ turn.Overtaken → before.job ≡ job
    → IsSome (settled rules seen job)
overtaken_slice rules seen old new before after given job s is at =
    subst (λ n. IsSome (settled rules seen n)) (ap (λ (a : Attempt). a.job) s.made.same ∙ at)
    (subst (IsTurn rules seen after s.round (clauses_at s.solver.steps after.learnt.items)) is s.comes)

-- What came of an attempt that began with no clause listed.
pub pursued_on : {E : Type 0} (rules : Rules) (seen : List Entry) (old first new : Solver) (job : ℕ) (before after : Attempt) (r : Result (Option End) E) → IsLearntBefore old job first.learnt
    → (old.bound ≤ job → KeepsLearnt old first) → before.learnt.items ≡ [] → before.job ≡ job → OnOk r (HasLearntSince first new before after rules.conflicts) → IfOk r (λ given. IfSome given (IsOfLearnt new after))
    → IfOk r (λ given. given ≡ None → IsSome (settled rules seen before.job)) → IfOk r (IsPursued rules seen job old new)
pursued_on rules seen old first new job before after (Err e) begins kept none at since listed late = tt
pursued_on rules seen old first new job before after (Ok given) begins kept none at since listed late =
    let same : after.learnt.items ≡ since.names = since.listed ∙ ap (λ (all : List ℕ). all ++ since.names) none in
    record {
      overtaken = λ is. subst (λ n. IsSome (settled rules seen n)) at (late is);
      pursued = some_weaker (IsOfLearnt new after) (HasPursued old new job rules.conflicts) given
          (λ end of. record {
            first = first.learnt;
            begins = begins;
            names = since.names;
            learnt = since.learnt;
            few = subst (λ (all : List ℕ). length all ≤ rules.conflicts) same since.few;
            listed = subst (λ (all : List ℕ). IsListOf new.steps all end) same of;
          }) listed;
      kept = λ le. kept_twice old first new (kept le) since.kept;
    }
