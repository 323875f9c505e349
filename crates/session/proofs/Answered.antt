-- Rounds, one after another, until there is an answer.
use Rattle.std.proofs.Common.{◌≡◌, ◌∙◌, ℕ, ◌+◌, ◌-◌, ◌<◌, List, [], ◌∷◌, ◌++◌, length, ap, subst}
use Rattle.std.proofs.Common.{arith}
use Rattle.std.specs.Prelude.{Bool, ◌^◌}
use Rattle.std.proofs.lemmas.List.{length-append}
use Rattle.trace_core.specs.Known.{Known}
use Rattle.session.specs.declared.search.Search.{Search}
use Rattle.session.specs.declared.rounds.Round.{Round}
use Rattle.session.specs.declared.rounds.Round.TheVariants.{Model, Refuted, Paused}
use Rattle.session.specs.declared.answering.Conclusion.TheVariants as answer
use Rattle.session.specs.Solver.{Solver, inputs_of, held_of, clauses_of}
use Rattle.session.specs.Searching.{IsSearching, solver_of}
use Rattle.session.specs.Solving.{Learns, Solves}
use Rattle.session.specs.Answering.{Answers}
use Rattle.sat_base.specs.Lit.{greatest_of_all}
use Rattle.session.proofs.Repeats.{learns_then, few_learnt}

pub record HasLearntSome (old new : Solver) : Type 0 where
  pub more : List Known
  pub learns : Learns old new more []

-- at most so many clauses are still to come
abbrev pub left_to_learn : Search → Search → ℕ
left_to_learn old now = 3 ^ greatest_of_all (clauses_of (inputs_of old.store.clauses)) + length
    (held_of old.store.clauses) - length (held_of now.store.clauses)

pub model_answers : (old mid new : Solver) (cube : List ℕ) (limit : ℕ) (round : Round)
    (values : List Bool) → HasLearntSome old mid → Solves mid new cube limit round
    → round ≡ Model values → Answers old new cube (answer.Model values)
model_answers old mid new cube limit round values a solves is =
    let s = subst (λ (r : Round). Solves mid new cube limit r) is solves in
    record {
      more = a.more ++ s.more;
      learns = learns_then old mid new a.more s.more [] a.learns s.learns;
      right = s.ends.0;
    }

pub refuted_answers : (old mid new : Solver) (cube : List ℕ) (limit : ℕ) (round : Round)
    (part : List ℕ) (number : ℕ) → HasLearntSome old mid → Solves mid new cube limit round
    → round ≡ Refuted part number → Answers old new cube (answer.Refuted part number)
refuted_answers old mid new cube limit round part number a solves is =
    let s = subst (λ (r : Round). Solves mid new cube limit r) is solves in
    record {
      more = a.more ++ s.more;
      learns = learns_then old mid new a.more s.more
          (number ∷ []) a.learns s.learns;
      right = s.ends.0;
    }

pub paused_learns : (old mid new : Solver) (cube : List ℕ) (limit : ℕ) (round : Round)
    → HasLearntSome old mid → Solves mid new cube limit round → round ≡ Paused
    → HasLearntSome old new
paused_learns old mid new cube limit round a solves is =
    let s = subst (λ (r : Round). Solves mid new cube limit r) is solves in
    record {
      more = a.more ++ s.more;
      learns = learns_then old mid new a.more s.more [] a.learns s.learns;
    }

pub less_is_left : (old mid new : Search) (cube : List ℕ) (limit : ℕ) (round : Round)
    → IsSearching new → HasLearntSome (solver_of old) (solver_of mid)
    → Solves (solver_of mid) (solver_of new) cube limit round → round ≡ Paused → 0 < limit
    → left_to_learn old new < left_to_learn old mid
less_is_left old mid new cube limit round kept a solves is some =
    let s = subst (λ (r : Round). Solves (solver_of mid) (solver_of new) cube limit r) is solves in
    let all = paused_learns (solver_of old) (solver_of mid)
    (solver_of new) cube limit round a solves is in
    let few = few_learnt old new all.more [] kept all.learns in
    let high : length (held_of new.store.clauses)
    ≡ length (held_of old.store.clauses) + length all.more = ap length all.learns.held
    ∙ length-append (held_of old.store.clauses) all.more in
    let more : length (held_of new.store.clauses)
    ≡ length (held_of mid.store.clauses) + length s.more = ap length s.learns.held
    ∙ length-append (held_of mid.store.clauses) s.more in
    omega (arith, few, high, more, s.ends, some)
