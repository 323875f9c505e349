use Rattle.std.proofs.Common.{◌≡◌, ◌∙◌, ◌+◌, ◌∷◌, List, ℕ, drop, ap, sym}
use Rattle.std.proofs.lemmas.List.{drop_more}
use Rattle.std.proofs.Math.ListN.{drop_of_length-le}
use Rattle.session.proofs.Loaded.{loading_starts, loading_goes_on, loading_next, loading_done}
use Rattle.session.proofs.Loaded.{inputs_only_twice}
use Rattle.session.proofs.inputs.push_clauses.Goals as goal

pub loop-clause-init : goal.loop-clause-init
loop-clause-init c = (c.requires.kept, loading_starts c.args.search.now c.args.clauses.now c.args.job c.requires.job c.requires.few c.requires.entered)

-- the next of the clauses that are left
next : (c : goal.After-push_clause-arg-1) → drop c.loop-clause.clause-index c.args.clauses.now
    ≡ c.clause-item.result ∷ drop (c.loop-clause.clause-index + 1) c.args.clauses.now
next c = drop_more c.args.clauses.now c.loop-clause.clause-index c.clause-item.result c.loop-clause-test.true ∙ ap (λ (x : List ℕ). x ∷ drop (c.loop-clause.clause-index + 1) c.args.clauses.now) (sym c.clause-item.is)

pub push_clause-requires-clause-kept : goal.push_clause-requires-clause-kept
push_clause-requires-clause-kept c = c.loop-clause.invariant.0

pub push_clause-requires-clause-zero : goal.push_clause-requires-clause-zero
push_clause-requires-clause-zero c =
    (loading_next c.args.search.now c.loop-clause.search c.args.clauses.now
    (drop c.loop-clause.clause-index c.args.clauses.now)
    (drop (c.loop-clause.clause-index + 1) c.args.clauses.now) c.clause-item.result c.args.job c.loop-clause.invariant.1 (next c)).2 ∙ c.requires.zero

pub push_clause-requires-clause-few : goal.push_clause-requires-clause-few
push_clause-requires-clause-few c =
    (loading_next c.args.search.now c.loop-clause.search c.args.clauses.now
    (drop c.loop-clause.clause-index c.args.clauses.now)
    (drop (c.loop-clause.clause-index + 1) c.args.clauses.now) c.clause-item.result c.args.job c.loop-clause.invariant.1 (next c)).1

pub push_clause-requires-clause-entered : goal.push_clause-requires-clause-entered
push_clause-requires-clause-entered c =
    (loading_next c.args.search.now c.loop-clause.search c.args.clauses.now
    (drop c.loop-clause.clause-index c.args.clauses.now)
    (drop (c.loop-clause.clause-index + 1) c.args.clauses.now) c.clause-item.result c.args.job c.loop-clause.invariant.1 (next c)).0

pub push_clause-requires-clause-job : goal.push_clause-requires-clause-job
push_clause-requires-clause-job c = c.loop-clause.invariant.1.bound

pub returns-in_err-push_clause-clause-parts : goal.returns-in_err-push_clause-clause-parts
returns-in_err-push_clause-clause-parts c = inputs_only_twice c.args.search.now c.loop-clause.search c.push_clause.new.search c.loop-clause.invariant.1.only c.push_clause.ensures.parts

pub loop-clause-preserved : goal.loop-clause-preserved
loop-clause-preserved c = (
  c.push_clause.ensures.kept,
  loading_goes_on c.args.search.now c.loop-clause.search c.push_clause.new.search c.args.clauses.now (drop c.loop-clause.clause-index c.args.clauses.now) (drop (c.loop-clause.clause-index + 1) c.args.clauses.now) c.clause-item.result c.args.job
      c.loop-clause.invariant.1
      (drop_more c.args.clauses.now c.loop-clause.clause-index c.clause-item.result c.loop-clause-test.true ∙ ap (λ (x : List ℕ). x ∷ drop (c.loop-clause.clause-index + 1) c.args.clauses.now) (sym c.clause-item.is))
      c.push_clause.ensures.parts c.in_ok-push_clause.ensures.ok c.in_ok-push_clause.ensures.inputs,
)

pub returns-clause-kept : goal.returns-clause-kept
returns-clause-kept c = c.loop-clause.invariant.0

pub returns-clause-parts : goal.returns-clause-parts
returns-clause-parts c = c.loop-clause.invariant.1.only

pub returns-clause-ok : goal.returns-clause-ok
returns-clause-ok c =
    loading_done c.args.search.now c.loop-clause.search c.args.clauses.now
    (drop c.loop-clause.clause-index c.args.clauses.now) c.args.job c.loop-clause.invariant.1
    (drop_of_length-le c.args.clauses.now c.loop-clause-test.false)
