use Rattle.std.proofs.Common.{◌≡◌, ◌∙◌, ◌++◌, ℕ, List, [], ◌∷◌, sym, subst, arith}
use Rattle.std.proofs.lemmas.List.{append-nil}
use Rattle.sat_base.specs.declared.origins.Ref.{Ref}
use Rattle.trace_core.specs.declared.derivation.Step.{Step}
use Rattle.session.proofs.Searches.{same_steps, more_steps, last_named}
use Rattle.session.proofs.search.push_step.Goals as goal

-- a step is pushed where its literals, its hints and its tag are
step_pushed : (old new : List Step) (lits : List ℕ) (hints : List Ref) (step : Step)
    → lits ≡ step.clause → hints ≡ step.hints
    → new ≡ old ++ record { clause = lits; hints = hints; tag = step.tag } ∷ []
    → new ≡ old ++ step ∷ []
step_pushed old new lits hints step clause same pushed =
    subst (λ (xs : List ℕ). new
    ≡ old ++ record { clause = xs; hints = step.hints; tag = step.tag } ∷ []) clause
    (subst (λ (xs : List Ref). new
    ≡ old ++ record { clause = lits; hints = xs; tag = step.tag } ∷ []) same pushed)

pub returns-in_err-push-clause-kept : goal.returns-in_err-push-clause-kept
returns-in_err-push-clause-kept c = same_steps c.args.search.now c.push.new.self c.in_err-push.ensures.err c.requires.kept

pub returns-clause-kept : goal.returns-clause-kept
returns-clause-kept c = more_steps c.args.search.now c.push.new.self c.args.step.now
    (step_pushed c.args.search.now.steps c.push.new.self c.lits.result.now c.items.result.now c.args.step.now c.lits.ensures.value c.items.ensures c.in_ok-push.ensures.ok)
    c.requires.ok c.requires.kept

pub returns-clause-pushed : goal.returns-clause-pushed
returns-clause-pushed c =
    step_pushed c.args.search.now.steps c.push.new.self c.lits.result.now c.items.result.now c.args.step.now c.lits.ensures.value c.items.ensures c.in_ok-push.ensures.ok

pub returns-clause-name : goal.returns-clause-name
returns-clause-name c = last_named c.args.search.now c.push.new.self c.args.step.now c.len.result
    (step_pushed c.args.search.now.steps c.push.new.self c.lits.result.now c.items.result.now c.args.step.now c.lits.ensures.value c.items.ensures c.in_ok-push.ensures.ok)
    (omega (arith, c.len.ensures))

pub returns-in_err-push-clause-front : goal.returns-in_err-push-clause-front
returns-in_err-push-clause-front c = record {
  more = [];
  is = c.in_err-push.ensures.err ∙ sym (append-nil c.args.search.now.steps);
}

pub returns-clause-front : goal.returns-clause-front
returns-clause-front c = record {
  more = c.args.step.now ∷ [];
  is = step_pushed c.args.search.now.steps c.push.new.self c.lits.result.now c.items.result.now c.args.step.now c.lits.ensures.value c.items.ensures c.in_ok-push.ensures.ok;
}
