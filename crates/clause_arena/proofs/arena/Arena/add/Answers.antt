use Rattle.std.proofs.Common.{◌∙◌, ℕ, ◌+◌, ◌-◌, List, [], ◌∷◌, ◌++◌, length, take, ap, sym, subst, arith}
use Rattle.std.proofs.lemmas.List.{append-nil}
use Rattle.clause_arena.specs.Named.{Named}
use Rattle.clause_arena.specs.Layout.{IsLaidOut, laid_clauses}
use Rattle.clause_arena.proofs.Laid.{opened, unchanged, finished, on_err, no_repeat_ascending, length-laid_clauses}
use Rattle.clause_arena.proofs.arena.Arena.add.Goals as goal

pub invariant_of-self-in_err-extend_from_slice : goal.invariant_of-self-in_err-extend_from_slice
invariant_of-self-in_err-extend_from_slice c =
    (unchanged c.self.inside.lits.items c.self.inside.names c.args.self.now c.begin.new.bounds.items c.index.result.now (c.len-id.result - 1) c.extend_from_slice.new.self.items [] c.truncate-2.new.self []
    (opened c.self.inside.lits.items c.self.inside.bounds.items c.begin.new.bounds.items c.self.inside.names c.args.self.now c.index.result.now c.len-id.result c.self.invariant c.self.view_is c.in_ok-begin.ensures.ok (omega (arith, c.len-id.ensures)) c.index.ensures)
    (c.in_err-extend_from_slice.ensures.items ∙ c.truncate.ensures.items ∙ sym (append-nil _))
    (c.truncate-2.ensures ∙ sym (append-nil _))).laid

pub returns-in_err-extend_from_slice-clause-err : goal.returns-in_err-extend_from_slice-clause-err
returns-in_err-extend_from_slice-clause-err c =
    on_err c.from_residual-in_err-extend_from_slice.result _
    (unchanged c.self.inside.lits.items c.self.inside.names c.args.self.now c.begin.new.bounds.items c.index.result.now (c.len-id.result - 1) c.extend_from_slice.new.self.items [] c.truncate-2.new.self []
    (opened c.self.inside.lits.items c.self.inside.bounds.items c.begin.new.bounds.items c.self.inside.names c.args.self.now c.index.result.now c.len-id.result c.self.invariant c.self.view_is c.in_ok-begin.ensures.ok (omega (arith, c.len-id.ensures)) c.index.ensures)
    (c.in_err-extend_from_slice.ensures.items ∙ c.truncate.ensures.items ∙ sym (append-nil _))
    (c.truncate-2.ensures ∙ sym (append-nil _))).is

pub invariant_of-self-in_err-push : goal.invariant_of-self-in_err-push
invariant_of-self-in_err-push c =
    (unchanged c.self.inside.lits.items c.self.inside.names c.args.self.now c.begin.new.bounds.items c.index.result.now (c.len-id.result - 1) c.extend_from_slice.new.self.items c.lits-lits.result.now c.push.new.self []
    (opened c.self.inside.lits.items c.self.inside.bounds.items c.begin.new.bounds.items c.self.inside.names c.args.self.now c.index.result.now c.len-id.result c.self.invariant c.self.view_is c.in_ok-begin.ensures.ok (omega (arith, c.len-id.ensures)) c.index.ensures)
    (c.in_ok-extend_from_slice.ensures.items ∙ ap (λ (xs : List ℕ). xs ++ c.lits-lits.result.now) c.truncate.ensures.items)
    (c.in_err-push.ensures.err ∙ c.truncate-2.ensures ∙ sym (append-nil _))).laid

pub returns-in_err-push-clause-err : goal.returns-in_err-push-clause-err
returns-in_err-push-clause-err c =
    on_err c.from_residual-in_err-push.result _
    (unchanged c.self.inside.lits.items c.self.inside.names c.args.self.now c.begin.new.bounds.items c.index.result.now (c.len-id.result - 1) c.extend_from_slice.new.self.items c.lits-lits.result.now c.push.new.self []
    (opened c.self.inside.lits.items c.self.inside.bounds.items c.begin.new.bounds.items c.self.inside.names c.args.self.now c.index.result.now c.len-id.result c.self.invariant c.self.view_is c.in_ok-begin.ensures.ok (omega (arith, c.len-id.ensures)) c.index.ensures)
    (c.in_ok-extend_from_slice.ensures.items ∙ ap (λ (xs : List ℕ). xs ++ c.lits-lits.result.now) c.truncate.ensures.items)
    (c.in_err-push.ensures.err ∙ c.truncate-2.ensures ∙ sym (append-nil _))).is

pub invariant_of-self-in_err-push-2 : goal.invariant_of-self-in_err-push-2
invariant_of-self-in_err-push-2 c =
    subst (λ (bs : List ℕ). IsLaidOut c.extend_from_slice.new.self.items bs c.push.new.self) (sym c.in_err-push-2.ensures.items)
    (unchanged c.self.inside.lits.items c.self.inside.names c.args.self.now c.begin.new.bounds.items c.index.result.now (c.len-id.result - 1) c.extend_from_slice.new.self.items c.lits-lits.result.now c.push.new.self (record { tag = c.args.tag; origin = c.args.origin } ∷ [])
    (opened c.self.inside.lits.items c.self.inside.bounds.items c.begin.new.bounds.items c.self.inside.names c.args.self.now c.index.result.now c.len-id.result c.self.invariant c.self.view_is c.in_ok-begin.ensures.ok (omega (arith, c.len-id.ensures)) c.index.ensures)
    (c.in_ok-extend_from_slice.ensures.items ∙ ap (λ (xs : List ℕ). xs ++ c.lits-lits.result.now) c.truncate.ensures.items)
    (c.in_ok-push.ensures.ok ∙ ap (λ (xs : List Named). xs ++ record { tag = c.args.tag; origin = c.args.origin } ∷ []) c.truncate-2.ensures)).laid

pub returns-in_err-push-2-clause-err : goal.returns-in_err-push-2-clause-err
returns-in_err-push-2-clause-err c =
    on_err c.from_residual-in_err-push-2.result _
    (ap (λ (bs : List ℕ). laid_clauses c.extend_from_slice.new.self.items bs c.push.new.self) c.in_err-push-2.ensures.items
    ∙ (unchanged c.self.inside.lits.items c.self.inside.names c.args.self.now c.begin.new.bounds.items c.index.result.now (c.len-id.result - 1) c.extend_from_slice.new.self.items c.lits-lits.result.now c.push.new.self (record { tag = c.args.tag; origin = c.args.origin } ∷ [])
    (opened c.self.inside.lits.items c.self.inside.bounds.items c.begin.new.bounds.items c.self.inside.names c.args.self.now c.index.result.now c.len-id.result c.self.invariant c.self.view_is c.in_ok-begin.ensures.ok (omega (arith, c.len-id.ensures)) c.index.ensures)
    (c.in_ok-extend_from_slice.ensures.items ∙ ap (λ (xs : List ℕ). xs ++ c.lits-lits.result.now) c.truncate.ensures.items)
    (c.in_ok-push.ensures.ok ∙ ap (λ (xs : List Named). xs ++ record { tag = c.args.tag; origin = c.args.origin } ∷ []) c.truncate-2.ensures)).is)

pub invariant_of-self-2 : goal.invariant_of-self-2
invariant_of-self-2 c =
    (finished c.self.inside.lits.items c.self.inside.names c.args.self.now c.begin.new.bounds.items c.index.result.now (c.len-id.result - 1) _ c.args.clause.now (record { tag = c.args.tag; origin = c.args.origin }) c.extend_from_slice.new.self.items c.push.new.self c.push-2.new.self.items
    (opened c.self.inside.lits.items c.self.inside.bounds.items c.begin.new.bounds.items c.self.inside.names c.args.self.now c.index.result.now c.len-id.result c.self.invariant c.self.view_is c.in_ok-begin.ensures.ok (omega (arith, c.len-id.ensures)) c.index.ensures)
    (c.in_ok-extend_from_slice.ensures.items ∙ ap (λ (xs : List ℕ). xs ++ c.lits-lits.result.now) c.truncate.ensures.items ∙ ap (λ (xs : List ℕ). take c.index.result.now c.self.inside.lits.items ++ xs) c.lits-lits.ensures.value)
    (c.in_ok-push.ensures.ok ∙ ap (λ (xs : List Named). xs ++ record { tag = c.args.tag; origin = c.args.origin } ∷ []) c.truncate-2.ensures)
    (ap (λ (xs : List ℕ). c.index.result.now + length xs) c.lits-lits.ensures.value)
    (no_repeat_ascending c.args.clause.now c.lits-lits.ensures.set.ascending)
    c.in_ok-push-2.ensures.items).laid

pub returns-clause-number : goal.returns-clause-number
returns-clause-number c =
    let u = opened c.self.inside.lits.items c.self.inside.bounds.items c.begin.new.bounds.items c.self.inside.names c.args.self.now c.index.result.now c.len-id.result c.self.invariant c.self.view_is c.in_ok-begin.ensures.ok (omega (arith, c.len-id.ensures)) c.index.ensures in
    omega (arith, u.id_is, ap length u.is, length-laid_clauses c.self.inside.lits.items c.begin.new.bounds.items c.self.inside.names)

pub returns-clause-ok : goal.returns-clause-ok
returns-clause-ok c =
    (finished c.self.inside.lits.items c.self.inside.names c.args.self.now c.begin.new.bounds.items c.index.result.now (c.len-id.result - 1) _ c.args.clause.now (record { tag = c.args.tag; origin = c.args.origin }) c.extend_from_slice.new.self.items c.push.new.self c.push-2.new.self.items
    (opened c.self.inside.lits.items c.self.inside.bounds.items c.begin.new.bounds.items c.self.inside.names c.args.self.now c.index.result.now c.len-id.result c.self.invariant c.self.view_is c.in_ok-begin.ensures.ok (omega (arith, c.len-id.ensures)) c.index.ensures)
    (c.in_ok-extend_from_slice.ensures.items ∙ ap (λ (xs : List ℕ). xs ++ c.lits-lits.result.now) c.truncate.ensures.items ∙ ap (λ (xs : List ℕ). take c.index.result.now c.self.inside.lits.items ++ xs) c.lits-lits.ensures.value)
    (c.in_ok-push.ensures.ok ∙ ap (λ (xs : List Named). xs ++ record { tag = c.args.tag; origin = c.args.origin } ∷ []) c.truncate-2.ensures)
    (ap (λ (xs : List ℕ). c.index.result.now + length xs) c.lits-lits.ensures.value)
    (no_repeat_ascending c.args.clause.now c.lits-lits.ensures.set.ascending)
    c.in_ok-push-2.ensures.items).is
