use Rattle.std.proofs.Common.{◌∙◌, ◌≤◌, ℕ, List, ◌∷◌, ◌++◌, [], ap, subst, sym, arith}
use Rattle.sat_base.specs.Lit.{variable}
use Rattle.trail_core.specs.Trail.{Entry}
use Rattle.trail_core.specs.UnderTrail.{IsUnassigned}
use Rattle.trail_core.proofs.Laid.{trues_are, room, laid_pushed, entries_laid_pushed}
use Rattle.trail_core.proofs.trail.Trail.assign.Goals as goal

pub new-requires : goal.new-requires
new-requires c =
    let free = subst (λ (xs : List ℕ). IsUnassigned xs c.args.lit) (trues_are c.self.inside.standings.items _ _ _ _ _ c.self.view_is) c.requires.unassigned in
    let reserved : variable c.args.lit ≤ c.self.inside.vars = subst (λ v. variable c.args.lit ≤ v) (sym (ap (λ t. t.vars) c.self.view_is)) c.requires.reserved in
    let r = room c.self.inside.values.items c.self.inside.standings.items c.self.inside.lits.items c.self.inside.count c.self.inside.depth c.self.inside.vars c.args.lit c.self.invariant.laid (record { is_lit = c.code-code.ensures.lit; reserved = reserved; free = free }) in
    omega (arith, r)

pub index_mut-requires-4 : goal.index_mut-requires-4
index_mut-requires-4 c =
    let free = subst (λ (xs : List ℕ). IsUnassigned xs c.args.lit) (trues_are c.self.inside.standings.items _ _ _ _ _ c.self.view_is) c.requires.unassigned in
    let reserved : variable c.args.lit ≤ c.self.inside.vars = subst (λ v. variable c.args.lit ≤ v) (sym (ap (λ t. t.vars) c.self.view_is)) c.requires.reserved in
    let r = room c.self.inside.values.items c.self.inside.standings.items c.self.inside.lits.items c.self.inside.count c.self.inside.depth c.self.inside.vars c.args.lit c.self.invariant.laid (record { is_lit = c.code-code.ensures.lit; reserved = reserved; free = free }) in
    omega (arith, r, c.self.invariant.laid.lit_places)

pub invariant_of-self : goal.invariant_of-self
invariant_of-self c =
    let free = subst (λ (xs : List ℕ). IsUnassigned xs c.args.lit) (trues_are c.self.inside.standings.items _ _ _ _ _ c.self.view_is) c.requires.unassigned in
    let reserved : variable c.args.lit ≤ c.self.inside.vars = subst (λ v. variable c.args.lit ≤ v) (sym (ap (λ t. t.vars) c.self.view_is)) c.requires.reserved in
    record {
      laid = laid_pushed c.self.inside.values.items c.self.inside.standings.items c.self.inside.lits.items c.self.inside.count c.self.inside.depth c.self.inside.vars c.args.lit c.code-code.result c.code-opposite.result c.var.result c.new.result
          c.self.invariant.laid (record { is_lit = c.code-code.ensures.lit; reserved = reserved; free = free })
          c.new.ensures.place c.new.ensures.level c.code-code.ensures.value (c.code-opposite.ensures.value ∙ c.negated.ensures) c.var.ensures.value;
      looked_at = omega (arith, c.self.invariant.looked_at);
    }

pub returns-clause-entries : goal.returns-clause-entries
returns-clause-entries c =
    let free = subst (λ (xs : List ℕ). IsUnassigned xs c.args.lit) (trues_are c.self.inside.standings.items _ _ _ _ _ c.self.view_is) c.requires.unassigned in
    let reserved : variable c.args.lit ≤ c.self.inside.vars = subst (λ v. variable c.args.lit ≤ v) (sym (ap (λ t. t.vars) c.self.view_is)) c.requires.reserved in
    entries_laid_pushed c.self.inside.values.items c.self.inside.standings.items c.self.inside.lits.items c.self.inside.count c.self.inside.depth c.self.inside.vars c.args.lit c.var.result c.new.result c.args.reason
    c.self.invariant.laid (record { is_lit = c.code-code.ensures.lit; reserved = reserved; free = free })
    c.new.ensures.place c.new.ensures.level c.new.ensures.reason c.var.ensures.value
    ∙ ap (λ (xs : List Entry). xs ++ record { lit = c.args.lit; level = c.self.inside.depth; reason = c.args.reason } ∷ []) (ap (λ t. t.entries) c.self.view_is)
    ∙ ap (λ d. c.args.self.now.entries ++ record { lit = c.args.lit; level = d; reason = c.args.reason } ∷ []) (ap (λ t. t.depth) c.self.view_is)
