use Rattle.std.proofs.Common.{◌∙◌, ◌≤◌, ap, sym, subst, arith, rules, length, List, ℕ}
use Rattle.std.specs.Prelude.{slice_range}
use Rattle.clause_arena.specs.Arena.{HasNoRepeat}
use Rattle.clause_arena.proofs.Laid.{known, cut_of}
use Rattle.clause_arena.proofs.arena.Arena.lits.Goals as goal

pub index-requires : goal.index-requires
index-requires c = let k = known c.self.inside.lits.items c.self.inside.bounds.items c.self.inside.names _ c.args.id c.self.view_is c.requires in omega (arith, k.within)

pub overflow_add-id : goal.overflow_add-id
overflow_add-id c = let k = known c.self.inside.lits.items c.self.inside.bounds.items c.self.inside.names _ c.args.id c.self.view_is c.requires in omega (arith, k.within)

pub index-requires-2 : goal.index-requires-2
index-requires-2 c = let k = known c.self.inside.lits.items c.self.inside.bounds.items c.self.inside.names _ c.args.id c.self.view_is c.requires in omega (arith, k.within)

pub slice_bounds-result-count : goal.slice_bounds-result-count
slice_bounds-result-count c =
    (cut_of c.self.inside.lits.items c.self.inside.bounds.items c.self.inside.names _ c.args.id _ _ c.self.invariant c.self.view_is c.requires c.index.ensures c.index-2.ensures).ordered

pub slice_bounds-result-start : goal.slice_bounds-result-start
slice_bounds-result-start c =
    let u = cut_of c.self.inside.lits.items c.self.inside.bounds.items c.self.inside.names _ c.args.id _ _ c.self.invariant c.self.view_is c.requires c.index.ensures c.index-2.ensures in
    let h : c.index.result.now ≤ length c.deref.result.now = omega (arith, u.ordered, u.within, ap length c.deref.ensures.value) in
    let k : c.index.result.now ≤ c.index-2.result.now = u.ordered in
    search rules

pub slice_bounds-result-end : goal.slice_bounds-result-end
slice_bounds-result-end c =
    let u = cut_of c.self.inside.lits.items c.self.inside.bounds.items c.self.inside.names _ c.args.id _ _ c.self.invariant c.self.view_is c.requires c.index.ensures c.index-2.ensures in
    let h : c.index-2.result.now ≤ length c.deref.result.now = omega (arith, u.within, ap length c.deref.ensures.value) in
    let k : c.index.result.now ≤ c.index-2.result.now = u.ordered in
    search rules

pub returns-clause-value : goal.returns-clause-value
returns-clause-value c =
    let u = cut_of c.self.inside.lits.items c.self.inside.bounds.items c.self.inside.names _ c.args.id _ _ c.self.invariant c.self.view_is c.requires c.index.ensures c.index-2.ensures in
    ap (λ (xs : List ℕ). slice_range xs c.index.result.now c.index-2.result.now) c.deref.ensures.value ∙ u.is

pub returns-clause-distinct : goal.returns-clause-distinct
returns-clause-distinct c =
    let u = cut_of c.self.inside.lits.items c.self.inside.bounds.items c.self.inside.names _ c.args.id _ _ c.self.invariant c.self.view_is c.requires c.index.ensures c.index-2.ensures in
    subst (λ (xs : List ℕ). HasNoRepeat (slice_range xs c.index.result.now c.index-2.result.now)) (sym c.deref.ensures.value) u.distinct
