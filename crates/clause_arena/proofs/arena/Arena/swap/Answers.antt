use Rattle.std.proofs.Common.{◌≡◌, ◌∙◌, ◌+◌, ℕ, List, ap, sym, subst, arith, get_or}
use Rattle.std.specs.Prelude.{swap}
use Rattle.std.proofs.lemmas.List.{get_or_read}
use Rattle.clause_arena.specs.Layout.{IsLaidOut, laid_clauses}
use Rattle.clause_arena.proofs.Swapped.{places_of, in_block, block_swapped, swapped_laid, swapped_clauses}
use Rattle.clause_arena.proofs.arena.Arena.swap.Goals as goal

pub index-requires : goal.index-requires
index-requires c = let p = places_of c.self.inside.lits.items c.self.inside.bounds.items c.self.inside.names _ c.args.id c.args.i c.args.j c.self.invariant c.self.view_is c.requires.known c.requires.i_in c.requires.j_in in omega (arith, p.known)

pub overflow_add-start : goal.overflow_add-start
overflow_add-start c =
    let p = places_of c.self.inside.lits.items c.self.inside.bounds.items c.self.inside.names _ c.args.id c.args.i c.args.j c.self.invariant c.self.view_is c.requires.known c.requires.i_in c.requires.j_in in
    let b = in_block c.self.inside.lits.items c.self.inside.bounds.items c.self.inside.names c.args.id c.args.i c.args.j c.self.invariant p in
    omega (arith, b.0, get_or_read c.self.inside.bounds.items c.args.id c.index.result.now (omega (arith, p.known)) c.index.ensures 0)

pub overflow_add-start-2 : goal.overflow_add-start-2
overflow_add-start-2 c =
    let p = places_of c.self.inside.lits.items c.self.inside.bounds.items c.self.inside.names _ c.args.id c.args.i c.args.j c.self.invariant c.self.view_is c.requires.known c.requires.i_in c.requires.j_in in
    let b = in_block c.self.inside.lits.items c.self.inside.bounds.items c.self.inside.names c.args.id c.args.i c.args.j c.self.invariant p in
    omega (arith, b.1, get_or_read c.self.inside.bounds.items c.args.id c.index.result.now (omega (arith, p.known)) c.index.ensures 0)

pub swap-requires-clause-i_in_bounds : goal.swap-requires-clause-i_in_bounds
swap-requires-clause-i_in_bounds c =
    let p = places_of c.self.inside.lits.items c.self.inside.bounds.items c.self.inside.names _ c.args.id c.args.i c.args.j c.self.invariant c.self.view_is c.requires.known c.requires.i_in c.requires.j_in in
    let b = in_block c.self.inside.lits.items c.self.inside.bounds.items c.self.inside.names c.args.id c.args.i c.args.j c.self.invariant p in
    omega (arith, b.0, get_or_read c.self.inside.bounds.items c.args.id c.index.result.now (omega (arith, p.known)) c.index.ensures 0)

pub swap-requires-clause-j_in_bounds : goal.swap-requires-clause-j_in_bounds
swap-requires-clause-j_in_bounds c =
    let p = places_of c.self.inside.lits.items c.self.inside.bounds.items c.self.inside.names _ c.args.id c.args.i c.args.j c.self.invariant c.self.view_is c.requires.known c.requires.i_in c.requires.j_in in
    let b = in_block c.self.inside.lits.items c.self.inside.bounds.items c.self.inside.names c.args.id c.args.i c.args.j c.self.invariant p in
    omega (arith, b.1, get_or_read c.self.inside.bounds.items c.args.id c.index.result.now (omega (arith, p.known)) c.index.ensures 0)

pub invariant_of-self : goal.invariant_of-self
invariant_of-self c =
    let p = places_of c.self.inside.lits.items c.self.inside.bounds.items c.self.inside.names _ c.args.id c.args.i c.args.j c.self.invariant c.self.view_is c.requires.known c.requires.i_in c.requires.j_in in
    let s : c.index.result.now ≡ get_or c.self.inside.bounds.items c.args.id 0 = get_or_read c.self.inside.bounds.items c.args.id c.index.result.now (omega (arith, p.known)) c.index.ensures 0 in
    let block : c.swap.new.self.items ≡ block_swapped c.self.inside.lits.items c.self.inside.bounds.items c.args.id c.args.i c.args.j =
    c.swap.ensures.items ∙ ap (λ n. swap c.self.inside.lits.items (n + c.args.i) (n + c.args.j)) s in
    subst (λ (xs : List ℕ). IsLaidOut xs c.self.inside.bounds.items c.self.inside.names) (sym block)
    (swapped_laid c.self.inside.lits.items c.self.inside.bounds.items c.self.inside.names c.args.id c.args.i c.args.j c.self.invariant p)

pub returns : goal.returns
returns c =
    let p = places_of c.self.inside.lits.items c.self.inside.bounds.items c.self.inside.names _ c.args.id c.args.i c.args.j c.self.invariant c.self.view_is c.requires.known c.requires.i_in c.requires.j_in in
    let s : c.index.result.now ≡ get_or c.self.inside.bounds.items c.args.id 0 = get_or_read c.self.inside.bounds.items c.args.id c.index.result.now (omega (arith, p.known)) c.index.ensures 0 in
    let block : c.swap.new.self.items ≡ block_swapped c.self.inside.lits.items c.self.inside.bounds.items c.args.id c.args.i c.args.j =
    c.swap.ensures.items ∙ ap (λ n. swap c.self.inside.lits.items (n + c.args.i) (n + c.args.j)) s in
    ap (λ (xs : List ℕ). laid_clauses xs c.self.inside.bounds.items c.self.inside.names) block
    ∙ swapped_clauses c.self.inside.lits.items c.self.inside.bounds.items c.self.inside.names _ c.args.id c.args.i c.args.j c.self.invariant c.self.view_is c.requires.known p
