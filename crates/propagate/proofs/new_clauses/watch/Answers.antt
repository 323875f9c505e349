use Rattle.std.proofs.Common.{◌∙◌, ap, sym, arith, length, get_or, ℕ, List}
use Rattle.std.proofs.lemmas.List.{get_or_read}
use Rattle.watch_ring.specs.Ring.{list_of}
use Rattle.propagate.proofs.Settles.{watched_short, nowhere_new, nowhere_next, watched_joined}
use Rattle.propagate.proofs.new_clauses.watch.Goals as goal

pub returns-then-lits-lt2-clause-lists : goal.returns-then-lits-lt2-clause-lists
returns-then-lits-lt2-clause-lists c =
    watched_short c.args.arena.now (list_of c.args.ring.now) c.args.id c.requires.known
    (omega (arith, c.if-lits-lt2.true, ap (λ (xs : List ℕ). length xs) c.lits-lits.ensures.value)) c.requires.lists

pub join-requires-clause-nowhere : goal.join-requires-clause-nowhere
join-requires-clause-nowhere c = nowhere_new c.args.arena.now c.args.ring.now c.args.id 0 (omega arith) c.requires.lists

pub join-requires-2-clause-nowhere : goal.join-requires-2-clause-nowhere
join-requires-2-clause-nowhere c =
    nowhere_next c.args.arena.now c.args.ring.now c.join.new.self c.args.id c.index-lits-0.result c.requires.lists c.join.ensures.front c.join.ensures.others

pub returns-clause-lists : goal.returns-clause-lists
returns-clause-lists c =
    let size = ap (λ (xs : List ℕ). length xs) c.lits-lits.ensures.value in
    watched_joined c.args.arena.now c.args.ring.now c.join.new.self c.join-2.new.self c.args.id c.index-lits-0.result c.index-lits-1.result
    (record {
      known = c.requires.known;
      wide = omega (arith, c.if-lits-lt2.false, size);
      first_is = sym (get_or_read c.lits-lits.result.now 0 c.index-lits-0.result (omega (arith, c.if-lits-lt2.false)) c.index-lits-0.is 0 ∙ ap (λ (xs : List ℕ). get_or xs 0 0) c.lits-lits.ensures.value);
      second_is = sym (get_or_read c.lits-lits.result.now 1 c.index-lits-1.result (omega (arith, c.if-lits-lt2.false)) c.index-lits-1.is 0 ∙ ap (λ (xs : List ℕ). get_or xs 1 0) c.lits-lits.ensures.value);
      front = c.join.ensures.front;
      others = c.join.ensures.others;
      front' = c.join-2.ensures.front;
      others' = c.join-2.ensures.others;
    })
    c.requires.lists
