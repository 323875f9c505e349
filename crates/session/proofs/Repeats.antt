-- No clause is learnt twice, so there is an end.
use Rattle.std.proofs.Common.{◌≢◌, ◌∙◌, ℕ, ◌<◌, ◌≤◌, List, [], ◌∷◌, ◌++◌, length, refl, ap, sym}
use Rattle.std.proofs.Common.{subst, arith}
use Rattle.std.specs.Prelude.{All, AllPairs, Contains, ◌^◌, IsTrue}
use Rattle.std.proofs.lemmas.List.{append-nil, append_assoc, length-map}
use Rattle.std.proofs.lemmas.List.Elements.{All-nil, All-cons, All-append, All-map, All-contains}
use Rattle.std.proofs.lemmas.List.Elements.{Contains-append_left, Contains-append_right}
use Rattle.std.proofs.lemmas.List.Kept.{AllPairs-cons}
use Rattle.sat_base.specs.Lit.{IsLit, IsTautology, is_ascending, variable, greatest_of}
use Rattle.sat_base.specs.Lit.{greatest_of_all}
use Rattle.sat_base.specs.Law.{IsProperClause}
use Rattle.sat_base.proofs.Counting.{few}
use Rattle.sat_base.proofs.Members.{All-from_members, Contains-from_map, Contains-here}
use Rattle.trace_core.specs.Known.{Known}
use Rattle.trace_core.specs.declared.derivation.Step.{Step}
use Rattle.clause_arena.specs.Arena.{ArenaClause}
use Rattle.session.specs.declared.search.Search.{Search}
use Rattle.session.specs.Solver.{Solver, inputs_of, held_of, clauses_of, known_clause}
use Rattle.session.specs.Searching.{HasStepsMore, IsSearching, solver_of}
use Rattle.session.specs.Rounds.{AreNew, AreNamed}
use Rattle.session.specs.Solving.{Learns}
use Rattle.session.proofs.Lists.{All-under}
use Rattle.sat_base.proofs.InOrder.{in_order-ascends, in_order-has}
use Rattle.session.proofs.UpTo.{below_greatest}
use Rattle.session.proofs.Learning.{named_stay}
use Rattle.session.proofs.Steps.{none_steps, steps_front, steps_behind}

-- each clause of these differs from a held one
differs : (held more : List Known) (one : Known) → Contains held one → AreNew held more
    → All (λ clause. one.clause ≢ clause) (clauses_of more)
differs held [] one has new = All-nil (λ clause. one.clause ≢ clause)
differs held (x ∷ more) one has new = All-cons (λ clause. one.clause ≢ clause) x.clause
    (clauses_of more)
    (λ is. All-contains (λ (other : Known). All (Contains x.clause) other.clause
    → ⊥) held one new.0 has (subst (λ clause. All (Contains clause) one.clause) is
    (All-from_members (Contains one.clause) one.clause (λ lit there. there))))
    (differs (held ++ x ∷ []) more one (Contains-append_left held (x ∷ []) one has) new.1)

apart : (held more : List Known) → AreNew held more
    → AllPairs (λ clause other. clause ≢ other) (clauses_of more)
apart held [] new = λ i j d lt within. absurd (omega (arith, lt, within))
apart held (one ∷ more) new = AllPairs-cons (λ clause other. clause ≢ other) one.clause
    (clauses_of more)
    (differs (held ++ one ∷ []) more one (Contains-append_right held (one ∷ []) one
    (Contains-here one [])) new.1)
    (apart (held ++ one ∷ []) more new.1)

-- each held clause is a set of literals
held_proper : (s : Search) (bound : ℕ) (one : Known) → IsSearching s
    → Contains (held_of s.store.clauses) one → (IsTautology one.clause → ⊥)
    → greatest_of one.clause ≤ bound → IsProperClause bound one.clause
held_proper s bound one kept has proper low =
    let (clause, clause_in, is) = Contains-from_map known_clause s.store.clauses one has in
    let lits = All-contains (λ
    (c : ArenaClause). All IsLit c.lits) s.store.clauses clause kept.stock.lits clause_in in
    let same = ap (λ (x : Known). x.clause) is in
    record {
      ascending = subst (λ xs. IsTrue (is_ascending xs)) same
          (in_order-ascends clause.lits (All-under IsLit (λ lit. 0 < lit) clause.lits
          (λ lit l. omega (arith, l.not_zero)) lits));
      within = All-from_members (λ lit. (2 ≤ lit) × (variable lit ≤ bound)) one.clause
          (λ lit lit_in.
          let l = All-contains IsLit clause.lits lit lits
          ((in_order-has clause.lits lit).0 (subst (λ xs. Contains xs lit)
          (sym same) lit_in)) in
          let below = below_greatest one.clause lit lit_in in
          (l.not_zero, omega (arith, below, low)));
      proper = proper;
    }

pub few_learnt : (old new : Search) (more : List Known) (last : List ℕ) → IsSearching new
    → Learns (solver_of old) (solver_of new) more last
    → length more ≤ 3 ^ greatest_of_all (clauses_of (inputs_of old.store.clauses))
few_learnt old new more last kept l =
    let bound = greatest_of_all (clauses_of (inputs_of old.store.clauses)) in
    let each = All-map (IsProperClause bound) (λ (one : Known). one.clause) more
    (All-from_members (λ (one : Known). IsProperClause bound one.clause) more (λ one has.
    let p = All-contains (λ (x : Known). (IsTautology x.clause → ⊥)
    × (greatest_of x.clause ≤ bound)) more one l.proper has in
    held_proper new bound one kept (subst (λ (xs : List Known). Contains xs one) (sym l.held)
    (Contains-append_right (held_of old.store.clauses) more one has)) p.0 p.1)) in
    subst (λ n. n ≤ 3 ^ bound) (length-map more (λ (one : Known). one.clause))
    (few bound (clauses_of more) each (apart (held_of old.store.clauses) more l.fresh))

named_append : (steps : List Step) (names names' : List ℕ) (more more' : List Known)
    → AreNamed steps names more → AreNamed steps names' more'
    → AreNamed steps (names ++ names') (more ++ more')
named_append steps [] names' [] more' named rest = rest
named_append steps [] names' (one ∷ more) more' named rest = absurd named
named_append steps (n ∷ names) names' [] more' named rest = absurd named
named_append steps (n ∷ names) names' (one ∷ more) more' named rest =
    (named.0, named_append steps names names' more more' named.1 rest)

new_append : (held more more' : List Known) → AreNew held more → AreNew (held ++ more) more'
    → AreNew held (more ++ more')
new_append held [] more' new rest = subst (λ (xs : List Known). AreNew xs more')
    (append-nil held) rest
new_append held (one ∷ more) more' new rest = (
  new.0,
  new_append
      (held ++ one ∷ []) more more' new.1 (subst (λ (xs : List Known). AreNew xs more')
      (sym (append_assoc held (one ∷ []) more)) rest),
)

pub learns_none : (solver : Solver) → Learns solver solver [] []
learns_none solver = record {
  inputs = refl;
  bound = refl;
  packets = refl;
  held = sym (append-nil solver.held);
  names = [];
  learnt = sym (append-nil solver.learnt);
  named = tt;
  steps = none_steps solver.steps;
  fresh = tt;
  proper = λ i d lt. absurd (omega (arith, lt));
}

pub learns_then : (old mid new : Solver) (more more' : List Known) (last : List ℕ)
    → Learns old mid more [] → Learns mid new more' last → Learns old new (more ++ more') last
learns_then old mid new more more' last a b = record {
  inputs = b.inputs ∙ a.inputs;
  bound = b.bound ∙ a.bound;
  packets = b.packets ∙ a.packets;
  held = b.held ∙ ap (λ (xs : List Known). xs ++ more') a.held ∙ append_assoc old.held more more';
  names = a.names ++ b.names;
  learnt = b.learnt ∙ ap (λ (xs : List ℕ). xs ++ b.names) a.learnt
      ∙ append_assoc old.learnt a.names b.names;
  named = named_append new.steps a.names b.names more more'
      (named_stay mid.steps new.steps a.names more
      (steps_front mid.steps new.steps (b.names ++ last) b.steps) a.named) b.named;
  steps = subst (HasStepsMore old.steps new.steps) (sym (append_assoc a.names b.names last))
      (steps_behind old.steps mid.steps new.steps a.names (b.names ++ last) a.steps b.steps);
  fresh = new_append old.held more more' a.fresh
      (subst (λ (xs : List Known). AreNew xs more') a.held b.fresh);
  proper = All-append (λ (one : Known). (IsTautology one.clause → ⊥)
      × (greatest_of one.clause ≤ greatest_of_all (clauses_of old.inputs))) more more' a.proper
      (subst (λ (inputs : List Known). All (λ (one : Known). (IsTautology one.clause → ⊥)
      × (greatest_of one.clause ≤ greatest_of_all
      (clauses_of inputs))) more') a.inputs b.proper);
}
