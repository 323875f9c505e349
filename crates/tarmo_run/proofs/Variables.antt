-- The variables of clauses are within the limit.
use Rattle.std.proofs.Common.{◌≡◌, ◌∙◌, ℕ, ◌+◌, ◌<◌, ◌≤◌, List, [], ◌∷◌, ◌++◌, length, map, take}
use Rattle.std.proofs.Common.{ap, sym, subst, arith, Some}
use Rattle.std.proofs.lemmas.List.{take_all, take_more, map-append}
use Rattle.std.proofs.lemmas.List.Elements.{All-head, All-tail}
use Rattle.std.specs.Prelude.{All, get_or}
use Rattle.sat_base.specs.Lit.{IsLit, IsLitSet, greatest_of, greatest_of_all}
use Rattle.trace_core.specs.Known.{Known, item_at}
use Rattle.entry_core.specs.declared.entries.Entry.{Entry}
use Rattle.entry_core.specs.declared.segments.Segment.{Segment}
use Rattle.entry_core.specs.Journal.{clauses_of, inputs_of, segments}
use Rattle.entry_core.proofs.Inputs.{inputs_of_none, inputs_of_one_more}
use Rattle.tarmo_run.specs.Variables.{AreWithinVariables}
use Rattle.tarmo_run.proofs.Queries.{tagged_clauses}

-- variables of literals are within the greatest one
within_lits : (lits : List ℕ) → All IsLit lits → greatest_of lits ≤ 8388607
within_lits [] all = omega arith
within_lits (lit ∷ lits) all =
    let rest = within_lits lits (All-tail IsLit lit lits all) in
    let first = (All-head IsLit lit lits all).within in
    omega (arith, rest, first)

pub within_set : (lits : List ℕ) → IsLitSet lits → greatest_of lits ≤ 8388607
within_set lits set = within_lits lits set.each

within_both : (first second : List (List ℕ)) → AreWithinVariables first →
    AreWithinVariables second → AreWithinVariables (first ++ second)
within_both [] second one two = two
within_both (clause ∷ first) second one two =
    let rest = within_both first second (omega (arith, one)) two in
    omega (arith, one, rest)

-- one clause more
pub within_more : (clauses : List (List ℕ)) (i : ℕ) (clause : List ℕ) → i < length clauses →
    clause ≡ get_or clauses i clause → IsLitSet clause → AreWithinVariables (take i clauses) →
    AreWithinVariables (take (i + 1) clauses)
within_more clauses i clause lt is set before =
    let one : AreWithinVariables (clause ∷ []) =
    let le = within_set clause set in omega (arith, le) in
    subst AreWithinVariables (sym (take_more clauses i clause lt
    ∙ ap (λ (x : List ℕ). take i clauses ++ x ∷ []) (sym is)))
    (within_both (take i clauses) (clause ∷ []) before one)

-- all of them
pub within_all : (clauses : List (List ℕ)) (i : ℕ) → length clauses ≤ i →
    AreWithinVariables (take i clauses) → AreWithinVariables clauses
within_all clauses i le within = subst AreWithinVariables (take_all i clauses le) within

-- no job has no clauses
pub within_none : (journal : List Entry) → AreWithinVariables (clauses_of journal 0)
within_none journal = subst AreWithinVariables
    (sym (ap (map (λ (one : Known). one.clause)) (inputs_of_none journal))) (omega arith)

-- the clauses of the next job
pub within_next : (journal : List Entry) (written job : ℕ) (segment : Segment) →
    job ≡ written + 1 → item_at (segments journal) job ≡ Some segment →
    AreWithinVariables (clauses_of journal written) → AreWithinVariables segment.clauses →
    AreWithinVariables (clauses_of journal job)
within_next journal written job segment next is before own =
    let more = inputs_of_one_more journal written segment
    (subst (λ n. item_at (segments journal) n ≡ Some segment) next is) in
    let whole : clauses_of journal job ≡ clauses_of journal written ++ segment.clauses =
    ap (clauses_of journal) next ∙ ap (map (λ (one : Known). one.clause)) more
    ∙ map-append (λ (one : Known). one.clause) (inputs_of journal written)
    (map (λ (clause : List ℕ). record { clause = clause; tag = written + 1 }) segment.clauses)
    ∙ ap (λ (clauses : List (List ℕ)). clauses_of journal written ++ clauses)
    (tagged_clauses (written + 1) segment.clauses) in
    subst AreWithinVariables (sym whole)
    (within_both (clauses_of journal written) segment.clauses before own)
