-- Attempts whose budget is greater than the number of clauses over the job's variables don't use it up.
use Rattle.std.proofs.Common.{◌≡◌, ◌≢◌, ◌∙◌, ℕ, zero, suc, ◌+◌, ◌-◌, ◌*◌, ◌^◌, ◌<◌, ◌≤◌, Bool, true, false, cond, Some, List, [], ◌∷◌, map, length, get_or, refl, ap, subst, sym, arith, ◌==◌}
use Rattle.std.specs.Prelude.{All, AllPairs, Contains, IsTrue, filter}
use Rattle.std.specs.List.{list_any, range_with_len}
use Rattle.std.proofs.lemmas.Bool.{and_from, lt-ltb}
use Rattle.std.proofs.lemmas.Bool.Decides.{nat_tests}
use Rattle.std.proofs.lemmas.List.{length-map, get_or-map}
use Rattle.std.proofs.lemmas.List.Elements.{All-contains, All-map, All-weaker, Contains-get_or, filter_passes}
use Rattle.std.proofs.lemmas.List.FromFn.{length-range_with_len, get_or-range_with_len}
use Rattle.sat_base.specs.Lit.{variable, opposite, ascends_above, greatest_of, variables, IsTautology}
use Rattle.sat_base.specs.Law.{IsProperClause}
use Rattle.sat_base.proofs.Counting.{few}
use Rattle.sat_base.proofs.Members.{All-from_members, Contains-filter, any_member, any_from_member}
use Rattle.entry_core.specs.declared.answers.Verdict.TheVariants as verdict
use Rattle.entry_core.specs.declared.entries.Entry.{Entry}
use Rattle.entry_core.specs.declared.rules.Rules.{Rules}
use Rattle.entry_core.specs.Journal.{clauses_of, cube_of}
use Rattle.entry_core.specs.Settled.{settled}
use Rattle.entry_core.specs.Right.{AreLiterals, Subsumes, IsSpent}
use Rattle.entry_core.specs.Legal.{AreWithinLimits, IsLegal}
use Rattle.entry_core.specs.Causes.{IsUnknown, spent_lists}
use Rattle.entry_core.specs.Law.{LargeBudgetsAnswer}
use Rattle.trace_core.proofs.Items.{Contains-from_filter}
use Rattle.entry_core.proofs.VerdictCauses.{verdicts_have_causes}

-- the literals of the clause among those of the variables 1 to n, in strictly ascending order
abbrev set_over : ℕ → List ℕ → List ℕ
set_over n clause = filter (λ lit. list_any (λ code. code == lit) clause) (range_with_len 2 (2 * n))

ascends : (test : ℕ → Bool) (bound first count : ℕ) → bound < first → IsTrue (ascends_above bound (filter test (range_with_len first count)))
ascends test bound first zero lt = refl
ascends test bound first (suc count) lt =
    by_test (test first) (filter test (range_with_len (first + 1) count)) (ascends test first (first + 1) count (omega arith)) (ascends test bound (first + 1) count (omega arith))
  where
    by_test : (b : Bool) (rest : List ℕ) → IsTrue (ascends_above first rest) → IsTrue (ascends_above bound rest) → IsTrue (ascends_above bound (cond b (first ∷ rest) rest))
    by_test true rest above under = and_from _ _ (lt-ltb bound first lt) above
    by_test false rest above under = under

in_range : (first count n : ℕ) → Contains (range_with_len first count) n → (first ≤ n) × (n < first + count)
in_range first count n has =
    let size = length-range_with_len first count in
    let within : has.0 < count = let lt = has.1 in omega arith in
    let is = get_or-range_with_len first count has.0 n within in
    let here : n ≡ first + has.0 = sym has.2 ∙ is in
    (omega arith, omega arith)

range_has : (first count n : ℕ) → first ≤ n → n < first + count → Contains (range_with_len first count) n
range_has first count n from to =
    let size = length-range_with_len first count in
    let place : n ≡ first + (n - first) = omega arith in
    (n - first, omega arith, get_or-range_with_len first count (n - first) n (omega arith) ∙ sym place)

same_code : (a b : ℕ) → (a == b) ≡ true → a ≡ b
same_code a b is = grind (arith, nat_tests)

code_itself : (a : ℕ) → (a == a) ≡ true
code_itself a = grind (arith, nat_tests)

set_has : (n : ℕ) (clause : List ℕ) (lit : ℕ) → 2 ≤ lit → variable lit ≤ n → Contains clause lit → Contains (set_over n clause) lit
set_has n clause lit from to has =
    Contains-filter (λ lit. list_any (λ code. code == lit) clause) (range_with_len 2 (2 * n)) lit (range_has 2 (2 * n) lit from (omega arith))
    (any_from_member (λ other. other == lit) clause lit has (code_itself lit))

set_from : (n : ℕ) (clause : List ℕ) (lit : ℕ) → Contains (set_over n clause) lit → (2 ≤ lit) × (lit < 2 + 2 * n) × Contains clause lit
set_from n clause lit has =
    let test : ℕ → Bool = λ lit. list_any (λ code. code == lit) clause in
    let range = in_range 2 (2 * n) lit
    (Contains-from_filter test (range_with_len 2 (2 * n)) lit has).0 in
    let passes : test lit ≡ true = All-contains (λ x. test x ≡ true) (set_over n clause) lit (filter_passes test (range_with_len 2 (2 * n))) has in
    let member = any_member (λ code. code == lit) clause passes in
    (range.0, range.1, subst (Contains clause) (same_code member.0 lit member.2) member.1)

proper_set : (n : ℕ) (clause : List ℕ) → ¬ IsTautology clause → IsProperClause n (set_over n clause)
proper_set n clause proper = record {
  ascending = ascends (λ lit. list_any (λ code. code == lit) clause) 0 2 (2 * n) (omega arith);
  within = All-from_members (λ lit. (2 ≤ lit) × (variable lit ≤ n)) (set_over n clause) (λ lit has. let from = set_from n clause lit has in (from.0, omega (arith, from.0, from.1)));
  proper = λ both. proper (record {
    lit = both.lit;
    has = (set_from n clause both.lit both.has).2;
    has_opposite = (set_from n clause (opposite both.lit) both.has_opposite).2;
  });
}

-- each code is that of a literal of the variables 1 to n
abbrev AreOver : ℕ → List ℕ → Type 0
AreOver n clause = (code : ℕ) → Contains clause code → (2 ≤ code) × (variable code ≤ n)

same_sets : (n : ℕ) (clause other : List ℕ) → AreOver n clause → set_over n clause ≡ set_over n other → Subsumes clause other
same_sets n clause other over same = All-from_members (Contains other) clause (λ code has.
    let range = over code has in
    (set_from n other code (subst (λ xs. Contains xs code) same (set_has n clause code range.0 range.1 has))).2)

-- at most 3^n clauses over n variables, of which none subsumes a later one
few_different : (n : ℕ) (learnt : List (List ℕ)) → All (λ clause. ¬ IsTautology clause) learnt → AllPairs (λ earlier later. ¬ Subsumes earlier later) learnt
    → ((clause : List ℕ) → Contains learnt clause → AreOver n clause) → length learnt ≤ 3 ^ n
few_different n learnt proper different over =
    subst (λ m. m ≤ 3 ^ n) (length-map learnt (set_over n)) (few n (map (set_over n) learnt) each apart)
  where
    each : All (IsProperClause n) (map (set_over n) learnt)
    each = All-map (IsProperClause n) (set_over n) learnt
        (All-weaker (λ clause. ¬ IsTautology clause) (λ clause. IsProperClause n (set_over n clause)) (proper_set n) learnt proper)

    apart : AllPairs (λ one other. one ≢ other) (map (set_over n) learnt)
    apart i j d lt within same =
        let size = length-map learnt (set_over n) in
        let j_in : j < length learnt = omega arith in
        let i_in : i < length learnt = omega arith in
        different i j [] lt j_in
        (same_sets n (get_or learnt i []) (get_or learnt j []) (over (get_or learnt i []) (Contains-get_or learnt i [] i_in))
        (sym (get_or-map (set_over n) learnt i [] d i_in) ∙ same ∙ get_or-map (set_over n) learnt j [] d j_in))

greatest_variable : (clause : List ℕ) (code : ℕ) → Contains clause code → variable code ≤ greatest_of clause
greatest_variable [] code (k, lt, is) = absurd (omega arith)
greatest_variable (first ∷ rest) code (zero, lt, is) = let e : variable code ≡ variable first = ap variable (sym is) in omega arith
greatest_variable (first ∷ rest) code (suc k, lt, is) = let h = greatest_variable rest code (k, omega arith, is) in omega arith

-- a budget that was used up
spent_budget : (n : ℕ) (clauses : List (List ℕ)) (budget : ℕ) (learnt : List (List ℕ)) → IsSpent clauses n budget learnt → budget ≤ 3 ^ n
spent_budget n clauses budget learnt spent =
    subst (λ m. m ≤ 3 ^ n) spent.number (few_different n learnt spent.proper spent.different (λ clause has code member.
    let greatest : greatest_of clause ≤ n = All-contains (λ clause. greatest_of clause ≤ n) learnt clause spent.within has in
    let here = greatest_variable clause code member in
    (All-contains (λ code. 2 ≤ code) clause code (All-contains AreLiterals learnt clause spent.literals has) member, omega arith)))

-- the first list of a job that was given up
record HasList (rules : Rules) (journal : List Entry) (job : ℕ) : Type 0 where
  learnt : List (List ℕ)
  own : Contains (spent_lists journal job) learnt
  spent : IsSpent (clauses_of journal job) (variables (clauses_of journal job) (cube_of journal job)) rules.conflicts learnt

has_list : (rules : Rules) (journal : List Entry) (job : ℕ) → IsLegal rules journal → AreWithinLimits rules → settled rules journal job ≡ Some verdict.Spent → HasList rules journal job
has_list rules journal job legal limits is =
    let unknown : IsUnknown rules journal job = verdicts_have_causes rules journal job verdict.Spent legal is in
    let some : 0 < length (spent_lists journal job) = let enough = unknown.enough in let one = limits.some_attempt in omega arith in
    record { learnt = get_or (spent_lists journal job) 0 []; own = Contains-get_or (spent_lists journal job) 0 [] some; spent = unknown.each 0 [] some }

pub large_budgets_answer : LargeBudgetsAnswer
large_budgets_answer rules journal job legal limits is =
    let found = has_list rules journal job legal limits is in
    spent_budget (variables (clauses_of journal job) (cube_of journal job)) (clauses_of journal job) rules.conflicts found.learnt found.spent
