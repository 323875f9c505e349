-- What an attempt learnt keeps the rules of a spent list.
use Rattle.std.proofs.Common.{◌≡◌, ◌∙◌, ℕ, ◌+◌, ◌≤◌, zero, suc, ◌<◌, List, [], ◌∷◌, ◌++◌, length, map, take, get_or, refl, ap, sym, subst, inl, inr, arith, append_assoc}
use Rattle.std.specs.Prelude.{All, AllPairs, Contains}
use Rattle.std.proofs.lemmas.List.{length-append, length-map, map-append, take_more}
use Rattle.std.proofs.lemmas.List.Elements.{All-nil, All-cons, All-append, All-map, All-contains, Contains-append_left, Contains-append_right}
use Rattle.std.proofs.lemmas.List.Kept.{AllPairs-cons}
use Rattle.sat_base.specs.Lit.{IsTautology, greatest_of, greatest_of_all, variables}
use Rattle.sat_base.specs.Truth.{Entails}
use Rattle.sat_base.proofs.Members.{All-from_members, Contains-here, Contains-there, Contains-cases, Contains-from_map}
use Rattle.trace_core.specs.Known.{Known, item_at, clause_of}
use Rattle.trace_core.specs.Trace.{known_of}
use Rattle.trace_core.proofs.Items.{item_at-append}
use Rattle.trace_core.specs.declared.derivation.Step.{Step}
use Rattle.entry_core.specs.Right.{AreLiterals, IsSpent, Subsumes}
use Rattle.session.specs.Solver.{Solver, IsSound, IsStep, clauses_of}
use Rattle.session.specs.Rounds.{AreNamed, AreNew}
use Rattle.session.specs.Solving.{Learns}
use Rattle.session.proofs.Lists.{map_same}
use Rattle.worker_loop.specs.Asked.{clause_at, clauses_at}
use Rattle.worker_loop.specs.Fits.{AreLearnt}

-- no new clause is subsumed by a held one
none_held : (held more : List Known) (one other : Known) → AreNew held more → Contains more one → Contains held other → Subsumes other.clause one.clause → ⊥
none_held held [] one other new (k, lt, is) has subsumes = absurd (omega (arith, lt))
none_held held (first ∷ more) one other new there has subsumes = elim (Contains-cases first one more there) [
  | inl same ↦ All-contains (λ (other : Known). All (Contains one.clause) other.clause → ⊥) held other (subst (λ (x : Known). All (λ (other : Known). All (Contains x.clause) other.clause → ⊥) held) same new.0) has subsumes
  | inr later ↦ none_held (held ++ first ∷ []) more one other new.1 later (Contains-append_left held (first ∷ []) other has) subsumes
]

-- nor by one before it
none_before : (held more : List Known) → AreNew held more → AllPairs (λ earlier later. ¬ Subsumes earlier later) (clauses_of more)
none_before held [] new = λ i j d lt within. absurd (omega (arith, lt, within))
none_before held (one ∷ more) new =
    AllPairs-cons (λ earlier later. ¬ Subsumes earlier later) one.clause (clauses_of more)
    (All-map (λ later. ¬ Subsumes one.clause later) (λ (x : Known). x.clause) more
    (All-from_members (λ (x : Known). ¬ Subsumes one.clause x.clause) more (λ x has.
    none_held (held ++ one ∷ []) more x one new.1 has (Contains-append_right held (one ∷ []) one (Contains-here one [])))))
    (none_before (held ++ one ∷ []) more new.1)

-- the clauses of the learnt steps are those that were learnt
named_clauses : (steps : List Step) (names : List ℕ) (more : List Known) → AreNamed steps names more → map (clause_at steps) names ≡ clauses_of more
named_clauses steps [] [] named = refl
named_clauses steps [] (one ∷ more) named = absurd named
named_clauses steps (name ∷ names) [] named = absurd named
named_clauses steps (name ∷ names) (one ∷ more) named =
    ap (λ clause. clause ∷ map (clause_at steps) names) (ap clause_of named.0) ∙ ap (λ clauses. one.clause ∷ clauses) (named_clauses steps names more named.1)

spent_more : (old new : Solver) (more : List Known) (last : List ℕ) (cube : List ℕ) → IsSound old → IsSound new → Learns old new more last → All AreLiterals (clauses_of more)
    → IsSpent (clauses_of old.inputs) (variables (clauses_of old.inputs) cube) (length more) (clauses_of more)
spent_more old new more last cube was sound l literals = record {
  number = length-map more (λ (one : Known). one.clause);
  literals = literals;
  proper = each (λ clause. ¬ IsTautology clause) (λ one has. (proper one has).0);
  new = each (λ clause. All (λ given. ¬ Subsumes given clause) (clauses_of old.inputs)) (λ one has.
      All-map (λ given. ¬ Subsumes given one.clause) (λ (input : Known). input.clause) old.inputs
      (All-from_members (λ (input : Known). ¬ Subsumes input.clause one.clause) old.inputs (λ input given.
      none_held old.held more one input l.fresh has (All-contains (Contains old.held) old.inputs input was.inputs_held given))));
  different = none_before old.held more l.fresh;
  within = each (λ clause. greatest_of clause ≤ variables (clauses_of old.inputs) cube) (λ one has. omega (arith, (proper one has).1));
  entailed = each (Entails (clauses_of old.inputs)) (λ one has.
      subst (λ (inputs : List Known). Entails (clauses_of inputs) one.clause) l.inputs
      (All-contains (λ (x : Known). Entails (clauses_of new.inputs) x.clause) new.held one sound.entailed
      (subst (λ (held : List Known). Contains held one) (sym l.held) (Contains-append_right old.held more one has))));
}
  where
    each : (P : List ℕ → Type 0) → ((one : Known) → Contains more one → P one.clause) → All P (clauses_of more)
    each P holds = All-map P (λ (one : Known). one.clause) more (All-from_members (λ (one : Known). P one.clause) more holds)

    proper : (one : Known) → Contains more one → (IsTautology one.clause → ⊥) × (greatest_of one.clause ≤ greatest_of_all (clauses_of old.inputs))
    proper one has = All-contains (λ (x : Known). (IsTautology x.clause → ⊥) × (greatest_of x.clause ≤ greatest_of_all (clauses_of old.inputs))) more one l.proper has

-- What was learnt before and what was learnt now.

pairs_append : {X : Type 0} (R : X → X → Type 0) (xs ys : List X) → AllPairs R xs → AllPairs R ys → ((x y : X) → Contains xs x → Contains ys y → R x y) → AllPairs R (xs ++ ys)
pairs_append R [] ys front back across = back
pairs_append R (x ∷ xs) ys front back across =
    AllPairs-cons R x (xs ++ ys)
    (All-append (R x) xs ys (λ k d within. front zero (suc k) d (omega (arith)) (omega (arith, within))) (All-from_members (R x) ys (λ y has. across x y (Contains-here x xs) has)))
    (pairs_append R xs ys (λ i j d lt within. front (suc i) (suc j) d (omega (arith, lt)) (omega (arith, within))) back (λ a b has there. across a b (Contains-there x a xs has) there))

-- two lists that keep the rules do so as one, where no clause of the second has all literals of one of the first
spent_append : (clauses front back : List (List ℕ)) (most m n : ℕ) → IsSpent clauses most m front → IsSpent clauses most n back
    → ((x y : List ℕ) → Contains front x → Contains back y → ¬ Subsumes x y) → IsSpent clauses most (m + n) (front ++ back)
spent_append clauses front back most m n a b across = record {
  number = omega (arith, length-append front back, a.number, b.number);
  literals = All-append AreLiterals front back a.literals b.literals;
  proper = All-append (λ clause. ¬ IsTautology clause) front back a.proper b.proper;
  new = All-append (λ clause. All (λ given. ¬ Subsumes given clause) clauses) front back a.new b.new;
  different = pairs_append (λ earlier later. ¬ Subsumes earlier later) front back a.different b.different across;
  within = All-append (λ clause. greatest_of clause ≤ most) front back a.within b.within;
  entailed = All-append (Entails clauses) front back a.entailed b.entailed;
}

-- a step keeps its number and its clause
step_stays : (old new : List Step) (more : List Step) (number : ℕ) (one : Known) → new ≡ old ++ more → IsStep old number one → IsStep new number one
step_stays old new more number one is step =
    ap (λ (steps : List Step). item_at (map known_of steps) number) is ∙ ap (λ (all : List Known). item_at all number) (map-append known_of old more)
    ∙ item_at-append (map known_of old) (map known_of more) number one step

clauses_stay : (old new : Solver) (more : List Step) (numbers : List ℕ) → new.steps ≡ old.steps ++ more → All (λ number. (one : Known) × IsStep old.steps number one × Contains old.held one) numbers
    → clauses_at new.steps numbers ≡ clauses_at old.steps numbers
clauses_stay old new more numbers is held = map_same (clause_at new.steps) (clause_at old.steps) numbers (λ number has.
    let found = All-contains (λ number. (one : Known) × IsStep old.steps number one × Contains old.held one) numbers number held has in
    ap clause_of (step_stays old.steps new.steps more number found.0 is found.1) ∙ sym (ap clause_of found.1))

named_held : (steps : List Step) (held : List Known) (names : List ℕ) (more : List Known) → AreNamed steps names more → ((one : Known) → Contains more one → Contains held one)
    → All (λ number. (one : Known) × IsStep steps number one × Contains held one) names
named_held steps held [] more named within = All-nil (λ number. (one : Known) × IsStep steps number one × Contains held one)
named_held steps held (name ∷ names) [] named within = absurd named
named_held steps held (name ∷ names) (one ∷ more) named within =
    All-cons (λ number. (one : Known) × IsStep steps number one × Contains held one) name names (one, named.0, within one (Contains-here one more))
    (named_held steps held names more named.1 (λ other has. within other (Contains-there one other more has)))

pub names_counted : (steps : List Step) (names : List ℕ) (more : List Known) → AreNamed steps names more → length names ≡ length more
names_counted steps [] [] named = refl
names_counted steps [] (one ∷ more) named = absurd named
names_counted steps (name ∷ names) [] named = absurd named
names_counted steps (name ∷ names) (one ∷ more) named = ap suc (names_counted steps names more named.1)

pub learnt_none : (solver : Solver) (cube : List ℕ) → AreLearnt solver cube []
learnt_none solver cube = record {
  held = All-nil (λ number. (one : Known) × IsStep solver.steps number one × Contains solver.held one);
  rules = record {
    number = refl;
    literals = All-nil AreLiterals;
    proper = All-nil (λ clause. ¬ IsTautology clause);
    new = All-nil (λ clause. All (λ given. ¬ Subsumes given clause) (clauses_of solver.inputs));
    different = λ i j d lt within. absurd (omega (arith, lt, within));
    within = All-nil (λ clause. greatest_of clause ≤ variables (clauses_of solver.inputs) cube);
    entailed = All-nil (Entails (clauses_of solver.inputs));
  };
}

-- what a round learnt stands behind what was learnt before
pub learnt_more : (old new : Solver) (more : List Known) (last : List ℕ) (cube numbers : List ℕ) → IsSound old → IsSound new → (l : Learns old new more last) → All AreLiterals (clauses_at new.steps l.names)
    → AreLearnt old cube numbers → AreLearnt new cube (numbers ++ l.names)
learnt_more old new more last cube numbers was sound l literals learnt = record {
  held = All-append (λ number. (one : Known) × IsStep new.steps number one × Contains new.held one) numbers l.names before
      (named_held new.steps new.held l.names more l.named (λ one has. subst (λ (held : List Known). Contains held one) (sym l.held) (Contains-append_right old.held more one has)));
  rules = subst (λ (inputs : List Known). IsSpent (clauses_of inputs) (variables (clauses_of inputs) cube) (length (numbers ++ l.names)) (clauses_at new.steps (numbers ++ l.names))) (sym l.inputs)
      (subst (λ clauses. IsSpent (clauses_of old.inputs) (variables (clauses_of old.inputs) cube) (length (numbers ++ l.names)) clauses) (sym all)
      (subst (λ n. IsSpent (clauses_of old.inputs) (variables (clauses_of old.inputs) cube) n (clauses_at old.steps numbers ++ clauses_of more)) count
      (spent_append (clauses_of old.inputs) (clauses_at old.steps numbers) (clauses_of more) (variables (clauses_of old.inputs) cube) (length numbers) (length more) learnt.rules
      (spent_more old new more last cube was sound l (subst (All AreLiterals) (named_clauses new.steps l.names more l.named) literals)) across)));
}
  where
    before : All (λ number. (one : Known) × IsStep new.steps number one × Contains new.held one) numbers
    before = All-from_members (λ number. (one : Known) × IsStep new.steps number one × Contains new.held one) numbers (λ number has.
        let found = All-contains (λ number. (one : Known) × IsStep old.steps number one × Contains old.held one) numbers number learnt.held has in (
          found.0,
          step_stays old.steps new.steps l.steps.more number found.0 l.steps.is found.1,
          subst (λ (held : List Known). Contains held found.0) (sym l.held) (Contains-append_left old.held more found.0 found.2),
        ))

    all : clauses_at new.steps (numbers ++ l.names) ≡ clauses_at old.steps numbers ++ clauses_of more
    all = map-append (clause_at new.steps) numbers l.names ∙ ap (λ (front : List (List ℕ)). front ++ clauses_at new.steps l.names) (clauses_stay old new l.steps.more numbers l.steps.is learnt.held)
        ∙ ap (λ (back : List (List ℕ)). clauses_at old.steps numbers ++ back) (named_clauses new.steps l.names more l.named)

    count : length numbers + length more ≡ length (numbers ++ l.names)
    count = omega (arith, length-append numbers l.names, names_counted new.steps l.names more l.named)

    across : (x y : List ℕ) → Contains (clauses_at old.steps numbers) x → Contains (clauses_of more) y → ¬ Subsumes x y
    across x y has there subsumes =
        let from = Contains-from_map (clause_at old.steps) numbers x has in
        let found = All-contains (λ number. (one : Known) × IsStep old.steps number one × Contains old.held one) numbers from.0 learnt.held from.1 in
        let clause : x ≡ found.0.clause = sym from.2 ∙ ap clause_of found.1 in
        let one = Contains-from_map (λ (k : Known). k.clause) more y there in
        none_held old.held more one.0 found.0 l.fresh one.1 found.2 (subst (λ c. Subsumes found.0.clause c) (sym one.2) (subst (λ c. Subsumes c y) clause subsumes))

-- copies of what was learnt, where it is as much as the budget allows, are a spent list
pub spent_list : (solver : Solver) (cube numbers : List ℕ) (budget : ℕ) (copies : List (List ℕ)) → AreLearnt solver cube numbers → budget ≡ length numbers → copies ≡ clauses_at solver.steps numbers
    → IsSpent (clauses_of solver.inputs) (variables (clauses_of solver.inputs) cube) budget copies
spent_list solver cube numbers budget copies learnt count are =
    subst (λ n. IsSpent (clauses_of solver.inputs) (variables (clauses_of solver.inputs) cube) n copies) (sym count)
    (subst (IsSpent (clauses_of solver.inputs) (variables (clauses_of solver.inputs) cube) (length numbers)) (sym are) learnt.rules)

-- one number more is listed
pub listed_more : (learnt front numbers pushed : List ℕ) (i d : ℕ) → i < length numbers → learnt ≡ front ++ take i numbers → pushed ≡ learnt ++ get_or numbers i d ∷ [] → pushed ≡ front ++ take (i + 1) numbers
listed_more learnt front numbers pushed i d lt listed is =
    is ∙ ap (λ (all : List ℕ). all ++ get_or numbers i d ∷ []) listed ∙ append_assoc front (take i numbers) (get_or numbers i d ∷ []) ∙ ap (λ (all : List ℕ). front ++ all) (sym (take_more numbers i d lt))

pub literals_more : (steps : List Step) (numbers : List ℕ) (i d : ℕ) (clause : List ℕ) → i < length numbers → clause ≡ clause_at steps (get_or numbers i d) → AreLiterals clause
    → All AreLiterals (clauses_at steps (take i numbers)) → All AreLiterals (clauses_at steps (take (i + 1) numbers))
literals_more steps numbers i d clause lt is own all =
    subst (All AreLiterals) (sym (ap (clauses_at steps) (take_more numbers i d lt) ∙ map-append (clause_at steps) (take i numbers) (get_or numbers i d ∷ [])))
    (All-append AreLiterals (clauses_at steps (take i numbers)) (clause_at steps (get_or numbers i d) ∷ []) all
    (All-cons AreLiterals (clause_at steps (get_or numbers i d)) [] (subst AreLiterals is own) (All-nil AreLiterals)))
