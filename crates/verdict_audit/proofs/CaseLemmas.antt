-- What an audit takes from a text, statement by statement.
use Rattle.std.proofs.Common.{◌≡◌, ◌∙◌, ℕ, ◌+◌, ◌<◌, ◌≤◌, List, [], ◌∷◌, ◌++◌, map, length, take, drop, refl, sym, ap, subst, arith, zero, suc, append-nil, length-drop}
use Rattle.std.specs.Prelude.{max, Option, true, false, ◌-◌, Result, Ok, Err, IfOk}
use Rattle.std.proofs.lemmas.List.{length-append, length-map, map-append, take_at, take_all, take-take, take-append-drop, length-take}
use Rattle.sat_base.specs.Lit.{greatest_of, variables}
use Rattle.sat_base.proofs.Greatest.{greatest_all_push}
use Rattle.icnf_text.specs.declared.faults.Fault.{Fault}
use Rattle.icnf_text.specs.declared.statements.Numbered.{Numbered}
use Rattle.icnf_text.specs.Judgement.{statements, wrong}
use Rattle.trace_core.specs.Known.{Known}
use Rattle.trace_core.specs.Checked.{Checked}
use Rattle.verdict_audit.specs.Audit.{HasJob, tags_of}
use Rattle.verdict_audit.specs.Case.{Case, Query, case_after, case_of, clauses_of, known_of_clause, query_of}
use Rattle.verdict_audit.specs.Problem.{IsJobOver, IsSpare, IsTaken, query_in}
use Rattle.verdict_audit.specs.Proof.{Proof}
use Rattle.verdict_audit.specs.declared.places.Place.{Place}
use Rattle.verdict_audit.specs.declared.places.Place.TheVariants as place
use Rattle.verdict_audit.specs.declared.places.Tally.{Tally}
use Rattle.verdict_audit.specs.declared.taking.Job.{Job}

-- ---- tags

take_map : {X Y : Type 0} (f : X → Y) (xs : List X) (n : ℕ) → take n (map f xs) ≡ map f (take n xs)
take_map f [] zero = refl
take_map f [] (suc n) = refl
take_map f (x ∷ xs) zero = refl
take_map f (x ∷ xs) (suc n) = ap (λ ys. f x ∷ ys) (take_map f xs n)

ones_of : (clauses : List (List ℕ)) → map (λ (clause : List ℕ). 1) clauses ≡ tags_of (map known_of_clause clauses)
ones_of [] = refl
ones_of (clause ∷ clauses) = ap (λ ts. 1 ∷ ts) (ones_of clauses)

pub tags_front : (clauses : List (List ℕ)) (tags : List ℕ) (n : ℕ) → tags ≡ map (λ (clause : List ℕ). 1) clauses → take n tags ≡ tags_of (map known_of_clause (take n clauses))
tags_front clauses tags n is = ap (take n) is ∙ take_map (λ (clause : List ℕ). 1) clauses n ∙ ones_of (take n clauses)

-- ---- the spare checker

-- what the spare checker lacks of these clauses, put behind what it has
pub spare_grown : (case : Case) (spare : Checked) (clauses : List (List ℕ)) (held n : ℕ) → IsSpare case spare → clauses ≡ take n case.clauses → held ≡ length spare.inputs → held ≤ length clauses
    → spare.inputs ++ map known_of_clause (take (length clauses - held) (drop held clauses)) ≡ map known_of_clause clauses
spare_grown case spare clauses held n is some size le =
    let count : length is.front ≡ held = sym (size ∙ ap length is.inputs ∙ length-map is.front known_of_clause) in
    let within : held ≤ n = omega (arith, ap length some, length-take n case.clauses) in
    let same : take held clauses ≡ is.front = ap (take held) some ∙ take-take held n case.clauses within ∙ ap (take held) is.split ∙ take_at is.front is.rest held count in
    let behind : take (length clauses - held) (drop held clauses) ≡ drop held clauses = take_all (length clauses - held) (drop held clauses) (omega (arith, length-drop held clauses)) in
    ap (λ (ks : List Known). ks ++ map known_of_clause (take (length clauses - held) (drop held clauses))) (is.inputs ∙ ap (map known_of_clause) (sym same))
    ∙ ap (λ (cs : List (List ℕ)). map known_of_clause (take held clauses) ++ map known_of_clause cs) behind
    ∙ sym (map-append known_of_clause (take held clauses) (drop held clauses))
    ∙ ap (map known_of_clause) (take-append-drop held clauses)

pub room_left : (grown inputs : List Known) (clauses : List (List ℕ)) (i : ℕ) → i < length clauses → grown ++ map known_of_clause (drop i clauses) ≡ inputs ++ map known_of_clause clauses → length inputs + length clauses ≤ 16777216 → length grown < 16777216
room_left grown inputs clauses i lt is room =
    omega (arith, ap length is, length-append grown (map known_of_clause (drop i clauses)), length-append inputs (map known_of_clause clauses), length-map (drop i clauses) known_of_clause, length-map clauses known_of_clause, length-drop i clauses)

pub if_ok : {X E : Type 0} (r : Result X E) (P Q : X → Type 0) → ((x : X) → P x → Q x) → IfOk r P → IfOk r Q
if_ok (Ok x) P Q weaker holds = weaker x holds
if_ok (Err e) P Q weaker holds = holds

pub fresh_spare : (case : Case) (checker : Checked) → checker.inputs ≡ [] → checker.steps ≡ [] → IsSpare case checker
fresh_spare case checker inputs steps = record { front = []; rest = case.clauses; split = refl; inputs = inputs; steps = steps }

pub given_back : (case : Case) (tally : Tally) (proof : Proof) (at : Place) (checker : Checked) → place.Step proof ≡ at → HasJob case tally at → checker.inputs ≡ proof.inputs → checker.steps ≡ [] → IsSpare case checker
given_back case tally proof at checker is job inputs steps =
    let there = subst (HasJob case tally) (sym is) job in
    record {
      front = clauses_of case tally.begun;
      rest = drop (query_of case tally.begun).inputs case.clauses;
      split = sym (take-append-drop (query_of case tally.begun).inputs case.clauses);
      inputs = inputs ∙ there.2;
      steps = steps;
    }

-- ---- one clause more

take_before : {X : Type 0} (xs : List X) (x : X) (n : ℕ) → n ≤ length xs → take n (xs ++ x ∷ []) ≡ take n xs
take_before [] x zero within = refl
take_before [] x (suc n) within = absurd (omega arith)
take_before (y ∷ xs) x zero within = refl
take_before (y ∷ xs) x (suc n) within = ap (λ ys. y ∷ ys) (take_before xs x n (omega arith))

pub taken_clause : (clauses : List (List ℕ)) (tags : List ℕ) (jobs : List Job) (greatest most : ℕ) (clause : List ℕ) → IsTaken clauses tags jobs greatest → length clauses < 16777216 → most ≡ max greatest (greatest_of clause)
    → IsTaken (clauses ++ clause ∷ []) (tags ++ 1 ∷ []) jobs most
taken_clause clauses tags jobs greatest most clause taken room is = record {
  kept = record {
    ones = ap (λ ts. ts ++ 1 ∷ []) taken.kept.ones ∙ sym (map-append (λ (c : List ℕ). 1) clauses (clause ∷ []));
    few = let longer : length (clauses ++ clause ∷ []) ≡ length clauses + 1 = length-append clauses (clause ∷ []) in omega (arith, longer);
    each = λ k d within. still (taken.kept.each k d within);
  };
  most = let whole = greatest_all_push clauses clause in let before = taken.most in omega (arith, whole, before, is);
}
  where
    still : {job : Job} → IsJobOver clauses job → IsJobOver (clauses ++ clause ∷ []) job
    still {job} over = record {
      inputs = let longer : length (clauses ++ clause ∷ []) ≡ length clauses + 1 = length-append clauses (clause ∷ []) in let low = over.inputs in omega (arith, longer, low);
      greatest = over.greatest ∙ ap (λ (cs : List (List ℕ)). variables cs job.cube) (sym (take_before clauses clause job.inputs over.inputs));
    }

-- ---- the whole text

nothing_read : statements [] false ≡ []
unfolding statements
nothing_read = refl

pub whole_case : (text : List ℕ) (fault : Option Fault) (given ended : List Numbered) (clauses first : List (List ℕ)) (queries before : List Query)
    → statements [] false ++ given ≡ statements text false → statements text false ++ ended ≡ statements text true → fault ≡ wrong text true
    → case_after fault clauses queries [] ≡ case_after fault first before (ended ++ []) → case_after fault first before (ended ++ []) ≡ case_after fault [] [] (given ++ (ended ++ []))
    → case_after fault clauses queries [] ≡ case_of text
whole_case text fault given ended clauses first queries before some rest why second whole =
    second ∙ whole ∙ ap (λ f. case_after f [] [] (given ++ (ended ++ []))) why ∙ ap (λ ns. case_after (wrong text true) [] [] ns) all
  where
    none : statements [] false ≡ []
    none = nothing_read

    all : given ++ (ended ++ []) ≡ statements text true
    all = ap (λ ns. given ++ ns) (append-nil ended) ∙ ap (λ ns. ns ++ ended) (ap (λ ns. ns ++ given) (sym none) ∙ some) ∙ rest

pub with_last : (clauses : List (List ℕ)) (queries : List Query) (last other : List ℕ) → last ≡ other → ◌≡◌ {A = Case} (record { clauses = clauses; queries = queries; last = last }) (record { clauses = clauses; queries = queries; last = other })
with_last clauses queries last other same = cc

pub counted : (jobs : List Job) (count : ℕ) → count ≡ length jobs → count ≡ length (map query_in jobs)
counted jobs count is = is ∙ sym (length-map jobs query_in)
