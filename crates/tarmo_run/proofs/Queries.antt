-- The queries of a board's segments, and the jobs of its journal.
use Rattle.std.proofs.Common.{◌≡◌, ◌∙◌, ℕ, zero, suc, ◌-◌, ◌≤◌, ◌<◌, Some, None, List, [], ◌∷◌}
use Rattle.std.proofs.Common.{◌++◌, length, map, take, get_or, cond, refl, ap, sym, subst, arith}
use Rattle.std.specs.Prelude.{slice_get}
use Rattle.std.proofs.lemmas.Bool.{ne_eqb}
use Rattle.std.proofs.lemmas.List.{map-append}
use Rattle.std.proofs.lemmas.Option.{slice_get-get_or}
use Rattle.std.proofs.Math.Seq.{take-suc}
use Rattle.trace_core.specs.Known.{Known, item_at}
use Rattle.entry_core.specs.declared.entries.Entry.{Entry}
use Rattle.entry_core.specs.declared.segments.Segment.{Segment}
use Rattle.entry_core.specs.Journal.{jobs, segments, inputs_of, clauses_of, cube_in, cube_of}
use Rattle.entry_core.proofs.Inputs.{inputs_of_next, inputs_of_none, tagged}
use Rattle.icnf_text.specs.Jobs.{Job}
use Rattle.tarmo_run.specs.Client.{clauses_behind, queries_behind}
use Rattle.tarmo_run.specs.Output.{PutQueries}

pub clauses_behind-append : (clauses : List (List ℕ)) (first : List Segment) (segment : Segment) →
    clauses_behind clauses (first ++ segment ∷ []) ≡ clauses_behind clauses first ++ segment.clauses
clauses_behind-append clauses [] segment = refl
clauses_behind-append clauses (one ∷ first) segment =
    clauses_behind-append (clauses ++ one.clauses) first segment

-- one segment more puts one query more
pub queries_behind-append : (clauses : List (List ℕ)) (first : List Segment) (segment : Segment) →
    queries_behind clauses (first ++ segment ∷ []) ≡ queries_behind clauses first
    ++ record { clauses = clauses_behind clauses first ++ segment.clauses; cube = segment.cube } ∷
    []
queries_behind-append clauses [] segment = refl
queries_behind-append clauses (one ∷ first) segment =
    ap (λ (rest : List Job). record { clauses = clauses ++ one.clauses; cube = one.cube } ∷ rest)
    (queries_behind-append (clauses ++ one.clauses) first segment)

pub as_many : (clauses : List (List ℕ)) (list : List Segment) →
    length (queries_behind clauses list) ≡ length list
as_many clauses [] = refl
as_many clauses (segment ∷ list) = ap suc (as_many (clauses ++ segment.clauses) list)

-- what stands where nothing stands
nobody : Segment
nobody = record { clauses = []; cube = [] }

item_there : {X : Type 0} (xs : List X) (i : ℕ) → item_at xs (suc i) ≡ slice_get xs i
item_there xs i =
    ap (λ b. cond b None (slice_get xs (suc i - 1)))
    (ne_eqb (suc i) 0 (λ none. omega (arith, none)))
    ∙ ap (slice_get xs) (let e : suc i - 1 ≡ i = omega arith in e)

-- the query at a place has the clauses of the segments up to there
query_at : (clauses : List (List ℕ)) (list : List Segment) (i : ℕ) → i < length list
    → slice_get (queries_behind clauses list) i
    ≡ Some (record {
      clauses = clauses_behind clauses (take (suc i) list);
      cube = (get_or list i nobody).cube;
    })
query_at clauses [] i lt = absurd (omega (arith, lt))
query_at clauses (segment ∷ list) zero lt = refl
query_at clauses (segment ∷ list) (suc i) lt =
    query_at (clauses ++ segment.clauses) list i (omega (arith, lt))

-- tagged clauses without their tags
pub tagged_clauses : (tag : ℕ) (clauses : List (List ℕ)) →
    map (λ (one : Known). one.clause) (tagged tag clauses) ≡ clauses
tagged_clauses tag [] = refl
tagged_clauses tag (clause ∷ clauses) =
    ap (λ (rest : List (List ℕ)). clause ∷ rest) (tagged_clauses tag clauses)

-- the clauses of a job are those of the segments up to it
clauses_up_to_job : (journal : List Entry) (job : ℕ) → job ≤ jobs journal →
    clauses_of journal job ≡ clauses_behind [] (take job (segments journal))
clauses_up_to_job journal zero le = ap (map (λ (one : Known). one.clause)) (inputs_of_none journal)
clauses_up_to_job journal (suc job) le =
    let lt : job < length (segments journal) = omega (arith, le) in
    let segment = get_or (segments journal) job nobody in
    let is : item_at (segments journal) (suc job) ≡ Some (get_or (segments journal) job nobody) =
    item_there (segments journal) job ∙ slice_get-get_or (segments journal) job nobody lt in
    ap (map (λ (one : Known). one.clause)) (inputs_of_next journal job segment is)
    ∙ map-append (λ (one : Known). one.clause) (inputs_of journal job)
    (tagged (suc job) segment.clauses)
    ∙ ap (λ (rest : List (List ℕ)). clauses_of journal job ++ rest)
    (tagged_clauses (suc job) segment.clauses)
    ∙ ap (λ (first : List (List ℕ)). first ++ segment.clauses)
    (clauses_up_to_job journal job (omega (arith, le)))
    ∙ sym (clauses_behind-append [] (take job (segments journal)) segment)
    ∙ ap (clauses_behind []) (sym (take-suc (segments journal) job nobody lt))

put_at : (journal : List Entry) (i : ℕ) → i < jobs journal →
    item_at (queries_behind [] (segments journal)) (suc i)
    ≡ Some (record { clauses = clauses_of journal (suc i); cube = cube_of journal (suc i) })
put_at journal i lt =
    let cube : cube_of journal (suc i) ≡ (get_or (segments journal) i nobody).cube =
    ap cube_in (item_there (segments journal) i ∙ slice_get-get_or (segments journal) i nobody lt)
    in
    item_there (queries_behind [] (segments journal)) i ∙ query_at [] (segments journal) i lt
    ∙ ap (λ (clauses : List (List ℕ)). Some
    (record { clauses = clauses; cube = (get_or (segments journal) i nobody).cube }))
    (sym (clauses_up_to_job journal (suc i) (omega (arith, lt))))
    ∙ ap (λ (cube : List ℕ). Some (record { clauses = clauses_of journal (suc i); cube = cube }))
    (sym cube)

-- the jobs of a journal put the queries of its segments
pub queries_put : (journal : List Entry) → PutQueries journal (queries_behind [] (segments journal))
queries_put journal = record {
  count = sym (as_many [] (segments journal));
  each = λ job from to. subst (λ n. item_at (queries_behind [] (segments journal)) n
      ≡ Some (record { clauses = clauses_of journal n; cube = cube_of journal n }))
      (omega (arith, from)) (put_at journal (job - 1) (omega (arith, from, to)));
}
