-- The jobs of a text fit on a board.
use Rattle.std.proofs.Common.{◌≡◌, ◌∙◌, ℕ, suc, ◌+◌, ◌<◌, ◌≤◌, Bool, List, [], ◌∷◌, ◌++◌, length}
use Rattle.std.proofs.Common.{map, ap, sym, subst, arith, append_assoc, append-nil}
use Rattle.std.specs.Prelude.{sum_by}
use Rattle.std.proofs.lemmas.List.{length-append, length-map}
use Rattle.std.proofs.lemmas.List.Sums.{sum_by-cons, sum_by_push}
use Rattle.sat_base.specs.Limits.{most_clauses, most_jobs, most_literals}
use Rattle.trace_core.specs.Known.{Known}
use Rattle.icnf_text.specs.declared.statements.Statement.{Statement}
use Rattle.icnf_text.specs.declared.statements.Statement.TheVariants.{Clause, Cube}
use Rattle.icnf_text.specs.Jobs.{Job, clauses_after, jobs_after}
use Rattle.icnf_text.specs.Judgement.{statements}
use Rattle.icnf_text.specs.Law.{literals_in}
use Rattle.icnf_text.proofs.WithinLimits.{each_within}
use Rattle.entry_core.specs.declared.segments.Segment.{Segment}
use Rattle.entry_core.specs.Journal.{inputs, jobs, literals, segments, segment_literals}
use Rattle.entry_core.specs.Journal.{tagged_from}
use Rattle.board_core.specs.declared.faults.AddFault.{AddFault}
use Rattle.board_core.specs.declared.faults.AddFault.TheVariants as add
use Rattle.board_core.specs.Replies.{IsAddFault}
use Rattle.board_core.specs.State.{State}
use Rattle.tarmo_run.specs.Client.{clauses_behind, clauses_on, queries_behind, queries_on}
use Rattle.tarmo_run.specs.Client.{query_behind}
use Rattle.tarmo_run.specs.Fitting.{IsNextJob, IsOfNoLimit, TextsFitOnBoards}
use Rattle.tarmo_run.specs.Output.{unnumbered}
use Rattle.tarmo_run.proofs.Queries.{as_many, clauses_behind-append, queries_behind-append}

-- ---- the query at the head of others

clauses_same : (first second : Job) (rest others : List Job) → first ∷ rest ≡ second ∷ others →
    first.clauses ≡ second.clauses
clauses_same first second rest others same =
    let it : first ≡ second = cc in ap (λ (job : Job). job.clauses) it

cube_same : (first second : Job) (rest others : List Job) → first ∷ rest ≡ second ∷ others →
    first.cube ≡ second.cube
cube_same first second rest others same =
    let it : first ≡ second = cc in ap (λ (job : Job). job.cube) it

rest_same : (first second : Job) (rest others : List Job) → first ∷ rest ≡ second ∷ others →
    rest ≡ others
rest_same first second rest others same = cc

same_behind : {X : Type 0} (front first second : List X) → front ++ first ≡ front ++ second →
    first ≡ second
same_behind [] first second same = same
same_behind (x ∷ front) first second same =
    same_behind front first second (let e : front ++ first ≡ front ++ second = cc in e)

-- ---- what segments take of statements

-- Behind these clauses and the pending ones, statements put the queries of these segments first.
abbrev Puts : List (List ℕ) → List (List ℕ) → List Statement → List Segment → List Job → Type 0
Puts clauses pending stated list later =
    jobs_after (clauses ++ pending) stated ≡ queries_behind clauses list ++ later

-- the clauses that are pending before a cube are those of its segment
cube_next : (clauses pending : List (List ℕ)) (cube : List ℕ) (stated : List Statement)
    (segment : Segment) (list : List Segment) (later : List Job) →
    Puts clauses pending (Cube cube ∷ stated) (segment ∷ list) later →
    (pending ≡ segment.clauses) × (cube ≡ segment.cube)
    × Puts (clauses ++ segment.clauses) [] stated list later
cube_next clauses pending cube stated segment list later puts =
    let first : Job = record { clauses = clauses ++ pending; cube = cube } in
    let second : Job = query_behind clauses segment in
    let rest = jobs_after (clauses ++ pending) stated in
    let others = queries_behind (clauses ++ segment.clauses) list ++ later in
    let same : clauses ++ pending ≡ clauses ++ segment.clauses =
    clauses_same first second rest others puts in (
      same_behind clauses pending segment.clauses same,
      cube_same first second rest others puts,
      ap (λ (before : List (List ℕ)). jobs_after before stated)
          (append-nil (clauses ++ segment.clauses) ∙ sym same)
          ∙ rest_same first second rest others puts,
    )

-- a clause that is pending beside others
clause_next : (clauses pending : List (List ℕ)) (clause : List ℕ) (stated : List Statement)
    (list : List Segment) (later : List Job) →
    Puts clauses pending (Clause clause ∷ stated) list later →
    Puts clauses (pending ++ clause ∷ []) stated list later
clause_next clauses pending clause stated list later puts =
    ap (λ (before : List (List ℕ)). jobs_after before stated)
    (sym (append_assoc clauses pending (clause ∷ [])))
    ∙ puts

literals_fit : (clauses pending : List (List ℕ)) (stated : List Statement) (list : List Segment)
    (later : List Job) → Puts clauses pending stated list later →
    sum_by segment_literals list ≤ sum_by length pending + sum_by literals_in stated
literals_fit clauses pending stated [] later puts = omega arith
literals_fit clauses pending [] (segment ∷ list) later puts = absurd (cc)
literals_fit clauses pending (Clause clause ∷ stated) (segment ∷ list) later puts =
    let one = sum_by_push (λ (c : List ℕ). length c) pending clause in
    let head = sum_by-cons literals_in (Clause clause) stated in
    let more = literals_fit clauses (pending ++ clause ∷ []) stated (segment ∷ list) later
    (clause_next clauses pending clause stated (segment ∷ list) later puts) in
    omega arith
literals_fit clauses pending (Cube cube ∷ stated) (segment ∷ list) later puts =
    let next = cube_next clauses pending cube stated segment list later puts in
    let own = ap (λ (c : List (List ℕ)). sum_by length c) next.0 in
    let ends = ap length next.1 in
    let head = sum_by-cons literals_in (Cube cube) stated in
    let here = sum_by-cons segment_literals segment list in
    let more = literals_fit (clauses ++ segment.clauses) [] stated list later next.2 in
    omega arith

clauses_longer : (before : List (List ℕ)) (stated : List Statement) →
    length before ≤ length (clauses_after before stated)
clauses_longer before [] = omega arith
clauses_longer before (Clause clause ∷ stated) =
    let one = length-append before (clause ∷ []) in
    let more = clauses_longer (before ++ clause ∷ []) stated in omega arith
clauses_longer before (Cube cube ∷ stated) = clauses_longer before stated

clauses_fit : (clauses pending : List (List ℕ)) (stated : List Statement) (list : List Segment)
    (later : List Job) → Puts clauses pending stated list later →
    length (clauses_behind clauses list) ≤ length (clauses_after (clauses ++ pending) stated)
clauses_fit clauses pending stated [] later puts =
    let some = length-append clauses pending in
    let more = clauses_longer (clauses ++ pending) stated in omega arith
clauses_fit clauses pending [] (segment ∷ list) later puts = absurd (cc)
clauses_fit clauses pending (Clause clause ∷ stated) (segment ∷ list) later puts =
    subst (λ (before : List (List ℕ)). length (clauses_behind clauses (segment ∷ list))
    ≤ length (clauses_after before stated)) (sym (append_assoc clauses pending (clause ∷ [])))
    (clauses_fit clauses (pending ++ clause ∷ []) stated (segment ∷ list) later
    (clause_next clauses pending clause stated (segment ∷ list) later puts))
clauses_fit clauses pending (Cube cube ∷ stated) (segment ∷ list) later puts =
    let next = cube_next clauses pending cube stated segment list later puts in
    let same : (clauses ++ segment.clauses) ++ [] ≡ clauses ++ pending =
    append-nil (clauses ++ segment.clauses)
    ∙ ap (λ (own : List (List ℕ)). clauses ++ own) (sym next.0) in
    subst (λ (before : List (List ℕ)). length (clauses_behind (clauses ++ segment.clauses) list)
    ≤ length (clauses_after before stated)) same
    (clauses_fit (clauses ++ segment.clauses) [] stated list later next.2)

-- the inputs of segments are their clauses
inputs_counted : (job : ℕ) (clauses : List (List ℕ)) (list : List Segment) →
    length clauses + length (tagged_from job list) ≡ length (clauses_behind clauses list)
inputs_counted job clauses [] = omega arith
inputs_counted job clauses (segment ∷ list) =
    let more = inputs_counted (suc job) (clauses ++ segment.clauses) list in
    let own = length-append clauses segment.clauses in
    let tags = length-map {B = Known} segment.clauses (known_as job) in
    let all = length-append (map (known_as job) segment.clauses) (tagged_from (suc job) list) in
    omega arith
  where
    known_as : ℕ → List ℕ → Known
    known_as job clause = record { clause = clause; tag = job }

-- ---- no limit is met

-- the queries up to the next job are the text's first ones
put_with : (text : List ℕ) (ended : Bool) (board : State) (segment : Segment)
    (next : IsNextJob text ended board segment) →
    Puts [] [] (unnumbered (statements text ended)) (segments board.journal ++ segment ∷ [])
    next.later
put_with text ended board segment next =
    next.queries
    ∙ sym (append_assoc (queries_on board) (query_behind (clauses_on board) segment ∷ [])
    next.later)
    ∙ ap (λ (jobs : List Job). jobs ++ next.later)
    (sym (queries_behind-append [] (segments board.journal) segment))

few_jobs : (text : List ℕ) (ended : Bool) (board : State) (segment : Segment) →
    IsNextJob text ended board segment → jobs board.journal < most_jobs
few_jobs text ended board segment next =
    let all = (each_within text ended).jobs in
    let whole = ap length next.queries in
    let parts = length-append (queries_on board)
    (query_behind (clauses_on board) segment ∷ next.later) in
    let on = as_many [] (segments board.journal) in
    omega arith

few_clauses : (text : List ℕ) (ended : Bool) (board : State) (segment : Segment) →
    IsNextJob text ended board segment →
    length (inputs board.journal) + length segment.clauses ≤ most_clauses
few_clauses text ended board segment next =
    let all = (each_within text ended).clauses in
    let fit = clauses_fit [] [] (unnumbered (statements text ended))
    (segments board.journal ++ segment ∷ []) next.later
    (put_with text ended board segment next) in
    let last = ap length (clauses_behind-append [] (segments board.journal) segment) in
    let parts = length-append (clauses_on board) segment.clauses in
    let counted = inputs_counted 1 [] (segments board.journal) in
    omega arith

few_literals : (text : List ℕ) (ended : Bool) (board : State) (segment : Segment) →
    IsNextJob text ended board segment →
    literals board.journal + segment_literals segment ≤ most_literals
few_literals text ended board segment next =
    let all = (each_within text ended).literals in
    let fit = literals_fit [] [] (unnumbered (statements text ended))
    (segments board.journal ++ segment ∷ []) next.later
    (put_with text ended board segment next) in
    let last = sum_by_push segment_literals (segments board.journal) segment in
    omega arith

pub texts_fit : TextsFitOnBoards
texts_fit text ended board segment fault next refused = by fault refused
  where
    by : (fault : AddFault) → IsAddFault board segment fault → IsOfNoLimit fault
    by (add.Closed place) h = tt
    by add.TooManyJobs h =
        let few = few_jobs text ended board segment next in let many = h.1 in absurd (omega arith)
    by add.TooManyClauses h =
        let few = few_clauses text ended board segment next in
        let many = h.1 in absurd (omega arith)
    by add.TooManyLiterals h =
        let few = few_literals text ended board segment next in
        let many = h.1 in absurd (omega arith)
    by add.Memory h = tt
