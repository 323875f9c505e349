-- Statements that become jobs, one after another.
use Rattle.std.proofs.Common.{◌≡◌, ◌∙◌, ℕ, List, [], ◌∷◌, ◌++◌, refl, ap, sym, subst}
use Rattle.std.proofs.Common.{append_assoc, append-nil}
use Rattle.entry_core.specs.declared.segments.Segment.{Segment}
use Rattle.entry_core.specs.Journal.{segments}
use Rattle.board_core.specs.State.{State}
use Rattle.icnf_text.specs.declared.statements.Numbered.{Numbered}
use Rattle.icnf_text.specs.declared.statements.Statement.{Statement}
use Rattle.icnf_text.specs.declared.statements.Statement.TheVariants.{Clause, Cube}
use Rattle.icnf_text.specs.Jobs.{Job, clauses_after, jobs_after}
use Rattle.tarmo_run.specs.declared.client.Client.{Client}
use Rattle.tarmo_run.specs.Client.{Adds, AddsFirst, clauses_behind, clauses_on, clauses_read}
use Rattle.tarmo_run.specs.Client.{queries_behind, queries_on}
use Rattle.tarmo_run.specs.Growth.{HasNoJobMore}
use Rattle.tarmo_run.specs.Output.{unnumbered}
use Rattle.tarmo_run.proofs.Queries.{clauses_behind-append, queries_behind-append}
use Rattle.tarmo_run.proofs.Statements.{more_clauses, more_jobs}

-- the query of a cube became a job
pub adds_cube : (old new : Client) (before after : State) (numbered : Numbered)
    (cube shown : List ℕ) → numbered.statement ≡ Cube shown → cube ≡ shown →
    segments after.journal
    ≡ segments before.journal ++ record { clauses = old.pending.items; cube = cube } ∷ [] →
    new.pending.items ≡ [] → Adds old before new after (numbered ∷ [])
adds_cube old new before after numbered cube shown is same added none =
    let segment : Segment = record { clauses = old.pending.items; cube = cube } in
    let stated : Cube cube ≡ numbered.statement = ap Cube same ∙ sym is in
    record {
      queries = ap (queries_behind []) added
          ∙ queries_behind-append [] (segments before.journal) segment
          ∙ ap (λ (s : Statement). queries_on before ++ jobs_after (clauses_read old before)
          (s ∷ []))
          stated;
      clauses = ap (λ (rest : List (List ℕ)). clauses_on after ++ rest) none
          ∙ append-nil (clauses_on after) ∙ ap (clauses_behind []) added
          ∙ clauses_behind-append [] (segments before.journal) segment
          ∙ ap (λ (s : Statement). clauses_after (clauses_read old before) (s ∷ [])) stated;
    }

-- a clause was kept
pub adds_clause : (old new : Client) (board : State) (numbered : Numbered) (clause : List ℕ) →
    numbered.statement ≡ Clause clause →
    new.pending.items ≡ old.pending.items ++ clause ∷ [] →
    Adds old board new board (numbered ∷ [])
adds_clause old new board numbered clause is kept = record {
  queries = sym (append-nil (queries_on board))
      ∙ ap (λ (s : Statement). queries_on board ++ jobs_after (clauses_read old board) (s ∷ []))
      (sym is);
  clauses = ap (λ (rest : List (List ℕ)). clauses_on board ++ rest) kept
      ∙ sym (append_assoc (clauses_on board) old.pending.items (clause ∷ []))
      ∙ ap (λ (s : Statement). clauses_after (clauses_read old board) (s ∷ [])) (sym is);
}

adds_on : (old mid new : Client) (before between after : State) (first second : List Numbered) →
    Adds old before mid between first → Adds mid between new after second →
    Adds old before new after (first ++ second)
adds_on old mid new before between after first second one two =
    let read = clauses_read old before in
    let jobs = jobs_after (clauses_read old before) (unnumbered first) in
    record {
      queries = two.queries
          ∙ ap (λ (jobs : List Job). jobs ++ jobs_after (clauses_read mid between)
          (unnumbered second))
          one.queries
          ∙ append_assoc (queries_on before) jobs
          (jobs_after (clauses_read mid between) (unnumbered second))
          ∙ ap (λ (clauses : List (List ℕ)).
          queries_on before ++ (jobs ++ jobs_after clauses (unnumbered second))) one.clauses
          ∙ ap (λ (jobs : List Job). queries_on before ++ jobs) (sym (more_jobs read first second));
      clauses = two.clauses
          ∙ ap (λ (clauses : List (List ℕ)). clauses_after clauses (unnumbered second)) one.clauses
          ∙ sym (more_clauses read first second);
    }

adds_none : (client : Client) (board : State) → Adds client board client board []
adds_none client board = record { queries = sym (append-nil (queries_on board)); clauses = refl }

-- some of the statements were added, and these are left
pub record AddsUpTo (old : Client) (before : State) (new : Client) (after : State)
    (all left : List Numbered) : Type 0 where
  pub done : List Numbered
  pub whole : all ≡ done ++ left
  pub adds : Adds old before new after done

pub none_added : (client : Client) (board : State) (all : List Numbered) →
    AddsUpTo client board client board all all
none_added client board all = record { done = []; whole = refl; adds = adds_none client board }

pub one_added : (old mid new : Client) (before between after : State)
    (all left rest : List Numbered) (numbered : Numbered) → left ≡ numbered ∷ rest →
    AddsUpTo old before mid between all left → Adds mid between new after (numbered ∷ []) →
    AddsUpTo old before new after all rest
one_added old mid new before between after all left rest numbered next to one = record {
  done = to.done ++ numbered ∷ [];
  whole = to.whole ∙ ap (λ (xs : List Numbered). to.done ++ xs) next
      ∙ sym (append_assoc to.done (numbered ∷ []) rest);
  adds = adds_on old mid new before between after to.done (numbered ∷ []) to.adds one;
}

pub all_added : (old new : Client) (before after : State) (all left : List Numbered) →
    left ≡ [] → AddsUpTo old before new after all left → Adds old before new after all
all_added old new before after all left none to =
    subst (Adds old before new after) (sym (to.whole
    ∙ ap (λ (xs : List Numbered). to.done ++ xs) none ∙ append-nil to.done)) to.adds

-- what was added is the first of all that there was to add
pub first_added : (old mid : Client) (before between after : State) (all left : List Numbered) →
    AddsUpTo old before mid between all left → queries_on after ≡ queries_on between →
    AddsFirst old before after all
first_added old mid before between after all left to same =
    let read = clauses_read old before in
    let done = jobs_after (clauses_read old before) (unnumbered to.done) in
    let rest = jobs_after (clauses_after (clauses_read old before) (unnumbered to.done))
    (unnumbered left) in
    record {
      left = jobs_after (clauses_after (clauses_read old before) (unnumbered to.done))
          (unnumbered left);
      queries = ap (λ (list : List Numbered). queries_on before
          ++ jobs_after read (unnumbered list))
          to.whole
          ∙ ap (λ (jobs : List Job). queries_on before ++ jobs) (more_jobs read to.done left)
          ∙ sym (append_assoc (queries_on before) done rest)
          ∙ ap (λ (jobs : List Job). jobs ++ rest) (sym (same ∙ to.adds.queries));
    }

pub first_of_all : (old new : Client) (before after : State) (all : List Numbered) →
    Adds old before new after all → AddsFirst old before after all
first_of_all old new before after all adds =
    record { left = []; queries = sym adds.queries ∙ sym (append-nil (queries_on after)) }

-- a board with no job more puts the same queries
same_queries : (old new : State) → HasNoJobMore old new → queries_on new ≡ queries_on old
same_queries old new more = ap (queries_behind []) more.segments

pub adds_still : (old mid new : Client) (before between after : State) (list : List Numbered) →
    Adds old before mid between list → HasNoJobMore between after → new ≡ mid →
    Adds old before new after list
adds_still old mid new before between after list adds more same = record {
  queries = same_queries between after more ∙ adds.queries;
  clauses = ap (λ (all : List Segment). clauses_behind [] all ++ new.pending.items) more.segments
      ∙ ap (λ (client : Client). clauses_on between ++ client.pending.items) same ∙ adds.clauses;
}

pub first_still : (client : Client) (before between after : State) (list : List Numbered) →
    AddsFirst client before between list → HasNoJobMore between after →
    AddsFirst client before after list
first_still client before between after list first more = record {
  left = first.left;
  queries = first.queries
      ∙ ap (λ (jobs : List Job). jobs ++ first.left) (sym (same_queries between after more));
}
