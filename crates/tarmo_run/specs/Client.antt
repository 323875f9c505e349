-- What a client has read, and which of it stands on the board.
use Rattle.std.specs.Prelude.{◌≡◌, ℕ, List, [], ◌∷◌, ◌++◌}
use Rattle.icnf_text.specs.declared.statements.Numbered.{Numbered}
use Rattle.icnf_text.specs.Jobs.{Job, jobs_after, clauses_after}
use Rattle.entry_core.specs.declared.segments.Segment.{Segment}
use Rattle.entry_core.specs.Journal.{segments}
use Rattle.board_core.specs.State.{State}
use Rattle.tarmo_run.specs.declared.client.Client.{Client}
use Rattle.tarmo_run.specs.Output.{unnumbered}

-- the query that a segment puts behind these clauses
abbrev pub query_behind : List (List ℕ) → Segment → Job
query_behind clauses segment =
    record { clauses = clauses ++ segment.clauses; cube = segment.cube }

-- the queries that segments put behind these clauses
abbrev pub queries_behind : List (List ℕ) → List Segment → List Job
queries_behind clauses [] = []
queries_behind clauses (segment ∷ segments) =
    query_behind clauses segment ∷ queries_behind (clauses ++ segment.clauses) segments

-- these clauses, and those of segments behind them
abbrev pub clauses_behind : List (List ℕ) → List Segment → List (List ℕ)
clauses_behind clauses [] = clauses
clauses_behind clauses (segment ∷ segments) =
    clauses_behind (clauses ++ segment.clauses) segments

-- the queries of the board's jobs
abbrev pub queries_on : State → List Job
queries_on board = queries_behind [] (segments board.journal)

-- the clauses of the board's jobs
abbrev pub clauses_on : State → List (List ℕ)
clauses_on board = clauses_behind [] (segments board.journal)

-- the clauses that were read: those of the board's jobs, and those behind the last cube
abbrev pub clauses_read : Client → State → List (List ℕ)
clauses_read client board = clauses_on board ++ client.pending.items

-- the queries of these statements became jobs, and their other clauses were kept
pub record Adds (old : Client) (before : State) (new : Client) (after : State)
    (list : List Numbered) : Type 0 where
  pub queries : queries_on after
      ≡ queries_on before ++ jobs_after (clauses_read old before) (unnumbered list)
  pub clauses : clauses_read new after ≡ clauses_after (clauses_read old before) (unnumbered list)

-- the first queries of these statements became jobs
pub record AddsFirst (old : Client) (before after : State) (list : List Numbered) : Type 0 where
  pub left : List Job
  pub queries : queries_on before ++ jobs_after (clauses_read old before) (unnumbered list)
      ≡ queries_on after ++ left
