-- What a run writes for the bytes that it read, and the board that it gives back.
use Rattle.std.specs.Prelude.{◌≡◌, ℕ, zero, suc, ◌≤◌, ◌⊎◌, ◌||◌, if◌then◌else◌, Bool, true, false}
use Rattle.std.specs.Prelude.{Option, Some, None, IsSome, List, [], ◌++◌, map, length, take, codes}
use Rattle.std.specs.Fmt.{decimal}
use Rattle.run_io.specs.Bytes.{followed_by, appended}
use Rattle.trace_core.specs.Known.{item_at}
use Rattle.icnf_text.specs.declared.faults.Fault.{Fault}
use Rattle.icnf_text.specs.declared.statements.Statement.{Statement}
use Rattle.icnf_text.specs.declared.statements.Numbered.{Numbered}
use Rattle.icnf_text.specs.Judgement.{statements, wrong}
use Rattle.icnf_text.specs.Jobs.{Job, jobs_of}
use Rattle.icnf_text.specs.Reasons.{reason_text}
use Rattle.entry_core.specs.declared.answers.Verdict.{Verdict}
use Rattle.entry_core.specs.declared.answers.Verdict.TheVariants as verdict
use Rattle.entry_core.specs.declared.answers.Outcome.{Outcome}
use Rattle.entry_core.specs.declared.answers.Outcome.TheVariants as outcome
use Rattle.entry_core.specs.declared.entries.Entry.{Entry}
use Rattle.entry_core.specs.Journal.{jobs, clauses_of, cube_of}
use Rattle.entry_core.specs.Settled.{settled, cancelled}
use Rattle.entry_core.specs.Legal.{IsLegal}
use Rattle.board_core.specs.State.{State}
use Rattle.board_core.specs.Replies.{IsJob}
use Rattle.tarmo_run.specs.declared.endings.Ending.{Ending}
use Rattle.tarmo_run.specs.declared.endings.Ending.TheVariants.{Complete, Refused}
use Rattle.tarmo_run.specs.declared.endings.Ending.TheVariants.{Unread, Exhausted}
use Rattle.tarmo_run.specs.declared.endings.Lack.{Lack}
use Rattle.tarmo_run.specs.declared.endings.Lack.TheVariants.{Memory, Decision}
use Rattle.entry_core.specs.declared.rules.Rules.{Rules}
use Rattle.words.specs.Accepted.{Input, OfSum, OfText}
use Rattle.icnf_text.specs.Printed.{printed}
use Rattle.icnf_gen.specs.Drawn.{generated}
use Rattle.tarmo_run.specs.Block.{AreBlocks}
use Rattle.tarmo_run.specs.Body.{Body, OfBlocks, OfSummary, summary_of}

-- statements without their lines
abbrev pub unnumbered : List Numbered → List Statement
unnumbered list = map (λ (numbered : Numbered). numbered.statement) list

-- The queries of a text, up to its first wrong place. Of a text that isn't ended only a front has
-- come.
abbrev pub queries_in : List ℕ → Bool → List Job
queries_in bytes ended = jobs_of (unnumbered (statements bytes ended))

-- what a source gave in a call, whether it is ended, and whether it failed
pub record Reading : Type 0 where
  pub bytes : List ℕ
  pub ended : Bool
  pub failed : Bool

-- the most bytes that one read asks for
abbrev pub longest_piece : ℕ
longest_piece = 65536

-- Nothing is read behind the first wrong place but the piece in which it stands: the bytes that
-- were read are a front without a wrong place, and what one read gave.
pub record ReadsNoFurther (bytes : List ℕ) : Type 0 where
  pub front : List ℕ
  pub piece : List ℕ
  pub whole : bytes ≡ front ++ piece
  pub right : wrong front false ≡ None
  pub short : length piece ≤ longest_piece

-- The jobs of the journal put these queries, in order: the clauses that each job has, and its cube.
pub record PutQueries (journal : List Entry) (queries : List Job) : Type 0 where
  pub count : jobs journal ≡ length queries
  pub each : (job : ℕ) → 1 ≤ job → job ≤ jobs journal → item_at queries job
      ≡ Some (record { clauses = clauses_of journal job; cube = cube_of journal job })

-- the jobs of the journal put the first of these queries, and these are left
pub record PutFirst (journal : List Entry) (queries left : List Job) : Type 0 where
  pub done : List Job
  pub whole : queries ≡ done ++ left
  pub put : PutQueries journal done

-- each job has its verdict
abbrev pub AreSettled : State → Type 0
AreSettled board = (job : ℕ) → IsJob board job → IsSome (settled board.rules board.journal job)

abbrev pub is_starved : Option Verdict → Bool
is_starved (Some verdict.Starved) = true
is_starved _ = false

-- given up, or cancelled: by a client, or by the model of a smaller job
abbrev pub is_undecided : Option Verdict → Bool
is_undecided (Some verdict.Spent) = true
is_undecided (Some (verdict.Cancelled by)) = true
is_undecided _ = false

abbrev pub lacking : Lack → Option Verdict → Bool
lacking Memory = is_starved
lacking Decision = is_undecided

-- the same of an outcome
abbrev pub lacks_by : Lack → Outcome → Bool
lacks_by Memory outcome.Starved = true
lacks_by Memory _ = false
lacks_by Decision outcome.Spent = true
lacks_by Decision (outcome.Cancelled by) = true
lacks_by Decision _ = false

-- whether one of the jobs from 1 to the number has such a verdict
abbrev pub is_one_so : (Option Verdict → Bool) → State → ℕ → Bool
is_one_so kind board zero = false
is_one_so kind board (suc job) =
    is_one_so kind board job || kind (settled board.rules board.journal (suc job))

abbrev pub status_before : Ending → State → ℕ
status_before (Complete count) board =
    if is_one_so is_undecided board (jobs board.journal) then 1 else 0
status_before (Refused fault) board = 2
status_before Unread board = 3
status_before Exhausted board = 6

-- The status of a run that wrote its whole output. Where a job found no memory it is 6.
abbrev pub status_of : Ending → State → ℕ
status_of ending board =
    if is_one_so is_starved board (jobs board.journal) then 6 else status_before ending board

abbrev pub last_line_of : Ending → List ℕ
last_line_of (Complete count) = codes "end " ++ decimal count ++ codes "\n"
last_line_of (Refused fault) =
    codes "refused " ++ decimal fault.line ++ codes " " ++ reason_text fault.reason ++ codes "\n"
last_line_of Unread = codes "fault read\n"
last_line_of Exhausted = codes "memory\n"

-- When a run ends so: the text was read to its end, it has a wrong place, or the source failed.
-- Memory may run out at any time.
abbrev pub IsEnding : Ending → Reading → Type 0
IsEnding (Complete count) reading =
    (reading.failed ≡ false) × (reading.ended ≡ true)
    × (wrong reading.bytes reading.ended ≡ None)
    × (count ≡ length (queries_in reading.bytes reading.ended))
IsEnding (Refused fault) reading =
    (reading.failed ≡ false) × (wrong reading.bytes reading.ended ≡ Some fault)
IsEnding Unread reading =
    (reading.failed ≡ true) × (wrong reading.bytes reading.ended ≡ None)
IsEnding Exhausted reading = Unit {0}

-- where memory ran out, nothing; and else this
abbrev pub UnlessExhausted : Ending → Type 0 → Type 0
UnlessExhausted (Complete count) P = P
UnlessExhausted (Refused fault) P = P
UnlessExhausted Unread P = P
UnlessExhausted Exhausted P = Unit {0}

-- where the source failed or memory ran out, nothing; and else this
abbrev pub UnlessCutShort : Ending → Type 0 → Type 0
UnlessCutShort (Complete count) P = P
UnlessCutShort (Refused fault) P = P
UnlessCutShort Unread P = Unit {0}
UnlessCutShort Exhausted P = Unit {0}

-- the blocks of the first jobs of the board, and of all of them unless memory ran out
pub record AreFirstBlocks (trace : Bool) (ending : Ending) (board : State) (lines : List ℕ)
    : Type 0 where
  pub count : ℕ
  pub few : count ≤ jobs board.journal
  pub all : UnlessExhausted ending (count ≡ jobs board.journal)
  pub right : AreBlocks trace board count lines

-- a front of the summary over a number's text, and all of it unless memory ran out
pub record IsFirstOfSummary (number : ℕ) (ending : Ending) (board : State) (lines : List ℕ)
    : Type 0 where
  pub rest : List ℕ
  pub front : summary_of number board ≡ lines ++ rest
  pub all : UnlessExhausted ending (rest ≡ [])

-- what stands above the last line of a run that ends so
abbrev pub IsBody : Body → Ending → State → List ℕ → Type 0
IsBody (OfBlocks trace) ending board lines = AreFirstBlocks trace ending board lines
IsBody (OfSummary number) ending board lines = IsFirstOfSummary number ending board lines

-- The whole output of a run that ends so: the blocks or the summary, and the last line.
pub record IsOutput (body : Body) (ending : Ending) (reading : Reading) (board : State)
    (text : List ℕ) : Type 0 where
  pub ends : IsEnding ending reading
  pub lines : List ℕ
  pub right : IsBody body ending board lines
  pub written : text ≡ lines ++ last_line_of ending

-- The sink took the whole output. The board's jobs are the text's queries, and each is settled;
-- where memory ran out they are its first queries. No client cancelled one.
pub record WroteAll (body : Body) (reading : Reading) (board : State)
    (before after : Option (List ℕ)) (status : ℕ) : Type 0 where
  pub ending : Ending
  pub text : List ℕ
  pub output : IsOutput body ending reading board text
  pub taken : after ≡ appended before text
  pub told : status ≡ status_of ending board
  pub left : List Job
  pub put : PutFirst board.journal (queries_in reading.bytes reading.ended) left
  pub all_put : UnlessExhausted ending (left ≡ [])
  pub all_settled : UnlessExhausted ending (AreSettled board)
  pub none_cancelled : cancelled board.journal ≡ []

-- The sink failed: it took a front of an output. The board's jobs are the text's queries, its first
-- ones where the output is one of a run whose memory ran out, and each is settled, if only by being
-- cancelled.
pub record WroteFront (body : Body) (reading : Reading) (board : State)
    (before after : Option (List ℕ)) (status : ℕ) : Type 0 where
  pub ending : Ending
  pub text : List ℕ
  pub output : IsOutput body ending reading board text
  pub size : ℕ
  pub taken : after ≡ appended before (take size text)
  pub told : status ≡ 4
  pub left : List Job
  pub put : PutFirst board.journal (queries_in reading.bytes reading.ended) left
  pub all_put : UnlessExhausted ending (left ≡ [])
  pub all_settled : AreSettled board

-- A run over a board, which it gives back: with these rules and a legal journal.
pub record IsRun (given : Rules) (left_before left_after : Option (List ℕ))
    (ended failed : Bool) (taken_before taken_after : Option (List ℕ)) (status : ℕ)
    (board : State) : Type 0 where
  pub rules : board.rules ≡ given
  pub legal : IsLegal board.rules board.journal
  pub bytes : List ℕ
  pub gave : left_before ≡ followed_by bytes left_after
  pub no_further : ReadsNoFurther bytes
  pub wrote : WroteAll (OfBlocks given.traces)
      (record { bytes = bytes; ended = ended; failed = failed })
      board taken_before taken_after status
      ⊎ WroteFront (OfBlocks given.traces)
      (record { bytes = bytes; ended = ended; failed = failed })
      board taken_before taken_after status

-- the text that a number stands for, as if a source had given it to its end
abbrev pub reading_of : ℕ → Reading
reading_of number =
    record { bytes = printed (generated number); ended = true; failed = false }

-- A run over a number's text: the same with the summary in place of the blocks.
pub record IsSum (number : ℕ) (given : Rules) (taken_before taken_after : Option (List ℕ))
    (status : ℕ) (board : State) : Type 0 where
  pub rules : board.rules ≡ given
  pub legal : IsLegal board.rules board.journal
  pub wrote : WroteAll (OfSummary number) (reading_of number) board taken_before taken_after status
      ⊎ WroteFront (OfSummary number) (reading_of number) board taken_before taken_after status

-- a run over the text of its source, or over that of a number
abbrev pub IsRunOn : Input → Rules → Option (List ℕ) → Option (List ℕ) → Bool → Bool →
    Option (List ℕ) → Option (List ℕ) → ℕ → State → Type 0
IsRunOn (OfText name) given left_before left_after ended failed taken_before taken_after status
    board = IsRun given left_before left_after ended failed taken_before taken_after status board
IsRunOn (OfSum number) given left_before left_after ended failed taken_before taken_after status
    board = IsSum number given taken_before taken_after status board

-- A run without memory for a board reads nothing, and writes `memory`, or a front of it where the
-- sink fails.
pub record HadNoBoard (left_before left_after taken_before taken_after : Option (List ℕ))
    (status : ℕ) : Type 0 where
  pub unread : left_after ≡ left_before
  pub wrote : ((status ≡ 6) × (taken_after ≡ appended taken_before (last_line_of Exhausted)))
      ⊎ ((status ≡ 4) × (size : ℕ)
      × (taken_after ≡ appended taken_before (take size (last_line_of Exhausted))))

-- how a run over this whole text ends, where nothing fails and memory is there
abbrev pub ending_by : Option Fault → ℕ → Ending
ending_by None count = Complete count
ending_by (Some fault) count = Refused fault

abbrev pub ending_of : List ℕ → Ending
ending_of text = ending_by (wrong text true) (length (queries_in text true))

-- The text decides the last line, and the board's jobs: every query up to its first wrong place is
-- a job, which is settled and has its block.
pub record IsAnswered (trace : Bool) (text : List ℕ) (taken_before taken_after : Option (List ℕ))
    (status : ℕ) (board : State) : Type 0 where
  pub put : PutQueries board.journal (queries_in text true)
  pub all_settled : AreSettled board
  pub blocks : List ℕ
  pub right : AreBlocks trace board (jobs board.journal) blocks
  pub taken : taken_after ≡ appended taken_before (blocks ++ last_line_of (ending_of text))
  pub told : status ≡ status_of (ending_of text) board
