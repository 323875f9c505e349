-- When an output is right, line by line, and what is found where it isn't.
use Rattle.std.specs.Prelude.{ℕ, ◌+◌, ◌-◌, ◌<◌, ◌≤◌, ◌==◌, ◌&&◌, ◌||◌, ◌≡◌, ◌⊎◌, ◌↔◌, nat_lt, min}
use Rattle.std.specs.Prelude.{if◌then◌else◌, Bool, true, false, Option, Some, None, Result, Ok, Err}
use Rattle.std.specs.Prelude.{List, [], ◌∷◌, ◌++◌, map, length, codes, All, Contains}
use Rattle.std.specs.Str.{bytes_eq}
use Rattle.sat_base.specs.Lit.{opposite}
use Rattle.sat_base.specs.Truth.{all_true, cube_true}
use Rattle.line_tokens.specs.Token.{lines_of, token_is_decimal, tokens_of}
use Rattle.icnf_text.specs.Reasons.{reason_text}
use Rattle.icnf_text.specs.declared.faults.Reason.TheVariants as why
use Rattle.trace_core.specs.Known.{Known, known}
use Rattle.trace_core.specs.Trace.{IsOkStep, known_of}
use Rattle.trace_core.specs.declared.derivation.Step.{Step}
use Rattle.trace_text.specs.Text.{next_step}
use Rattle.trace_text.specs.declared.faults.TraceFault.{TraceFault}
use Rattle.trace_text.specs.declared.faults.TraceFault.TheVariants as trace_fault
use Rattle.verdict_text.specs.Line.{is_trace_line_of, job_line_of, model_line_of, part_line_of}
use Rattle.verdict_text.specs.Text.{is_number}
use Rattle.verdict_text.specs.declared.lines.JobLine.{JobLine}
use Rattle.verdict_text.specs.declared.lines.Status.{Status}
use Rattle.verdict_text.specs.declared.lines.Status.TheVariants as status
use Rattle.verdict_audit.specs.Proof.{Proof}
use Rattle.verdict_audit.specs.Case.{Case, case_of, clauses_of, cube_of, inputs_of, variables_of}
use Rattle.verdict_audit.specs.declared.findings.Finding.{Finding}
use Rattle.verdict_audit.specs.declared.findings.Finding.TheVariants.{Bad, Good}
use Rattle.verdict_audit.specs.declared.findings.Flaw.TheVariants as flaw
use Rattle.verdict_audit.specs.declared.findings.Wrong.{Wrong}
use Rattle.verdict_audit.specs.declared.findings.Wrong.TheVariants as wrong
use Rattle.verdict_audit.specs.declared.places.Place.{Place}
use Rattle.verdict_audit.specs.declared.places.Place.TheVariants as place
use Rattle.verdict_audit.specs.declared.places.Tally.{Tally}

-- the blocks so far, and what may come next
pub record State : Type 0 where
  pub tally : Tally
  pub place : Place

-- a count stands still at its last number
abbrev pub one_more : ℕ → ℕ
one_more count = min (count + 1) 4294967295

abbrev pub with_proved : Tally → Tally
with_proved tally = record {
  begun = tally.begun + 1;
  proved = one_more tally.proved;
  unproved = tally.unproved;
}

abbrev pub with_unproved : Tally → Tally
with_unproved tally = record {
  begun = tally.begun + 1;
  proved = tally.proved;
  unproved = one_more tally.unproved;
}

-- what is due behind a first line
abbrev pub begun : Tally → Status → State
begun tally status.Satisfiable = record { tally = with_proved tally; place = place.Model }
begun tally status.Unsatisfiable = record { tally = with_proved tally; place = place.Part }
begun tally status.Unknown = record { tally = with_unproved tally; place = place.Block }
begun tally status.Cancelled = record { tally = with_unproved tally; place = place.Block }
begun tally status.NoMemory = record { tally = with_unproved tally; place = place.Block }

-- the word of one of the reasons
abbrev pub is_reason : List ℕ → Bool
is_reason word = bytes_eq word (reason_text why.Header)
    || (bytes_eq word (reason_text why.Token)
    || (bytes_eq word (reason_text why.Variable)
    || (bytes_eq word (reason_text why.Unfinished)
    || (bytes_eq word (reason_text why.TooMany)
    || bytes_eq word (reason_text why.TooLong)))))

-- `end` and a number, or `refused`, a number and a reason
unfoldable pub is_end_of_tokens : List (List ℕ) → Bool
is_end_of_tokens (word ∷ number ∷ []) = bytes_eq word (codes "end") && token_is_decimal number
is_end_of_tokens (word ∷ number ∷ reason ∷ []) =
    bytes_eq word (codes "refused") && (token_is_decimal number && is_reason reason)
is_end_of_tokens _ = false

abbrev pub is_stop : List ℕ → Bool
is_stop line = bytes_eq line (codes "fault read") || bytes_eq line (codes "memory")

-- a last line: one that tells that the run stopped, or that of the whole output behind all blocks
abbrev pub at_last_line : Case → Tally → List ℕ → Result State Wrong
at_last_line case tally line =
    if is_stop line then Ok (record { tally = tally; place = place.End })
    else if is_end_of_tokens (tokens_of line)
    then (if bytes_eq line case.last && tally.begun == length case.queries
    then Ok (record { tally = tally; place = place.End }) else Err (wrong.Line flaw.Last))
    else Err (wrong.Line flaw.Form)

-- between two blocks: the first line of the next job's block, or a last line
abbrev pub at_job_line : Case → Tally → List ℕ → Option JobLine → Result State Wrong
at_job_line case tally line None = at_last_line case tally line
at_job_line case tally line (Some found) =
    if is_number found.number (tally.begun + 1) && nat_lt tally.begun (length case.queries)
    then Ok (begun tally found.status) else Err (wrong.Line flaw.Number)

-- a model, of exactly the job's variables
abbrev pub at_model : Case → Tally → Option (List Bool) → Result State Wrong
at_model case tally None = Err (wrong.Line flaw.Form)
at_model case tally (Some values) =
    if length values == variables_of case tally.begun
    then (
    if all_true values (clauses_of case tally.begun) &&
    cube_true values (cube_of case tally.begun)
    then Ok (record { tally = tally; place = place.Block })
    else Err (wrong.Line flaw.Model)
    )
    else Err (wrong.Line flaw.Form)

-- the outcome is the first one where this holds, and the second one where it doesn't
abbrev pub Decided : {A : Type 0} → Type 0 → A → A → A → Type 0
Decided P first second outcome = (P × (outcome ≡ first)) ⊎ ((¬ P) × (outcome ≡ second))

-- a part: literals of the job's cube
abbrev pub JudgesPart : Case → Tally → Option (List ℕ) → Result State Wrong → Type 0
JudgesPart case tally None outcome = outcome ≡ Err (wrong.Line flaw.Form)
JudgesPart case tally (Some part) outcome = Decided (All (Contains (cube_of case tally.begun)) part)
    (Ok (record {
      tally = tally;
      place = place.Step
          (record {
            part = part;
            inputs = inputs_of case tally.begun;
            steps = [];
          });
    })) (Err (wrong.Line flaw.Part)) outcome

-- a trace line: the next step, which must be ok over the inputs and the steps before it
abbrev pub JudgesStep : Tally → Proof → Result Step TraceFault → Result State Wrong → Type 0
JudgesStep tally proof (Ok step) outcome =
    Decided (IsOkStep (known proof.inputs [] (map known_of proof.steps)) step)
    (Ok (record {
      tally = tally;
      place = place.Step
          (record {
            part = proof.part;
            inputs = proof.inputs;
            steps = proof.steps
                ++ step ∷ [];
          });
    })) (Err (wrong.Line flaw.Trace)) outcome
JudgesStep tally proof (Err (trace_fault.Form line)) outcome = outcome ≡ Err (wrong.Line flaw.Form)
JudgesStep tally proof (Err (trace_fault.Order line)) outcome =
    outcome ≡ Err (wrong.Line flaw.Trace)
JudgesStep tally proof (Err trace_fault.Memory) outcome = ⊥

abbrev pub tags_of : List Known → List ℕ
tags_of inputs = map (λ (input : Known). input.tag) inputs

-- what a line comes to that stands at this place
abbrev pub JudgesLine : Case → Tally → Place → List ℕ → Result State Wrong → Type 0
JudgesLine case tally place.Block line outcome =
    outcome ≡ at_job_line case tally line (job_line_of line)
JudgesLine case tally place.Model line outcome = outcome ≡ at_model case tally (model_line_of line)
JudgesLine case tally place.Part line outcome = JudgesPart case tally (part_line_of line) outcome
JudgesLine case tally (place.Step proof) line outcome =
    JudgesStep tally proof (next_step (tags_of proof.inputs) proof.steps line) outcome
JudgesLine case tally place.End line outcome = outcome ≡ Err (wrong.Line flaw.Form)

-- the last step refutes the part: its clause has exactly the negations of the part's literals
pub record IsRefuted (part : List ℕ) (steps : List Step) : Type 0 where
  pub front : List Step
  pub last : Step
  pub ends : steps ≡ front ++ last ∷ []
  pub refutes : (lit : ℕ) → Contains last.clause lit ↔ Contains part (opposite lit)

-- A line that belongs to no trace ends a block, whose last step must refute the part.
abbrev pub ClosesProof : Bool → Proof → Result Place Wrong → Type 0
ClosesProof true proof closed = closed ≡ Ok (place.Step proof)
ClosesProof false proof closed =
    Decided (IsRefuted proof.part proof.steps) (Ok place.Block) (Err wrong.Unproved) closed

abbrev pub Closes : Place → List ℕ → Result Place Wrong → Type 0
Closes (place.Step proof) line closed = ClosesProof (is_trace_line_of line) proof closed
Closes place line closed = closed ≡ Ok place

-- where a block has begun, its job is one of the text's
abbrev pub HasJob : Case → Tally → Place → Type 0
HasJob case tally place.Model = (0 < tally.begun) × (tally.begun ≤ length case.queries)
HasJob case tally place.Part = (0 < tally.begun) × (tally.begun ≤ length case.queries)
HasJob case tally (place.Step proof) =
    (0 < tally.begun) × (tally.begun ≤ length case.queries)
    × (proof.inputs ≡ inputs_of case tally.begun)
HasJob case tally place = Unit {0}

-- the byte behind the greatest length of an output stands among so many that follow so many
abbrev pub is_beyond : ℕ → ℕ → Bool
is_beyond before size = nat_lt 4294967296 (before + size)

abbrev pub Judges : Bool → Case → Tally → Place → List ℕ → Result State Wrong → Type 0
Judges true case tally place line outcome = outcome ≡ Err (wrong.Line flaw.TooLong)
Judges false case tally place line outcome = JudgesLine case tally place line outcome

-- the end of the output, behind these bytes without a line feed
abbrev pub at_end : Place → Tally → List ℕ → Result Finding Wrong
at_end place.End tally [] = Ok (Good tally.proved tally.unproved)
at_end place tally line = Err (wrong.Line flaw.Form)

-- what is found where this is wrong at that line
abbrev pub found : ℕ → Wrong → Finding
found number (wrong.Line why) = Bad number why
found number wrong.Unproved = Bad (number - 1) flaw.Trace
found number wrong.Memory = Bad number flaw.Form

-- what is found where this comes next, or else is wrong at that line
abbrev pub FoundBy : {A : Type 0} → ℕ → Result A Wrong → (A → Type 0) → Finding → Type 0
FoundBy number (Ok next) go_on finding = go_on next
FoundBy number (Err why) go_on finding = finding ≡ found number why

-- what comes of this, if it is right so far
abbrev pub Then : {A B : Type 0} → Result A Wrong → (A → Result B Wrong → Type 0) → Result B Wrong
    → Type 0
Then (Ok next) go_on outcome = go_on next outcome
Then (Err why) go_on outcome = outcome ≡ Err why

-- what a line comes to, which so many bytes stand before
pub record Steps (case : Case) (tally : Tally) (place : Place) (before : ℕ) (line : List ℕ)
    (outcome : Result State Wrong) : Type 0 where
  pub closed : Result Place Wrong
  pub closes : Closes place line closed
  pub judged : Then closed
      (λ next. Judges (is_beyond before (length line + 1)) case tally next line) outcome

-- what the end of the output comes to, behind these bytes without a line feed
pub record Ends (tally : Tally) (place : Place) (before : ℕ) (rest : List ℕ)
    (outcome : Result Finding Wrong) : Type 0 where
  pub closed : Result Place Wrong
  pub closes : Closes place rest closed
  pub judged : Then closed
      (λ next judged. judged
      ≡ (if is_beyond before (length rest) then Err (wrong.Line flaw.TooLong)
      else at_end next tally rest)) outcome

-- what is found in lines, the first of which has this number and stands behind so many bytes
abbrev pub Finds : Case → State → ℕ → ℕ → List (List ℕ) → Finding → Type 0
Finds case state number before [] finding = ⊥
Finds case state number before (line ∷ []) finding =
    (outcome : Result Finding Wrong) × Ends state.tally state.place before line outcome
    × FoundBy number outcome (λ good. finding ≡ good) finding
Finds case state number before (line ∷ next ∷ lines) finding =
    (outcome : Result State Wrong) × Steps case state.tally state.place before line outcome
    × FoundBy number outcome
    (λ after. Finds case after (number + 1) (before + (length line + 1))
    (next ∷ lines) finding) finding

abbrev pub start : State
start = record { tally = record { begun = 0; proved = 0; unproved = 0 }; place = place.Block }

abbrev pub AuditsBy : Bool → List ℕ → List ℕ → Finding → Type 0
AuditsBy true text output finding = finding ≡ Bad 1 flaw.TooLong
AuditsBy false text output finding = Finds (case_of text) start 1 0 (lines_of output) finding

-- what an audit finds in an output for a text
abbrev pub Audits : List ℕ → List ℕ → Finding → Type 0
Audits text output finding = AuditsBy (nat_lt 4294967296 (length text)) text output finding
