-- What a journal says of jobs and of the shared database. Each reading is a filter over the one
-- list of entries.
use Rattle.std.specs.Prelude.{ℕ, suc, ◌+◌, Bool, true, false, Option, None, Some, List, [], ◌∷◌}
use Rattle.std.specs.Prelude.{◌++◌, map, length, filter, filter_map, sum_by, position, option_map}
use Rattle.std.specs.Prelude.{nat_le}
use Rattle.std.specs.List.{list_any}
use Rattle.std.specs.Arc.{arc_value}
use Rattle.trace_core.specs.Known.{Known, item_at}
use Rattle.trace_core.specs.Trace.{known_of}
use Rattle.trace_core.specs.Law.{clauses_up_to}
use Rattle.trace_core.specs.declared.derivation.Step.{Step}
use Rattle.entry_core.specs.declared.segments.Segment.{Segment}
use Rattle.entry_core.specs.declared.entries.Entry.{Entry}
use Rattle.entry_core.specs.declared.entries.Event.{Event}
use Rattle.entry_core.specs.declared.entries.Event.TheVariants as event

abbrev pub segment_of : Event → Option Segment
segment_of (event.Added segment) = Some (arc_value segment)
segment_of _ = None

-- The jobs of a journal, numbered from 1 in the order of their `Added` entries.
abbrev pub segments : List Entry → List Segment
segments journal = filter_map (λ entry. segment_of entry.event) journal

abbrev pub jobs : List Entry → ℕ
jobs journal = length (segments journal)

-- the clauses of these segments, each with its job's number as its tag, the first job having this
-- number
abbrev pub tagged_from : ℕ → List Segment → List Known
tagged_from job [] = []
tagged_from job (segment ∷ rest) =
    map (λ clause. record { clause = clause; tag = job }) segment.clauses
    ++ tagged_from (suc job) rest

-- The input clauses, numbered from 1 in the order in which they were added. The tag of each is the
-- number of the first job that has it.
abbrev pub inputs : List Entry → List Known
inputs journal = tagged_from 1 (segments journal)

-- the input clauses that a job has: those of its own segment and of the segments before
abbrev pub inputs_of : List Entry → ℕ → List Known
inputs_of journal job = filter (λ input. nat_le input.tag job) (inputs journal)

abbrev pub clauses_of : List Entry → ℕ → List (List ℕ)
clauses_of journal job = clauses_up_to (inputs journal) job

abbrev pub cube_in : Option Segment → List ℕ
cube_in None = []
cube_in (Some segment) = segment.cube

abbrev pub cube_of : List Entry → ℕ → List ℕ
cube_of journal job = cube_in (item_at (segments journal) job)

-- the occurrences of literals in a segment
abbrev pub segment_literals : Segment → ℕ
segment_literals segment = sum_by length segment.clauses + length segment.cube

abbrev pub literals : List Entry → ℕ
literals journal = sum_by segment_literals (segments journal)

abbrev pub packet_of : Event → Option (List Step)
packet_of (event.Shared packet) = Some (arc_value packet)
packet_of _ = None

-- The shared database: the packets, numbered from 1 in the order of their `Shared` entries.
abbrev pub packets : List Entry → List (List Step)
packets journal = filter_map (λ entry. packet_of entry.event) journal

-- what each step of each packet makes known
abbrev pub shared : List Entry → List (List Known)
shared journal = map (λ packet. map known_of packet) (packets journal)

abbrev pub is_closing : Event → Bool
is_closing event.Closed = true
is_closing _ = false

abbrev pub is_closed : List Entry → Bool
is_closed journal = list_any (λ entry. is_closing entry.event) journal

-- the place of the first `Closed` entry, counted from 1
abbrev pub closing_place : List Entry → Option ℕ
closing_place journal = option_map suc (position (λ entry. is_closing entry.event) journal)
