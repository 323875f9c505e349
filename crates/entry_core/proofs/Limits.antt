-- The limits that a legal journal keeps.
use Rattle.std.proofs.Common.{◌≡◌, ◌∙◌, ℕ, ◌+◌, ◌≤◌, Option, Some, None, List, [], ◌∷◌, ◌++◌, map, length, refl, ap, subst, sym, arith, append_assoc, length-append}
use Rattle.std.specs.List.{cons_option}
use Rattle.std.specs.Arc.{arc_value}
use Rattle.std.proofs.lemmas.List.{append-nil, length-map}
use Rattle.entry_core.specs.declared.segments.Segment.{Segment}
use Rattle.entry_core.specs.declared.entries.Entry.{Entry}
use Rattle.entry_core.specs.declared.entries.Event.{Event}
use Rattle.entry_core.specs.declared.entries.Event.TheVariants as event
use Rattle.entry_core.specs.declared.rules.Rules.{Rules}
use Rattle.entry_core.specs.Journal.{segment_of, segments, jobs, tagged_from, inputs}
use Rattle.entry_core.specs.Legal.{IsAllowed, IsLegalAfter, IsLegal, MayAdd}
use Rattle.entry_core.proofs.LongerJournals.{segments-append, inputs-append}

record IsSmall (journal : List Entry) : Type 0 where
  jobs : jobs journal ≤ 1048576
  inputs : length (inputs journal) ≤ 16777216

may_add : (rules : Rules) (before : List Entry) (caller : ℕ) (happened : Event) (segment : Segment) → segment_of happened ≡ Some segment
    → IsAllowed rules before caller happened → MayAdd rules before caller segment
may_add rules before caller (event.Added given) segment is allowed = let same : arc_value given ≡ segment = cc in subst (MayAdd rules before caller) same allowed
may_add rules before caller event.Closed segment is allowed = absurd (cc)
may_add rules before caller (event.Cancelled job) segment is allowed = absurd (cc)
may_add rules before caller (event.Began job number) segment is allowed = absurd (cc)
may_add rules before caller (event.Shared packet) segment is allowed = absurd (cc)
may_add rules before caller (event.Spent number learnt) segment is allowed = absurd (cc)
may_add rules before caller (event.Dropped number) segment is allowed = absurd (cc)
may_add rules before caller (event.Decided number given) segment is allowed = absurd (cc)
may_add rules before caller (event.Starved number) segment is allowed = absurd (cc)

one_more : (rules : Rules) (before : List Entry) (entry : Entry) → IsAllowed rules before entry.caller entry.event → IsSmall before → IsSmall (before ++ entry ∷ [])
one_more rules before entry allowed small = by_segment (segment_of entry.event) refl
  where
    counts : (o : Option Segment) → segment_of entry.event ≡ o
        → (jobs (before ++ entry ∷ []) ≡ jobs before + length (cons_option o [])) × (length (inputs (before ++ entry ∷ [])) ≡ length (inputs before) + length (tagged_from (1 + jobs before) (cons_option o [])))
    counts o is = (
      ap length (segments-append before (entry ∷ [])) ∙ length-append (segments before) (segments (entry ∷ [])) ∙ ap (λ (p : Option Segment). jobs before + length (cons_option p [])) is,
      ap length (inputs-append before (entry ∷ [])) ∙ length-append (inputs before) (tagged_from (1 + jobs before) (segments (entry ∷ [])))
          ∙ ap (λ (p : Option Segment). length (inputs before) + length (tagged_from (1 + jobs before) (cons_option p []))) is,
    )

    by_segment : (o : Option Segment) → segment_of entry.event ≡ o → IsSmall (before ++ entry ∷ [])
    by_segment None is =
        let count = counts None is in
        record { jobs = (let le = small.jobs in omega (arith, count.0)); inputs = (let le = small.inputs in omega (arith, count.1)) }
    by_segment (Some segment) is =
        let count = counts (Some segment) is in
        let may = may_add rules before entry.caller entry.event segment is allowed in
        let own : length (tagged_from (1 + jobs before) (segment ∷ [])) ≡ length segment.clauses =
        ap length (append-nil (map (λ clause. record { clause = clause; tag = 1 + jobs before }) segment.clauses)) ∙ length-map segment.clauses (λ clause. record { clause = clause; tag = 1 + jobs before }) in
        record { jobs = (let lt = may.few_jobs in omega (arith, count.0)); inputs = (let le = may.few_clauses in omega (arith, count.1, own)) }

all_small : (rules : Rules) (before rest : List Entry) → IsLegalAfter rules before rest → IsSmall before → IsSmall (before ++ rest)
all_small rules before [] legal small = subst IsSmall (sym (append-nil before)) small
all_small rules before (entry ∷ rest) legal small =
    subst IsSmall (append_assoc before (entry ∷ []) rest) (all_small rules (before ++ entry ∷ []) rest legal.1 (one_more rules before entry legal.0 small))

small_journal : (rules : Rules) (journal : List Entry) → IsLegal rules journal → IsSmall journal
small_journal rules journal legal = all_small rules [] journal legal (record { jobs = omega arith; inputs = omega arith })

-- A legal journal has at most 1,048,576 jobs.
pub few_jobs : (rules : Rules) (journal : List Entry) → IsLegal rules journal → jobs journal ≤ 1048576
few_jobs rules journal legal = (small_journal rules journal legal).jobs

-- A legal journal has at most 16,777,216 input clauses.
pub few_inputs : (rules : Rules) (journal : List Entry) → IsLegal rules journal → length (inputs journal) ≤ 16777216
few_inputs rules journal legal = (small_journal rules journal legal).inputs
