-- What a longer journal keeps.
use Rattle.std.proofs.Common.{◌≡◌, ◌∙◌, ℕ, suc, ◌+◌, ◌<◌, ◌≤◌, false, cond, Option, Some, None}
use Rattle.std.proofs.Common.{List, [], ◌∷◌, ◌++◌, map, length, refl, ap, sym, arith, append_assoc}
use Rattle.std.proofs.Common.{length-append}
use Rattle.std.specs.Prelude.{filter, nat_le}
use Rattle.std.proofs.lemmas.Bool.Decides.{nat_tests}
use Rattle.std.proofs.lemmas.List.Elements.{filter-append, filter_map-append}
use Rattle.std.proofs.lemmas.List.{append-nil}
use Rattle.trace_core.specs.Known.{Known, item_at}
use Rattle.trace_core.proofs.Items.{item_at-kept}
use Rattle.entry_core.specs.declared.segments.Segment.{Segment}
use Rattle.entry_core.specs.declared.answers.Verdict.{Verdict}
use Rattle.entry_core.specs.declared.entries.Entry.{Entry}
use Rattle.entry_core.specs.declared.rules.Rules.{Rules}
use Rattle.entry_core.specs.Journal.{segment_of, segments, jobs, tagged_from, inputs, inputs_of, cube_in, cube_of, packet_of, packets}
use Rattle.entry_core.specs.Settled.{or_else, standing, settled_after}
use Rattle.entry_core.specs.Law.{LongerJournalKeeps}

pub segments-append : (journal more : List Entry) → segments (journal ++ more) ≡ segments journal ++ segments more
segments-append journal more = filter_map-append (λ (entry : Entry). segment_of entry.event) journal more

pub packets-append : (journal more : List Entry) → packets (journal ++ more) ≡ packets journal ++ packets more
packets-append journal more = filter_map-append (λ (entry : Entry). packet_of entry.event) journal more

-- the input clauses of more jobs come after those of the jobs so far
pub tagged-append : (job : ℕ) (before after : List Segment) → tagged_from job (before ++ after) ≡ tagged_from job before ++ tagged_from (job + length before) after
tagged-append job [] after = ap (λ n. tagged_from n after) (let e : job ≡ job + 0 = omega arith in e)
tagged-append job (segment ∷ before) after =
    let own : List Known = map (λ clause. record { clause = clause; tag = job }) segment.clauses in
    let later : suc job + length before ≡ job + length (segment ∷ before) = omega arith in
    ap (λ rest. own ++ rest) (tagged-append (suc job) before after ∙ ap (λ n. tagged_from (suc job) before ++ tagged_from n after) later)
    ∙ sym (append_assoc own (tagged_from (suc job) before) (tagged_from (job + length (segment ∷ before)) after))

pub inputs-append : (journal more : List Entry) → inputs (journal ++ more) ≡ inputs journal ++ tagged_from (1 + jobs journal) (segments more)
inputs-append journal more = ap (tagged_from 1) (segments-append journal more) ∙ tagged-append 1 (segments journal) (segments more)

-- none of the clauses of later jobs has a tag up to an earlier job
none_tagged : (bound job : ℕ) (clauses : List (List ℕ)) → bound < job → filter (λ (input : Known). nat_le input.tag bound) (map (λ clause. record { clause = clause; tag = job }) clauses) ≡ []
none_tagged bound job [] lt = refl
none_tagged bound job (clause ∷ clauses) lt =
    let above : nat_le job bound ≡ false = grind (arith, nat_tests) in
    ap (λ b. cond b (record { clause = clause; tag = job } ∷ filter (λ (input : Known). nat_le input.tag bound) (map (λ c. record { clause = c; tag = job }) clauses)) (filter (λ (input : Known). nat_le input.tag bound) (map (λ c. record { clause = c; tag = job }) clauses))) above
    ∙ none_tagged bound job clauses lt

pub none_later : (bound job : ℕ) (rest : List Segment) → bound < job → filter (λ (input : Known). nat_le input.tag bound) (tagged_from job rest) ≡ []
none_later bound job [] lt = refl
none_later bound job (segment ∷ rest) lt =
    let own : List Known = map (λ clause. record { clause = clause; tag = job }) segment.clauses in
    filter-append (λ (input : Known). nat_le input.tag bound) own (tagged_from (suc job) rest)
    ∙ ap (λ xs. xs ++ filter (λ (input : Known). nat_le input.tag bound) (tagged_from (suc job) rest)) (none_tagged bound job segment.clauses lt)
    ∙ none_later bound (suc job) rest (omega arith)

pub inputs_kept : (journal more : List Entry) (job : ℕ) → job ≤ jobs journal → inputs_of (journal ++ more) job ≡ inputs_of journal job
inputs_kept journal more job le =
    let later : List Known = tagged_from (1 + jobs journal) (segments more) in
    ap (filter (λ (input : Known). nat_le input.tag job)) (inputs-append journal more)
    ∙ filter-append (λ (input : Known). nat_le input.tag job) (inputs journal) later
    ∙ ap (λ xs. inputs_of journal job ++ xs) (none_later job (1 + jobs journal) (segments more) (omega arith))
    ∙ append-nil (inputs_of journal job)

pub cubes_kept : (journal more : List Entry) (job : ℕ) → job ≤ jobs journal → cube_of (journal ++ more) job ≡ cube_of journal job
cubes_kept journal more job le =
    ap (λ all. cube_in (item_at all job)) (segments-append journal more)
    ∙ ap cube_in (item_at-kept (segments journal) (segments more) job le)

-- a verdict that stands is not changed by later entries
pub verdict_kept : (rules : Rules) (before journal more : List Entry) (job : ℕ) (verdict : Verdict)
    → settled_after rules before journal job ≡ Some verdict → settled_after rules before (journal ++ more) job ≡ Some verdict
verdict_kept rules before [] more job verdict is = absurd (cc)
verdict_kept rules before (entry ∷ journal) more job verdict is =
    first (standing rules (before ++ entry ∷ []) job) (λ later. verdict_kept rules (before ++ entry ∷ []) journal more job verdict later) is
  where
    first : (now : Option Verdict) → (settled_after rules (before ++ entry ∷ []) journal job ≡ Some verdict → settled_after rules (before ++ entry ∷ []) (journal ++ more) job ≡ Some verdict)
        → or_else now (settled_after rules (before ++ entry ∷ []) journal job) ≡ Some verdict → or_else now (settled_after rules (before ++ entry ∷ []) (journal ++ more) job) ≡ Some verdict
    first (Some found) recur h = h
    first None recur h = recur h

-- Where no case stands after some entries, and none settles the job behind them, none stands after
-- all.
pub no_case_later : (rules : Rules) (before journal : List Entry) (job : ℕ)
    → standing rules before job ≡ None → settled_after rules before journal job ≡ None
    → standing rules (before ++ journal) job ≡ None
no_case_later rules before [] job none is =
    ap (λ (all : List Entry). standing rules all job) (append-nil before) ∙ none
no_case_later rules before (entry ∷ rest) job none is =
    let now = standing rules (before ++ entry ∷ []) job in
    let later = settled_after rules (before ++ entry ∷ []) rest job in
    let both = neither now later is in
    ap (λ (all : List Entry). standing rules all job) (sym (append_assoc before (entry ∷ []) rest))
    ∙ no_case_later rules (before ++ entry ∷ []) rest job both.0 both.1
  where
    neither : (a b : Option Verdict) → or_else a b ≡ None → (a ≡ None) × (b ≡ None)
    neither None b is = (refl, is)
    neither (Some found) b is = absurd (cc)

pub longer_journal_keeps : LongerJournalKeeps
longer_journal_keeps rules journal more = record {
  more_jobs = let count : jobs (journal ++ more) ≡ jobs journal + jobs more = ap length (segments-append journal more) ∙ length-append (segments journal) (segments more) in omega arith;
  inputs = λ job le. inputs_kept journal more job le;
  clauses = λ job le. ap (map (λ (input : Known). input.clause)) (inputs_kept journal more job le);
  cubes = λ job le. cubes_kept journal more job le;
  database = (packets more, packets-append journal more);
  verdicts = λ job verdict is. verdict_kept rules [] journal more job verdict is;
}
