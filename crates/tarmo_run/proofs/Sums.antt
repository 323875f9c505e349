-- A run over a number's text.
use Rattle.std.proofs.Common.{◌≡◌, ◌∙◌, ℕ, ◌+◌, ◌<◌, ◌≤◌, List, [], ◌++◌, length, take, Option}
use Rattle.std.proofs.Common.{Bool}
use Rattle.std.proofs.Common.{None, cond, true, false, refl, ap, sym, subst, arith, inl, inr}
use Rattle.std.proofs.Common.{append-nil, append_assoc}
use Rattle.std.specs.Prelude.{◌⊎◌, Result, Ok, Err, IsOk, OnOk, OnErr, is_err}
use Rattle.std.specs.declared.alloc.AllocError.{AllocError}
use Rattle.std.proofs.lemmas.List.{append_cancel_left, take-append-le}
use Rattle.std.proofs.Math.Seq.{take-append-add}
use Rattle.run_io.specs.Bytes.{appended}
use Rattle.run_io.proofs.Laws.{appended_twice}
use Rattle.entry_core.specs.declared.entries.Entry.{Entry}
use Rattle.entry_core.specs.declared.rules.Rules.{Rules}
use Rattle.entry_core.specs.Journal.{jobs, segments}
use Rattle.entry_core.specs.Legal.{IsLegal}
use Rattle.entry_core.specs.Settled.{cancelled}
use Rattle.board_core.specs.State.{State}
use Rattle.icnf_text.specs.declared.statements.Numbered.{Numbered}
use Rattle.icnf_text.specs.Judgement.{statements, wrong}
use Rattle.icnf_text.specs.Jobs.{Job, clauses_after, clauses_of as clauses_stated, jobs_after}
use Rattle.icnf_text.specs.Jobs.{jobs_of}
use Rattle.icnf_text.specs.Printed.{printed}
use Rattle.icnf_text.proofs.Fronts.{nothing_stated}
use Rattle.icnf_gen.specs.Drawn.{generated}
use Rattle.tarmo_run.specs.declared.endings.Ending.{Ending}
use Rattle.tarmo_run.specs.declared.endings.Ending.TheVariants.{Complete, Exhausted, Refused}
use Rattle.tarmo_run.specs.declared.endings.Ending.TheVariants.{Unread}
use Rattle.tarmo_run.specs.Body.{OfSummary, summary_of}
use Rattle.tarmo_run.specs.Client.{Adds, AddsFirst, clauses_behind, clauses_read, queries_behind}
use Rattle.tarmo_run.specs.Client.{queries_on}
use Rattle.tarmo_run.specs.Ended.{EndsSum, TookFrontOfLine, TookFrontOfSummary}
use Rattle.tarmo_run.specs.Ended.{TookSummary}
use Rattle.tarmo_run.specs.Growth.{HasNoJobMore, IsLonger}
use Rattle.tarmo_run.specs.Output.{AreSettled, IsEnding, IsFirstOfSummary, IsOutput, IsSum}
use Rattle.tarmo_run.specs.Output.{UnlessExhausted, last_line_of, queries_in, reading_of, status_of}
use Rattle.tarmo_run.specs.Output.{is_one_so, is_starved, is_undecided, unnumbered}
use Rattle.tarmo_run.specs.Reading.{AsksFirst, IsNew, Progress, ReadsSum}
use Rattle.tarmo_run.proofs.Boards.{settled_stay}
use Rattle.tarmo_run.proofs.Finishing.{begun_same, begun_still, put_first}
use Rattle.tarmo_run.proofs.Queries.{as_many}
use Rattle.tarmo_run.proofs.Reached.{asked_in_full, begun_by}
use Rattle.tarmo_run.proofs.Statements.{more_jobs}
use Rattle.tarmo_run.proofs.Summaries.{summary_stays}

-- ---- the jobs of the text

-- an empty board asks nothing yet
none_asked : (desk : Progress) → IsNew desk → queries_on desk.board ≡ jobs_of (unnumbered [])
none_asked desk fresh =
    ap (λ (journal : List Entry). queries_behind [] (segments journal)) fresh.journal

none_read : (desk : Progress) → IsNew desk →
    clauses_read desk.client desk.board ≡ clauses_stated (unnumbered [])
none_read desk fresh =
    ap (λ (journal : List Entry). clauses_behind [] (segments journal)
    ++ desk.client.pending.items) fresh.journal ∙ fresh.pending

-- before the first job
pub asks_none : (desk : Progress) (bytes : List ℕ) → IsNew desk →
    AsksFirst (record { bytes = bytes; ended = true; failed = false }) desk.board
asks_none desk bytes fresh = record {
  left = queries_in bytes true;
  queries = ap (λ (asked : List Job). asked ++ queries_in bytes true)
      (sym (none_asked desk fresh));
}

-- memory ran out over the first part of the text
pub asks_some : (old new : Progress) (bytes : List ℕ) (first rest : List Numbered) →
    statements [] false ++ first ≡ statements ([] ++ bytes) false →
    statements bytes false ++ rest ≡ statements bytes true → IsNew old →
    AddsFirst old.client old.board new.board first →
    AsksFirst (record { bytes = bytes; ended = true; failed = false }) new.board
asks_some old new bytes first rest given ends fresh added =
    let front : first ≡ statements bytes false =
    ap (λ (list : List Numbered). list ++ first) (sym nothing_stated) ∙ given in
    let begun = begun_by old new [] first (statements bytes false) front (none_asked old fresh)
    (none_read old fresh) added in
    let behind : List Job =
    jobs_after (clauses_after [] (unnumbered (statements bytes false))) (unnumbered rest) in
    record {
      left = added.left ++ behind;
      queries = ap (λ (list : List Numbered). jobs_of (unnumbered list)) (sym ends)
          ∙ more_jobs [] (statements bytes false) rest
          ∙ ap (λ (jobs : List Job). jobs ++ behind) begun
          ∙ append_assoc (queries_on new.board) added.left behind;
    }

-- memory ran out over the last part
pub asks_more : (old mid new : Progress) (bytes : List ℕ) (first rest : List Numbered) →
    statements [] false ++ first ≡ statements ([] ++ bytes) false →
    statements bytes false ++ rest ≡ statements bytes true → IsNew old →
    Adds old.client old.board mid.client mid.board first →
    AddsFirst mid.client mid.board new.board rest →
    AsksFirst (record { bytes = bytes; ended = true; failed = false }) new.board
asks_more old mid new bytes first rest given ends fresh adds added =
    let front : first ≡ statements bytes false =
    ap (λ (list : List Numbered). list ++ first) (sym nothing_stated) ∙ given in
    let so = asked_in_full old mid [] first (statements bytes false) front (none_asked old fresh)
    (none_read old fresh) adds in
    record {
      left = added.left;
      queries = begun_by mid new (statements bytes false) rest (statements bytes true) ends so.0
          so.1 added;
    }

-- the whole text is asked
pub asks_all : (old mid new : Progress) (bytes : List ℕ) (first rest : List Numbered)
    (result : Result Unit AllocError) →
    statements [] false ++ first ≡ statements ([] ++ bytes) false →
    statements bytes false ++ rest ≡ statements bytes true → IsNew old →
    Adds old.client old.board mid.client mid.board first →
    OnOk result (Adds mid.client mid.board new.client new.board rest) →
    OnOk result (queries_on new.board ≡ queries_in bytes true)
asks_all old mid new bytes first rest (Ok done) given ends fresh adds added =
    let front : first ≡ statements bytes false =
    ap (λ (list : List Numbered). list ++ first) (sym nothing_stated) ∙ given in
    let so = asked_in_full old mid [] first (statements bytes false) front (none_asked old fresh)
    (none_read old fresh) adds in
    (asked_in_full mid new (statements bytes false) rest (statements bytes true) ends so.0 so.1
    added).0
asks_all old mid new bytes first rest (Err want) given ends fresh adds added = tt

-- ---- what was taken

pub took_line : (number : ℕ) (board : State) (before now : Option (List ℕ)) →
    now ≡ appended before (last_line_of Exhausted) → TookSummary number Exhausted board before now
took_line number board before now is = record {
  lines = [];
  right = record { rest = summary_of number board; front = refl; all = tt };
  taken = is;
}

pub took_front_of_line : (number : ℕ) (settled : Result Unit AllocError) (board : State)
    (before now : Option (List ℕ)) →
    ((size : ℕ) × (now ≡ appended before (take size (last_line_of Exhausted)))) →
    TookFrontOfSummary number settled board before now
took_front_of_line number settled board before now front = record {
  ending = Exhausted;
  ends = inr refl;
  lines = [];
  known = inr (refl, refl);
  right = record { rest = summary_of number board; front = refl; all = tt };
  size = front.0;
  taken = front.1;
}

always_unless : (ending : Ending) (P : Type 0) → P → UnlessExhausted ending P
always_unless (Complete count) P p = p
always_unless (Refused fault) P p = p
always_unless Unread P p = p
always_unless Exhausted P p = tt

not_ok : (want : AllocError) → IsOk {T = Unit {0}} {E = AllocError} (Err want) → ⊥
not_ok want ok = absurd (cc)

-- a result that is no fault
pub ok_by : (settled : Result Unit AllocError) (b : Bool) → b ≡ is_err settled → b ≡ false →
    IsOk settled
ok_by (Ok done) b value is = refl
ok_by (Err want) b value is = absurd (cc)

first_of : (number : ℕ) (ending : Ending) (board : State) (lines : List ℕ) →
    lines ≡ summary_of number board → IsFirstOfSummary number ending board lines
first_of number ending board lines is = record {
  rest = [];
  front = sym is ∙ sym (append-nil lines);
  all = always_unless ending _ refl;
}

pub took_all : (number : ℕ) (ending : Ending) (board : State) (lines : List ℕ)
    (before middle now : Option (List ℕ)) → lines ≡ summary_of number board →
    middle ≡ appended before lines → now ≡ appended middle (last_line_of ending) →
    TookSummary number ending board before now
took_all number ending board lines before middle now is first then = record {
  lines = lines;
  right = first_of number ending board lines is;
  taken = then ∙ ap (λ taken. appended taken (last_line_of ending)) first
      ∙ appended_twice before lines (last_line_of ending);
}

-- the sink failed in the summary
pub took_front_of_lines : (number : ℕ) (settled : Result Unit AllocError) (board : State)
    (lines : List ℕ) (before now : Option (List ℕ)) → IsOk settled →
    lines ≡ summary_of number board →
    ((size : ℕ) × (size < length lines) × (now ≡ appended before (take size lines))) →
    TookFrontOfSummary number settled board before now
took_front_of_lines number settled board lines before now ok is front = record {
  ending = Exhausted;
  ends = inr refl;
  lines = lines;
  known = inl ok;
  right = first_of number Exhausted board lines is;
  size = front.0;
  taken = front.2 ∙ ap (appended before)
      (sym (take-append-le front.0 lines (last_line_of Exhausted) (omega (arith, front.1))));
}

-- the sink failed in the last line
pub took_front_behind : (number : ℕ) (settled : Result Unit AllocError) (board : State)
    (lines : List ℕ) (count : ℕ) (before middle now : Option (List ℕ)) → IsOk settled →
    lines ≡ summary_of number board → count ≡ jobs board.journal →
    middle ≡ appended before lines → TookFrontOfLine (Complete count) middle now →
    TookFrontOfSummary number settled board before now
took_front_behind number settled board lines count before middle now ok is counted first front =
    record {
      ending = front.told;
      ends = which front.which;
      lines = lines;
      known = inl ok;
      right = first_of number front.told board lines is;
      size = length lines + front.size;
      taken = front.taken ∙ ap (λ taken. appended taken (take front.size (last_line_of front.told)))
          first
          ∙ appended_twice before lines (take front.size (last_line_of front.told))
          ∙ ap (appended before)
          (sym (take-append-add lines (last_line_of front.told) front.size));
    }
  where
    which : (front.told ≡ Complete count) ⊎ (front.told ≡ Exhausted) →
        EndsSum settled front.told board
    which (inl same) = inl (ok, same ∙ ap Complete counted)
    which (inr same) = inr same

-- ---- the run

unless_by : (settled : Result Unit AllocError) (ending : Ending) (board : State) (P : Type 0) →
    EndsSum settled ending board → OnOk settled P → UnlessExhausted ending P
unless_by (Ok done) ending board P (inl ends) p =
    subst (λ (e : Ending). UnlessExhausted e P) (sym ends.1) p
unless_by (Err want) ending board P (inl ends) p = absurd (not_ok want ends.0)
unless_by settled ending board P (inr ends) p =
    subst (λ (e : Ending). UnlessExhausted e P) (sym ends) tt

-- the board's jobs are the first ones of a number's text, and all of them where memory was there
pub record HasAsked (settled : Result Unit AllocError) (number : ℕ) (board : State) : Type 0 where
  pub begun : AsksFirst (reading_of number) board
  pub all : OnOk settled (queries_on board ≡ queries_in (printed (generated number)) true)
  pub answered : OnOk settled (AreSettled board)
  pub right : OnOk settled (wrong (printed (generated number)) true ≡ None)

on_ok_by : {T E P Q : Type 0} (r : Result T E) → (P → Q) → OnOk r P → OnOk r Q
on_ok_by (Ok x) f p = f p
on_ok_by (Err e) f p = tt

from_ok : {P : Type 0} (r : Result Unit AllocError) → IsOk r → OnOk r P → P
from_ok (Ok done) ok p = p
from_ok (Err want) ok p = absurd (not_ok want ok)

-- where a client's jobs are those of the board, and each is settled
pub asked_by : (settled added : Result Unit AllocError) (number : ℕ) (own board : State) →
    OnOk settled (IsOk added × AreSettled board) → ReadsSum number added own →
    segments board.journal ≡ segments own.journal → HasAsked settled number board
asked_by settled added number own board both reads same = record {
  begun = begun_same (reading_of number) own board same reads.first;
  all = on_ok_by settled
      (λ b. ap (queries_behind []) same ∙ from_ok added b.0 reads.all) both;
  answered = on_ok_by settled (λ b. b.1) both;
  right = on_ok_by settled (λ b. from_ok added b.0 reads.accepted) both;
}

-- all queries are asked
none_left : (number : ℕ) (board : State) (begun : AsksFirst (reading_of number) board) →
    queries_on board ≡ queries_in (printed (generated number)) true → begun.left ≡ []
none_left number board begun all =
    let whole : queries_on board ++ [] ≡ queries_on board ++ begun.left =
    append-nil (queries_on board) ∙ all ∙ begun.queries in
    sym (append_cancel_left (queries_on board) _ _ whole)

count_asked : (board : State) (queries : List Job) → queries_on board ≡ queries →
    jobs board.journal ≡ length queries
count_asked board queries same = sym (as_many [] (segments board.journal)) ∙ ap length same

ending_so : (number : ℕ) (settled : Result Unit AllocError) (ending : Ending) (board : State) →
    OnOk settled (wrong (printed (generated number)) true ≡ None) →
    EndsSum settled ending board →
    OnOk settled (queries_on board ≡ queries_in (printed (generated number)) true) →
    IsEnding ending (reading_of number)
ending_so number (Ok done) ending board right (inl ends) all =
    subst (λ (e : Ending). IsEnding e (reading_of number)) (sym ends.1)
    (refl, refl, right, count_asked board _ all)
ending_so number (Err want) ending board right (inl ends) all = absurd (not_ok want ends.0)
ending_so number settled ending board right (inr ends) all =
    subst (λ (e : Ending). IsEnding e (reading_of number)) (sym ends) tt

-- all jobs and the last line
pub summed : (number : ℕ) (given : Rules) (settled : Result Unit AllocError) (ending : Ending)
    (old new : State) (before now : Option (List ℕ)) (status : ℕ) →
    new.rules ≡ given → IsLegal new.rules new.journal → status ≡ status_of ending new →
    HasAsked settled number old → HasNoJobMore old new → cancelled new.journal ≡ [] →
    EndsSum settled ending new → TookSummary number ending new before now →
    IsSum number given before now status new
summed number given settled ending old new before now status rules legal told asked more
    uncancelled ends took =
    let begun = begun_still (reading_of number) old new more asked.begun in
    let all : OnOk settled (queries_on new ≡ queries_in (printed (generated number)) true) =
    on_ok_by settled (λ same. ap (queries_behind []) more.segments ∙ same) asked.all in
    record {
      rules = rules;
      legal = legal;
      wrote = inl (record {
        ending = ending;
        text = took.lines ++ last_line_of ending;
        output = record {
          ends = ending_so number settled ending new asked.right ends all;
          lines = took.lines;
          right = took.right;
          written = refl;
        };
        taken = took.taken;
        told = told;
        left = begun.left;
        put = put_first (reading_of number) new begun;
        all_put = unless_by settled ending new (begun.left ≡ []) ends
            (on_ok_by settled (none_left number new begun) all);
        all_settled = unless_by settled ending new (AreSettled new) ends
            (on_ok_by settled (settled_stay old new more) asked.answered);
        none_cancelled = uncancelled;
      });
    }

lines_stay : (number : ℕ) (settled : Result Unit AllocError) (ending : Ending) (old new : State)
    (lines : List ℕ) → HasNoJobMore old new → OnOk settled (AreSettled old) →
    IsOk settled ⊎ ((lines ≡ []) × (ending ≡ Exhausted)) →
    IsFirstOfSummary number ending old lines → IsFirstOfSummary number ending new lines
lines_stay number (Ok done) ending old new lines more all known first = record {
  rest = first.rest;
  front = summary_stays number old new more all ∙ first.front;
  all = first.all;
}
lines_stay number (Err want) ending old new lines more all (inl ok) first = absurd (not_ok want ok)
lines_stay number (Err want) ending old new lines more all (inr none) first = record {
  rest = summary_of number new;
  front = ap (λ (front : List ℕ). front ++ summary_of number new) (sym none.0);
  all = subst (λ (e : Ending). UnlessExhausted e (summary_of number new ≡ [])) (sym none.1) tt;
}

-- the sink failed
pub summed_in_part : (number : ℕ) (given : Rules) (settled : Result Unit AllocError)
    (old mid new : State) (before now : Option (List ℕ)) (status : ℕ) →
    new.rules ≡ given → IsLegal new.rules new.journal → status ≡ 4 →
    HasAsked settled number old → HasNoJobMore old mid → HasNoJobMore mid new → AreSettled new →
    TookFrontOfSummary number settled mid before now →
    IsSum number given before now status new
summed_in_part number given settled old mid new before now status rules legal told asked
    closed more all_settled front =
    let begun = begun_still (reading_of number) mid new more
    (begun_still (reading_of number) old mid closed asked.begun) in
    let all : OnOk settled (queries_on new ≡ queries_in (printed (generated number)) true) =
    on_ok_by settled (λ same. ap (queries_behind []) more.segments
    ∙ ap (queries_behind []) closed.segments ∙ same) asked.all in
    let ends : EndsSum settled front.ending new = ends_still front.ends in
    record {
      rules = rules;
      legal = legal;
      wrote = inr (record {
        ending = front.ending;
        text = front.lines ++ last_line_of front.ending;
        output = record {
          ends = ending_so number settled front.ending new asked.right ends all;
          lines = front.lines;
          right = lines_stay number settled front.ending mid new front.lines more
              (on_ok_by settled (settled_stay old mid closed) asked.answered) front.known
              front.right;
          written = refl;
        };
        size = front.size;
        taken = front.taken;
        told = told;
        left = begun.left;
        put = put_first (reading_of number) new begun;
        all_put = unless_by settled front.ending new (begun.left ≡ []) ends
            (on_ok_by settled (none_left number new begun) all);
        all_settled = all_settled;
      });
    }
  where
    ends_still : EndsSum settled front.ending mid → EndsSum settled front.ending new
    ends_still (inl ends) =
        inl (ends.0, ends.1 ∙ ap Complete (sym (ap length more.segments)))
    ends_still (inr ends) = inr ends

few_statuses : (b c : Bool) (status : ℕ) → status ≡ cond b 6 (cond c 1 0) →
    (status ≡ 3 → ⊥) × (status ≡ 4 → ⊥) × (status ≡ 5 → ⊥)
few_statuses true c status is = (
  λ so. omega (arith, is, so),
  λ so. omega (arith, is, so),
  λ so. omega (arith, is, so),
)
few_statuses false true status is = (
  λ so. omega (arith, is, so),
  λ so. omega (arith, is, so),
  λ so. omega (arith, is, so),
)
few_statuses false false status is = (
  λ so. omega (arith, is, so),
  λ so. omega (arith, is, so),
  λ so. omega (arith, is, so),
)

six : (b : Bool) (status : ℕ) → status ≡ cond b 6 6 →
    (status ≡ 3 → ⊥) × (status ≡ 4 → ⊥) × (status ≡ 5 → ⊥)
six true status is = few_statuses true true status is
six false status is = few_statuses true true status is

-- no source fails, no sink failed and the words are accepted
pub sum_statuses : (settled : Result Unit AllocError) (ending : Ending) (board : State)
    (status : ℕ) → status ≡ status_of ending board → EndsSum settled ending board →
    (status ≡ 3 → ⊥) × (status ≡ 4 → ⊥) × (status ≡ 5 → ⊥)
sum_statuses settled ending board status told (inl ends) =
    few_statuses (is_one_so is_starved board (jobs board.journal))
    (is_one_so is_undecided board (jobs board.journal)) status
    (told ∙ ap (λ (e : Ending). status_of e board) ends.1)
sum_statuses settled ending board status told (inr ends) =
    six (is_one_so is_starved board (jobs board.journal)) status
    (told ∙ ap (λ (e : Ending). status_of e board) ends)
