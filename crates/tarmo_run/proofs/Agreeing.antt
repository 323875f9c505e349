-- Two runs on one text.
use Rattle.std.proofs.Common.{◌≡◌, ◌∙◌, ℕ, zero, suc, ◌-◌, ◌≤◌, List, [], ◌∷◌, ◌++◌, Option, Some}
use Rattle.std.proofs.Common.{None, Bool, true, false}
use Rattle.std.proofs.Common.{refl, ap, sym, subst, append-nil, append_assoc, inl, inr, not}
use Rattle.std.specs.Prelude.{◌⊎◌}
use Rattle.std.specs.Arc.{arc_value}
use Rattle.run_io.specs.Bytes.{followed_by, IsEmptyWhereTold}
use Rattle.sat_base.specs.Truth.{IsModelOf, IsRefutedPart}
use Rattle.sat_base.proofs.Entailment.{one}
use Rattle.std.specs.Prelude.{slice_get}
use Rattle.trace_core.specs.Known.{item_at}
use Rattle.trace_core.proofs.Items.{item_at-found, item_at-is}
use Rattle.entry_core.specs.declared.answers.Answer.{Answer}
use Rattle.entry_core.specs.declared.answers.Answer.TheVariants as answer
use Rattle.entry_core.specs.declared.answers.Verdict.{Verdict}
use Rattle.entry_core.specs.declared.answers.Verdict.TheVariants as verdict
use Rattle.entry_core.specs.declared.entries.Entry.{Entry}
use Rattle.entry_core.specs.declared.rules.Rules.{Rules}
use Rattle.entry_core.specs.Journal.{clauses_of, cube_of, jobs}
use Rattle.entry_core.specs.Legal.{IsLegal}
use Rattle.entry_core.specs.Right.{IsRightAnswer}
use Rattle.entry_core.specs.Settled.{is_model, settled}
use Rattle.entry_core.proofs.VerdictCauses.{verdicts_have_causes}
use Rattle.board_core.specs.Replies.{IsJob}
use Rattle.board_core.specs.State.{State}
use Rattle.icnf_text.specs.declared.statements.Numbered.{Numbered}
use Rattle.icnf_text.specs.Judgement.{statements}
use Rattle.icnf_text.specs.Jobs.{Job, clauses_of as clauses_stated, jobs_after, jobs_of}
use Rattle.icnf_text.proofs.Fronts.{ended_statements, last_statements, longer_statements}
use Rattle.icnf_text.proofs.Fronts.{more_statements}
use Rattle.tarmo_run.specs.Agreement.{IsRunOver, RunsAgree, Shown}
use Rattle.tarmo_run.specs.Body.{OfBlocks, is_satisfiable, is_unsatisfiable}
use Rattle.tarmo_run.specs.Output.{PutFirst, PutQueries, WroteAll, WroteFront, queries_in}
use Rattle.tarmo_run.specs.Output.{unnumbered}
use Rattle.tarmo_run.proofs.Completeness.{all_given}
use Rattle.tarmo_run.proofs.Statements.{more_jobs}

-- ---- what a run asks is a front of what the text asks

record AsksFront (text bytes : List ℕ) (ended : Bool) : Type 0 where
  pub more : List Job
  pub is : queries_in text true ≡ queries_in bytes ended ++ more

asks_front : (text bytes : List ℕ) (left : Option (List ℕ)) (ended : Bool) →
    Some text ≡ followed_by bytes left → (ended ≡ true → IsEmptyWhereTold left) →
    AsksFront text bytes ended
asks_front text bytes left true gave whole =
    let all = all_given text bytes left gave (whole refl) in
    record {
      more = [];
      is = ap (λ (xs : List ℕ). queries_in xs true) (sym all)
          ∙ sym (append-nil (queries_in bytes true));
    }
asks_front text bytes None false gave whole = absurd (cc)
asks_front text bytes (Some rest) false gave whole =
    let parts : text ≡ bytes ++ rest = cc in
    let behind = more_statements bytes rest ++ last_statements (bytes ++ rest) in
    let list : statements (bytes ++ rest) true ≡ statements bytes false ++ behind =
    ended_statements (bytes ++ rest)
    ∙ ap (λ (xs : List Numbered). xs ++ last_statements (bytes ++ rest))
    (longer_statements bytes rest)
    ∙ append_assoc (statements bytes false) (more_statements bytes rest)
    (last_statements (bytes ++ rest)) in
    record {
      more = jobs_after (clauses_stated (unnumbered (statements bytes false)))
          (unnumbered behind);
      is = ap (λ (xs : List ℕ). queries_in xs true) parts
          ∙ ap (λ (xs : List Numbered). jobs_of (unnumbered xs)) list
          ∙ more_jobs [] (statements bytes false) behind;
    }

get_front : {X : Type 0} (first second : List X) (i : ℕ) (x : X) →
    slice_get first i ≡ Some x → slice_get (first ++ second) i ≡ Some x
get_front [] second i x is = absurd (cc)
get_front (y ∷ first) second zero x is = is
get_front (y ∷ first) second (suc i) x is = get_front first second i x is

item_front : {X : Type 0} (first second : List X) (place : ℕ) (x : X) →
    item_at first place ≡ Some x → item_at (first ++ second) place ≡ Some x
item_front first second place x is =
    let found = item_at-found first place x is in
    item_at-is (first ++ second) place found.0 ∙ get_front first second (place - 1) x found.1

-- a job of the board puts the query with its number
put_at : (board : State) (queries left whole more : List Job) (job : ℕ) →
    PutFirst board.journal queries left → whole ≡ queries ++ more → IsJob board job →
    item_at whole job
    ≡ Some (record { clauses = clauses_of board.journal job; cube = cube_of board.journal job })
put_at board queries left whole more job put is there =
    let all : whole ≡ put.done ++ (left ++ more) =
    is ∙ ap (λ (xs : List Job). xs ++ more) put.whole ∙ append_assoc put.done left more in
    ap (λ (xs : List Job). item_at xs job) all
    ∙ item_front put.done (left ++ more) job _ (put.put.each job there.from_one there.added)

query_put : (text : List ℕ) (shown : Shown) (job : ℕ) → IsRunOver text shown →
    IsJob shown.board job → item_at (queries_in text true) job
    ≡ Some (record {
      clauses = clauses_of shown.board.journal job;
      cube = cube_of shown.board.journal job;
    })
query_put text shown job over there =
    let run = over.run in
    let front = asks_front text run.bytes shown.left shown.ended run.gave over.whole in
    by front run.wrote
  where
    by : (front : AsksFront text over.run.bytes shown.ended) →
        WroteAll (OfBlocks shown.rules.traces)
        (record { bytes = over.run.bytes; ended = shown.ended; failed = shown.failed })
        shown.board shown.taken_before shown.taken_after shown.status
        ⊎ WroteFront (OfBlocks shown.rules.traces)
        (record { bytes = over.run.bytes; ended = shown.ended; failed = shown.failed })
        shown.board shown.taken_before shown.taken_after shown.status →
        item_at (queries_in text true) job ≡ Some (record {
          clauses = clauses_of shown.board.journal job;
          cube = cube_of shown.board.journal job;
        })
    by front (inl all) = put_at shown.board (queries_in over.run.bytes shown.ended) all.left
        (queries_in text true) front.more job all.put front.is there
    by front (inr some) = put_at shown.board (queries_in over.run.bytes shown.ended) some.left
        (queries_in text true) front.more job some.put front.is there

-- ---- what the two answers mean

abbrev HasModel : List Entry → ℕ → Type 0
HasModel journal job =
    (values : List Bool) × IsModelOf (clauses_of journal job) (cube_of journal job) values

abbrev HasPart : List Entry → ℕ → Type 0
HasPart journal job =
    (part : List ℕ) × IsRefutedPart (clauses_of journal job) (cube_of journal job) part

model_of : (traces : Bool) (journal : List Entry) (job : ℕ) (given : Answer) →
    IsRightAnswer traces journal job given → is_model given ≡ true → HasModel journal job
model_of traces journal job (answer.Model values) right so = (values, right)
model_of traces journal job (answer.Refuted part steps) right so = absurd (cc)

part_of : (traces : Bool) (journal : List Entry) (job : ℕ) (given : Answer) →
    IsRightAnswer traces journal job given → not (is_model given) ≡ true → HasPart journal job
part_of traces journal job (answer.Model values) right so = absurd (cc)
part_of traces journal job (answer.Refuted part steps) right so = (part, right.0)

satisfied_by : (rules : Rules) (journal : List Entry) (job : ℕ) (found : Option Verdict) →
    IsLegal rules journal → settled rules journal job ≡ found → is_satisfiable found ≡ true →
    HasModel journal job
satisfied_by rules journal job (Some (verdict.Answered given)) legal is so =
    model_of rules.traces journal job (arc_value given)
    (verdicts_have_causes rules journal job (verdict.Answered given) legal is) so
satisfied_by rules journal job None legal is so = absurd (cc)
satisfied_by rules journal job (Some (verdict.Cancelled by)) legal is so = absurd (cc)
satisfied_by rules journal job (Some verdict.Spent) legal is so = absurd (cc)
satisfied_by rules journal job (Some verdict.Starved) legal is so = absurd (cc)

refuted_by : (rules : Rules) (journal : List Entry) (job : ℕ) (found : Option Verdict) →
    IsLegal rules journal → settled rules journal job ≡ found → is_unsatisfiable found ≡ true →
    HasPart journal job
refuted_by rules journal job (Some (verdict.Answered given)) legal is so =
    part_of rules.traces journal job (arc_value given)
    (verdicts_have_causes rules journal job (verdict.Answered given) legal is) so
refuted_by rules journal job None legal is so = absurd (cc)
refuted_by rules journal job (Some (verdict.Cancelled by)) legal is so = absurd (cc)
refuted_by rules journal job (Some verdict.Spent) legal is so = absurd (cc)
refuted_by rules journal job (Some verdict.Starved) legal is so = absurd (cc)

pub runs_agree : RunsAgree
runs_agree text first second job one_run other_run there also so not_so =
    let model = satisfied_by first.board.rules first.board.journal job _ one_run.run.legal refl so
    in
    let part = refuted_by second.board.rules second.board.journal job _ other_run.run.legal refl
    not_so in
    let same : Some (record {
      clauses = clauses_of first.board.journal job;
      cube = cube_of first.board.journal job;
    }) ≡ Some (record {
      clauses = clauses_of second.board.journal job;
      cube = cube_of second.board.journal job;
    }) = sym (query_put text first job one_run there) ∙ query_put text second job other_run also in
    let query : record {
      clauses = clauses_of first.board.journal job;
      cube = cube_of first.board.journal job;
    } ≡ record {
      clauses = clauses_of second.board.journal job;
      cube = cube_of second.board.journal job;
    } = cc in
    let moved = subst (λ (q : Job). IsModelOf q.clauses q.cube model.0) query model.1 in
    one (clauses_of second.board.journal job) (cube_of second.board.journal job) model.0 part.0
    moved part.1
