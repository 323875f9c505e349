-- Where nothing fails and memory is there, the text decides what a run writes and which jobs its
-- board has, however much of it was read.
use Rattle.std.proofs.Common.{◌≡◌, ◌∙◌, ℕ, ◌<◌, List, [], ◌++◌, length, Option, Bool, true, false}
use Rattle.std.proofs.Common.{cond, refl, ap, sym, subst, arith, append-nil, inl, inr}
use Rattle.std.specs.Prelude.{◌⊎◌, ◌↔◌, Some, None, IsSome, MatchOption, option_map, unwrap_or}
use Rattle.run_io.specs.Bytes.{appended, followed_by, IsEmptyWhereTold}
use Rattle.entry_core.specs.Journal.{jobs}
use Rattle.entry_core.specs.Settled.{settled}
use Rattle.entry_core.specs.declared.rules.Rules.{Rules}
use Rattle.board_core.specs.Replies.{IsJob}
use Rattle.board_core.specs.State.{State}
use Rattle.icnf_text.specs.declared.faults.Fault.{Fault}
use Rattle.icnf_text.specs.declared.statements.Numbered.{Numbered}
use Rattle.icnf_text.specs.Judgement.{statements, wrong}
use Rattle.icnf_text.specs.Jobs.{Job, jobs_of}
use Rattle.icnf_text.proofs.Fronts.{none_behind_wrong, none_at_end_behind_wrong, wrong_stays}
use Rattle.icnf_text.proofs.Fronts.{wrong_stays_at_end}
use Rattle.tarmo_run.specs.declared.endings.Ending.{Ending}
use Rattle.tarmo_run.specs.declared.endings.Ending.TheVariants.{Complete, Refused, Unread}
use Rattle.tarmo_run.specs.declared.endings.Ending.TheVariants.{Exhausted}
use Rattle.tarmo_run.specs.Asking.{rules_of, shared_rules_of}
use Rattle.words.specs.Accepted.{Asked, Input, OfSum, OfText, input_of}
use Rattle.words.specs.declared.command.Work.{Work}
use Rattle.tarmo_run.specs.Block.{AreBlocks}
use Rattle.tarmo_run.specs.Body.{OfBlocks}
use Rattle.tarmo_run.specs.Output.{IsAnswered, IsEnding, IsOutput, IsRun, PutFirst, PutQueries}
use Rattle.tarmo_run.specs.Output.{UnlessExhausted, WroteAll, WroteFront, ending_by, is_one_so}
use Rattle.tarmo_run.specs.Output.{is_starved, last_line_of, queries_in, status_of, unnumbered}

-- what a source that is ended gave is all that it had
pub all_given : (text bytes : List ℕ) (after : Option (List ℕ)) → Some text ≡ followed_by bytes
    after →
    IsEmptyWhereTold after → bytes ≡ text
all_given text bytes None gave empty = cc
all_given text bytes (Some rest) gave empty =
    let whole : text ≡ bytes ++ rest = cc in
    sym (append-nil bytes) ∙ ap (λ (xs : List ℕ). bytes ++ xs) (sym empty) ∙ sym whole

-- a wrong place that was found is the one of the whole text, with the same statements before it
found_in : (ended : Bool) (text bytes : List ℕ) (after : Option (List ℕ)) (fault : Fault) →
    Some text ≡ followed_by bytes after → (ended ≡ true → IsEmptyWhereTold after) →
    wrong bytes ended ≡ Some fault →
    (wrong text true ≡ Some fault) × (statements bytes ended ≡ statements text true)
found_in true text bytes after fault gave whole is =
    let all = all_given text bytes after gave (whole refl) in (
      ap (λ (xs : List ℕ). wrong xs true) (sym all)
          ∙ is,
      ap (λ (xs : List ℕ). statements xs true) all,
    )
found_in false text bytes None fault gave whole is = cc
found_in false text bytes (Some rest) fault gave whole is =
    let parts : text ≡ bytes ++ rest = cc in
    let stays = wrong_stays bytes rest fault is in (
      ap (λ (xs : List ℕ). wrong xs true) parts ∙ wrong_stays_at_end (bytes ++ rest) fault stays,
      sym (none_behind_wrong bytes rest fault is)
          ∙ sym (none_at_end_behind_wrong (bytes ++ rest) fault stays)
          ∙ ap (λ (xs : List ℕ). statements xs true) (sym parts),
    )

-- the jobs put all queries
put_all : (board : State) (queries all left : List Job) → queries ≡ all → left ≡ [] →
    PutFirst board.journal queries left → PutQueries board.journal all
put_all board queries all left same none put =
    subst (PutQueries board.journal) (sym (append-nil put.done)
    ∙ ap (λ (rest : List Job). put.done ++ rest) (sym none) ∙ sym put.whole ∙ same) put.put

either_way : (b : Bool) (n : ℕ) → cond b n n ≡ n
either_way true n = refl
either_way false n = refl

-- What a whole output is, where the source didn't fail.
by_ending : (trace : Bool) (ending : Ending) (board : State) (status : ℕ) (text bytes : List ℕ)
    (left_after : Option (List ℕ)) (ended failed : Bool) (before after : Option (List ℕ)) →
    Some text ≡ followed_by bytes left_after → (ended ≡ true → IsEmptyWhereTold left_after) →
    failed ≡ false →
    (w : WroteAll (OfBlocks trace) (record { bytes = bytes; ended = ended; failed = failed }) board
    before
    after status) → w.ending ≡ ending →
    IsAnswered trace text before after status board ⊎ (status ≡ 6)
by_ending trace (Complete count) board status text bytes left_after ended failed before after gave
    whole unfailed w is =
    let o = subst (λ (e : Ending). IsOutput (OfBlocks trace) e
    (record { bytes = bytes; ended = ended; failed = failed }) board w.text) is w.output in
    let all : bytes ≡ text = all_given text bytes left_after gave (whole o.ends.1) in
    let same : queries_in bytes ended ≡ queries_in text true =
    ap (queries_in bytes) o.ends.1 ∙ ap (λ (xs : List ℕ). queries_in xs true) all in
    let none : wrong text true ≡ None = ap (λ (xs : List ℕ). wrong xs true) (sym all)
    ∙ ap (wrong bytes) (sym o.ends.1) ∙ o.ends.2 in
    let ends : Complete count ≡ ending_by (wrong text true) (length (queries_in text true)) =
    ap Complete (o.ends.3 ∙ ap length same)
    ∙ ap (λ (found : Option Fault). ending_by found (length (queries_in text true))) (sym none) in
    inl (record {
      put = put_all board (queries_in bytes ended) (queries_in text true) w.left same
          (subst (λ (e : Ending). UnlessExhausted e (w.left ≡ [])) is w.all_put) w.put;
      all_settled = subst (λ (e : Ending). UnlessExhausted e ((job : ℕ) → IsJob board job →
          IsSome (settled board.rules board.journal job))) is w.all_settled;
      blocks = o.lines;
      right = subst (λ n. AreBlocks trace board n o.lines) o.right.all o.right.right;
      taken = w.taken ∙ ap (appended before) (o.written
          ∙ ap (λ (ending : Ending). o.lines ++ last_line_of ending) ends);
      told = w.told ∙ ap (λ (e : Ending). status_of e board) (is ∙ ends);
    })
by_ending trace (Refused fault) board status text bytes left_after ended failed before after gave
    whole unfailed w is =
    let o = subst (λ (e : Ending). IsOutput (OfBlocks trace) e
    (record { bytes = bytes; ended = ended; failed = failed }) board w.text) is w.output in
    let found = found_in ended text bytes left_after fault gave whole o.ends.1 in
    let same : queries_in bytes ended ≡ queries_in text true =
    ap (λ (list : List Numbered). jobs_of (unnumbered list)) found.1 in
    let ends : Refused fault ≡ ending_by (wrong text true) (length (queries_in text true)) =
    ap (λ (found : Option Fault). ending_by found (length (queries_in text true))) (sym found.0) in
    inl (record {
      put = put_all board (queries_in bytes ended) (queries_in text true) w.left same
          (subst (λ (e : Ending). UnlessExhausted e (w.left ≡ [])) is w.all_put) w.put;
      all_settled = subst (λ (e : Ending). UnlessExhausted e ((job : ℕ) → IsJob board job →
          IsSome (settled board.rules board.journal job))) is w.all_settled;
      blocks = o.lines;
      right = subst (λ n. AreBlocks trace board n o.lines) o.right.all o.right.right;
      taken = w.taken ∙ ap (appended before) (o.written
          ∙ ap (λ (ending : Ending). o.lines ++ last_line_of ending) ends);
      told = w.told ∙ ap (λ (e : Ending). status_of e board) (is ∙ ends);
    })
by_ending trace Unread board status text bytes left_after ended failed before after gave whole
    unfailed w is =
    let ends = subst (λ (e : Ending). IsEnding e
    (record { bytes = bytes; ended = ended; failed = failed })) is w.output.ends in
    let failing : failed ≡ true = ends.0 in cc
by_ending trace Exhausted board status text bytes left_after ended failed before after gave whole
    unfailed w is =
    inr (w.told ∙ ap (λ (e : Ending). status_of e board) is
    ∙ either_way (is_one_so is_starved board (jobs board.journal)) 6)

complete : (given : Rules) (board : State) (status : ℕ) (text : List ℕ)
    (left_before left_after : Option (List ℕ)) (ended failed : Bool)
    (before after : Option (List ℕ)) →
    left_before ≡ Some text → (ended ≡ true → IsEmptyWhereTold left_after) → failed ≡ false →
    (status ≡ 4 → ⊥) → (run : IsRun given left_before left_after ended failed before after status
    board) →
    WroteAll (OfBlocks given.traces) (record { bytes = run.bytes; ended = ended; failed = failed })
    board
    before after status ⊎ WroteFront (OfBlocks given.traces)
    (record { bytes = run.bytes; ended = ended; failed = failed }) board before after status →
    IsAnswered given.traces text before after status board ⊎ (status ≡ 6)
complete given board status text left_before left_after ended failed before after told whole
    unfailed unbroken run (inl w) =
    by_ending given.traces w.ending board status text run.bytes left_after ended failed before
    after (sym told ∙ run.gave) whole unfailed w refl
complete given board status text left_before left_after ended failed before after told whole
    unfailed unbroken run (inr w) = absurd (unbroken w.told)

-- over the board that a run gives back
pub complete_over : (found : Option State) (given : Rules) (status : ℕ) (text : List ℕ)
    (left_before left_after : Option (List ℕ)) (ended failed : Bool)
    (before after : Option (List ℕ)) →
    left_before ≡ Some text → (ended ≡ true → IsEmptyWhereTold left_after) → failed ≡ false →
    (status ≡ 4 → ⊥) →
    MatchOption found ⊥ (IsRun given left_before left_after ended failed before after status) →
    MatchOption found (status ≡ 6)
    (λ board. IsAnswered given.traces text before after status board ⊎ (status ≡ 6))
complete_over None given status text left_before left_after ended failed before after told whole
    unfailed unbroken run = absurd run
complete_over (Some board) given status text left_before left_after ended failed before after told
    whole unfailed unbroken run =
    complete given board status text left_before left_after ended failed before after told whole
    unfailed unbroken run run.wrote

-- the sink didn't fail
pub not_broken : (status before now : ℕ) → (status ≡ 4) ↔ (before < now) → now ≡ before →
    status ≡ 4 → ⊥
not_broken status before now iff same broken = let rose = iff.0 broken in omega (arith, rose, same)

pub same_rules_by : (rules : Asked → Rules) (found : Option Asked) (given : Rules)
    (command : Asked) → option_map rules found ≡ Some given → found ≡ Some command →
    given ≡ rules command
same_rules_by rules found given command read is =
    let both : Some (rules command) ≡ Some given = sym (ap (option_map rules) is) ∙ read in
    sym (ap (λ (o : Option Rules). unwrap_or o given) both)

-- the rules that were read are those of the words
pub same_rules : (found : Option Asked) (given : Rules) (command : Asked) →
    option_map rules_of found ≡ Some given → found ≡ Some command → given ≡ rules_of command
same_rules = same_rules_by rules_of

-- and so are those of a run on many threads
pub same_shared_rules : (found : Option Asked) (given : Rules) (command : Asked) →
    option_map shared_rules_of found ≡ Some given → found ≡ Some command →
    given ≡ shared_rules_of command
same_shared_rules = same_rules_by shared_rules_of

-- there is a board
pub had_board : (found : Option State) (P : Type 0) (Q : State → Type 0) → MatchOption found ⊥ Q →
    MatchOption found P Q
had_board None P Q h = absurd h
had_board (Some board) P Q h = h
