-- The promise of a run at each of its ends: words that aren't accepted, no memory for a board, a
-- run over the source's text, and one over a number's text.
use Rattle.std.proofs.Common.{◌≡◌, ◌∙◌, ℕ, ◌<◌, ◌≤◌, List, Option, None, Some, Bool, true, false}
use Rattle.std.proofs.Common.{cond, refl, ap, sym, subst, arith, inl, inr}
use Rattle.std.specs.Prelude.{◌⊎◌, ◌↔◌, ◌≢◌, nat_lt, IfSome, MatchOption, option_map, take}
use Rattle.std.proofs.lemmas.Bool.{lt-ltb}
use Rattle.std.proofs.lemmas.Bool.Decides.{nat_tests}
use Rattle.run_io.specs.Bytes.{IsEmptyWhereTold, appended}
use Rattle.entry_core.specs.declared.answers.Verdict.TheVariants as verdict
use Rattle.entry_core.specs.declared.rules.Rules.{Rules}
use Rattle.entry_core.specs.Journal.{is_closed, jobs}
use Rattle.entry_core.specs.Law.{LargeBudgetsAnswer, VerdictsHaveCauses}
use Rattle.entry_core.specs.Legal.{AreWithinLimits, IsLegal}
use Rattle.board_core.specs.State.{State}
use Rattle.words.specs.Accepted.{Asked, Input, OfSum, OfText, accepted}
use Rattle.tarmo_run.specs.declared.alone.Finish.{Finish}
use Rattle.tarmo_run.specs.declared.endings.Ending.{Ending}
use Rattle.tarmo_run.specs.declared.endings.Ending.TheVariants.{Complete, Refused, Unread}
use Rattle.tarmo_run.specs.declared.endings.Ending.TheVariants.{Exhausted}
use Rattle.tarmo_run.specs.Body.{Body}
use Rattle.tarmo_run.specs.Output.{HadNoBoard, IsAnswered, IsEnding, IsRun, IsRunOn, IsSum, Reading}
use Rattle.tarmo_run.specs.Output.{WroteAll, WroteFront, is_one_so, is_starved, is_undecided}
use Rattle.tarmo_run.specs.Output.{last_line_of, status_of}
use Rattle.tarmo_run.specs.Promise.{HaveBudgets, HaveCauses, HaveEnds, KeepsPromise}
use Rattle.tarmo_run.proofs.Completeness.{complete_over, not_broken, same_rules_by}
use Rattle.tarmo_run.proofs.Reached.{unfailing}

-- ---- statuses

-- what the status of a run over a source's text tells of the source
record TellsSource (failed : Bool) (status : ℕ) : Type 0 where
  pub accepts : status ≡ 5 → ⊥
  pub source : (status ≡ 3) ↔ ((failed ≡ true) × (status ≢ 4) × (status ≢ 6))

of_two : (b : Bool) (other status : ℕ) → status ≡ cond b 6 other →
    (status ≡ 6) ⊎ (status ≡ other)
of_two true other status is = inl is
of_two false other status is = inr is

at_six : (failed : Bool) (status : ℕ) → status ≡ 6 → TellsSource failed status
at_six failed status is = record {
  accepts = λ so. omega (arith, is, so);
  source = (λ so. absurd (omega (arith, is, so)), λ h. absurd (h.2 is));
}

at_four : (failed : Bool) (status : ℕ) → status ≡ 4 → TellsSource failed status
at_four failed status is = record {
  accepts = λ so. omega (arith, is, so);
  source = (λ so. absurd (omega (arith, is, so)), λ h. absurd (h.1 is));
}

unfailed : (failed : Bool) (P : Type 0) → failed ≡ false → failed ≡ true → P
unfailed true P well so = absurd (cc)
unfailed false P well so = absurd (cc)

below_three : (failed : Bool) (status : ℕ) → status ≤ 2 → failed ≡ false →
    TellsSource failed status
below_three failed status few well = record {
  accepts = λ so. omega (arith, few, so);
  source = (λ so. absurd (omega (arith, few, so)), λ h. unfailed failed _ well h.0);
}

at_three : (failed : Bool) (status : ℕ) → status ≡ 3 → failed ≡ true → TellsSource failed status
at_three failed status is broken = record {
  accepts = λ so. omega (arith, is, so);
  source = (λ so. (broken, λ e. omega (arith, is, e), λ e. omega (arith, is, e)), λ h. is);
}

by_two : (failed : Bool) (other status : ℕ) → (status ≡ 6) ⊎ (status ≡ other) → other ≤ 2 →
    failed ≡ false → TellsSource failed status
by_two failed other status (inl six) few well = at_six failed status six
by_two failed other status (inr is) few well =
    below_three failed status (omega (arith, is, few)) well

by_three : (failed : Bool) (status : ℕ) → (status ≡ 6) ⊎ (status ≡ 3) → failed ≡ true →
    TellsSource failed status
by_three failed status (inl six) broken = at_six failed status six
by_three failed status (inr is) broken = at_three failed status is broken

one_at_most : (b : Bool) → cond b 1 0 ≤ 2
one_at_most true = omega arith
one_at_most false = omega arith

either_six : (status : ℕ) → (status ≡ 6) ⊎ (status ≡ 6) → status ≡ 6
either_six status (inl is) = is
either_six status (inr is) = is

by_ending : (ending : Ending) (reading : Reading) (board : State) (status : ℕ) →
    IsEnding ending reading → status ≡ status_of ending board → TellsSource reading.failed status
by_ending (Complete count) reading board status ends told =
    by_two reading.failed (cond (is_one_so is_undecided board (jobs board.journal)) 1 0) status
    (of_two (is_one_so is_starved board (jobs board.journal)) _ status told)
    (one_at_most (is_one_so is_undecided board (jobs board.journal))) ends.0
by_ending (Refused fault) reading board status ends told =
    by_two reading.failed 2 status
    (of_two (is_one_so is_starved board (jobs board.journal)) 2 status told) (omega arith) ends.0
by_ending Unread reading board status ends told =
    by_three reading.failed status
    (of_two (is_one_so is_starved board (jobs board.journal)) 3 status told) ends.0
by_ending Exhausted reading board status ends told =
    at_six reading.failed status
    (either_six status (of_two (is_one_so is_starved board (jobs board.journal)) 6 status told))

by_output : (body : Body) (reading : Reading) (board : State) (before after : Option (List ℕ))
    (status : ℕ) → WroteAll body reading board before after status
    ⊎ WroteFront body reading board before after status → TellsSource reading.failed status
by_output body reading board before after status (inl w) =
    by_ending w.ending reading board status w.output.ends w.told
by_output body reading board before after status (inr w) = at_four reading.failed status w.told

-- ---- the words

neither : {command : Asked} (found : Option Asked) → found ≡ None → found ≡ Some command → ⊥
neither None none some = cc
neither (Some command) none some = cc

some_asked : (rules : Asked → Rules) (found : Option Asked) (given : Rules) →
    option_map rules found ≡ Some given → found ≡ None → ⊥
some_asked rules None given read none = cc
some_asked rules (Some command) given read none = cc

sum_or_text : {number : ℕ} {name : Option (List ℕ)} (work : Input) → work ≡ OfSum number →
    work ≡ OfText name → ⊥
sum_or_text (OfSum number) one other = cc
sum_or_text (OfText name) one other = cc

same_name : {first second : Option (List ℕ)} (work : Input) → work ≡ OfText first →
    work ≡ OfText second → first ≡ second
same_name work one other = let both : OfText _ ≡ OfText _ = sym one ∙ other in cc

-- ---- the promise

module _ {S O : Type 0} (left : S → Option (List ℕ)) (source_faults : S → ℕ) (ended : S → Bool)
    (opened : S → Option (List ℕ) → Bool) (taken : O → Option (List ℕ)) (sink_faults : O → ℕ)
    (rules : Asked → Rules) (line : List (List ℕ)) where
  -- the words aren't accepted
  pub words_refused : (source : S) (out : O) → accepted line ≡ None → ended source ≡ false →
      KeepsPromise left source_faults ended opened taken sink_faults rules line source source
      out out (record { status = 5; board = None })
  words_refused source out none unended = record {
    words = (λ is. (none, λ e. omega (arith, e), λ e. omega (arith, e)), λ h. refl);
    refused = λ h. refl;
    untouched = λ h. (refl, refl, refl);
    no_board = λ h. inl refl;
    unstarted = λ h. refl;
    run = λ command is. absurd (neither (accepted line) none is);
    summed = λ command number is work. refl;
    named = λ command name is work three four six. absurd (neither (accepted line) none is);
    whole = λ so. unfailed (ended source) _ unended so;
    complete = λ command name text is work told source_same sink_same.
        absurd (neither (accepted line) none is);
    closed = tt;
    none_open = tt;
    causes = tt;
    budget = tt;
    sink = (λ e. absurd (omega (arith, e)), λ rose. absurd (omega (arith, rose)));
    source = (λ e. absurd (omega (arith, e)), λ h. absurd (omega (arith, h.0)));
    counts = (omega arith, omega arith);
  }

  with_no_board : (source : S) (out_old out_new : O) (status : ℕ) → ended source ≡ false →
      (status ≡ 6) ⊎ (status ≡ 4) →
      HadNoBoard (left source) (left source) (taken out_old) (taken out_new) status →
      (status ≡ 4) ↔ (sink_faults out_old < sink_faults out_new) →
      sink_faults out_old ≤ sink_faults out_new →
      KeepsPromise left source_faults ended opened taken sink_faults rules line source source
      out_old out_new (record { status = status; board = None })
  with_no_board source out_old out_new status unended which none sink counts =
      let accepts : status ≡ 5 → ⊥ = λ e. not_five status which e in record {
        words = (λ e. absurd (accepts e), λ h. absurd (neither_of status which h.1 h.2));
        refused = λ h. refl;
        untouched = λ e. absurd (accepts e);
        no_board = λ h. inr none;
        unstarted = λ h. refl;
        run = λ command is. none;
        summed = λ command number is work. refl;
        named = λ command name is work three four six. absurd (neither_of status which four six);
        whole = λ so. unfailed (ended source) _ unended so;
        complete = λ command name text is work told source_same sink_same.
            six_of status which (λ e. omega (arith, sink.0 e, sink_same));
        closed = tt;
        none_open = tt;
        causes = tt;
        budget = tt;
        sink = sink;
        source = (λ e. absurd (not_three status which e), λ h. absurd (omega (arith, h.0)));
        counts = (omega arith, counts);
      }
    where
      not_five : (status : ℕ) → (status ≡ 6) ⊎ (status ≡ 4) → status ≡ 5 → ⊥
      not_five status (inl is) e = omega (arith, is, e)
      not_five status (inr is) e = omega (arith, is, e)

      not_three : (status : ℕ) → (status ≡ 6) ⊎ (status ≡ 4) → status ≡ 3 → ⊥
      not_three status (inl is) e = omega (arith, is, e)
      not_three status (inr is) e = omega (arith, is, e)

      neither_of : (status : ℕ) → (status ≡ 6) ⊎ (status ≡ 4) → (status ≡ 4 → ⊥) →
          (status ≡ 6 → ⊥) → ⊥
      neither_of status (inl is) four six = six is
      neither_of status (inr is) four six = four is

      six_of : (status : ℕ) → (status ≡ 6) ⊎ (status ≡ 4) → (status ≡ 4 → ⊥) → status ≡ 6
      six_of status (inl is) four = is
      six_of status (inr is) four = absurd (four is)

  how_written : (source : S) (out_old out_new : O) (status : ℕ) →
      (status ≡ 6) ⊎ (status ≡ 4) →
      (status ≡ 6 → taken out_new ≡ appended (taken out_old) (last_line_of Exhausted)) →
      (status ≡ 4 → (size : ℕ)
      × (taken out_new ≡ appended (taken out_old) (take size (last_line_of Exhausted)))) →
      HadNoBoard (left source) (left source) (taken out_old) (taken out_new) status
  how_written source out_old out_new status (inl six) all some =
      record { unread = refl; wrote = inl (six, all six) }
  how_written source out_old out_new status (inr four) all some =
      record { unread = refl; wrote = inr (four, (some four).0, (some four).1) }

  -- there is no memory for the words or for a board
  pub without_memory : (source : S) (out_old out_new : O) (finish : Finish) →
      ended source ≡ false → finish.board ≡ None → (finish.status ≡ 6) ⊎ (finish.status ≡ 4) →
      (finish.status ≡ 6 → taken out_new ≡ appended (taken out_old) (last_line_of Exhausted)) →
      (finish.status ≡ 4 → (size : ℕ)
      × (taken out_new ≡ appended (taken out_old) (take size (last_line_of Exhausted)))) →
      (finish.status ≡ 4) ↔ (sink_faults out_old < sink_faults out_new) →
      sink_faults out_old ≤ sink_faults out_new →
      KeepsPromise left source_faults ended opened taken sink_faults rules line source source
      out_old out_new finish
  without_memory source out_old out_new finish unended none which all some sink counts =
      subst (λ (found : Option State). KeepsPromise left source_faults ended opened taken
      sink_faults rules line source source out_old out_new
      (record { status = finish.status; board = found })) (sym none)
      (with_no_board source out_old out_new finish.status unended which
      (how_written source out_old out_new finish.status which all some) sink counts)

  -- the laws on a board with a legal journal
  caused : VerdictsHaveCauses → (board : State) → IsLegal board.rules board.journal →
      HaveCauses board
  caused laws board legal job given is = laws board.rules board.journal job given legal is

  budgeted : LargeBudgetsAnswer → (given : Rules) (board : State) → AreWithinLimits given →
      board.rules ≡ given → IsLegal board.rules board.journal → HaveBudgets board
  budgeted laws given board limits same legal job is =
      laws board.rules board.journal job legal (subst AreWithinLimits (sym same) limits) is

  over_text_on : (source_old source_new : S) (out_old out_new : O) (status : ℕ) (board : State)
      (given : Rules) (name : Option (List ℕ)) → VerdictsHaveCauses → LargeBudgetsAnswer →
      option_map rules (accepted line) ≡ Some given →
      ((command : Asked) → accepted line ≡ Some command → command.work ≡ OfText name) →
      ((command : Asked) → (rules command).traces ≡ command.trace) →
      AreWithinLimits given →
      IsRun given (left source_old) (left source_new) (ended source_new)
      (nat_lt (source_faults source_old) (source_faults source_new)) (taken out_old)
      (taken out_new) status board →
      is_closed board.journal ≡ true → HaveEnds board →
      (status ≢ 3 → status ≢ 4 → status ≢ 6 → opened source_new name ≡ true) →
      (ended source_new ≡ true → IsEmptyWhereTold (left source_new)) →
      (status ≡ 4) ↔ (sink_faults out_old < sink_faults out_new) →
      (source_faults source_old ≤ source_faults source_new)
      × (sink_faults out_old ≤ sink_faults out_new) →
      KeepsPromise left source_faults ended opened taken sink_faults rules line source_old
      source_new out_old out_new (record { status = status; board = Some board })
  over_text_on source_old source_new out_old out_new status board given name causes budgets read
      work traces limits run closed ends named whole sink counts =
      let tells = by_output _ _ board (taken out_old) (taken out_new) status run.wrote in
      let some = some_asked rules (accepted line) given read in
      let failing = nat_lt (source_faults source_old) (source_faults source_new) in record {
        words = (λ e. absurd (tells.accepts e), λ h. absurd (some h.0));
        refused = λ none. absurd (some none);
        untouched = λ e. absurd (tells.accepts e);
        no_board = λ none. absurd (there board none);
        unstarted = λ none. absurd (there board none);
        run = λ command is. subst (λ (asked : Input). IsRunOn asked (rules command)
            (left source_old) (left source_new) (ended source_new) failing (taken out_old)
            (taken out_new) status board) (sym (work command is))
            (subst (λ (r : Rules). IsRun r (left source_old) (left source_new) (ended source_new)
            failing (taken out_old) (taken out_new) status board)
            (same_rules_by rules (accepted line) given command read is) run);
        summed = λ command number is sum. absurd (sum_or_text command.work sum (work command is));
        named = λ command other is text three four six.
            subst (λ (n : Option (List ℕ)). opened source_new n ≡ true)
            (same_name command.work (work command is) text) (named three four six);
        whole = whole;
        complete = λ command other text is asked told source_same sink_same.
            subst (λ (traces : Bool). IsAnswered traces text (taken out_old) (taken out_new)
            status board ⊎ (status ≡ 6))
            (ap (λ (r : Rules). r.traces)
            (same_rules_by rules (accepted line) given command read is) ∙ traces command)
            (complete_over (Some board) given status text _ _ _ _ _ _ told whole
            (unfailing _ _ source_same) (not_broken status _ _ sink sink_same) run);
        closed = closed;
        none_open = ends;
        causes = caused causes board run.legal;
        budget = budgeted budgets given board limits run.rules run.legal;
        sink = sink;
        source = (
          λ e. (rises _ _ (tells.source.0 e).0, (tells.source.0 e).1, (tells.source.0 e).2),
          λ h. tells.source.1 (lt-ltb _ _ h.0, h.1, h.2),
        );
        counts = counts;
      }
    where
      there : (board : State) → Some board ≡ None → ⊥
      there board none = cc

      rises : (before now : ℕ) → nat_lt before now ≡ true → before < now
      rises before now is = grind (arith, nat_tests)

  -- a run over the source's text
  pub over_text : (source_old source_new : S) (out_old out_new : O) (finish : Finish)
      (given : Rules) (name : Option (List ℕ)) → VerdictsHaveCauses → LargeBudgetsAnswer →
      option_map rules (accepted line) ≡ Some given →
      ((command : Asked) → accepted line ≡ Some command → command.work ≡ OfText name) →
      ((command : Asked) → (rules command).traces ≡ command.trace) →
      AreWithinLimits given →
      MatchOption finish.board ⊥ (IsRun given (left source_old) (left source_new)
      (ended source_new) (nat_lt (source_faults source_old) (source_faults source_new))
      (taken out_old) (taken out_new) finish.status) →
      IfSome finish.board (λ board. is_closed board.journal ≡ true) →
      IfSome finish.board HaveEnds →
      (finish.status ≢ 3 → finish.status ≢ 4 → finish.status ≢ 6 →
      opened source_new name ≡ true) →
      (ended source_new ≡ true → IsEmptyWhereTold (left source_new)) →
      (finish.status ≡ 4) ↔ (sink_faults out_old < sink_faults out_new) →
      (source_faults source_old ≤ source_faults source_new)
      × (sink_faults out_old ≤ sink_faults out_new) →
      KeepsPromise left source_faults ended opened taken sink_faults rules line source_old
      source_new out_old out_new finish
  over_text source_old source_new out_old out_new finish given name causes budgets read work
      traces limits run closed ends named whole sink counts =
      on_found finish.board run closed ends
    where
      on_found : (found : Option State) → MatchOption found ⊥ (IsRun given (left source_old)
          (left source_new) (ended source_new)
          (nat_lt (source_faults source_old) (source_faults source_new)) (taken out_old)
          (taken out_new) finish.status) →
          IfSome found (λ board. is_closed board.journal ≡ true) → IfSome found HaveEnds →
          KeepsPromise left source_faults ended opened taken sink_faults rules line source_old
          source_new out_old out_new (record { status = finish.status; board = found })
      on_found None run closed ends = absurd run
      on_found (Some board) run closed ends =
          over_text_on source_old source_new out_old out_new finish.status board given name
          causes budgets read work traces limits run closed ends named whole sink counts

  over_sum_on : (source : S) (out_old out_new : O) (status : ℕ) (board : State) (given : Rules)
      (number : ℕ) → VerdictsHaveCauses → LargeBudgetsAnswer →
      option_map rules (accepted line) ≡ Some given →
      ((command : Asked) → accepted line ≡ Some command → command.work ≡ OfSum number) →
      AreWithinLimits given →
      IsSum number given (taken out_old) (taken out_new) status board →
      is_closed board.journal ≡ true → HaveEnds board → (status ≢ 3) × (status ≢ 5) →
      ended source ≡ false →
      (status ≡ 4) ↔ (sink_faults out_old < sink_faults out_new) →
      sink_faults out_old ≤ sink_faults out_new →
      KeepsPromise left source_faults ended opened taken sink_faults rules line source source
      out_old out_new (record { status = status; board = Some board })
  over_sum_on source out_old out_new status board given number causes budgets read work limits run
      closed ends unread unended sink counts =
      let some = some_asked rules (accepted line) given read in record {
        words = (λ e. absurd (unread.1 e), λ h. absurd (some h.0));
        refused = λ none. absurd (some none);
        untouched = λ e. absurd (unread.1 e);
        no_board = λ none. absurd (there board none);
        unstarted = λ none. refl;
        run = λ command is. subst (λ (asked : Input). IsRunOn asked (rules command)
            (left source) (left source) (ended source)
            (nat_lt (source_faults source) (source_faults source)) (taken out_old)
            (taken out_new) status board) (sym (work command is))
            (subst (λ (r : Rules). IsSum number r (taken out_old) (taken out_new) status board)
            (same_rules_by rules (accepted line) given command read is) run);
        summed = λ command other is sum. refl;
        named = λ command name is text three four six.
            absurd (sum_or_text command.work (work command is) text);
        whole = λ so. unfailed (ended source) _ unended so;
        complete = λ command name text is asked told source_same sink_same.
            absurd (sum_or_text command.work (work command is) asked);
        closed = closed;
        none_open = ends;
        causes = caused causes board run.legal;
        budget = budgeted budgets given board limits run.rules run.legal;
        sink = sink;
        source = (λ e. absurd (unread.0 e), λ h. absurd (omega (arith, h.0)));
        counts = (omega arith, counts);
      }
    where
      there : (board : State) → Some board ≡ None → ⊥
      there board none = cc

  -- a run over a number's text
  pub over_sum : (source : S) (out_old out_new : O) (finish : Finish) (given : Rules) (number : ℕ) →
      VerdictsHaveCauses → LargeBudgetsAnswer →
      option_map rules (accepted line) ≡ Some given →
      ((command : Asked) → accepted line ≡ Some command → command.work ≡ OfSum number) →
      AreWithinLimits given →
      MatchOption finish.board ⊥
      (IsSum number given (taken out_old) (taken out_new) finish.status) →
      IfSome finish.board (λ board. is_closed board.journal ≡ true) →
      IfSome finish.board HaveEnds →
      (finish.status ≢ 3) × (finish.status ≢ 5) → ended source ≡ false →
      (finish.status ≡ 4) ↔ (sink_faults out_old < sink_faults out_new) →
      sink_faults out_old ≤ sink_faults out_new →
      KeepsPromise left source_faults ended opened taken sink_faults rules line source source
      out_old out_new finish
  over_sum source out_old out_new finish given number causes budgets read work limits run closed
      ends unread unended sink counts = on_found finish.board run closed ends
    where
      on_found : (found : Option State) → MatchOption found ⊥
          (IsSum number given (taken out_old) (taken out_new) finish.status) →
          IfSome found (λ board. is_closed board.journal ≡ true) → IfSome found HaveEnds →
          KeepsPromise left source_faults ended opened taken sink_faults rules line source source
          out_old out_new (record { status = finish.status; board = found })
      on_found None run closed ends = absurd run
      on_found (Some board) run closed ends =
          over_sum_on source out_old out_new finish.status board given number causes budgets read
          work limits run closed ends unread unended sink counts
