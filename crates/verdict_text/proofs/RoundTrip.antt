-- Blocks that are written are read back.
use Rattle.std.proofs.Common.{◌≡◌, ◌∙◌, ℕ, ◌+◌, ◌^◌, ◌<◌, ◌≤◌, List, [], ◌∷◌, ◌++◌, length, take, Bool, true, false, cond, refl, sym, subst, ap, inl, inr, append_assoc, append-nil, arith}
use Rattle.std.specs.Prelude.{not, Some, None, Result, Ok, Err, ◌==◌, ◌&&◌, ◌⊎◌, All, codes, decimal, nat_lt, slice_index}
use Rattle.std.specs.Option.{option_map}
use Rattle.std.specs.List.{slice_split, flat_map, list_all}
use Rattle.std.specs.Result.{MatchResult}
use Rattle.std.proofs.lemmas.Bool.{and_from, lt-ltb}
use Rattle.std.proofs.lemmas.Bool.Decides.{nat_tests}
use Rattle.std.proofs.lemmas.List.{length-append, length-take-le}
use Rattle.std.proofs.lemmas.List.Elements.{All-cons, All-head, All-nil, All-tail}
use Rattle.std.proofs.lemmas.List.Splits.{slice_split_at}
use Rattle.sat_base.specs.Lit.{IsLitSet}
use Rattle.line_tokens.specs.Token.{lit_text, tokens_of, lines_of}
use Rattle.trace_core.specs.declared.derivation.Step.{Step}
use Rattle.trace_text.specs.Text.{ArePrinted, CiteEarlier, HaveExactTags, line_of_step, next_step, steps_text}
use Rattle.trace_text.specs.Line.{Line, line_text}
use Rattle.trace_text.proofs.RoundTrip.{body, first_line, said_back, IsWellFormed as IsWellFormedLine}
use Rattle.verdict_text.proofs.BlockLines.{one_more}
use Rattle.verdict_text.proofs.LinesBack.{job_line, job_line_back, job_line_clean, lits_line, lits_line_clean, model_line_back, model_lits_are, part_line_back}
use Rattle.verdict_text.specs.Block.{IsWellFormed, model_lits, shown_text}
use Rattle.verdict_text.specs.Line.{is_trace_line_of, job_line_of, status_of}
use Rattle.verdict_text.specs.Text.{Reading, after_job_line, after_line, begun, blocks_of_lines, blocks_of_text, finished, or_form, tags_of_next, with_block, with_model, with_step}
use Rattle.verdict_text.specs.Written.{AreWritten, HasExactTags}
use Rattle.verdict_text.specs.declared.blocks.Printed.{Printed}
use Rattle.verdict_text.specs.declared.blocks.Shown.{Shown}
use Rattle.verdict_text.specs.declared.blocks.Shown.TheVariants as shown
use Rattle.verdict_text.specs.declared.faults.BlockFault.{BlockFault}
use Rattle.verdict_text.specs.declared.faults.BlockFault.TheVariants.{Memory}
use Rattle.verdict_text.specs.declared.lines.Status.{Status}
use Rattle.verdict_text.specs.declared.lines.Status.TheVariants as status
use Rattle.verdict_text.specs.declared.steps.Due.TheVariants as due

-- what is left to read, in the lines of this text, from this state on
abbrev pub read_on : List ℕ → List ℕ → ℕ → Reading → List ℕ → Result (List Printed) BlockFault
read_on tags sizes number reading text = blocks_of_lines tags sizes number reading (lines_of text)

-- a line that can stand there
pub line_back : (tags sizes : List ℕ) (number : ℕ) (reading after : Reading) (line rest : List ℕ) → All (λ b. (b == 10) ≡ false) line → after_line tags sizes reading.done reading.due line ≡ Some after
    → read_on tags sizes number reading (line ++ 10 ∷ rest) ≡ read_on tags sizes (number + 1) after rest
line_back tags sizes number reading after line rest clean taken =
    ap (blocks_of_lines tags sizes number reading) (slice_split_at (λ b. b == 10) line 10 rest clean refl)
    ∙ one_more tags sizes number reading line (λ b. b == 10) rest
    ∙ ap (λ r. or_form number r (λ next. blocks_of_lines tags sizes (number + 1) next (slice_split (λ b. b == 10) rest))) taken

-- ---- between two blocks

-- these blocks are whole, whether or not trace lines may still follow
pub record IsBetween (tags sizes : List ℕ) (reading : Reading) (blocks : List Printed) : Type 0 where
  pub may_end : finished reading.done reading.due ≡ Some blocks
  pub next : (line : List ℕ) → is_trace_line_of line ≡ false → after_line tags sizes reading.done reading.due line ≡ after_job_line (length sizes) blocks (job_line_of line)

pub at_block : (tags sizes : List ℕ) (blocks : List Printed) → IsBetween tags sizes (record { done = blocks; due = due.Block }) blocks
at_block tags sizes blocks = record { may_end = refl; next = λ line other. refl }

pub at_step : (tags sizes : List ℕ) (done : List Printed) (part : List ℕ) (steps : List Step) → IsBetween tags sizes (record { done = done; due = due.Step part steps }) (with_block done (shown.Refuted part steps))
at_step tags sizes done part steps = record {
  may_end = refl;
  next = λ line other. ap (λ b. cond b (option_map (λ more. record { done = done; due = due.Step part more }) (with_step steps (next_step (tags_of_next tags sizes done) steps line))) (after_job_line (length sizes) (with_block done (shown.Refuted part steps)) (job_line_of line))) other;
}

itself : (n : ℕ) → (n == n) ≡ true
itself n = grind (arith, nat_tests)

next_is : (jobs : ℕ) (blocks : List Printed) (status : Status) → length blocks < jobs → after_job_line jobs blocks (Some (record { number = Some (length blocks + 1); status = status })) ≡ Some (begun blocks status)
next_is jobs blocks status has =
    let first = itself (length blocks + 1) in let some = lt-ltb (length blocks) jobs has in
    ap (λ b. cond b (Some (begun blocks status)) None) (and_from (length blocks + 1 == length blocks + 1) (nat_lt (length blocks) jobs) first some)

-- the first line of a block, and what stands below it
pub job_back : (tags sizes : List ℕ) (number : ℕ) (reading : Reading) (blocks : List Printed) (word below rest : List ℕ) (status : Status) → IsBetween tags sizes reading blocks → length blocks < length sizes → length sizes ≤ 4294967295
    → tokens_of word ≡ word ∷ [] → All (λ b. (b == 10) ≡ false) word → status_of word ≡ Some status
    → read_on tags sizes number reading ((106 ∷ 32 ∷ (decimal (length blocks + 1) ++ 32 ∷ (word ++ 10 ∷ below))) ++ rest) ≡ read_on tags sizes (number + 1) (begun blocks status) (below ++ rest)
job_back tags sizes number reading blocks word below rest status between has few last clean says =
    ap (read_on tags sizes number reading) regrouped
    ∙ line_back tags sizes number reading (begun blocks status) (job_line (length blocks + 1) word) (below ++ rest) (job_line_clean (length blocks + 1) word small clean)
    (between.next (job_line (length blocks + 1) word) refl ∙ ap (after_job_line (length sizes) blocks) (job_line_back (length blocks + 1) word status (omega arith) small last says) ∙ next_is (length sizes) blocks status has)
  where
    small : length blocks + 1 < 2 ^ 64
    small = omega arith

    regrouped : (106 ∷ 32 ∷ (decimal (length blocks + 1) ++ 32 ∷ (word ++ 10 ∷ below))) ++ rest ≡ job_line (length blocks + 1) word ++ 10 ∷ (below ++ rest)
    regrouped = simp append_assoc

-- a line of literals
pub lits_back : (tags sizes : List ℕ) (number : ℕ) (reading after : Reading) (letter : ℕ) (lits rest : List ℕ) → All (λ b. (b == 10) ≡ false) (lits_line letter lits) → after_line tags sizes reading.done reading.due (lits_line letter lits) ≡ Some after
    → (below : List ℕ) → read_on tags sizes number reading ((letter ∷ 32 ∷ (flat_map lit_text lits ++ 48 ∷ 10 ∷ below)) ++ rest) ≡ read_on tags sizes (number + 1) after (below ++ rest)
lits_back tags sizes number reading after letter lits rest clean taken below =
    ap (read_on tags sizes number reading) regrouped ∙ line_back tags sizes number reading after (lits_line letter lits) (below ++ rest) clean taken
  where
    regrouped : (letter ∷ 32 ∷ (flat_map lit_text lits ++ 48 ∷ 10 ∷ below)) ++ rest ≡ lits_line letter lits ++ 10 ∷ (below ++ rest)
    regrouped = simp append_assoc

-- ---- trace lines

letter_back : (line : Line) → is_trace_line_of (body line) ≡ true
unfolding body
letter_back line = refl

step_taken : (tags sizes done_tags : List ℕ) (done : List Printed) (part : List ℕ) (before : List Step) (line : Line) (step : Step) → done_tags ≡ tags_of_next tags sizes done → next_step done_tags before (body line) ≡ Ok step
    → after_line tags sizes done (due.Step part before) (body line) ≡ Some (record { done = done; due = due.Step part (before ++ step ∷ []) })
step_taken tags sizes done_tags done part before line step same said =
    ap (λ b. cond b (option_map (λ more. record { done = done; due = due.Step part more }) (with_step before (next_step (tags_of_next tags sizes done) before (body line)))) (after_job_line (length sizes) (with_block done (shown.Refuted part before)) (job_line_of (body line)))) (letter_back line)
    ∙ ap (λ r. option_map (λ more. record { done = done; due = due.Step part more }) (with_step before r)) (ap (λ ts. next_step ts before (body line)) (sym same) ∙ said)

pub steps_back : (tags sizes done_tags : List ℕ) (done : List Printed) (part : List ℕ) (before steps : List Step) (number : ℕ) (rest : List ℕ) → done_tags ≡ tags_of_next tags sizes done
    → CiteEarlier (length done_tags) (length before) steps → HaveExactTags done_tags before steps → All (λ (step : Step). IsLitSet step.clause) steps → length done_tags + (length before + length steps) < 2 ^ 64
    → read_on tags sizes number (record { done = done; due = due.Step part before }) (steps_text (length done_tags) (length before) steps ++ rest) ≡ read_on tags sizes (number + length steps) (record { done = done; due = due.Step part (before ++ steps) }) rest
steps_back tags sizes done_tags done part before [] number rest same earlier exact sets fits =
    ap (λ ss. read_on tags sizes number (record { done = done; due = due.Step part ss }) rest) (sym (append-nil before))
    ∙ ap (λ n. read_on tags sizes n (record { done = done; due = due.Step part (before ++ []) }) rest) no_more
  where
    no_more : number ≡ number + 0
    no_more = omega arith
steps_back tags sizes done_tags done part before (step ∷ steps) number rest same earlier exact sets fits =
    ap (read_on tags sizes number here) (append_assoc (line_text line) (steps_text (length done_tags) (length before + 1) steps) rest)
    ∙ ap (blocks_of_lines tags sizes number here) (first_line line below said.1)
    ∙ one_more tags sizes number here (body line) (λ b. b == 10) below
    ∙ ap (λ r. or_form number r (λ next. read_on tags sizes (number + 1) next below)) (step_taken tags sizes done_tags done part before line step same said.0)
    ∙ ap (λ n. read_on tags sizes (number + 1) (record { done = done; due = due.Step part (before ++ step ∷ []) }) (steps_text (length done_tags) n steps ++ rest)) (sym longer)
    ∙ steps_back tags sizes done_tags done part (before ++ step ∷ []) steps (number + 1) rest same (subst (λ n. CiteEarlier (length done_tags) n steps) (sym longer) earlier.1) exact.1 (All-tail (λ (s : Step). IsLitSet s.clause) step steps sets) (omega (arith, longer))
    ∙ ap (λ n. read_on tags sizes n (record { done = done; due = due.Step part ((before ++ step ∷ []) ++ steps) }) rest) counted
    ∙ ap (λ ss. read_on tags sizes (number + length (step ∷ steps)) (record { done = done; due = due.Step part ss }) rest) (append_assoc before (step ∷ []) steps)
  where
    here : Reading
    here = record { done = done; due = due.Step part before }

    line : Line
    line = line_of_step (length done_tags) (length before) step

    below : List ℕ
    below = steps_text (length done_tags) (length before + 1) steps ++ rest

    longer : length (before ++ step ∷ []) ≡ length before + 1
    longer = length-append before (step ∷ [])

    counted : number + 1 + length steps ≡ number + length (step ∷ steps)
    counted = omega arith

    said : (next_step done_tags before (body (line_of_step (length done_tags) (length before) step)) ≡ Ok step) × IsWellFormedLine (line_of_step (length done_tags) (length before) step)
    said = said_back done_tags before step earlier.0 (All-head (λ (s : Step). IsLitSet s.clause) step steps sets) exact.0 (omega arith)

-- ---- a block

-- what is read of a block: it ends with this block behind the ones before
pub record IsTaken (tags sizes : List ℕ) (number : ℕ) (reading : Reading) (text : List ℕ) (blocks : List Printed) : Type 0 where
  pub number_after : ℕ
  pub after : Reading
  pub between : IsBetween tags sizes after blocks
  pub read : (rest : List ℕ) → read_on tags sizes number reading (text ++ rest) ≡ read_on tags sizes number_after after rest

clean_word : (word : List ℕ) → list_all (λ b. not (b == 10)) word ≡ true → All (λ b. (b == 10) ≡ false) word
clean_word [] clean = All-nil (λ b. (b == 10) ≡ false)
clean_word (b ∷ word) clean = let parts = and_split (not (b == 10)) (list_all (λ b. not (b == 10)) word) clean in All-cons (λ b. (b == 10) ≡ false) b word (not_true (b == 10) parts.0) (clean_word word parts.1)
  where
    and_split : (a c : Bool) → (a && c) ≡ true → (a ≡ true) × (c ≡ true)
    and_split true c h = (refl, h)
    and_split false c h = cc

    not_true : (a : Bool) → not a ≡ true → a ≡ false
    not_true true h = cc
    not_true false h = refl

pub refuted_back : (tags sizes : List ℕ) (number inputs : ℕ) (reading : Reading) (blocks : List Printed) (part : List ℕ) (steps : List Step) (rest : List ℕ) → IsBetween tags sizes reading blocks → length blocks < length sizes → length sizes ≤ 4294967295
    → inputs ≡ slice_index sizes (length blocks) → inputs ≤ length tags → IsLitSet part → ArePrinted inputs steps (steps_text inputs 0 steps) → HaveExactTags (take inputs tags) [] steps
    → read_on tags sizes number reading ((106 ∷ 32 ∷ (decimal (length blocks + 1) ++ shown_text inputs (shown.Refuted part steps))) ++ rest) ≡ read_on tags sizes (number + 1 + 1 + length steps) (record { done = blocks; due = due.Step part steps }) rest
unfolding status_of
refuted_back tags sizes number inputs reading blocks part steps rest between has few size within set printed exact =
    ap (λ text. read_on tags sizes number reading ((106 ∷ 32 ∷ (decimal (length blocks + 1) ++ text)) ++ rest)) text_is
    ∙ job_back tags sizes number reading blocks (codes "UNSATISFIABLE") (102 ∷ 32 ∷ (flat_map lit_text part ++ 48 ∷ 10 ∷ steps_text inputs 0 steps)) rest status.Unsatisfiable between has few refl (clean_word (codes "UNSATISFIABLE") refl) refl
    ∙ lits_back tags sizes (number + 1) (record { done = blocks; due = due.Part }) (record { done = blocks; due = due.Step part [] }) 102 part rest
    (lits_line_clean 102 part refl set.each) (ap (option_map (λ lits. record { done = blocks; due = due.Step lits [] })) (part_line_back part set)) (steps_text inputs 0 steps)
    ∙ ap (λ n. read_on tags sizes (number + 1 + 1) (record { done = blocks; due = due.Step part [] }) (steps_text n 0 steps ++ rest)) (sym counted)
    ∙ steps_back tags sizes (take inputs tags) blocks part [] steps (number + 1 + 1) rest (ap (λ n. take n tags) size) (subst (λ n. CiteEarlier n 0 steps) (sym counted) printed.earlier) exact printed.sets (let small = printed.numbers in omega (arith, counted, small))
  where
    text_is : shown_text inputs (shown.Refuted part steps) ≡ 32 ∷ (codes "UNSATISFIABLE" ++ 10 ∷ 102 ∷ 32 ∷ (flat_map lit_text part ++ 48 ∷ 10 ∷ steps_text inputs 0 steps))
    text_is = simp append_assoc

    counted : length (take inputs tags) ≡ inputs
    counted = length-take-le inputs tags within

pub shown_back : (tags sizes : List ℕ) (number inputs : ℕ) (reading : Reading) (blocks : List Printed) (shown : Shown) → IsBetween tags sizes reading blocks → length blocks < length sizes → length sizes ≤ 4294967295
    → inputs ≡ slice_index sizes (length blocks) → inputs ≤ length tags → IsWellFormed inputs shown → HasExactTags (take inputs tags) shown
    → IsTaken tags sizes number reading (106 ∷ 32 ∷ (decimal (length blocks + 1) ++ shown_text inputs shown)) (with_block blocks shown)
unfolding status_of
shown_back tags sizes number inputs reading blocks (shown.Model values) between has few size within formed exact = record {
  number_after = number + 1 + 1;
  after = record { done = with_block blocks (shown.Model values); due = due.Block };
  between = at_block tags sizes (with_block blocks (shown.Model values));
  read = λ rest. job_back tags sizes number reading blocks (codes "SATISFIABLE") (118 ∷ 32 ∷ (flat_map lit_text (model_lits 1 values) ++ 48 ∷ 10 ∷ [])) rest status.Satisfiable between has few refl (clean_word (codes "SATISFIABLE") refl) refl
      ∙ lits_back tags sizes (number + 1) (record { done = blocks; due = due.Model }) (record { done = with_block blocks (shown.Model values); due = due.Block }) 118 (model_lits 1 values) rest
      (lits_line_clean 118 (model_lits 1 values) refl (model_lits_are 1 values (omega arith) (omega arith))) (ap (with_model blocks) (model_line_back values formed)) [];
}
shown_back tags sizes number inputs reading blocks (shown.Refuted part steps) between has few size within formed exact = record {
  number_after = number + 1 + 1 + length steps;
  after = record { done = blocks; due = due.Step part steps };
  between = at_step tags sizes blocks part steps;
  read = λ rest. refuted_back tags sizes number inputs reading blocks part steps rest between has few size within formed.0 formed.1 exact;
}
shown_back tags sizes number inputs reading blocks shown.Unknown between has few size within formed exact = record {
  number_after = number + 1;
  after = record { done = with_block blocks shown.Unknown; due = due.Block };
  between = at_block tags sizes (with_block blocks shown.Unknown);
  read = λ rest. job_back tags sizes number reading blocks (codes "UNKNOWN") [] rest status.Unknown between has few refl (clean_word (codes "UNKNOWN") refl) refl;
}
shown_back tags sizes number inputs reading blocks shown.Cancelled between has few size within formed exact = record {
  number_after = number + 1;
  after = record { done = with_block blocks shown.Cancelled; due = due.Block };
  between = at_block tags sizes (with_block blocks shown.Cancelled);
  read = λ rest. job_back tags sizes number reading blocks (codes "CANCELLED") [] rest status.Cancelled between has few refl (clean_word (codes "CANCELLED") refl) refl;
}
shown_back tags sizes number inputs reading blocks shown.NoMemory between has few size within formed exact = record {
  number_after = number + 1;
  after = record { done = with_block blocks shown.NoMemory; due = due.Block };
  between = at_block tags sizes (with_block blocks shown.NoMemory);
  read = λ rest. job_back tags sizes number reading blocks (codes "NOMEMORY") [] rest status.NoMemory between has few refl (clean_word (codes "NOMEMORY") refl) refl;
}

-- ---- all blocks

pub blocks_back : (tags sizes : List ℕ) (number : ℕ) (reading : Reading) (before blocks : List Printed) (texts : List (List ℕ)) → IsBetween tags sizes reading before → length sizes ≤ 4294967295 → All (λ size. size ≤ length tags) sizes
    → AreWritten tags sizes (length before) blocks texts → read_on tags sizes number reading (flat_map (λ text. text) texts) ≡ Ok (before ++ blocks)
blocks_back tags sizes number reading before [] [] between few within written = ap (λ found. or_form number found (λ blocks. Ok blocks)) between.may_end ∙ ap Ok (sym (append-nil before))
blocks_back tags sizes number reading before [] (text ∷ texts) between few within written = absurd written
blocks_back tags sizes number reading before (printed ∷ blocks) [] between few within written = absurd written
blocks_back tags sizes number reading before (printed ∷ blocks) (text ∷ texts) between few within written =
    ap (λ t. read_on tags sizes number reading (t ++ flat_map (λ text. text) texts)) text_is
    ∙ taken.read (flat_map (λ text. text) texts)
    ∙ blocks_back tags sizes taken.number_after taken.after (before ++ printed ∷ []) blocks texts (subst (IsBetween tags sizes taken.after) block_is taken.between) few within
    (subst (λ n. AreWritten tags sizes n blocks texts) (sym (length-append before (printed ∷ []))) written.1)
    ∙ ap Ok (append_assoc before (printed ∷ []) blocks)
  where
    inputs : ℕ
    inputs = slice_index sizes (length before)

    text_is : text ≡ 106 ∷ 32 ∷ (decimal (length before + 1) ++ shown_text (slice_index sizes (length before)) printed.shown)
    text_is = written.0.block.written ∙ ap (λ job. 106 ∷ 32 ∷ (decimal job ++ shown_text (slice_index sizes (length before)) printed.shown)) written.0.job

    block_is : with_block before printed.shown ≡ before ++ printed ∷ []
    block_is = ap (λ (job : ℕ). one_behind job) (sym written.0.job)
      where
        one_behind : ℕ → List Printed
        one_behind job = before ++ record { job = job; shown = printed.shown } ∷ []

    taken : IsTaken tags sizes number reading (106 ∷ 32 ∷ (decimal (length before + 1) ++ shown_text (slice_index sizes (length before)) printed.shown)) (with_block before printed.shown)
    taken = shown_back tags sizes number (slice_index sizes (length before)) reading before printed.shown between written.0.has_size few refl (within (length before) 0 written.0.has_size) written.0.block.formed written.0.exact_tags

pub read_back : {V : Type 0} (items : V → List Printed) (tags sizes bytes : List ℕ) (r : Result V BlockFault) → length sizes ≤ 4294967295 → All (λ size. size ≤ length tags) sizes
    → MatchResult r (λ v. blocks_of_text tags sizes bytes ≡ Ok (items v)) (λ fault. (fault ≡ Memory) ⊎ (blocks_of_text tags sizes bytes ≡ Err fault))
    → (blocks : List Printed) (texts : List (List ℕ)) → AreWritten tags sizes 0 blocks texts → bytes ≡ flat_map (λ text. text) texts → MatchResult r (λ v. items v ≡ blocks) (λ fault. fault ≡ Memory)
read_back {V} items tags sizes bytes r few within exact blocks texts written is = by_result r exact
  where
    whole : blocks_of_text tags sizes bytes ≡ Ok blocks
    whole = ap (blocks_of_text tags sizes) is ∙ blocks_back tags sizes 1 (record { done = []; due = due.Block }) [] blocks texts (at_block tags sizes []) few within written

    no_fault : (fault : BlockFault) → (fault ≡ Memory) ⊎ (blocks_of_text tags sizes bytes ≡ Err fault) → fault ≡ Memory
    no_fault fault (inl memory) = memory
    no_fault fault (inr other) = let never : Ok blocks ≡ Err fault = sym whole ∙ other in cc

    by_result : (r : Result V BlockFault) → MatchResult r (λ v. blocks_of_text tags sizes bytes ≡ Ok (items v)) (λ fault. (fault ≡ Memory) ⊎ (blocks_of_text tags sizes bytes ≡ Err fault)) → MatchResult r (λ v. items v ≡ blocks) (λ fault. fault ≡ Memory)
    by_result (Ok v) same = let equal : Ok blocks ≡ Ok (items v) = sym whole ∙ same in cc
    by_result (Err fault) other = no_fault fault other
