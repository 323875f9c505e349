-- Each attempt leaves less to do.
use Rattle.std.proofs.Common.{◌≡◌, ◌∙◌, ◌⊎◌, inl, inr, ℕ, zero, suc, ◌+◌, ◌-◌, ◌<◌, ◌≤◌, Bool, true, false, cond, Option, Some, None, List, [], ◌∷◌, ◌++◌, length, refl, ap, sym, subst, arith}
use Rattle.std.specs.Prelude.{IsSome, is_some, if◌then◌else◌, nat_le, filter_map, count_by}
use Rattle.std.proofs.lemmas.Bool.Decides.{nat_tests}
use Rattle.std.proofs.lemmas.List.Elements.{filter_map-append}
use Rattle.std.proofs.lemmas.List.Sums.{sum_by-cons, sum_by-append}
use Rattle.trace_core.specs.Known.{item_at}
use Rattle.entry_core.specs.declared.answers.Verdict.{Verdict}
use Rattle.entry_core.specs.declared.entries.Entry.{Entry}
use Rattle.entry_core.specs.declared.entries.Event.TheVariants as event
use Rattle.entry_core.specs.declared.rules.Rules.{Rules}
use Rattle.entry_core.specs.Journal.{segment_of, jobs}
use Rattle.entry_core.specs.Attempts.{Attempt, begun_by, attempts, is_at, is_attempt_at, spent_by, spent_attempts}
use Rattle.entry_core.specs.Settled.{settled}
use Rattle.entry_core.specs.Schedule.{IsWaiting}
use Rattle.trace_core.proofs.Items.{item_at-kept as item_kept}
use Rattle.board_core.specs.State.{State, entered}
use Rattle.board_core.specs.Replies.{IsBegun}
use Rattle.board_core.proofs.Verdicts.{entry_by}
use Rattle.board_core.proofs.Changes.{same_segments}
use Rattle.board_core.proofs.Looked.{item_place}
use Rattle.worker_loop.specs.Attempts.{HasEnded, attempts_left, left_up_to, left_on}
use Rattle.worker_loop.proofs.Events.{ends_one}
use Rattle.worker_loop.proofs.Ended.{still_settled}

-- a test that passes more counts no less
count_more : {X : Type 0} (p q : X → Bool) (xs : List X) → ((x : X) → p x ≡ true → q x ≡ true) → count_by p xs ≤ count_by q xs
count_more p q [] passes = omega arith
count_more p q (x ∷ xs) passes =
    let first = sum_by-cons (λ y. cond (p y) 1 0) x xs in
    let second = sum_by-cons (λ y. cond (q y) 1 0) x xs in
    let rest = count_more p q xs passes in
    counted (p x) (q x) _ _ _ _ (passes x) first second rest
  where
    counted : (b c : Bool) (all all' others others' : ℕ) → (b ≡ true → c ≡ true) → all ≡ cond b 1 0 + others → all' ≡ cond c 1 0 + others' → others ≤ others' → all ≤ all'
    counted true true all all' others others' passes e f le = omega arith
    counted true false all all' others others' passes e f le = absurd (let no = passes refl in cc)
    counted false true all all' others others' passes e f le = omega arith
    counted false false all all' others others' passes e f le = omega arith

-- an attempt at the job stays one
at_longer : (begun more : List Attempt) (job number : ℕ) → is_at job (item_at begun number) ≡ true → is_at job (item_at (begun ++ more) number) ≡ true
at_longer begun more job number is = by_item (item_at begun number) refl is
  where
    by_item : (o : Option Attempt) → item_at begun number ≡ o → is_at job o ≡ true → is_at job (item_at (begun ++ more) number) ≡ true
    by_item None at h = absurd (cc)
    by_item (Some found) at h = let place = item_place begun number found at in ap (is_at job) (item_kept begun more number place.1 ∙ at) ∙ h

-- spent attempts grow
pub spent_grow : (journal : List Entry) (entry : Entry) (job : ℕ) → spent_attempts journal job ≤ spent_attempts (journal ++ entry ∷ []) job
spent_grow journal entry job =
    let spents : List Entry → List ℕ = λ entries. filter_map (λ (e : Entry). spent_by e.event) entries in
    let begins : List Entry → List Attempt = λ entries. filter_map (λ (e : Entry). begun_by e.caller e.event) entries in
    let longer : ℕ → Bool = is_attempt_at (journal ++ entry ∷ []) job in
    let split : spent_attempts (journal ++ entry ∷ []) job ≡ count_by longer (spents journal) + count_by longer (spents (entry ∷ [])) =
    ap (count_by longer) (filter_map-append (λ (e : Entry). spent_by e.event) journal (entry ∷ []))
    ∙ sum_by-append (λ n. cond (longer n) 1 0) (spents journal) (spents (entry ∷ [])) in
    let le = count_more (is_attempt_at journal job) longer (spents journal)
    (λ n is. ap (λ all. is_at job (item_at all n)) (filter_map-append (λ (e : Entry). begun_by e.caller e.event) journal (entry ∷ [])) ∙ at_longer (attempts journal) (begins (entry ∷ [])) job n is) in
    omega arith

less_left : (o o' : Option Verdict) (most spent spent' : ℕ) → (IsSome o → IsSome o') → spent ≤ spent'
    → (if is_some o' then 0 else (most - spent')) ≤ (if is_some o then 0 else (most - spent))
less_left None None most spent spent' stays le = omega arith
less_left None (Some given) most spent spent' stays le = omega arith
less_left (Some found) None most spent spent' stays le = absurd (let no = stays refl in cc)
less_left (Some found) (Some given) most spent spent' stays le = omega arith

-- an entry more leaves no more to do at any job
left_no_more : (rules : Rules) (journal : List Entry) (entry : Entry) (job : ℕ) → attempts_left rules (journal ++ entry ∷ []) job ≤ attempts_left rules journal job
left_no_more rules journal entry job =
    less_left (settled rules journal job) (settled rules (journal ++ entry ∷ []) job) rules.attempts (spent_attempts journal job) (spent_attempts (journal ++ entry ∷ []) job)
    (still_settled rules journal entry job) (spent_grow journal entry job)

-- sums over the jobs
sum_no_more : (rules : Rules) (journal longer : List Entry) (most : ℕ) → ((job : ℕ) → attempts_left rules longer job ≤ attempts_left rules journal job) → left_up_to rules longer most ≤ left_up_to rules journal most
sum_no_more rules journal longer zero each = omega arith
sum_no_more rules journal longer (suc most) each =
    let last = each (suc most) in
    let rest = sum_no_more rules journal longer most each in
    omega arith

sum_less : (rules : Rules) (journal longer : List Entry) (most one : ℕ) → 1 ≤ one → one ≤ most → ((job : ℕ) → attempts_left rules longer job ≤ attempts_left rules journal job)
    → attempts_left rules longer one < attempts_left rules journal one → left_up_to rules longer most < left_up_to rules journal most
sum_less rules journal longer zero one from to each lt = absurd (omega arith)
sum_less rules journal longer (suc most) one from to each lt =
    by_place (λ le. sum_less rules journal longer most one from le each lt) (nat_le one most) refl
  where
    by_place : (one ≤ most → left_up_to rules longer most < left_up_to rules journal most) → (b : Bool) → nat_le one most ≡ b → left_up_to rules longer (suc most) < left_up_to rules journal (suc most)
    by_place recur true is =
        let earlier = recur (grind (arith, nat_tests)) in
        let last = each (suc most) in
        omega arith
    by_place recur false is =
        let here : one ≡ suc most = grind (arith, nat_tests) in
        let last = subst (λ n. attempts_left rules longer n < attempts_left rules journal n) here lt in
        let rest = sum_no_more rules journal longer most each in
        omega arith

-- The job that was taken has less to do.
less_here : (o o' : Option Verdict) (most spent mid spent' : ℕ) → o ≡ None → spent < most → spent ≤ mid → IsSome o' ⊎ (spent' ≡ suc mid)
    → (if is_some o' then 0 else (most - spent')) < (if is_some o then 0 else (most - spent))
less_here (Some found) o' most spent mid spent' none lt le nearer = absurd (cc)
less_here None (Some given) most spent mid spent' none lt le nearer = omega arith
less_here None None most spent mid spent' none lt le (inl is) = absurd (cc)
less_here None None most spent mid spent' none lt le (inr one) = omega arith

fewer : (rules : Rules) (journal : List Entry) (first last : Entry) (job : ℕ) → IsWaiting rules journal job → segment_of first.event ≡ None → segment_of last.event ≡ None
    → IsSome (settled rules ((journal ++ first ∷ []) ++ last ∷ []) job) ⊎ (spent_attempts ((journal ++ first ∷ []) ++ last ∷ []) job ≡ suc (spent_attempts (journal ++ first ∷ []) job))
    → left_up_to rules ((journal ++ first ∷ []) ++ last ∷ []) (jobs ((journal ++ first ∷ []) ++ last ∷ [])) < left_up_to rules journal (jobs journal)
fewer rules journal first last job waiting no_job no_more nearer =
    let mid : List Entry = journal ++ first ∷ [] in
    let longer : List Entry = mid ++ last ∷ [] in
    let same : jobs longer ≡ jobs journal = ap length (same_segments mid last no_more) ∙ ap length (same_segments journal first no_job) in
    let each : (other : ℕ) → attempts_left rules longer other ≤ attempts_left rules journal other = λ other.
    (let front = left_no_more rules journal first other in let back = left_no_more rules mid last other in omega arith) in
    let few = waiting.allowed in
    let own : attempts_left rules longer job < attempts_left rules journal job =
    less_here (settled rules journal job) (settled rules longer job) rules.attempts (spent_attempts journal job) (spent_attempts mid job) (spent_attempts longer job)
    waiting.unsettled (omega arith) (spent_grow journal first job) nearer in
    subst (λ n. left_up_to rules longer n < left_up_to rules journal (jobs journal)) (sym same)
    (sum_less rules journal longer (jobs journal) job waiting.from_one waiting.added each own)

pub left_fewer : (old mid new : State) (caller job number : ℕ) → IsBegun old mid caller job number → HasEnded mid new caller number job → left_on new < left_on old
left_fewer old mid new caller job number begun end =
    subst (λ (b : State). left_on b < left_on old) (sym is)
    (fewer old.rules old.journal (entry_by caller (event.Began job number)) (entry_by caller end.happened) job begun.next.waiting refl (ends_one caller number end.happened end.ends).adds (nearer end.nearer))
  where
    is : new ≡ entered (entered old caller (event.Began job number)) caller end.happened
    is = end.is ∙ ap (λ (b : State). entered b caller end.happened) begun.adds

    nearer : IsSome (settled new.rules new.journal job) ⊎ (spent_attempts new.journal job ≡ suc (spent_attempts mid.journal job))
        → IsSome (settled old.rules (entered (entered old caller (event.Began job number)) caller end.happened).journal job)
        ⊎ (spent_attempts (entered (entered old caller (event.Began job number)) caller end.happened).journal job ≡ suc (spent_attempts (entered old caller (event.Began job number)).journal job))
    nearer (inl given) = inl (subst (λ (b : State). IsSome (settled b.rules b.journal job)) is given)
    nearer (inr one) = inr (ap (λ (b : State). spent_attempts b.journal job) (sym is) ∙ one ∙ ap (λ (b : State). suc (spent_attempts b.journal job)) begun.adds)
