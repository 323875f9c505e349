-- What a board keeps of models, after one more entry.
use Rattle.std.proofs.Common.{◌≡◌, ◌∙◌, ◌≢◌, ◌⊎◌, inl, inr, ℕ, suc, ◌<◌, ◌≤◌, Bool, true, false, cond, Option, Some, None, List, [], ◌∷◌, ◌++◌, refl, ap, sym, subst, arith, ◌&&◌}
use Rattle.std.specs.Prelude.{find, option_map, nat_le, nat_lt, IsSome, Contains}
use Rattle.std.specs.List.{cons_option}
use Rattle.std.specs.Option.{option_or}
use Rattle.std.specs.Arc.{arc_value}
use Rattle.std.proofs.lemmas.Bool.Decides.{nat_tests}
use Rattle.std.proofs.lemmas.List.{append-nil}
use Rattle.std.proofs.lemmas.List.Folds.{find-append}
use Rattle.sat_base.proofs.Members.{Contains-here, Contains-cases}
use Rattle.std.proofs.lemmas.List.Elements.{Contains-append_left, Contains-append_right}
use Rattle.entry_core.specs.declared.answers.Verdict.TheVariants as verdict
use Rattle.entry_core.specs.declared.entries.Entry.{Entry}
use Rattle.entry_core.specs.declared.rules.Rules.{Rules}
use Rattle.entry_core.specs.Journal.{jobs}
use Rattle.entry_core.specs.Attempts.{attempt}
use Rattle.entry_core.specs.Settled.{Decision, is_model, job_of, satisfied}
use Rattle.board_core.specs.declared.index.Models.{Models}
use Rattle.board_core.specs.Overtaking.{IsModelsOf, next_ending, last_of, models_after}
use Rattle.board_core.specs.Index.{IsEndingOf}
use Rattle.board_core.proofs.Readings.{over_of, IsFree}
use Rattle.board_core.proofs.Verdicts.{models_on}

-- no model more
pub models_stay : (rules : Rules) (journal longer : List Entry) (models : Option Models) → satisfied longer ≡ satisfied journal → jobs journal ≤ jobs longer → IsModelsOf rules journal models → IsModelsOf rules longer models
models_stay rules journal longer None same le is = λ rule. same ∙ is rule
models_stay rules journal longer (Some models) same le is = record {
  rule = is.rule;
  later = is.later;
  begins = same ∙ is.begins;
  added = let first = is.added in omega arith;
  last_added = let last = is.last_added in omega arith;
  has_last = subst (λ all. Contains all models.last) (sym same) is.has_last;
}

-- models that the board doesn't keep, since no job is cancelled by them
pub models_pass : (rules : Rules) (journal longer : List Entry) (models : Option Models) (more : List ℕ) → satisfied longer ≡ satisfied journal ++ more → (rules.first ≡ true → more ≡ []) → jobs journal ≤ jobs longer
    → IsModelsOf rules journal models → IsModelsOf rules longer models
models_pass rules journal longer None more same none le is = λ rule. same ∙ ap (λ xs. xs ++ more) (is rule) ∙ none rule
models_pass rules journal longer (Some models) more same none le is = record {
  rule = is.rule;
  later = is.later ++ more;
  begins = same ∙ ap (λ xs. xs ++ more) is.begins;
  added = let first = is.added in omega arith;
  last_added = let last = is.last_added in omega arith;
  has_last = subst (λ all. Contains all models.last) (sym same) (Contains-append_left (satisfied journal) more models.last is.has_last);
}

-- a model that cancels
pub models_more : (rules : Rules) (journal longer : List Entry) (models : Option Models) (by : ℕ) → satisfied longer ≡ satisfied journal ++ by ∷ [] → rules.first ≡ true → by ≤ jobs longer → jobs journal ≤ jobs longer
    → IsModelsOf rules journal models → IsModelsOf rules longer (Some (models_after models by))
models_more rules journal longer None by same rule there le is =
    let one : satisfied longer ≡ by ∷ [] = same ∙ ap (λ xs. xs ++ by ∷ []) (is rule) in
    record {
      rule = rule;
      later = [];
      begins = one;
      added = there;
      last_added = there;
      has_last = subst (λ all. Contains all by) (sym one) (Contains-here by []);
    }
models_more rules journal longer (Some models) by same rule there le is = record {
  rule = rule;
  later = is.later ++ by ∷ [];
  begins = same ∙ ap (λ xs. xs ++ by ∷ []) is.begins;
  added = let first = is.added in omega arith;
  last_added = there;
  has_last = subst (λ all. Contains all by) (sym same) (Contains-append_right (satisfied journal) (by ∷ []) by (Contains-here by []));
}

-- a job that is there is overtaken by whoever is found before it
over_there : (rule : Bool) (count : ℕ) (models : List ℕ) (job : ℕ) → rule ≡ true → job ≤ count → over_of rule count models job ≡ option_map (λ earlier. verdict.Cancelled earlier) (find (λ earlier. nat_lt earlier job) models)
over_there rule count models job is le =
    let there : nat_le job count ≡ true = grind (arith, nat_tests) in
    ap (λ b. cond (b && nat_le job count) (option_map (λ earlier. verdict.Cancelled earlier) (find (λ earlier. nat_lt earlier job) models)) None) is
    ∙ ap (λ b. cond b (option_map (λ earlier. verdict.Cancelled earlier) (find (λ earlier. nat_lt earlier job) models)) None) there

over_beyond : (rule : Bool) (count : ℕ) (models : List ℕ) (job : ℕ) → count < job → over_of rule count models job ≡ None
over_beyond true count models job lt =
    let beyond : nat_le job count ≡ false = grind (arith, nat_tests) in
    ap (λ b. cond b (option_map (λ earlier. verdict.Cancelled earlier) (find (λ earlier. nat_lt earlier job) models)) None) beyond
over_beyond false count models job lt = refl

over_no_rule : (rule : Bool) (count : ℕ) (models : List ℕ) (job : ℕ) → rule ≡ false → over_of rule count models job ≡ None
over_no_rule true count models job is = absurd (cc)
over_no_rule false count models job is = refl

-- one job more overtakes none but that job
pub over_more : (rule : Bool) (count : ℕ) (models : List ℕ) (job : ℕ) → job ≢ suc count → over_of rule (suc count) models job ≡ over_of rule count models job
over_more rule count models job differs =
    ap (λ b. cond (rule && b) (option_map (λ earlier. verdict.Cancelled earlier) (find (λ earlier. nat_lt earlier job) models)) None) (same_test job count differs)
  where
    same_test : (job count : ℕ) → job ≢ suc count → nat_le job (suc count) ≡ nat_le job count
    same_test job count differs = by_test (nat_le job count) (nat_le job (suc count)) refl refl
      where
        by_test : (b c : Bool) → nat_le job count ≡ b → nat_le job (suc count) ≡ c → c ≡ b
        by_test true true p q = refl
        by_test false false p q = refl
        by_test true false p q = absurd (grind (arith, nat_tests))
        by_test false true p q = absurd (differs (grind (arith, nat_tests)))

-- how the next job is settled
pub next_over : (rules : Rules) (journal longer : List Entry) (models : Option Models) → IsModelsOf rules journal models → IsEndingOf longer (next_ending models) (over_of rules.first (suc (jobs journal)) (satisfied journal) (suc (jobs journal)))
next_over rules journal longer None is = by_rule rules.first refl
  where
    by_rule : (b : Bool) → rules.first ≡ b → over_of rules.first (suc (jobs journal)) (satisfied journal) (suc (jobs journal)) ≡ None
    by_rule false rule = over_no_rule rules.first (suc (jobs journal)) (satisfied journal) (suc (jobs journal)) rule
    by_rule true rule =
        over_there rules.first (suc (jobs journal)) (satisfied journal) (suc (jobs journal)) rule (omega arith)
        ∙ ap (λ all. option_map (λ earlier. verdict.Cancelled earlier) (find (λ earlier. nat_lt earlier (suc (jobs journal))) all)) (is rule)
next_over rules journal longer (Some models) is =
    let first = is.added in
    let before : nat_lt models.first (suc (jobs journal)) ≡ true = grind (arith, nat_tests) in
    let gives : over_of rules.first (suc (jobs journal)) (satisfied journal) (suc (jobs journal)) ≡ Some (verdict.Cancelled models.first) =
    over_there rules.first (suc (jobs journal)) (satisfied journal) (suc (jobs journal)) is.rule (omega arith)
    ∙ ap (λ all. option_map (λ earlier. verdict.Cancelled earlier) (find (λ earlier. nat_lt earlier (suc (jobs journal))) all)) is.begins
    ∙ ap (λ b. option_map (λ earlier. verdict.Cancelled earlier) (cond b (Some models.first) (find (λ earlier. nat_lt earlier (suc (jobs journal))) is.later))) before in
    subst (λ given. IsSome given × (Some (verdict.Cancelled models.first) ≡ given)) (sym gives) (refl, refl)

-- where a member passes the test, one is found
finds : (test : ℕ → Bool) (items : List ℕ) (item : ℕ) → Contains items item → test item ≡ true → find test items ≢ None
finds test [] item has passes none = absurd (let at = has.1 in omega arith)
finds test (first ∷ rest) item has passes none = by_place (Contains-cases first item rest has) (test first) refl (λ later h. finds test rest item later passes h)
  where
    by_place : (first ≡ item) ⊎ Contains rest item → (b : Bool) → test first ≡ b → (Contains rest item → find test rest ≡ None → ⊥) → ⊥
    by_place place true is recur = absurd (let found = ap (λ c. cond c (Some first) (find test rest)) (sym is) ∙ none in cc)
    by_place (inl same) false is recur = absurd (let fails = sym (ap test same) ∙ is in cc)
    by_place (inr later) false is recur = recur later (ap (λ c. cond c (Some first) (find test rest)) (sym is) ∙ none)

none_found : (found : Option ℕ) → option_map (λ (earlier : ℕ). verdict.Cancelled earlier) found ≡ None → found ≡ None
none_found None is = refl
none_found (Some earlier) is = absurd (cc)

-- of a job that isn't settled, no model of a smaller job was found
pub none_before : (rules : Rules) (journal : List Entry) (job : ℕ) → rules.first ≡ true → job ≤ jobs journal → IsFree rules journal job → find (λ earlier. nat_lt earlier job) (satisfied journal) ≡ None
none_before rules journal job rule le free =
    none_found (find (λ earlier. nat_lt earlier job) (satisfied journal)) (sym (over_there rules.first (jobs journal) (satisfied journal) job rule le) ∙ free.not_overtaken)

-- and so it isn't after the last model's job
pub not_after_last : (rules : Rules) (journal : List Entry) (models : Option Models) (job : ℕ) → IsModelsOf rules journal models → job ≤ jobs journal → IsFree rules journal job → job ≤ last_of models (jobs journal)
not_after_last rules journal None job is le free = le
not_after_last rules journal (Some models) job is le free = by_test (nat_lt models.last job) refl
  where
    by_test : (b : Bool) → nat_lt models.last job ≡ b → job ≤ models.last
    by_test false h = grind (arith, nat_tests)
    by_test true h = absurd (finds (λ earlier. nat_lt earlier job) (satisfied journal) models.last is.has_last h (none_before rules journal job is.rule le free))

-- the verdict of a job that isn't settled, after a model of a job
pub over_after : (rules : Rules) (journal : List Entry) (by job : ℕ) → rules.first ≡ true → by < job → job ≤ jobs journal → IsFree rules journal job
    → over_of rules.first (jobs journal) (satisfied journal ++ by ∷ []) job ≡ Some (verdict.Cancelled by)
over_after rules journal by job rule lt le free =
    let before : nat_lt by job ≡ true = grind (arith, nat_tests) in
    over_there rules.first (jobs journal) (satisfied journal ++ by ∷ []) job rule le
    ∙ ap (λ o. option_map (λ earlier. verdict.Cancelled earlier) o)
    (find-append (λ earlier. nat_lt earlier job) (satisfied journal) (by ∷ []) ∙ ap (λ o. option_or o (find (λ earlier. nat_lt earlier job) (by ∷ []))) (none_before rules journal job rule le free)
    ∙ ap (λ b. option_or None (cond b (Some by) None)) before)

pub over_before : (rules : Rules) (journal : List Entry) (by job : ℕ) → rules.first ≡ true → job ≤ by → IsFree rules journal job
    → over_of rules.first (jobs journal) (satisfied journal ++ by ∷ []) job ≡ None
over_before rules journal by job rule le free = by_place (nat_le job (jobs journal)) refl
  where
    by_place : (b : Bool) → nat_le job (jobs journal) ≡ b → over_of rules.first (jobs journal) (satisfied journal ++ by ∷ []) job ≡ None
    by_place false h = over_beyond rules.first (jobs journal) (satisfied journal ++ by ∷ []) job (grind (arith, nat_tests))
    by_place true h =
        let there : job ≤ jobs journal = grind (arith, nat_tests) in
        let not_before : nat_lt by job ≡ false = grind (arith, nat_tests) in
        over_there rules.first (jobs journal) (satisfied journal ++ by ∷ []) job rule there
        ∙ ap (λ o. option_map (λ earlier. verdict.Cancelled earlier) o)
        (find-append (λ earlier. nat_lt earlier job) (satisfied journal) (by ∷ []) ∙ ap (λ o. option_or o (find (λ earlier. nat_lt earlier job) (by ∷ []))) (none_before rules journal job rule there free)
        ∙ ap (λ b. option_or None (cond b (Some by) None)) not_before)

pub over_past : (rules : Rules) (journal : List Entry) (models : List ℕ) (job : ℕ) → jobs journal < job → over_of rules.first (jobs journal) models job ≡ None
over_past rules journal models job lt = over_beyond rules.first (jobs journal) models job lt

pub no_model : (journal : List Entry) (decision : Decision) → is_model (arc_value decision.given) ≡ false → models_on journal decision ≡ satisfied journal
no_model journal decision model =
    ap (λ b. satisfied journal ++ cons_option (cond b (job_of (attempt journal decision.number)) None) []) model ∙ append-nil (satisfied journal)

-- an answer that cancels nobody
pub cancels_nobody : (rules : Rules) (journal : List Entry) (decision : Decision) (job : ℕ) → (rules.first && is_model (arc_value decision.given)) ≡ false → IsFree rules journal job
    → over_of rules.first (jobs journal) (models_on journal decision) job ≡ None
cancels_nobody rules journal decision job is free = by_rule rules.first refl (is_model (arc_value decision.given)) refl
  where
    by_rule : (b : Bool) → rules.first ≡ b → (c : Bool) → is_model (arc_value decision.given) ≡ c → over_of rules.first (jobs journal) (models_on journal decision) job ≡ None
    by_rule false rule c model = over_no_rule rules.first (jobs journal) (models_on journal decision) job rule
    by_rule true rule true model = absurd (let e = sym (ap (λ b. b && is_model (arc_value decision.given)) rule) ∙ is in cc)
    by_rule true rule false model = ap (λ all. over_of rules.first (jobs journal) all job) (no_model journal decision model) ∙ free.not_overtaken

-- the last model's job is there
pub last_there : (rules : Rules) (journal : List Entry) (models : Option Models) → IsModelsOf rules journal models → last_of models (jobs journal) ≤ jobs journal
last_there rules journal None is = let e : jobs journal ≤ jobs journal = omega arith in e
last_there rules journal (Some models) is = is.last_added
