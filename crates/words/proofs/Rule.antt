-- What the values ask for, and the one rule on them.
use Rattle.std.proofs.Common.{◌≡◌, ◌⊎◌, ◌∙◌, ◌&&◌, ap, ℕ, Bool, true, false, not, List, [], ◌∷◌}
use Rattle.std.proofs.Common.{Option, Some, None, is_some, refl, sym, inl, inr, arith}
use Rattle.std.specs.Prelude.{◌↔◌, Err, IfErr, IfOk, IsErrAnd, Ok, Result, option_map, unwrap_or}
use Rattle.std.specs.Prelude.{if◌then◌else◌}
use Rattle.std.proofs.lemmas.Bool.{ne_eqb}
use Rattle.clap.specs.Kinds.{HasKind, IsAmong, Kinds}
use Rattle.clap.specs.Values.{kind_of}
use Rattle.clap.specs.declared.error.Error.{Error}
use Rattle.clap.specs.declared.error.kind.ErrorKind.TheVariants as kinds
use Rattle.clap.specs.Walk.{Row, is_empty}
use Rattle.clap.specs.declared.error.kind.ErrorKind.{ErrorKind}
use Rattle.words.specs.Accepted.{Asked, OfSum, OfText, asked, asked_in, input_in, input_of}
use Rattle.words.specs.Accepted.{keeps_rule, speaks_of_jobs}
use Rattle.words.specs.Given.{Tells, is_on_jobs}
use Rattle.words.specs.declared.command.Command.{Command}
use Rattle.words.specs.declared.command.Work.{Work}
use Rattle.words.specs.declared.command.WordsFault.{WordsFault}
use Rattle.words.specs.declared.command.WordsFault.TheVariants as fault_kinds
use Rattle.words.specs.declared.given.Given.{Given}

some_map : {X Y : Type 0} (f : X → Y) (o : Option X) → is_some (option_map f o) ≡ is_some o
some_map f None = refl
some_map f (Some x) = refl

jobs_are : (rows : List Row) (given : Given) → Tells rows given →
    speaks_of_jobs rows ≡ is_on_jobs given
jobs_are rows given t = rw (
  ← t.file,
  some_map (λ name. name.now) given.file,
  ← t.first,
  ← t.trace,
  ← t.conflicts,
  ← t.attempts,
) refl

-- the rule by the values
rule_is : (rows : List Row) (given : Given) → Tells rows given →
    keeps_rule rows ≡ not (is_some given.sum && is_on_jobs given)
rule_is rows given t = rw (← t.sum, jobs_are rows given t) refl

no_and : (a : Bool) → (a && false) ≡ false
no_and true = refl
no_and false = refl

pub is_kept : (rows : List Row) (given : Given) → Tells rows given →
    (is_some given.sum ≡ false) ⊎ (is_on_jobs given ≡ false)
    → keeps_rule rows ≡ true
is_kept rows given t (inl none) = rule_is rows given t ∙ rw none refl
is_kept rows given t (inr none) = rule_is rows given t ∙ rw (none, no_and (is_some given.sum)) refl

pub is_broken : (rows : List Row) (given : Given) → Tells rows given → is_some given.sum ≡ true →
    is_on_jobs given ≡ true
    → keeps_rule rows ≡ false
is_broken rows given t sum jobs = rule_is rows given t ∙ rw (sum, jobs) refl

input_is : (rows : List Row) (given : Given) (work : Work) → Tells rows given
    → ((number : ℕ) → given.sum ≡ Some number → input_of work ≡ OfSum number)
    → (given.sum ≡ None → input_of work ≡ OfText (option_map (λ name. name.now) given.file))
    → input_of work ≡ input_in rows
input_is rows given work t of_sum of_text = go given.sum refl
  where
    go : (o : Option ℕ) → given.sum ≡ o → input_of work ≡ input_in rows
    go None e = of_text e ∙ rw (← t.sum, e, t.file) refl
    go (Some number) e = of_sum number e ∙ rw (← t.sum, e) refl

pub asks : (rows : List Row) (given : Given) (work : Work) → Tells rows given
    → ((number : ℕ) → given.sum ≡ Some number → input_of work ≡ OfSum number)
    → (given.sum ≡ None → input_of work ≡ OfText (option_map (λ name. name.now) given.file))
    → asked (record {
      workers = unwrap_or given.workers 4;
      conflicts = unwrap_or given.conflicts 18446744073709551615;
      attempts = unwrap_or given.attempts 1;
      first = given.first;
      trace = given.trace;
      work = work;
    }) ≡ asked_in rows
asks rows given work t of_sum of_text =
    rw (
      t.workers,
      t.conflicts,
      t.attempts,
      t.first,
      t.trace,
      input_is rows given work t of_sum
          of_text,
    ) refl

-- ---- accepted, by the faults of the parse and the rule

abbrev chosen : Kinds → List Row → Option Asked
chosen faults rows = if is_empty faults && keeps_rule rows then Some (asked_in rows) else None

pub accepted_by : (faults : Kinds) (rows : List Row) → faults ≡ [] → keeps_rule rows ≡ true →
    chosen faults rows ≡ Some (asked_in rows)
accepted_by faults rows none kept = rw (none, kept) refl

pub refused_by_rule : (faults : Kinds) (rows : List Row) → keeps_rule rows ≡ false →
    chosen faults rows ≡ None
refused_by_rule faults rows broken = rw (broken, no_and (is_empty faults)) refl

not_empty : {X : Type 0} (x : X) (xs : List X) → is_empty (x ∷ xs) ≡ false
not_empty x xs = ne_eqb _ _ (λ e. omega (arith, e))

empty_is : (faults : Kinds) (rows : List Row) → is_empty faults ≡ false → chosen faults rows ≡ None
empty_is faults rows some = rw some refl

pub refused_by_parse : (k : ErrorKind) (faults : Kinds) (rows : List Row) → IsAmong k faults →
    chosen faults rows ≡ None
refused_by_parse k [] rows among = absurd among
refused_by_parse k (x ∷ xs) rows among = empty_is (x ∷ xs) rows (not_empty x xs)

-- an error of the parse
pub refused_at : (r : Result Command WordsFault) (e : Error) (faults : Kinds) (rows : List Row)
    → IsErrAnd r (λ fault. (fault ≡ fault_kinds.Memory) ↔ (kind_of e ≡ kinds.OutOfMemory)) →
    HasKind faults e
    → IfErr r (λ fault. fault ≡ fault_kinds.Refused → chosen faults rows ≡ None)
refused_at (Ok command) e faults rows from has = absurd from
refused_at (Err fault) e faults rows from (inl memory) = λ is.
    let bad : fault_kinds.Refused ≡ fault_kinds.Memory = sym is ∙ from.1 memory in
    cc
refused_at (Err fault) e faults rows from (inr among) = λ is. refused_by_parse (kind_of e) faults
    rows among

-- the end, behind the parse
pub accepted_at : (r : Result Command WordsFault) (faults : Kinds) (rows : List Row) → faults ≡ []
    → IfOk r (λ command. (keeps_rule rows ≡ true) × (asked command ≡ asked_in rows))
    → IfOk r (λ command. chosen faults rows ≡ Some (asked command))
accepted_at (Ok command) faults rows none h = accepted_by faults rows none h.0 ∙ ap Some (sym h.1)
accepted_at (Err fault) faults rows none h = tt

pub refused_at_end : (r : Result Command WordsFault) (faults : Kinds) (rows : List Row)
    → IfErr r (λ fault. fault ≡ fault_kinds.Refused → keeps_rule rows ≡ false)
    → IfErr r (λ fault. fault ≡ fault_kinds.Refused → chosen faults rows ≡ None)
refused_at_end (Ok command) faults rows h = tt
refused_at_end (Err fault) faults rows h = λ is. refused_by_rule faults rows (h is)
