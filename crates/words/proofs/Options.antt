-- What the command line is told of its options, and what a parse by it gives.
use Rattle.std.proofs.Common.{◌≡◌, ◌∙◌, ap, ℕ, Bool, true, false, List, [], ◌∷◌, map, Option, Some}
use Rattle.std.proofs.Common.{None, refl, sym, subst, inl, inr, arith, slice_index, codes}
use Rattle.std.proofs.Common.{true≢false}
use Rattle.std.specs.Prelude.{Result, pos, unwrap_or}
use Rattle.std.specs.Option.{option_map_or}
use Rattle.std.specs.List.{All, slice_index_or}
use Rattle.std.specs.Str.{bytes_eq}
use Rattle.std.specs.Str.Parse.{ParsesBool, ParsesUnsigned}
use Rattle.std.proofs.lemmas.Slice.Eq.{bytes_eq-Decides}
use Rattle.std.proofs.lemmas.List.Elements.{All-cons, All-drop, All-get_or, All-nil}
use Rattle.clap.specs.Built.{IsPlain, IsPlainArg}
use Rattle.clap.specs.Facts.{args_of}
use Rattle.clap.specs.Matches.{ReadsOne, found_of, one_text}
use Rattle.clap.specs.Faults.{fault_of, is_simple_and_free}
use Rattle.clap.specs.Kinds.{HasKind}
use Rattle.clap.specs.Simple.{App, HasMatchesOf, app_of, matches_of}
use Rattle.clap.specs.declared.error.Error.{Error}
use Rattle.clap.specs.Walk.{Rule, Text, is_free_arg, is_simple_arg, one_of, rows_of, rule_of}
use Rattle.clap.specs.declared.builder.arg.Arg.{Arg}
use Rattle.clap.specs.declared.builder.command.Command.{Command}
use Rattle.clap.specs.declared.builder.command.Command.TheViews.{out-Command}
use Rattle.clap.specs.declared.builder.value_parser.ValueParser.{ValueParser}
use Rattle.clap.specs.declared.builder.value_parser.ValueParser.TheVariants as vp
use Rattle.clap.specs.declared.parser.matches.ArgMatches.{ArgMatches}
use Rattle.clap.proofs.SimpleLemmas.{is_false, is_nil, plain_fields}
use Rattle.clap.proofs.WalkLemmas.{both, one_text-rows}
use Rattle.words.specs.Accepted.{flag_at}
use Rattle.words.specs.Given.{IsParse}
use Rattle.words.specs.Parser.{app, file_rule, flag_rule, option_rule}
use Rattle.words.proofs.Numbers.{IsNumberOf, IsOwn, Passed, large_number, one_passed, small_number}

-- ---- the command

unmapped : {X Y : Type 0} (P : Y → Type 0) (f : X → Y) (xs : List X) → All P (map f xs) →
    All (λ x. P (f x)) xs
unmapped P f [] h = All-nil (λ x. P (f x))
unmapped P f (x ∷ xs) h =
    All-cons (λ y. P (f y)) x xs (All-get_or P (f x ∷ map f xs) 0 (f x) (omega arith) h)
    (unmapped P f xs (All-drop P 1 (f x ∷ map f xs) h))

rules_are : (c : Command) → app_of c ≡ app → map rule_of (args_of c) ≡ app.top.rules
rules_are c e = ap (λ a. a.top.rules) e

of_rules : (P : Rule → Type 0) (c : Command) → app_of c ≡ app → All P app.top.rules →
    All (λ a. P (rule_of a)) (args_of c)
of_rules P c e h = unmapped P rule_of (args_of c) (subst (All P) (sym (rules_are c e)) h)

plain_arg : (a : Arg) → is_simple_arg a ≡ true → is_free_arg a ≡ true → IsPlainArg a
plain_arg a simple free =
    let s = both _ _ simple in
    let g = both _ _ (both _ _ s.1).1 in
    let f = both _ _ free in
    let t = both _ _ f.1 in
    (is_false _ f.0, is_nil _ t.0, is_nil _ s.0, is_nil _ g.0)

abbrev IsPlainRule : Rule → Type 0
IsPlainRule r = (r.is_simple ≡ true) × (r.is_free ≡ true)

abbrev few : ValueParser
few = vp.Signed (pos 1) (pos 64)

abbrev many : ValueParser
many = vp.Unsigned 1 18446744073709551615

abbrev any : ValueParser
any = vp.Unsigned 0 18446744073709551615

-- what holds of each argument of the command line
module _ (P : Rule → Type 0) where
  last_three : P (flag_rule (codes "trace")) → P (option_rule (codes "sum") any) → P file_rule
      → All P (flag_rule (codes "trace") ∷ option_rule (codes "sum") any ∷ file_rule ∷ [])
  last_three trace sum file =
      All-cons P (flag_rule (codes "trace")) (option_rule (codes "sum") any ∷ file_rule ∷ []) trace
      (All-cons P (option_rule (codes "sum") any) (file_rule ∷ []) sum
      (All-cons P file_rule [] file (All-nil P)))

  each : P (option_rule (codes "workers") few) → P (option_rule (codes "conflicts") many) →
      P (option_rule (codes "attempts") few)
      → P (flag_rule (codes "first")) → P (flag_rule (codes "trace")) →
      P (option_rule (codes "sum") any)
      → P file_rule → All P app.top.rules
  each workers conflicts attempts first trace sum file =
      All-cons P (option_rule (codes "workers") few) (option_rule (codes "conflicts") many ∷
      option_rule (codes "attempts") few
      ∷ flag_rule (codes "first") ∷ flag_rule (codes "trace") ∷ option_rule (codes "sum") any ∷
      file_rule ∷ []) workers
      (All-cons P (option_rule (codes "conflicts") many) (option_rule (codes "attempts") few
      ∷ flag_rule (codes "first") ∷ flag_rule (codes "trace") ∷ option_rule (codes "sum") any ∷
      file_rule ∷ []) conflicts
      (All-cons P (option_rule (codes "attempts") few)
      (flag_rule (codes "first") ∷ flag_rule (codes "trace") ∷ option_rule (codes "sum") any ∷
      file_rule ∷ []) attempts
      (All-cons P (flag_rule (codes "first")) (flag_rule (codes "trace") ∷ option_rule (codes
      "sum") any ∷ file_rule ∷ [])
      first (last_three trace sum file))))

plain_rules : All IsPlainRule app.top.rules
plain_rules = each IsPlainRule (refl, refl) (refl, refl) (refl, refl) (refl, refl) (refl, refl)
    (refl, refl) (refl, refl)

is_plain : (c : Command) → app_of c ≡ app → IsPlain c × ((out-Command c).has_globals ≡ false)
is_plain c e =
    let fields = plain_fields c (ap (λ a. a.top.is_plain) e) in
    let rules = of_rules IsPlainRule c e plain_rules in (
      (
        (λ k d lt. plain_arg (slice_index_or (args_of c) k d) (rules k d lt).0 (rules k d lt).1),
        fields.groups,
      ),
      fields.globals,
    )

-- ---- its options

abbrev HasRule : Text → ValueParser → Rule → Type 0
HasRule id q r = bytes_eq r.id id ≡ true → r.parser ≡ Some q

never : {A : Type 0} → false ≡ true → A
never e = absurd (true≢false (sym e))

own_by : (id : Text) → (slice_index id 0 ≡ 0 → ⊥) → (slice_index id 0 ≡ 104 → ⊥) →
    (slice_index id 0 ≡ 118 → ⊥) → IsOwn id
own_by id none help version = (
  (λ e. none (ap (λ (xs : Text). slice_index xs 0) e)),
  (λ a is auto. elim auto [
    | inl h ↦ help (ap (λ (xs : Text). slice_index xs 0) (sym is ∙ h))
    | inr h ↦ version (ap (λ (xs : Text). slice_index xs 0) (sym is ∙ h))
  ]),
)

workers_rule : All (HasRule (codes "workers") few) app.top.rules
workers_rule = each (HasRule (codes "workers") few)
    (λ e. refl) (λ e. never e) (λ e. never e) (λ e. never e) (λ e. never e) (λ e. never e) (λ e.
    never e)

conflicts_rule : All (HasRule (codes "conflicts") many) app.top.rules
conflicts_rule = each (HasRule (codes "conflicts") many)
    (λ e. never e) (λ e. refl) (λ e. never e) (λ e. never e) (λ e. never e) (λ e. never e) (λ e.
    never e)

attempts_rule : All (HasRule (codes "attempts") few) app.top.rules
attempts_rule = each (HasRule (codes "attempts") few)
    (λ e. never e) (λ e. never e) (λ e. refl) (λ e. never e) (λ e. never e) (λ e. never e) (λ e.
    never e)

sum_rule : All (HasRule (codes "sum") any) app.top.rules
sum_rule = each (HasRule (codes "sum") any)
    (λ e. never e) (λ e. never e) (λ e. never e) (λ e. never e) (λ e. never e) (λ e. refl) (λ e.
    never e)

own_workers : IsOwn (codes "workers")
own_workers = own_by (codes "workers") (λ e. let bad : 119 ≡ 0 = e in absurd (omega arith))
    (λ e. let bad : 119 ≡ 104 = e in absurd (omega arith)) (λ e. let bad : 119 ≡ 118 = e in absurd
    (omega arith))

own_conflicts : IsOwn (codes "conflicts")
own_conflicts = own_by (codes "conflicts") (λ e. let bad : 99 ≡ 0 = e in absurd (omega arith))
    (λ e. let bad : 99 ≡ 104 = e in absurd (omega arith)) (λ e. let bad : 99 ≡ 118 = e in absurd
    (omega arith))

own_attempts : IsOwn (codes "attempts")
own_attempts = own_by (codes "attempts") (λ e. let bad : 97 ≡ 0 = e in absurd (omega arith))
    (λ e. let bad : 97 ≡ 104 = e in absurd (omega arith)) (λ e. let bad : 97 ≡ 118 = e in absurd
    (omega arith))

own_sum : IsOwn (codes "sum")
own_sum = own_by (codes "sum") (λ e. let bad : 115 ≡ 0 = e in absurd (omega arith))
    (λ e. let bad : 115 ≡ 104 = e in absurd (omega arith)) (λ e. let bad : 115 ≡ 118 = e in absurd
    (omega arith))

-- ---- what is read of them

passed : (words : List Text) (m : ArgMatches) → IsParse words m → (id : Text) (q : ValueParser) →
    All (HasRule id q) app.top.rules
    → IsOwn id → (t : Text) → one_text (found_of m) id ≡ Some t → Passed q t
passed words m p id q rules own =
    let plain = is_plain p.command p.is_app in
    one_passed p.command m p.parsed plain.0 plain.1 id q (of_rules (HasRule id q) p.command
    p.is_app rules) own

module _ {E : Type 0} (G : Text → Result ℕ E → Type 0) (words : List Text) (m : ArgMatches) (p :
    IsParse words m) (o : Option ℕ) where
  few_at : (only : (u : Text) (x : Result ℕ E) → G u x → ParsesUnsigned 32 10 u x) (id : Text)
      → All (HasRule id few) app.top.rules → IsOwn id
      → (one_text (found_of m) id ≡ None → o ≡ None)
      → ((t : Text) → one_text (found_of m) id ≡ Some t → ReadsOne G t o)
      → IsNumberOf (one_of id (rows_of (found_of m))) 1 64 o
  few_at only id rules own none some =
      subst (λ (w : Option Text). IsNumberOf w 1 64 o) (one_text-rows (found_of m) id)
      (small_number G 32 1 64 only (omega arith) (one_text (found_of m) id) o none some (passed
      words m p id few rules own))

  pub workers_at : ((u : Text) (x : Result ℕ E) → G u x → ParsesUnsigned 32 10 u x)
      → (one_text (found_of m) (codes "workers") ≡ None → o ≡ None)
      → ((t : Text) → one_text (found_of m) (codes "workers") ≡ Some t → ReadsOne G t o)
      → IsNumberOf (one_of (codes "workers") (rows_of (found_of m))) 1 64 o
  workers_at only = few_at only (codes "workers") workers_rule own_workers

  pub attempts_at : ((u : Text) (x : Result ℕ E) → G u x → ParsesUnsigned 32 10 u x)
      → (one_text (found_of m) (codes "attempts") ≡ None → o ≡ None)
      → ((t : Text) → one_text (found_of m) (codes "attempts") ≡ Some t → ReadsOne G t o)
      → IsNumberOf (one_of (codes "attempts") (rows_of (found_of m))) 1 64 o
  attempts_at only = few_at only (codes "attempts") attempts_rule own_attempts

  pub conflicts_at : ((u : Text) (x : Result ℕ E) → G u x → ParsesUnsigned 64 10 u x)
      → (one_text (found_of m) (codes "conflicts") ≡ None → o ≡ None)
      → ((t : Text) → one_text (found_of m) (codes "conflicts") ≡ Some t → ReadsOne G t o)
      → IsNumberOf (one_of (codes "conflicts") (rows_of (found_of m))) 1 18446744073709551615 o
  conflicts_at only none some =
      subst (λ (w : Option Text). IsNumberOf w 1 18446744073709551615 o) (one_text-rows (found_of
      m) (codes "conflicts"))
      (large_number G 1 18446744073709551615 only (one_text (found_of m) (codes "conflicts")) o
      none some
      (passed words m p (codes "conflicts") many conflicts_rule own_conflicts))

  pub sum_at : ((u : Text) (x : Result ℕ E) → G u x → ParsesUnsigned 64 10 u x)
      → (one_text (found_of m) (codes "sum") ≡ None → o ≡ None)
      → ((t : Text) → one_text (found_of m) (codes "sum") ≡ Some t → ReadsOne G t o)
      → IsNumberOf (one_of (codes "sum") (rows_of (found_of m))) 0 18446744073709551615 o
  sum_at only none some =
      subst (λ (w : Option Text). IsNumberOf w 0 18446744073709551615 o) (one_text-rows (found_of
      m) (codes "sum"))
      (large_number G 0 18446744073709551615 only (one_text (found_of m) (codes "sum")) o none some
      (passed words m p (codes "sum") any sum_rule own_sum))

-- a flag is there where its value reads as true
flag_read : (E : Type 0) (text : Option Text) (o : Option Bool) → (text ≡ None → o ≡ None)
    → ((t : Text) → text ≡ Some t → ReadsOne (ParsesBool {E = E}) t o)
    → unwrap_or o false ≡ option_map_or (λ value. bytes_eq value (codes "true")) text false
flag_read E None o none some = rw (none refl) refl
flag_read E (Some t) o none some = go o (some t refl)
  where
    go : (r : Option Bool) → ReadsOne (ParsesBool {E = E}) t r →
        unwrap_or r false ≡ bytes_eq t (codes "true")
    go (Some true) h = rw h refl
    go (Some false) h = rw h refl
    go None h = other (bytes_eq t (codes "true")) refl
      where
        other : (b : Bool) → bytes_eq t (codes "true") ≡ b → false ≡ b
        other false e = refl
        other true e = absurd (h.1.0 ((bytes_eq-Decides t (codes "true")).0 e))

pub flag_is : (E : Type 0) (m : ArgMatches) (name : Text) (o : Option Bool) →
    (one_text (found_of m) name ≡ None → o ≡ None)
    → ((t : Text) → one_text (found_of m) name ≡ Some t → ReadsOne (ParsesBool {E = E}) t o)
    → unwrap_or o false ≡ flag_at name (rows_of (found_of m))
flag_is E m name o none some =
    flag_read E (one_text (found_of m) name) o none some
    ∙ ap (λ (w : Option Text). option_map_or (λ value. bytes_eq value (codes "true")) w false)
    (one_text-rows (found_of m) name)

-- ---- a parse by the command line

-- it finds the matches of the definition
pub rows_are : (c : Command) (m : ArgMatches) (words : List Text) → app_of c ≡ app →
    HasMatchesOf (app_of c) words m
    → rows_of (found_of m) ≡ matches_of app words
rows_are c m words is has =
    (subst (λ (a : App). HasMatchesOf a words m) is has refl).0

pub no_fault : (c : Command) (words : List Text) → app_of c ≡ app
    → (is_simple_and_free (app_of c) ≡ true → fault_of (app_of c) words ≡ []) →
    fault_of app words ≡ []
no_fault c words is none = subst (λ (a : App). is_simple_and_free a ≡ true →
    fault_of a words ≡ []) is none refl

pub has_fault : (c : Command) (e : Error) (words : List Text) → app_of c ≡ app
    → (is_simple_and_free (app_of c) ≡ true → HasKind (fault_of (app_of c) words) e) →
    HasKind (fault_of app words) e
has_fault c e words is has = subst (λ (a : App). is_simple_and_free a ≡ true →
    HasKind (fault_of a words) e) is has refl
