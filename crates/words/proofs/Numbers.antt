-- The numbers that a parse found passed the parsers of their options.
use Rattle.std.proofs.Common.{◌≡◌, ◌∙◌, ◌<◌, ◌≤◌, ◌^◌, ap, ℕ, Bool, true, false, List, [], ◌∷◌}
use Rattle.std.proofs.Common.{length, Option, Some, None, refl, sym, subst, inl, inr, arith}
use Rattle.std.specs.Prelude.{IfSome, Ok, Err, Result, option_map, pos, slice_get, unwrap_or}
use Rattle.std.specs.List.{All, slice_index_or}
use Rattle.std.specs.Str.{bytes_eq}
use Rattle.std.specs.Borrow.{Bor}
use Rattle.std.specs.Str.Parse.{ParsesUnsigned}
use Rattle.std.proofs.lemmas.Bool.{cases_lt}
use Rattle.std.proofs.lemmas.Slice.Eq.{bytes_eq-Decides}
use Rattle.std.proofs.lemmas.List.Elements.{All-get_or}
use Rattle.clap.specs.Built.{IsAuto, IsParsedFrom, IsPlain, SameRules}
use Rattle.clap.specs.Facts.{Entry, EntryPasses, HasReading, PassesArg, args_of, groups_of}
use Rattle.clap.specs.Facts.{parser_of, parser_of_value}
use Rattle.clap.specs.Matches.{ReadsOne, found_of, matched_of, one_text}
use Rattle.clap.specs.Values.{Accepts, read_as, reading_of}
use Rattle.clap.specs.Walk.{Text}
use Rattle.clap.specs.declared.builder.arg.Arg.{Arg}
use Rattle.clap.specs.declared.builder.command.Command.{Command}
use Rattle.clap.specs.declared.builder.command.Command.TheViews.{out-Command}
use Rattle.clap.specs.declared.builder.value_parser.Reading.{Reading}
use Rattle.clap.specs.declared.builder.value_parser.ValueParser.{ValueParser}
use Rattle.clap.specs.declared.builder.value_parser.ValueParser.TheVariants as vp
use Rattle.clap.specs.declared.parser.matches.ArgMatches.{ArgMatches}
use Rattle.clap.specs.declared.parser.matches.MatchedArg.{MatchedArg}
use Rattle.clap.proofs.CallerLemmas.{entry_by_id}
use Rattle.clap.proofs.CallerReads.{signed_reads}
use Rattle.words.specs.Accepted.{number_of}

-- an argument with this id has this parser
abbrev pub Has : Text → ValueParser → Arg → Type 0
Has id q a = bytes_eq a.id.now id ≡ true → a.value_parser ≡ Some q

-- no argument that a build adds has this id
abbrev pub IsOwn : Text → Type 0
IsOwn id = ((id ≡ []) → ⊥) × ((a : Arg) → a.id.now ≡ id → IsAuto a → ⊥)

-- the text is what is read of a value that passed the parser
pub record Passed (q : ValueParser) (text : Text) : Type 0 where
  pub value : Text
  pub reads : text ≡ read_as (reading_of q) value
  pub ignore_case : Bool
  pub accepts : Accepts ignore_case q value

built_parser : (old : Command) (m : ArgMatches) (p : IsParsedFrom old m) (id : Text) (q :
    ValueParser)
    → All (Has id q) (args_of old) → IsOwn id → (j : ℕ) (x : Arg) → j < length (args_of p.built)
    → slice_index_or (args_of p.built) j x ≡ x → bytes_eq x.id.now id ≡ true → parser_of x ≡ q
built_parser old m p id q all own j x high at same =
    let x_id : x.id.now ≡ id = (bytes_eq-Decides x.id.now id).0 same in
    elim (cases_lt j (length (args_of old))) [
      | inl under ↦
          let s = subst (λ w. SameRules (slice_index_or (args_of old) j x) w) at (p.from.kept j x
          under).1 in
          let old_same : bytes_eq (slice_index_or (args_of old) j x).id.now id ≡ true = rw (← s.id)
          same in
          ap parser_of_value (s.parser q (all j x under old_same))
      | inr over ↦ absurd (own.1 x x_id (subst IsAuto at (p.from.extra j x over high)))
    ]

-- the first value of an entry whose values passed
first_passed : (c : Command) (id : Text) (q : ValueParser) (how : Reading) (vs : List (Bor Text))
    (t : Text)
    → All (λ v. PassesArg c id v.now) vs → how ≡ reading_of q
    → ((j : ℕ) (x : Arg) → j < length (args_of c) → slice_index_or (args_of c) j x ≡ x →
    bytes_eq x.id.now id ≡ true → parser_of x ≡ q)
    → option_map (λ s. read_as how s.now) (slice_get vs 0) ≡ Some t → Passed q t
first_passed c id q how [] t all is own found = cc
first_passed c id q how (v ∷ vs) t all is own found =
    let pass = All-get_or (λ w. PassesArg c id w.now) (v ∷ vs) 0 v (omega arith) all in
    let is_q : parser_of pass.1 ≡ q = own pass.0 pass.1 pass.2 pass.3 pass.4.0 in
    let text : read_as how v.now ≡ t = ap (λ (o : Option Text). unwrap_or o t) found in
    record {
      value = v.now;
      reads = sym text ∙ ap (λ (r : Reading). read_as r v.now) is;
      ignore_case = pass.1.ignore_case;
      accepts = subst (λ (w : ValueParser). Accepts pass.1.ignore_case w v.now) is_q pass.4.1;
    }

entry_passed : (c : Command) (id : Text) (q : ValueParser) (t : Text) (x : MatchedArg) (e : Entry)
    → groups_of c ≡ [] → (id ≡ [] → ⊥)
    → ((j : ℕ) (y : Arg) → j < length (args_of c) → slice_index_or (args_of c) j y ≡ y →
    bytes_eq y.id.now id ≡ true → parser_of y ≡ q)
    → e.1 ≡ x → e.0.now ≡ id → EntryPasses c e
    → option_map (λ s. read_as x.reading s.now) (slice_get x.vals.items 0) ≡ Some t → Passed q t
entry_passed c id q t x e no_groups named own same_x key_id pass found =
    let no_group : e.1.is_group ≡ true → ⊥ = λ g. elim (pass.3 g) [
      | inl empty ↦ named (sym key_id ∙ empty)
      | inr lots ↦
          let bad : 0 < 0 = rw no_groups at lots in
          absurd (omega arith)
    ] in
    let all : All (λ v. PassesArg c id v.now) x.vals.items = elim pass.0 [
      | inl g ↦ absurd (no_group g)
      | inr vals ↦ subst (λ (w : Text). All (λ v. PassesArg c w v.now) x.vals.items) key_id (rw
          same_x at vals)
    ] in
    let is : e.1.reading ≡ reading_of q = elim pass.4 [
      | inl g ↦ absurd (no_group g)
      | inr h ↦
          let any = subst (λ (w : Text). HasReading c w e.1.reading) key_id h in
          sym any.4.1 ∙ ap reading_of (own any.0 any.1 any.2 any.3 any.4.0)
    ] in
    first_passed c id q x.reading x.vals.items t all (ap (λ (y : MatchedArg). y.reading) (sym
    same_x) ∙ is) own found

-- the text that is read of an option, where there is one, is that of a value that passed
pub one_passed : (old : Command) (m : ArgMatches) (p : IsParsedFrom old m) → IsPlain old
    → (out-Command old).has_globals ≡ false → (id : Text) (q : ValueParser) →
    All (Has id q) (args_of old)
    → IsOwn id → (t : Text) → one_text (found_of m) id ≡ Some t → Passed q t
one_passed old m p plain globals id q all own t found = go (matched_of (found_of m) id) refl
  where
    go : (o : Option MatchedArg) → matched_of (found_of m) id ≡ o → Passed q t
    go None e =
        let bad : None ≡ Some t = rw e at found in
        cc
    go (Some x) e =
        let parsed = p.parsed (p.from.globals ∙ globals) in
        let got = entry_by_id (EntryPasses p.built) (found_of m).entries.items id x parsed.values e
        in
        entry_passed p.built id q t x got.0 (p.from.plain plain).1 own.0 (built_parser old m p id q
        all own) got.1
        ((bytes_eq-Decides got.0.0.now id).0 got.2) got.3 (rw e at found)

-- what a number of an option is, and its range
abbrev pub IsNumberOf : Option Text → ℕ → ℕ → Option ℕ → Type 0
IsNumberOf text low high number = (number ≡ option_map number_of text) × IfSome number (λ n. (low ≤
    n) × (n ≤ high))

-- the number that is read is that of the text, in the range of the parser
pub small_number : {E : Type 0} (G : Text → Result ℕ E → Type 0) (k low high : ℕ)
    → ((u : Text) (x : Result ℕ E) → G u x → ParsesUnsigned k 10 u x) → high < 2 ^ k
    → (text : Option Text) (o : Option ℕ) → (text ≡ None → o ≡ None)
    → ((t : Text) → text ≡ Some t → ReadsOne G t o)
    → ((t : Text) → text ≡ Some t → Passed (vp.Signed (pos low) (pos high)) t) →
    IsNumberOf text low high o
small_number {E} G k low high only fits None o none some passed = rw (none refl) (refl, tt)
small_number {E} G k low high only fits (Some t) o none some passed = go o (some t refl) (passed t
    refl)
  where
    go : (r : Option ℕ) → ReadsOne G t r → Passed (vp.Signed (pos low) (pos high)) t →
        IsNumberOf (Some t) low high r
    go (Some n) read p =
        let got = signed_reads E G k low high p.value (Some n) (subst (λ (u : Text). ReadsOne G u
        (Some n)) p.reads read) only fits p.accepts in
        let same : got.0 ≡ n = ap (λ (x : Option ℕ). unwrap_or x got.0) (sym got.1) in
        let exact : n ≡ number_of t = (only t (Ok n) read).1 in
        (ap Some exact, (omega arith, omega arith))
    go None read p =
        let got = signed_reads E G k low high p.value None (subst (λ (u : Text). ReadsOne G u None)
        p.reads read) only fits p.accepts in
        let bad : None ≡ Some got.0 = got.1 in
        cc

pub large_number : {E : Type 0} (G : Text → Result ℕ E → Type 0) (low high : ℕ)
    → ((u : Text) (x : Result ℕ E) → G u x → ParsesUnsigned 64 10 u x)
    → (text : Option Text) (o : Option ℕ) → (text ≡ None → o ≡ None)
    → ((t : Text) → text ≡ Some t → ReadsOne G t o)
    → ((t : Text) → text ≡ Some t → Passed (vp.Unsigned low high) t) → IsNumberOf text low high o
large_number {E} G low high only None o none some passed = rw (none refl) (refl, tt)
large_number {E} G low high only (Some t) o none some passed = go o (some t refl) (passed t refl)
  where
    go : (r : Option ℕ) → ReadsOne G t r → Passed (vp.Unsigned low high) t →
        IsNumberOf (Some t) low high r
    go (Some n) read p =
        let exact : n ≡ number_of t = (only t (Ok n) read).1 in
        let same : t ≡ p.value = p.reads in
        let ok = subst (λ (u : Text). Accepts p.ignore_case (vp.Unsigned low high) u) (sym same)
        p.accepts in
        (ap Some exact, (rw exact ok.2, rw exact ok.3))
    go None read p =
        let same : t ≡ p.value = p.reads in
        let ok = subst (λ (u : Text). Accepts p.ignore_case (vp.Unsigned low high) u) (sym same)
        p.accepts in
        absurd (only t (Err read.0) read.1 (ok.0, ok.1))
