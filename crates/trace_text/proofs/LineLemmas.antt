-- What a line says, by what each reader found.
use Rattle.std.proofs.Common.{◌≡◌, ◌∙◌, ℕ, List, [], ◌∷◌, Bool, true, false, cond, refl, sym, ap}
use Rattle.std.specs.Prelude.{Option, Some, None, codes, option_and_then}
use Rattle.std.specs.Str.{bytes_eq}
use Rattle.sat_base.specs.Lit.{is_ascending}
use Rattle.line_tokens.specs.Token.{Front, number_of, lit_of, until_zero, all_then_zero, tokens_of}
use Rattle.trace_text.specs.Line.{Line, fields_of, line_of_tokens, line_of}

pub no_lits : (id : ℕ) (tokens : List (List ℕ)) → ◌≡◌ {A = Option (Front ℕ)} None (until_zero lit_of tokens) → ◌≡◌ {A = Option Line} None (fields_of id tokens)
unfolding fields_of
no_lits id tokens is = rw (← is) refl

pub falling_lits : (id : ℕ) (tokens : List (List ℕ)) (front : Front ℕ) → ◌≡◌ {A = Option (Front ℕ)} (Some front) (until_zero lit_of tokens) → is_ascending front.items ≡ false → ◌≡◌ {A = Option Line} None (fields_of id tokens)
unfolding fields_of
falling_lits id tokens front is falls = rw (← is, falls) refl

pub no_hints : (id : ℕ) (tokens : List (List ℕ)) (front : Front ℕ) → ◌≡◌ {A = Option (Front ℕ)} (Some front) (until_zero lit_of tokens) → is_ascending front.items ≡ true → ◌≡◌ {A = Option (List ℕ)} None (all_then_zero number_of front.rest) → ◌≡◌ {A = Option Line} None (fields_of id tokens)
unfolding fields_of
no_hints id tokens front is up none = rw (← is, up, ← none) refl

pub fields : (id : ℕ) (tokens : List (List ℕ)) (front : Front ℕ) (hints : List ℕ) → ◌≡◌ {A = Option (Front ℕ)} (Some front) (until_zero lit_of tokens) → is_ascending front.items ≡ true → ◌≡◌ {A = Option (List ℕ)} (Some hints) (all_then_zero number_of front.rest)
    → ◌≡◌ {A = Option Line} (Some (record { id = id; lits = front.items; hints = hints })) (fields_of id tokens)
unfolding fields_of
fields id tokens front hints is up found = rw (← is, up, ← found) refl

nothing : (b : Bool) → ◌≡◌ {A = Option Line} None (cond b None None)
nothing true = refl
nothing false = refl

pub no_token : (line : List ℕ) → tokens_of line ≡ line ∷ [] → ◌≡◌ {A = Option Line} None (line_of line)
unfolding line_of_tokens
no_token line cut = rw cut refl

letter_fails : (letter : List ℕ) (tokens : List (List ℕ)) → bytes_eq letter (codes "t") ≡ false → ◌≡◌ {A = Option Line} None (line_of_tokens (letter ∷ tokens))
unfolding line_of_tokens
letter_fails letter [] other = refl
letter_fails letter (id ∷ tokens) other = rw other refl

pub other_letter : (line letter tokens : List ℕ) → tokens_of line ≡ letter ∷ tokens_of tokens → bytes_eq letter (codes "t") ≡ false → ◌≡◌ {A = Option Line} None (line_of line)
other_letter line letter tokens cut other = letter_fails letter (tokens_of tokens) other ∙ ap line_of_tokens (sym cut)

no_fields : (b : Bool) (id : Option ℕ) → ◌≡◌ {A = Option Line} None (cond b (option_and_then (λ number. fields_of number []) id) None)
unfolding fields_of
no_fields true None = refl
no_fields true (Some number) = refl
no_fields false id = refl

pub no_id : (line letter tokens : List ℕ) → tokens_of line ≡ letter ∷ tokens_of tokens → tokens_of tokens ≡ tokens ∷ [] → ◌≡◌ {A = Option Line} None (line_of line)
unfolding line_of_tokens
no_id line letter tokens cut last = rw (cut, last) (no_fields _ _)

pub bad_id : (line letter tokens token rest : List ℕ) → tokens_of line ≡ letter ∷ tokens_of tokens → tokens_of tokens ≡ token ∷ tokens_of rest → ◌≡◌ {A = Option ℕ} None (number_of token) → ◌≡◌ {A = Option Line} None (line_of line)
unfolding line_of_tokens
bad_id line letter tokens token rest cut again none = rw (cut, again, ← none) (nothing _)

pub line_fields : (line letter tokens token rest : List ℕ) (id : ℕ) → tokens_of line ≡ letter ∷ tokens_of tokens → bytes_eq letter (codes "t") ≡ true → tokens_of tokens ≡ token ∷ tokens_of rest → ◌≡◌ {A = Option ℕ} (Some id) (number_of token)
    → fields_of id (tokens_of rest) ≡ line_of line
unfolding line_of_tokens
line_fields line letter tokens token rest id cut is again found = rw (cut, again, is, ← found) refl
