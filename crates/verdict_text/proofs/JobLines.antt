-- What the first line of a block says, by what each reader found.
use Rattle.std.proofs.Common.{◌≡◌, ◌∙◌, ℕ, List, [], ◌∷◌, Bool, true, false, cond, refl, ap}
use Rattle.std.specs.Prelude.{Option, None, codes, ◌&&◌, ◌==◌}
use Rattle.std.specs.Option.{option_map}
use Rattle.std.specs.Str.{bytes_eq}
use Rattle.line_tokens.proofs.Tokens.{parts}
use Rattle.line_tokens.specs.Token.{token_is_decimal, number_of, tokens_of}
use Rattle.verdict_text.specs.declared.lines.JobLine.{JobLine}
use Rattle.verdict_text.specs.declared.lines.Status.{Status}
use Rattle.verdict_text.specs.Line.{job_line_of_tokens, job_line_of, status_of}

nothing : (b : Bool) → ◌≡◌ {A = Option JobLine} (cond b None None) None
nothing true = refl
nothing false = refl

pub one_token : (line : List ℕ) → tokens_of line ≡ line ∷ [] → job_line_of line ≡ None
unfolding job_line_of_tokens
one_token line cut = rw cut refl

other_first : (letter : List ℕ) (tokens : List (List ℕ)) → bytes_eq letter (codes "j") ≡ false → job_line_of_tokens (letter ∷ tokens) ≡ None
unfolding job_line_of_tokens
other_first letter [] other = refl
other_first letter (number ∷ []) other = refl
other_first letter (number ∷ word ∷ []) other = rw other refl
other_first letter (number ∷ word ∷ more ∷ tokens) other = refl

pub other_letter : (line letter tokens : List ℕ) → tokens_of line ≡ letter ∷ tokens_of tokens → bytes_eq letter (codes "j") ≡ false → job_line_of line ≡ None
other_letter line letter tokens cut other = ap job_line_of_tokens cut ∙ other_first letter (tokens_of tokens) other

pub two_tokens : (line letter tokens : List ℕ) → tokens_of line ≡ letter ∷ tokens_of tokens → tokens_of tokens ≡ tokens ∷ [] → job_line_of line ≡ None
unfolding job_line_of_tokens
two_tokens line letter tokens cut last = rw (cut, last) refl

no_decimal : (letter number : List ℕ) (tokens : List (List ℕ)) → token_is_decimal number ≡ false → job_line_of_tokens (letter ∷ number ∷ tokens) ≡ None
unfolding job_line_of_tokens
no_decimal letter number [] other = refl
no_decimal letter number (word ∷ []) other = by_letter (bytes_eq letter (codes "j"))
  where
    by_letter : (b : Bool) → ◌≡◌ {A = Option JobLine} (cond (b && token_is_decimal number) (option_map (λ (s : Status). record { number = number_of number; status = s }) (status_of word)) None) None
    by_letter true = rw other refl
    by_letter false = refl
no_decimal letter number (word ∷ more ∷ tokens) other = refl

pub other_number : (line letter tokens number rest : List ℕ) → tokens_of line ≡ letter ∷ tokens_of tokens → tokens_of tokens ≡ number ∷ tokens_of rest → token_is_decimal number ≡ false → job_line_of line ≡ None
other_number line letter tokens number rest cut again other = ap job_line_of_tokens (cut ∙ ap (λ ts. letter ∷ ts) again) ∙ no_decimal letter number (tokens_of rest) other

pub four_tokens : (line letter tokens number rest word more : List ℕ) → tokens_of line ≡ letter ∷ tokens_of tokens → tokens_of tokens ≡ number ∷ tokens_of rest → tokens_of rest ≡ word ∷ tokens_of more → job_line_of line ≡ None
unfolding job_line_of_tokens
four_tokens line letter tokens number rest word more cut again third = let h = parts (λ b. b == 32) more in rw (cut, again, third, h.2) refl

pub three_tokens : (line letter tokens number rest : List ℕ) (word : Option Status) → tokens_of line ≡ letter ∷ tokens_of tokens → bytes_eq letter (codes "j") ≡ true → tokens_of tokens ≡ number ∷ tokens_of rest → token_is_decimal number ≡ true → tokens_of rest ≡ rest ∷ []
    → status_of rest ≡ word → job_line_of line ≡ option_map (λ (s : Status). record { number = number_of number; status = s }) word
unfolding job_line_of_tokens
three_tokens line letter tokens number rest word cut is again decimal last says = rw (cut, again, last, is, decimal, says) refl
