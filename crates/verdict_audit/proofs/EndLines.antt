-- What a last line says, by its tokens.
use Rattle.std.proofs.Common.{◌≡◌, ℕ, List, [], ◌∷◌, false, refl}
use Rattle.std.specs.Prelude.{codes, ◌&&◌, ◌==◌}
use Rattle.std.specs.Str.{bytes_eq}
use Rattle.line_tokens.proofs.Tokens.{parts}
use Rattle.line_tokens.specs.Token.{token_is_decimal, tokens_of}
use Rattle.verdict_audit.specs.Audit.{is_end_of_tokens, is_reason}

pub one_token : (line : List ℕ) → tokens_of line ≡ line ∷ [] → false ≡ is_end_of_tokens (tokens_of line)
unfolding is_end_of_tokens
one_token line cut = rw cut refl

pub two_tokens : (line word rest : List ℕ) → tokens_of line ≡ word ∷ tokens_of rest → tokens_of rest ≡ rest ∷ [] → (bytes_eq word (codes "end") && token_is_decimal rest) ≡ is_end_of_tokens (tokens_of line)
unfolding is_end_of_tokens
two_tokens line word rest cut again = rw (cut, again) refl

pub three_tokens : (line word rest number reason : List ℕ) → tokens_of line ≡ word ∷ tokens_of rest → tokens_of rest ≡ number ∷ tokens_of reason → tokens_of reason ≡ reason ∷ []
    → (bytes_eq word (codes "refused") && (token_is_decimal number && is_reason reason)) ≡ is_end_of_tokens (tokens_of line)
unfolding is_end_of_tokens
three_tokens line word rest number reason cut again third = rw (cut, again, third) refl

pub four_tokens : (line word rest number reason other more : List ℕ) → tokens_of line ≡ word ∷ tokens_of rest → tokens_of rest ≡ number ∷ tokens_of reason → tokens_of reason ≡ other ∷ tokens_of more
    → false ≡ is_end_of_tokens (tokens_of line)
unfolding is_end_of_tokens
four_tokens line word rest number reason other more cut again third = let h = parts (λ b. b == 32) more in rw (cut, again, third, h.2) refl
