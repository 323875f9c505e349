-- Where on its line a reader stands.
use Rattle.std.proofs.Common.{◌≡◌, ◌∙◌, ℕ, ◌<◌, List, [], ◌∷◌, ◌++◌, length, Bool, true, false, cond, refl, ap, sym, subst, arith}
use Rattle.std.specs.Prelude.{◌==◌}
use Rattle.icnf_text.specs.declared.words.Word.{Word}
use Rattle.icnf_text.specs.declared.words.Word.TheVariants as word
use Rattle.icnf_text.specs.declared.places.Place.{Place}
use Rattle.icnf_text.specs.declared.places.Place.TheVariants as place
use Rattle.icnf_text.specs.Layout.{is_blank, is_comment, Token, tokens_on}
use Rattle.icnf_text.specs.Machine.{State, extended, put_at, margin}
use Rattle.icnf_text.proofs.Tokens.{IsWord, extended_is}
use Rattle.icnf_text.proofs.Lines.{piece, ended, worded, length_push, worded-some, last_part-at, last_part-more, ended-blank, is_comment-blank, is_comment-more, is_comment-first, comment_some}

abbrev pub IsPlace : Place → Word → List ℕ → Type 0
IsPlace place.Start w line = (line ≡ []) × (w ≡ word.Nothing)
IsPlace place.Margin w line = (0 < length line) × (ended line ≡ []) × (piece line ≡ []) × (w ≡ word.Nothing)
IsPlace place.Comment w line = (0 < length line) × (is_comment line ≡ true) × (w ≡ word.Nothing)
IsPlace place.Gap w line = (0 < length line) × (0 < length (ended line)) × (is_comment line ≡ false) × (piece line ≡ []) × (w ≡ word.Nothing)
IsPlace place.Word w line = (0 < length line) × (0 < length (piece line)) × (is_comment line ≡ false) × IsWord w (piece line)

pushed_some : (xs : List ℕ) (b : ℕ) → 0 < length (xs ++ b ∷ [])
pushed_some xs b = let h = length_push xs b in omega arith

-- a word begins or goes on
word_is : (w : Word) (line : List ℕ) (b : ℕ) → is_blank b ≡ false → is_comment (line ++ b ∷ []) ≡ false → IsWord w (piece line) → IsPlace place.Word (extended w b) (line ++ b ∷ [])
word_is w line b no_blank no_comment is =
    let more = last_part-more is_blank line b no_blank in (
      pushed_some line b,
      subst (λ (p : List ℕ). 0 < length p) (sym more) (pushed_some (piece line) b),
      no_comment,
      subst (IsWord (extended w b)) (sym more) (extended_is w (piece line) b is),
    )

nothing_word : (w : Word) (bytes : List ℕ) → w ≡ word.Nothing → bytes ≡ [] → IsWord w bytes
nothing_word w bytes is no_bytes = subst (λ (v : Word). IsWord v bytes) (sym is) no_bytes

begin_by : (s : State) (line : List ℕ) (b : ℕ) (c : Bool) → (b == 99) ≡ c → is_blank b ≡ false → ended line ≡ [] → piece line ≡ [] → s.word ≡ word.Nothing →
    IsPlace (cond c (record s { place = place.Comment }) (record s { place = place.Word; word = extended s.word b })).place (cond c (record s { place = place.Comment }) (record s { place = place.Word; word = extended s.word b })).word (line ++ b ∷ [])
begin_by s line b true h no_blank no_ended no_piece is = (pushed_some line b, is_comment-first line b no_blank no_ended no_piece ∙ h, is)
begin_by s line b false h no_blank no_ended no_piece is = word_is s.word line b no_blank (is_comment-first line b no_blank no_ended no_piece ∙ h) (nothing_word s.word (piece line) is no_piece)

pub put_is : (p : Place) (s : State) (line : List ℕ) (b : ℕ) → s.place ≡ p → is_blank b ≡ false → IsPlace p s.word line → IsPlace (put_at p s b).place (put_at p s b).word (line ++ b ∷ [])
put_is place.Start s line b e no_blank is = begin_by s line b (b == 99) refl no_blank (ap ended is.0) (ap piece is.0) is.1
put_is place.Margin s line b e no_blank is = begin_by s line b (b == 99) refl no_blank is.1 is.2 is.3
put_is place.Comment s line b e no_blank is =
    subst (λ (p : Place). IsPlace p s.word (line ++ b ∷ [])) (sym e) (pushed_some line b, is_comment-more line b no_blank (comment_some line is.1) ∙ is.1, is.2)
put_is place.Gap s line b e no_blank is = word_is s.word line b no_blank (is_comment-more line b no_blank (omega (arith, is.1)) ∙ is.2) (nothing_word s.word (piece line) is.4 is.3)
put_is place.Word s line b e no_blank is = word_is s.word line b no_blank (is_comment-more line b no_blank (omega (arith, is.1)) ∙ is.2) is.3

-- what else stays when a byte is put
abbrev KeepsRest : State → State → Type 0
KeepsRest s t = (t.parse ≡ s.parse) × (t.bytes ≡ s.bytes) × (t.line ≡ s.line) × (t.fault ≡ s.fault)

begin_keeps : (s : State) (b : ℕ) (c : Bool) → KeepsRest s (cond c (record s { place = place.Comment }) (record s { place = place.Word; word = extended s.word b }))
begin_keeps s b true = (refl, refl, refl, refl)
begin_keeps s b false = (refl, refl, refl, refl)

pub put_keeps : (p : Place) (s : State) (b : ℕ) → ((put_at p s b).parse ≡ s.parse) × ((put_at p s b).bytes ≡ s.bytes) × ((put_at p s b).line ≡ s.line) × ((put_at p s b).fault ≡ s.fault)
put_keeps place.Start s b = begin_keeps s b (b == 99)
put_keeps place.Margin s b = begin_keeps s b (b == 99)
put_keeps place.Comment s b = (refl, refl, refl, refl)
put_keeps place.Gap s b = (refl, refl, refl, refl)
put_keeps place.Word s b = (refl, refl, refl, refl)

pub longer : {X : Type 0} (xs ys : List X) → 0 < length xs → 0 < length (xs ++ ys)
longer [] ys some = absurd (omega arith)
longer (x ∷ xs) ys some = omega arith

-- a blank, behind no word and behind one
pub blank_is : (p : Place) (w : Word) (line : List ℕ) (b : ℕ) → is_blank b ≡ true → IsPlace p w line → (p ≡ place.Word → ⊥) → IsPlace (margin p) w (line ++ b ∷ [])
blank_is place.Start w line b h is other = (pushed_some line b, ended-blank line b h ∙ ap (λ (l : List ℕ). ended l ++ worded (piece l)) is.0, last_part-at is_blank line b h, is.1)
blank_is place.Margin w line b h is other = (pushed_some line b, ended-blank line b h ∙ ap (λ (e : List (List ℕ)). e ++ worded (piece line)) is.1 ∙ ap worded is.2, last_part-at is_blank line b h, is.3)
blank_is place.Comment w line b h is other = (pushed_some line b, is_comment-blank line b h ∙ is.1, is.2)
blank_is place.Gap w line b h is other = (
  pushed_some line b,
  subst (λ (e : List (List ℕ)). 0 < length e) (sym (ended-blank line b h)) (longer (ended line) (worded (piece line)) is.1),
  is_comment-blank line b h ∙ is.2,
  last_part-at is_blank line b h,
  is.4,
)
blank_is place.Word w line b h is other = absurd (other refl)

pub gap_is : (w : Word) (line : List ℕ) (b : ℕ) → is_blank b ≡ true → IsPlace place.Word w line → IsPlace place.Gap word.Nothing (line ++ b ∷ [])
gap_is w line b h is = (
  pushed_some line b,
  subst (λ (e : List (List ℕ)). 0 < length e) (sym (ended-blank line b h ∙ ap (λ (e : List (List ℕ)). ended line ++ e) (worded-some (piece line) is.1))) (let k = length_push (ended line) (piece line) in omega arith),
  is_comment-blank line b h ∙ is.2,
  last_part-at is_blank line b h,
  refl,
)

-- the token that stands here
pub no_token : (p : Place) (w : Word) (line : List ℕ) (n : ℕ) → IsPlace p w line → (p ≡ place.Word → ⊥) → tokens_on n line (worded (piece line)) ≡ []
no_token place.Start w line n is other = ap (λ (l : List ℕ). tokens_on n l (worded (piece l))) is.0
no_token place.Margin w line n is other = ap (λ (p : List ℕ). tokens_on n line (worded p)) is.2 ∙ either (is_comment line)
  where
    either : (c : Bool) → ◌≡◌ {A = List Token} (cond c [] []) []
    either true = refl
    either false = refl
no_token place.Comment w line n is other = rw is.1 refl
no_token place.Gap w line n is other = ap (λ (p : List ℕ). tokens_on n line (worded p)) is.3 ∙ rw is.2 refl
no_token place.Word w line n is other = absurd (other refl)

pub one_token : (w : Word) (line : List ℕ) (n : ℕ) → IsPlace place.Word w line → tokens_on n line (worded (piece line)) ≡ record { line = n; bytes = piece line } ∷ []
one_token w line n is = ap (tokens_on n line) (worded-some (piece line) is.1) ∙ rw is.2 refl
