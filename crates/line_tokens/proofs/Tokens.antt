-- Tokens that are judged one by one, up to a `0`, and where a text is cut.
use Rattle.std.proofs.Common.{◌≡◌, ◌∙◌, ℕ, ◌+◌, ◌-◌, ◌<◌, List, [], ◌∷◌, ◌++◌, length, take, drop, Bool, true, false, cond, refl, ap, sym, arith, append_assoc, length-drop, append-nil}
use Rattle.std.specs.Prelude.{Option, Some, None, option_and_then, nat_lt, All}
use Rattle.std.specs.Option.{option_map}
use Rattle.std.specs.List.{slice_split, onto_first, position, position_or_len}
use Rattle.std.specs.Str.{bytes_eq}
use Rattle.std.proofs.lemmas.Option.{cond_some}
use Rattle.std.proofs.lemmas.List.Splits.{slice_split_first, slice_split_none}
use Rattle.std.proofs.Math.Seq.{take-length}
use Rattle.std.proofs.lemmas.List.Sums.{fails_before_first}
use Rattle.std.proofs.lemmas.Bool.{ltb-true, ltb-false}
use Rattle.line_tokens.specs.Token.{all_then_zero, until_zero, Front}

-- the items found so far stand before those of the rest
abbrev pub with_front : {X : Type 0} → List X → Option (List X) → Option (List X)
with_front front rest = option_map (λ xs. front ++ xs) rest

pub with_front-nothing : {X : Type 0} (rest : Option (List X)) → with_front [] rest ≡ rest
with_front-nothing None = refl
with_front-nothing (Some xs) = refl

-- a split has a first part
pub parts : {X : Type 0} (p : X → Bool) (xs : List X) → (part : List X) × (rest : List (List X)) × (slice_split p xs ≡ part ∷ rest)
parts {X} p [] = ([], [], refl)
parts {X} p (x ∷ xs) = at (p x) (slice_split p xs) (parts p xs)
  where
    at : (b : Bool) (split : List (List X)) → ((part : List X) × (rest : List (List X)) × (split ≡ part ∷ rest)) → (part : List X) × (rest : List (List X)) × (cond b ([] ∷ split) (onto_first x split) ≡ part ∷ rest)
    at true split h = ([], split, refl)
    at false split h = (x ∷ h.0, h.1, ap (onto_first x) h.2)

pub each_then-more : {X : Type 0} (judge : List ℕ → Option X) (item : List ℕ) (p : ℕ → Bool) (more : List ℕ) →
    all_then_zero judge (item ∷ slice_split p more) ≡ option_and_then (λ x. option_map (λ xs. x ∷ xs) (all_then_zero judge (slice_split p more))) (judge item)
each_then-more judge item p more = let h = parts p more in rw (h.2) refl

joined : {X : Type 0} (front : List X) (x : X) (rest : Option (List X)) → with_front (front ++ x ∷ []) rest ≡ with_front front (option_map (λ xs. x ∷ xs) rest)
joined front x None = refl
joined front x (Some xs) = ap Some (append_assoc front (x ∷ []) xs)

-- an item that is judged to be x moves to the front
pub judged : {X : Type 0} (judge : List ℕ → Option X) (p : ℕ → Bool) (text item more : List ℕ) (front : List X) (x : X) (whole : Option (List X)) →
    slice_split p text ≡ item ∷ slice_split p more → judge item ≡ Some x →
    with_front front (all_then_zero judge (slice_split p text)) ≡ whole →
    with_front (front ++ x ∷ []) (all_then_zero judge (slice_split p more)) ≡ whole
judged judge p text item more front x whole cut is invariant =
    let step = each_then-more judge item p more in
    joined front x (all_then_zero judge (slice_split p more))
    ∙ ap (with_front front) (sym (step ∙ ap (option_and_then (λ y. option_map (λ xs. y ∷ xs) (all_then_zero judge (slice_split p more)))) is))
    ∙ ap (λ (split : List (List ℕ)). with_front front (all_then_zero judge split)) (sym cut)
    ∙ invariant

-- an item that is judged to be nothing
pub refused : {X : Type 0} (judge : List ℕ → Option X) (p : ℕ → Bool) (text item more : List ℕ) (front : List X) (whole : Option (List X)) →
    slice_split p text ≡ item ∷ slice_split p more → judge item ≡ None →
    with_front front (all_then_zero judge (slice_split p text)) ≡ whole →
    ◌≡◌ {A = Option (List X)} None whole
refused judge p text item more front whole cut is invariant =
    let step = each_then-more judge item p more in
    ap (with_front front) (sym (step ∙ ap (option_and_then (λ y. option_map (λ xs. y ∷ xs) (all_then_zero judge (slice_split p more)))) is))
    ∙ ap (λ (split : List (List ℕ)). with_front front (all_then_zero judge split)) (sym cut)
    ∙ invariant

-- the last item is the one that is wanted
pub right_end : {X : Type 0} (judge : List ℕ → Option X) (p : ℕ → Bool) (text : List ℕ) (front : List X) (whole : Option (List X)) →
    slice_split p text ≡ text ∷ [] → bytes_eq text (48 ∷ []) ≡ true →
    with_front front (all_then_zero judge (slice_split p text)) ≡ whole →
    Some front ≡ whole
right_end judge p text front whole cut is invariant =
    sym (ap Some (append-nil front)) ∙ ap (λ b. with_front front (cond b (Some []) None)) (sym is)
    ∙ ap (λ (split : List (List ℕ)). with_front front (all_then_zero judge split)) (sym cut) ∙ invariant

-- or another one
pub wrong_end : {X : Type 0} (judge : List ℕ → Option X) (p : ℕ → Bool) (text : List ℕ) (front : List X) (whole : Option (List X)) →
    slice_split p text ≡ text ∷ [] → bytes_eq text (48 ∷ []) ≡ false →
    with_front front (all_then_zero judge (slice_split p text)) ≡ whole →
    ◌≡◌ {A = Option (List X)} None whole
wrong_end judge p text front whole cut is invariant =
    ap (λ b. with_front front (cond b (Some []) None)) (sym is)
    ∙ ap (λ (split : List (List ℕ)). with_front front (all_then_zero judge split)) (sym cut) ∙ invariant

-- where the text is cut
pub cut_here : {X : Type 0} (p : X → Bool) (xs : List X) (at : ℕ) → position p xs ≡ Some at →
    (slice_split p xs ≡ take at xs ∷ slice_split p (take (length xs - (at + 1)) (drop (at + 1) xs)))
    × (length (take (length xs - (at + 1)) (drop (at + 1) xs)) < length xs)
cut_here p xs at is =
    let here = cond_some (nat_lt (position_or_len p xs) (length xs)) (position_or_len p xs) at is in
    let lt : position_or_len p xs < length xs = ltb-true _ _ here.0 in
    let rest : take (length xs - (at + 1)) (drop (at + 1) xs) ≡ drop (at + 1) xs =
    ap (λ n. take n (drop (at + 1) xs)) (sym (length-drop (at + 1) xs)) ∙ take-length (drop (at + 1) xs) in (
      (elim xs as (λ ys. position_or_len p ys < length ys → position_or_len p ys ≡ at → take (length ys - (at + 1)) (drop (at + 1) ys) ≡ drop (at + 1) ys →
          slice_split p ys ≡ take at ys ∷ slice_split p (take (length ys - (at + 1)) (drop (at + 1) ys))) [
            | [] ↦ λ h. absurd (omega arith)
            | (y ∷ ys) ↦ λ h at_is rest_is.
                slice_split_first p (y ∷ ys) y h
                ∙ ap (λ n. take n (y ∷ ys) ∷ slice_split p (drop (n + 1) (y ∷ ys))) at_is
                ∙ ap (λ more. take at (y ∷ ys) ∷ slice_split p more) (sym rest_is)
          ]) lt here.1 rest,
      omega (arith, ap length rest, length-drop (at + 1) xs, here.1),
    )

not_chosen : (b : Bool) (x : ℕ) → cond b (Some x) None ≡ None → b ≡ false
not_chosen true x h = cc
not_chosen false x h = refl

none_from_position : {X : Type 0} (p : X → Bool) (xs : List X) → position p xs ≡ None → All (λ x. p x ≡ false) xs
none_from_position p xs is k d lt =
    let past = ltb-false (position_or_len p xs) (length xs) (not_chosen _ _ is) in
    fails_before_first p xs k d (omega arith)

pub cut_nowhere : {X : Type 0} (p : X → Bool) (xs : List X) → position p xs ≡ None → slice_split p xs ≡ xs ∷ []
cut_nowhere p xs is = slice_split_none p xs (none_from_position p xs is)

-- ---- the items before the first `0`

-- the items found so far stand before those of the rest
abbrev pub with_lead : {X : Type 0} → List X → Option (Front X) → Option (Front X)
with_lead lead rest = option_map (λ front. record { items = lead ++ front.items; rest = front.rest }) rest

pub with_lead-nothing : {X : Type 0} (rest : Option (Front X)) → with_lead [] rest ≡ rest
with_lead-nothing None = refl
with_lead-nothing (Some front) = refl

pub until_zero-more : {X : Type 0} (judge : List ℕ → Option X) (token : List ℕ) (p : ℕ → Bool) (more : List ℕ) →
    until_zero judge (token ∷ slice_split p more) ≡ cond (bytes_eq token (48 ∷ [])) (Some (record { items = []; rest = slice_split p more })) (option_and_then (λ item. option_map (λ front. record { items = item ∷ front.items; rest = front.rest }) (until_zero judge (slice_split p more))) (judge token))
until_zero-more judge token p more = let h = parts p more in rw (h.2) refl

lead_joined : {X : Type 0} (lead : List X) (x : X) (rest : Option (Front X)) → with_lead (lead ++ x ∷ []) rest ≡ with_lead lead (option_map (λ front. record { items = x ∷ front.items; rest = front.rest }) rest)
lead_joined lead x None = refl
lead_joined lead x (Some front) = ap (λ items. Some (record { items = items; rest = front.rest })) (append_assoc lead (x ∷ []) front.items)

pub until_judged : {X : Type 0} (judge : List ℕ → Option X) (p : ℕ → Bool) (text token more : List ℕ) (lead : List X) (x : X) (whole : Option (Front X)) →
    slice_split p text ≡ token ∷ slice_split p more → bytes_eq token (48 ∷ []) ≡ false → judge token ≡ Some x →
    with_lead lead (until_zero judge (slice_split p text)) ≡ whole →
    with_lead (lead ++ x ∷ []) (until_zero judge (slice_split p more)) ≡ whole
until_judged judge p text token more lead x whole cut other is invariant =
    lead_joined lead x (until_zero judge (slice_split p more))
    ∙ ap (with_lead lead) (sym (until_zero-more judge token p more
    ∙ ap (λ b. cond b (Some (record { items = []; rest = slice_split p more })) (option_and_then (λ item. option_map (λ front. record { items = item ∷ front.items; rest = front.rest }) (until_zero judge (slice_split p more))) (judge token))) other
    ∙ ap (option_and_then (λ item. option_map (λ front. record { items = item ∷ front.items; rest = front.rest }) (until_zero judge (slice_split p more)))) is))
    ∙ ap (λ (split : List (List ℕ)). with_lead lead (until_zero judge split)) (sym cut)
    ∙ invariant

pub until_refused : {X : Type 0} (judge : List ℕ → Option X) (p : ℕ → Bool) (text token more : List ℕ) (lead : List X) (whole : Option (Front X)) →
    slice_split p text ≡ token ∷ slice_split p more → bytes_eq token (48 ∷ []) ≡ false → judge token ≡ None →
    with_lead lead (until_zero judge (slice_split p text)) ≡ whole →
    ◌≡◌ {A = Option (Front X)} None whole
until_refused judge p text token more lead whole cut other is invariant =
    ap (with_lead lead) (sym (until_zero-more judge token p more
    ∙ ap (λ b. cond b (Some (record { items = []; rest = slice_split p more })) (option_and_then (λ item. option_map (λ front. record { items = item ∷ front.items; rest = front.rest }) (until_zero judge (slice_split p more))) (judge token))) other
    ∙ ap (option_and_then (λ item. option_map (λ front. record { items = item ∷ front.items; rest = front.rest }) (until_zero judge (slice_split p more)))) is))
    ∙ ap (λ (split : List (List ℕ)). with_lead lead (until_zero judge split)) (sym cut)
    ∙ invariant

pub until_found : {X : Type 0} (judge : List ℕ → Option X) (p : ℕ → Bool) (text token more : List ℕ) (lead : List X) (whole : Option (Front X)) →
    slice_split p text ≡ token ∷ slice_split p more → bytes_eq token (48 ∷ []) ≡ true →
    with_lead lead (until_zero judge (slice_split p text)) ≡ whole →
    Some (record { items = lead; rest = slice_split p more }) ≡ whole
until_found judge p text token more lead whole cut is invariant =
    sym (ap (λ items. Some (record { items = items; rest = slice_split p more })) (append-nil lead))
    ∙ ap (with_lead lead) (sym (until_zero-more judge token p more
    ∙ ap (λ b. cond b (Some (record { items = []; rest = slice_split p more })) (option_and_then (λ item. option_map (λ front. record { items = item ∷ front.items; rest = front.rest }) (until_zero judge (slice_split p more))) (judge token))) is))
    ∙ ap (λ (split : List (List ℕ)). with_lead lead (until_zero judge split)) (sym cut)
    ∙ invariant

pub until_ended : {X : Type 0} (judge : List ℕ → Option X) (p : ℕ → Bool) (text : List ℕ) (lead : List X) (whole : Option (Front X)) →
    slice_split p text ≡ text ∷ [] →
    with_lead lead (until_zero judge (slice_split p text)) ≡ whole →
    ◌≡◌ {A = Option (Front X)} None whole
until_ended judge p text lead whole cut invariant = ap (λ (split : List (List ℕ)). with_lead lead (until_zero judge split)) (sym cut) ∙ invariant
