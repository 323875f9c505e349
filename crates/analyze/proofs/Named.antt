-- Names and tags of the clauses for a list of places.
use Rattle.std.proofs.Common.{◌≡◌, ◌∙◌, ℕ, ◌+◌, ◌<◌, ◌≤◌, List, [], ◌∷◌, ◌++◌, map, take, drop, length, get_or, max, ap, sym, arith}
use Rattle.std.proofs.lemmas.List.{at_drop_more, at_drop_all, take_all, take_more, map_push}
use Rattle.trace_core.specs.Trace.{greatest}
use Rattle.trace_core.proofs.TagLemmas.{max_assoc}

pub map_more : {Y : Type 0} (f : ℕ → Y) (places : List ℕ) (i place : ℕ) (before : List Y) → i < length places → place ≡ get_or places i place → before ≡ map f (take i places) → before ++ f place ∷ [] ≡ map f (take (i + 1) places)
map_more f places i place before lt is so_far =
    ap (λ ys. ys ++ f place ∷ []) so_far ∙ sym (map_push f (take i places) place) ∙ ap (λ z. map f (take i places ++ z ∷ [])) is ∙ ap (map f) (sym (take_more places i place lt))

pub map_whole : {Y : Type 0} (f : ℕ → Y) (places : List ℕ) (i : ℕ) → length places ≤ i → map f (take i places) ≡ map f places
map_whole f places i le = ap (map f) (take_all i places le)

pub tag_more : (f : ℕ → ℕ) (places : List ℕ) (i place tag : ℕ) → i < length places → place ≡ get_or places i place
    → max tag (greatest (map f (drop i places))) ≡ greatest (map f places) → max (max tag (f place)) (greatest (map f (drop (i + 1) places))) ≡ greatest (map f places)
tag_more f places i place tag lt is before =
    let rest : ℕ = greatest (map f (drop (i + 1) places)) in
    max_assoc tag (f place) rest ∙ ap (λ z. max tag (max (f z) rest)) is
    ∙ sym (at_drop_more (λ left. max tag (greatest (map f left))) places i place lt) ∙ before

max_zero : (n : ℕ) → max n 0 ≡ n
max_zero n = grind arith

pub tag_whole : (f : ℕ → ℕ) (places : List ℕ) (i tag : ℕ) → length places ≤ i → max tag (greatest (map f (drop i places))) ≡ greatest (map f places) → tag ≡ greatest (map f places)
tag_whole f places i tag le so_far = sym (max_zero tag) ∙ sym (at_drop_all (λ left. max tag (greatest (map f left))) places i le) ∙ so_far
