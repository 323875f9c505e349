-- The greatest tag among known clauses, and whether all are known.
use Rattle.std.proofs.Common.{◌≡◌, ◌∙◌, ℕ, ◌+◌, ◌<◌, ◌≤◌, List, [], ◌∷◌, ◌++◌, map, take, drop}
use Rattle.std.proofs.Common.{length, get_or, max, Option, Some, refl, ap, subst, sym, arith}
use Rattle.std.specs.Prelude.{IsSome, All}
use Rattle.std.proofs.lemmas.List.{at_drop_more, take_all}
use Rattle.std.proofs.lemmas.List.Elements.{All-more, All-same}
use Rattle.sat_base.specs.declared.origins.Ref.{Ref}
use Rattle.sat_base.specs.declared.origins.Ref.TheVariants.{Input}
use Rattle.trace_core.specs.Known.{Known, tag_of}
use Rattle.trace_core.specs.Trace.{greatest}

-- one more known hint
pub known_more : (table : Ref → Option Known) (hints : List Ref) (i : ℕ) (named : Known) → i < length hints → table (get_or hints i (Input 0)) ≡ Some named
    → All (λ hint. IsSome (table hint)) (take i hints) → All (λ hint. IsSome (table hint)) (take (i + 1) hints)
known_more table hints i named lt is before = All-more (λ hint. IsSome (table hint)) hints i (Input 0) lt before (subst IsSome (sym is) refl)

pub known_whole : (table : Ref → Option Known) (hints : List Ref) (i : ℕ) → length hints ≤ i → All (λ hint. IsSome (table hint)) (take i hints) → All (λ hint. IsSome (table hint)) hints
known_whole table hints i le before = All-same (λ hint. IsSome (table hint)) hints (take i hints) (sym (take_all i hints le)) before

pub max_assoc : (a b c : ℕ) → max (max a b) c ≡ max a (max b c)
max_assoc a b c = grind arith

-- The greatest number of a list with one more at its end.
pub greatest_push : (numbers : List ℕ) (n : ℕ)
    → greatest (numbers ++ n ∷ []) ≡ max (greatest numbers) n
greatest_push [] n = omega arith
greatest_push (m ∷ numbers) n =
    ap (max m) (greatest_push numbers n) ∙ sym (max_assoc m (greatest numbers) n)

-- one more tag
pub tag_more : (table : Ref → Option Known) (hints : List Ref) (i most most' : ℕ) (named : Known) → i < length hints → table (get_or hints i (Input 0)) ≡ Some named → most' ≡ max most named.tag
    → max most (greatest (map (λ hint. tag_of (table hint)) (drop i hints))) ≡ greatest (map (λ hint. tag_of (table hint)) hints)
    → max most' (greatest (map (λ hint. tag_of (table hint)) (drop (i + 1) hints))) ≡ greatest (map (λ hint. tag_of (table hint)) hints)
tag_more table hints i most most' named lt is more before =
    let rest : ℕ = greatest (map (λ hint. tag_of (table hint)) (drop (i + 1) hints)) in
    ap (λ n. max n rest) more ∙ max_assoc most named.tag rest ∙ ap (λ o. max most (max (tag_of o) rest)) (sym is)
    ∙ sym (at_drop_more (λ left. max most (greatest (map (λ hint. tag_of (table hint)) left))) hints i (Input 0) lt) ∙ before
