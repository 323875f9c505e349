-- Room for the marks of a clause.
use Rattle.std.proofs.Common.{◌≡◌, ◌∙◌, ℕ, ◌+◌, ◌-◌, ◌*◌, ◌/◌, ◌<◌, ◌≤◌, List, [], ◌++◌, take, length, get_or, replicate, refl, ap, subst, sym, inl, inr, arith}
use Rattle.std.specs.Prelude.{Contains, ◌⊎◌}
use Rattle.std.proofs.lemmas.Bool.{cases_lt}
use Rattle.std.proofs.lemmas.List.{take_all, get_or_append_left, get_or-append_right, get_or-replicate, get_or_past, length-replicate}
use Rattle.std.proofs.lemmas.List.Elements.{Contains-push_cases}
use Rattle.trace_core.specs.Marking.{holds, is_held_mark, HasRoom}
use Rattle.trace_core.proofs.MarkLemmas.{seen_more}
use Rattle.trace_core.specs.declared.marks.Mark.{Mark}
use Rattle.trace_core.specs.declared.marks.Mark.TheVariants.{Free}

pub room_none : (size : ℕ) → HasRoom size []
room_none size lit (k, lt, is) = absurd (omega arith)

pub room_grows : (size size' : ℕ) (clause : List ℕ) → size ≤ size' → HasRoom size clause → HasRoom size' clause
room_grows size size' clause le room lit has = let h : 2 * (lit / 2) + 1 < size = room lit has in omega arith

pub room_more : (clause : List ℕ) (i lit size size' : ℕ) → i < length clause → lit ≡ get_or clause i lit → size ≤ size' → 2 * (lit / 2) + 1 < size' → HasRoom size (take i clause) → HasRoom size' (take (i + 1) clause)
room_more clause i lit size size' lt is le enough room z has =
    either (Contains-push_cases (take i clause) lit z (subst (λ (ls : List ℕ). Contains ls z) (sym (seen_more clause i lit lt is)) has))
  where
    either : Contains (take i clause) z ⊎ (lit ≡ z) → 2 * (z / 2) + 1 < size'
    either (inl before) = room_grows size size' (take i clause) le room z before
    either (inr same) = subst (λ k. 2 * (k / 2) + 1 < size') same enough

pub room_whole : (clause : List ℕ) (i size : ℕ) → length clause ≤ i → HasRoom size (take i clause) → HasRoom size clause
room_whole clause i size le room = subst (HasRoom size) (take_all i clause le) room

-- new marks are free
pub holds_resized : (marks marks' : List Mark) (size count : ℕ) → count ≡ length marks → count ≤ size → marks' ≡ take size marks ++ replicate (size - count) Free → (lit : ℕ) → holds marks' lit ≡ holds marks lit
holds_resized marks marks' size count counted fits is' lit = ap (λ (ms : List Mark). holds ms lit) whole ∙ ap is_held_mark (by_place (cases_lt lit (length marks)))
  where
    le : length marks ≤ size
    le = omega arith

    is : marks' ≡ take size marks ++ replicate (size - length marks) Free
    is = is' ∙ ap (λ n. take size marks ++ replicate (size - n) Free) counted

    new : List Mark
    new = replicate (size - length marks) Free

    whole : marks' ≡ marks ++ new
    whole = is ∙ ap (λ (ms : List Mark). ms ++ new) (take_all size marks le)

    free_here : (k : ℕ) → (k < size - length marks) ⊎ (size - length marks ≤ k) → get_or new k Free ≡ Free
    free_here k (inl lt) = get_or-replicate (size - length marks) k Free Free lt
    free_here k (inr ge) = get_or_past new k Free (subst (λ n. n ≤ k) (sym (length-replicate (size - length marks) Free)) ge)

    by_place : (lit < length marks) ⊎ (length marks ≤ lit) → get_or (marks ++ new) lit Free ≡ get_or marks lit Free
    by_place (inl lt) = get_or_append_left marks new Free lit lt
    by_place (inr ge) =
        get_or-append_right marks new (length marks) lit Free refl ge
        ∙ free_here (lit - length marks) (cases_lt (lit - length marks) (size - length marks)) ∙ sym (get_or_past marks lit Free ge)
