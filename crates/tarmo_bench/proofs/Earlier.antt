-- Hints that look back.
use Rattle.std.proofs.Common.{◌≡◌, ◌∙◌, ℕ, zero, suc, ◌+◌, ◌-◌, ◌<◌, ◌≤◌, List, [], ◌∷◌, ◌++◌, length, take, get_or, Option, Some, None, refl, ap, sym, subst, arith, add-zero, zero-add, Bool, true, false, cond}
use Rattle.std.specs.Prelude.{All, IsSome, slice_get, option_and_then, ◌==◌}
use Rattle.std.proofs.lemmas.Bool.{ne_eqb}
use Rattle.std.proofs.lemmas.List.{take_more, length-take-le}
use Rattle.std.proofs.lemmas.Option.{slice_get_within}
use Rattle.trace_core.proofs.Items.{item_at-found as slice_get-place}
use Rattle.std.proofs.lemmas.List.Elements.{All-contains}
use Rattle.sat_base.specs.declared.origins.Ref.{Ref}
use Rattle.sat_base.specs.declared.origins.Ref.TheVariants.{Input, Shared, Own}
use Rattle.trace_core.specs.Known.{item_at}
use Rattle.trace_core.specs.declared.derivation.Step.{Step}
use Rattle.trace_trim.specs.Names.{CiteEarlierSteps, Cites, IsBefore, cited, step_named}
use Rattle.trace_text.specs.Text.{CiteEarlier, IsHintBelow}

CiteEarlier-push : (inputs before : ℕ) (steps : List Step) (step : Step) → CiteEarlier inputs before steps → All (IsHintBelow inputs (before + length steps)) step.hints → CiteEarlier inputs before (steps ++ step ∷ [])
CiteEarlier-push inputs before [] step earlier below =
    (subst (λ n. All (IsHintBelow inputs n) step.hints) (omega arith) below, tt)
CiteEarlier-push inputs before (first ∷ steps) step earlier below =
    (earlier.0, CiteEarlier-push inputs (before + 1) steps step earlier.1 (subst (λ n. All (IsHintBelow inputs n) step.hints) (omega arith) below))

pub earlier_more : (inputs : ℕ) (steps : List Step) (i : ℕ) (step : Step) → i < length steps → step ≡ get_or steps i step → CiteEarlier inputs 0 (take i steps) → All (IsHintBelow inputs i) step.hints → CiteEarlier inputs 0 (take (i + 1) steps)
earlier_more inputs steps i step within is earlier below =
    subst (λ (xs : List Step). CiteEarlier inputs 0 xs) (sym (take_more steps i step within ∙ ap (λ next. take i steps ++ next ∷ []) (sym is)))
    (CiteEarlier-push inputs 0 (take i steps) step earlier
    (subst (λ n. All (IsHintBelow inputs n) step.hints) (sym (zero-add (length (take i steps)) ∙ length-take-le i steps (omega arith))) below))

below_at : (inputs before : ℕ) (steps : List Step) (i : ℕ) (step : Step) → CiteEarlier inputs before steps → slice_get steps i ≡ Some step → All (IsHintBelow inputs (before + i)) step.hints
below_at inputs before [] i step earlier is = absurd (cc)
below_at inputs before (first ∷ steps) zero step earlier is =
    let same : first ≡ step = cc in
    subst (λ n. All (IsHintBelow inputs n) step.hints) (sym (add-zero before)) (subst (λ (s : Step). All (IsHintBelow inputs before) s.hints) same earlier.0)
below_at inputs before (first ∷ steps) (suc i) step earlier is =
    subst (λ n. All (IsHintBelow inputs n) step.hints) (omega arith) (below_at inputs (before + 1) steps i step earlier.1 is)

slice_get-some : {X : Type 0} (xs : List X) (i : ℕ) → i < length xs → IsSome (slice_get xs i)
slice_get-some [] i lt = absurd (omega arith)
slice_get-some (x ∷ xs) zero lt = refl
slice_get-some (x ∷ xs) (suc i) lt = slice_get-some xs i (omega arith)

item_at-some : {X : Type 0} (xs : List X) (place : ℕ) → 0 < place → place ≤ length xs → IsSome (item_at xs place)
item_at-some xs place positive within =
    subst (λ b. IsSome (cond b None (slice_get xs (place - 1)))) (sym (ne_eqb place 0 (λ none. omega arith))) (slice_get-some xs (place - 1) (omega arith))

by_hint : (inputs : ℕ) (own : List Step) (n : ℕ) (hint other : Ref) → n ≤ length own → 0 < n → IsHintBelow inputs (n - 1) hint → cited (Own n) hint ≡ Some other → IsSome (step_named [] own other) × IsBefore other (Own n)
by_hint inputs own n (Input number) other within positive below names = absurd (cc)
by_hint inputs own n (Shared packet step) other within positive below names = absurd below
by_hint inputs own n (Own number) other within positive below names =
    let same : Own number ≡ other = cc in
    let earlier : number < n = omega (arith, below.1) in
    subst (λ (name : Ref). IsSome (step_named [] own name) × IsBefore name (Own n)) same
    (item_at-some own number below.0 (omega arith), earlier)

no_packet : (b : Bool) (step : Step) (f : List Step → Option Step) → option_and_then f (cond b None None) ≡ Some step → ⊥
no_packet true step f is = cc
no_packet false step f is = cc

by_user : (inputs : ℕ) (own : List Step) → CiteEarlier inputs 0 own → (user other : Ref) → Cites [] own user other → IsSome (step_named [] own other) × IsBefore other user
by_user inputs own earlier (Input number) other cites = let is = cites.1 in absurd (cc)
by_user inputs own earlier (Shared packet place) other cites = absurd (no_packet (packet == 0) cites.0 (λ steps. item_at steps place) cites.1)
by_user inputs own earlier (Own number) other cites =
    let at = slice_get-place own number cites.0 cites.1 in
    let within : number - 1 < length own = slice_get_within own (number - 1) cites.0 at.1 in
    let below : IsHintBelow inputs (number - 1) cites.2.0 = All-contains (IsHintBelow inputs (number - 1)) cites.0.hints cites.2.0
    (subst (λ n. All (IsHintBelow inputs n) cites.0.hints) (zero-add (number - 1)) (below_at inputs 0 own (number - 1) cites.0 earlier at.1)) cites.2.1 in
    by_hint inputs own number cites.2.0 other (omega (arith, at.0)) at.0 below cites.2.2

pub looks_back : (inputs : ℕ) (own : List Step) → CiteEarlier inputs 0 own → CiteEarlierSteps [] own
looks_back inputs own earlier = by_user inputs own earlier
