-- A packet is ok wherever the own steps are.
use Rattle.std.proofs.Common.{◌≡◌, ◌∙◌, ℕ, ◌<◌, ◌≤◌, List, [], ◌∷◌, ◌++◌, map, take, length}
use Rattle.std.proofs.Common.{length-append, get_or, refl, subst, sym, ap, arith}
use Rattle.std.specs.Prelude.{Contains, Option, Some, None, IsSome, MatchOption, slice_get}
use Rattle.std.specs.Prelude.{option_map}
use Rattle.std.specs.List.{AllZip}
use Rattle.std.proofs.lemmas.Option.{slice_get_within, slice_get-get_or, get_or_from_slice_get}
use Rattle.sat_base.proofs.Members.{Contains-map}
use Rattle.sat_base.specs.declared.origins.Ref.{Ref}
use Rattle.sat_base.specs.declared.origins.Ref.TheVariants.{Input, Shared, Own}
use Rattle.trace_core.specs.Known.{Known, known, item_at, tag_of}
use Rattle.trace_core.specs.Trace.{IsOkStep, AreOkSteps, known_of}
use Rattle.trace_core.specs.declared.derivation.Step.{Step}
use Rattle.trace_core.proofs.Items.{item_at-contains, item_at-within, item_at-there, item_at-front}
use Rattle.trace_core.proofs.Items.{item_at-map, item_at-last}
use Rattle.trace_core.proofs.Soundness.{hint_tag_within}
use Rattle.trace_trim.specs.Packed.{name_of, RestsOn, CiteEarlierOwn, IsPackedHint, IsPackedStep, IsPack, AreNamesRight, IsOkWhereOwnAreOk, ends_in, HasGreatestTagLast, AreOfOwn}
use Rattle.trace_trim.specs.Reached.{IsCitedAlong}
use Rattle.trace_trim.proofs.OkSteps.{ok_in_the_end, ok_from_each, ok_with_hints}
use Rattle.trace_trim.proofs.OwnWalk.{unnamed-own}
use Rattle.trace_trim.proofs.Traced.{place_before}
use Rattle.trace_trim.proofs.Zips.{zip_back, zip_item, zip_ends}

-- a hint of the packet names the same there as the hint of the own step names
same_known : (inputs : List Known) (packets : List (List Known)) (own : List Step) (names : List (Option Ref)) (numbers : List ℕ) (packet : List Step) (i : ℕ) (hint packed : Ref)
    → AllZip (IsPackedStep own names numbers) numbers packet → AreNamesRight inputs packets own names
    → ((m : ℕ) → hint ≡ Own m → IsSome (item_at own m)) → ((m place : ℕ) → hint ≡ Own m → item_at numbers place ≡ Some m → place ≤ i)
    → IsPackedHint names numbers hint packed → known inputs packets (map known_of own) hint ≡ known inputs packets (map known_of (take i packet)) packed
same_known inputs packets own names numbers packet i (Input n) packed zip right there low is = ap (known inputs packets (map known_of (take i packet))) (sym is)
same_known inputs packets own names numbers packet i (Shared p s) packed zip right there low is = ap (known inputs packets (map known_of (take i packet))) (sym is)
same_known inputs packets own names numbers packet i (Own m) packed zip right there low is = by_name (name_of names m) refl is
  where
    by_name : (o : Option Ref) → name_of names m ≡ o → MatchOption o ((place : ℕ) × (item_at numbers place ≡ Some m) × (packed ≡ Own place)) (λ name. packed ≡ name)
        → item_at (map known_of own) m ≡ known inputs packets (map known_of (take i packet)) packed
    by_name (Some name) named same =
        let shared = right m name (there m refl) named in
        sym shared.3 ∙ ap (known inputs packets []) shared.2 ∙ ap (known inputs packets (map known_of (take i packet))) (sym (same ∙ shared.2))
    by_name None none (place, at, same) =
        let found = zip_item (IsPackedStep own names numbers) numbers packet place m zip at in
        let alike = found.2.2 in
        let named : known_of found.2.0 ≡ known_of found.0 = let c = alike.clause in let t = alike.tag in cc in
        item_at-map known_of own m ∙ ap (option_map known_of) found.2.1 ∙ ap Some named ∙ sym (ap (option_map known_of) (item_at-front packet i place found.0 (low m place refl at) found.1))
        ∙ sym (item_at-map known_of (take i packet) place) ∙ ap (known inputs packets (map known_of (take i packet))) (sym same)

pub packed_ok : (own : List Step) (names : List (Option Ref)) (last : ℕ) (packet : List Step) → CiteEarlierOwn own → IsPack own names last packet → IsOkWhereOwnAreOk own names packet
packed_ok own names last packet earlier pack inputs packets ok right = ok_from_each inputs packets [] packet each
  where
    each : (i : ℕ) (new : Step) → slice_get packet i ≡ Some new → IsOkStep (known inputs packets ([] ++ map known_of (take i packet))) new
    each i new at = ok_with_hints (known inputs packets (map known_of own))
        (known inputs packets (map known_of (take i packet))) (IsPackedHint names pack.numbers) old
        new
        (ok_in_the_end inputs packets [] own old ok (item_at-contains own number old found.2.1))
        found.2.2
        (λ hint other has is. same_known inputs packets own names pack.numbers packet i hint other
        pack.packed right (there hint has) (low hint has) is)
      where
        found : (number : ℕ) × (slice_get pack.numbers i ≡ Some number) × IsPackedStep own names pack.numbers number new
        found = zip_back (IsPackedStep own names pack.numbers) pack.numbers packet i new pack.packed at

        number : ℕ
        number = found.0

        old : Step
        old = found.2.0

        back : (hint : Ref) → Contains old.hints hint → (m : ℕ) → hint ≡ Own m → (1 ≤ m) × (m < number)
        back hint has m same = earlier number m old found.2.1 (subst (Contains old.hints) same has)

        there : (hint : Ref) → Contains old.hints hint → (m : ℕ) → hint ≡ Own m → IsSome (item_at own m)
        there hint has m same =
            let h = back hint has m same in
            let within = item_at-within own number (subst IsSome (sym found.2.1) refl) in
            item_at-there own m h.0 (omega (arith, h.1, within.1))

        low : (hint : Ref) → Contains old.hints hint → (m place : ℕ) → hint ≡ Own m → item_at pack.numbers place ≡ Some m → place ≤ i
        low hint has m place same at_place = place_before (λ a b. a < b) (λ a b c h g. omega arith) (λ a h. omega arith) pack.numbers i place number m pack.reached.ascending found.1 at_place (back hint has m same).1

-- the packet ends in a step with the clause and the tag of the last one
pub packed_ends : (own : List Step) (names : List (Option Ref)) (last : ℕ) (packet : List Step) → IsPack own names last packet → ends_in packet ≡ item_at (map known_of own) last
packed_ends own names last packet pack =
    let ends = zip_ends (IsPackedStep own names pack.numbers) pack.reached.front last packet (subst (λ numbers. AllZip (IsPackedStep own names pack.numbers) numbers packet) pack.reached.ends pack.packed) in
    let alike = ends.3.2 in
    let named : known_of ends.1 ≡ known_of ends.3.0 = let c = alike.clause in let t = alike.tag in cc in
    let there : item_at packet (length packet) ≡ Some ends.1 =
    subst (λ (xs : List Step). item_at xs (length xs) ≡ Some ends.1) (sym ends.2)
    (item_at-last ends.0 ends.1 (length (ends.0 ++ ends.1 ∷ []))
    (length-append ends.0 (ends.1 ∷ []))) in
    item_at-map known_of packet (length packet) ∙ ap (option_map known_of) there ∙ ap Some named ∙ sym (ap (option_map known_of) ends.3.1) ∙ sym (item_at-map known_of own last)

-- the own step that a step of the packet is
own_of : (own : List Step) (names : List (Option Ref)) (numbers : List ℕ) (packet : List Step) (new : Step) → AllZip (IsPackedStep own names numbers) numbers packet → Contains packet new
    → (number : ℕ) × Contains numbers number × ((old : Step) × (item_at own number ≡ Some old) × (known_of new ≡ known_of old))
own_of own names numbers packet new zip (k, lt, is) = (found.0, (k, here.0, here.1), (found.2.0, found.2.1, (let c = found.2.2.clause in let t = found.2.2.tag in cc)))
  where
    found : (number : ℕ) × (slice_get numbers k ≡ Some number) × IsPackedStep own names numbers number new
    found = zip_back (IsPackedStep own names numbers) numbers packet k new zip
        (slice_get-get_or packet k new lt ∙ ap Some is)

    here : (k < length numbers) × (get_or numbers k found.0 ≡ found.0)
    here = (
      slice_get_within numbers k found.0 found.1,
      get_or_from_slice_get numbers k found.0 found.0 found.1,
    )

pub packed_of_own : (own : List Step) (names : List (Option Ref)) (last : ℕ) (packet : List Step) → IsPack own names last packet → AreOfOwn own packet
packed_of_own own names last packet pack new has =
    let found = own_of own names pack.numbers packet new pack.packed has in
    subst (Contains (map known_of own)) (sym found.2.2) (Contains-map known_of own found.2.0 (item_at-contains own found.0 found.2.0 found.2.1))

-- a step that is rested on has no greater tag
tag_up : (inputs : List Known) (packets : List (List Known)) (own : List Step) (names : List (Option Ref)) (last number : ℕ) (users : List ℕ) → AreOkSteps inputs packets [] own → IsCitedAlong (RestsOn own names) last number users
    → tag_of (item_at (map known_of own) number) ≤ tag_of (item_at (map known_of own) last)
tag_up inputs packets own names last number [] ok is = let e = ap (λ n. tag_of (item_at (map known_of own) n)) is in omega (arith, e)
tag_up inputs packets own names last number (user ∷ users) ok ((step, is, (hint, has, leads)), along) =
    let above = tag_up inputs packets own names last user users ok along in
    let fine : IsOkStep (known inputs packets (map known_of own)) step = ok_in_the_end inputs packets [] own step ok (item_at-contains own user step is) in
    let named : known inputs packets (map known_of own) hint ≡ item_at (map known_of own) number =
    ap (known inputs packets (map known_of own)) (unnamed-own names hint number leads).0 in
    let under = tag_under (item_at (map known_of own) number) (λ one is.
    hint_tag_within (known inputs packets (map known_of own)) step hint one fine has
    (named ∙ is)) in
    let users_tag : tag_of (item_at (map known_of own) user) ≡ step.tag = ap tag_of (item_at-map known_of own user ∙ ap (option_map known_of) is) in
    omega (arith, above, under, users_tag)
  where
    tag_under : {bound : ℕ} (found : Option Known)
        → ((one : Known) → found ≡ Some one → one.tag ≤ bound)
        → tag_of found ≤ bound
    tag_under None low = omega arith
    tag_under (Some one) low = low one refl

pub packed_tags : (own : List Step) (names : List (Option Ref)) (last : ℕ) (packet : List Step) → IsPack own names last packet → HasGreatestTagLast own packet
packed_tags own names last packet pack inputs packets ok new has =
    let found = own_of own names pack.numbers packet new pack.packed has in
    let users = (pack.reached.exactly found.0).0 found.1 in
    let up = tag_up inputs packets own names last found.0 users.0 ok users.1 in
    let here : tag_of (item_at (map known_of own) found.0) ≡ found.2.0.tag = ap tag_of (item_at-map known_of own found.0 ∙ ap (option_map known_of) found.2.1) in
    let same : new.tag ≡ found.2.0.tag = ap (λ (k : Known). k.tag) found.2.2 in
    let ends = ap tag_of (packed_ends own names last packet pack) in
    omega (arith, up, here, same, ends)
