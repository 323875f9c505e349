-- The walk from the start down to all that is reached from it.
use Rattle.std.proofs.Common.{◌≡◌, ◌∙◌, ℕ, ◌-◌, ◌<◌, List, [], ◌∷◌, ◌++◌, length, reverse, get_or, refl, subst, sym, ap, inl, inr, arith}
use Rattle.std.proofs.lemmas.List.{get_or-reverse, length-reverse, reverse-append}
use Rattle.std.specs.Prelude.{Contains, ◌⊎◌, ◌↔◌, Option, Some, None, IsSome, AllPairs}
use Rattle.std.proofs.lemmas.List.Elements.{Contains-append_left, Contains-push, Contains-push_cases, Contains-get_or}
use Rattle.std.proofs.lemmas.List.Quantifiers.{all_pairs_push}
use Rattle.sat_base.proofs.Members.{Contains-here, Contains-cases}
use Rattle.trace_core.proofs.Items.{nothing_in}
use Rattle.trace_trim.specs.Reached.{IsReached, IsCitedAlong, AreReached}
use Rattle.trace_trim.proofs.Order.{peak, peak-below, peak-above}

-- Citations go to what is there and comes earlier, in an order that composes.
pub record LookBack {X : Type 0} (cites before : X → X → Type 0) (IsThere : X → Type 0) : Type 0 where
  pub composes : (a b c : X) → before a b → before b c → before a c
  pub there : (user other : X) → cites user other → IsThere other
  pub earlier : (user other : X) → cites user other → before other user

-- Those met so far, from the start downwards, and those that are cited by them and come later.
pub record IsWalk {X : Type 0} (cites before : X → X → Type 0) (IsThere : X → Type 0) (start : X) (met pending : List X) : Type 0 where
  pub reached : (one : X) → Contains met one ⊎ Contains pending one → IsReached cites start one
  pub closed : (user one : X) → Contains met user → cites user one → Contains met one ⊎ Contains pending one
  pub descending : AllPairs (λ later earlier. before earlier later) met
  pub below : (one user : X) → Contains pending one → Contains met user → before one user
  pub there : (one : X) → Contains pending one → IsThere one
  pub back : List X
  pub begins : met ≡ start ∷ back

-- keys that grow by what one cites, told by what there is of that one
pub cited_now : {X Y : Type 0} (P : Y → X → Type 0) (found : Option Y) (y : Y) (old more : List X) → found ≡ Some y
    → ((other : X) → Contains more other ↔ (Contains old other ⊎ P y other)) → (other : X) → Contains more other ↔ (Contains old other ⊎ ((z : Y) × (found ≡ Some z) × P z other))
cited_now {X} {Y} P found y old more is now other = (λ has. widened ((now other).0 has), λ has. (now other).1 (narrowed has))
  where
    widened : Contains old other ⊎ P y other → Contains old other ⊎ ((z : Y) × (found ≡ Some z) × P z other)
    widened (inl has) = inl has
    widened (inr cites) = inr (y, is, cites)

    narrowed : Contains old other ⊎ ((z : Y) × (found ≡ Some z) × P z other) → Contains old other ⊎ P y other
    narrowed (inl has) = inl has
    narrowed (inr (z, there, cites)) = let same : z ≡ y = cc in inr (subst (λ w. P w other) same cites)

-- those met and those pending after one more, whose citations become pending
pub advanced : {X : Type 0} (cites before : X → X → Type 0) (IsThere : X → Type 0) (start : X) (met pending rest more : List X) (one : X)
    → LookBack cites before IsThere → IsWalk cites before IsThere start met pending → pending ≡ rest ++ one ∷ [] → ((other : X) → Contains rest other → before other one)
    → ((other : X) → Contains more other ↔ (Contains rest other ⊎ cites one other)) → IsWalk cites before IsThere start (met ++ one ∷ []) more
advanced {X} cites before IsThere start met pending rest more one look walk parts under now = record {
  reached = reached;
  closed = closed;
  descending = all_pairs_push (λ later early. before early later) met one walk.descending (λ k d lt. walk.below one (get_or met k d) one_pending (Contains-get_or met k d lt));
  below = below;
  there = λ other has. there other ((now other).0 has);
  back = walk.back ++ one ∷ [];
  begins = ap (λ xs. xs ++ one ∷ []) walk.begins;
}
  where
    one_pending : Contains pending one
    one_pending = subst (λ xs. Contains xs one) (sym parts) (Contains-push rest one)

    rest_pending : (other : X) → Contains rest other → Contains pending other
    rest_pending other has = subst (λ xs. Contains xs other) (sym parts) (Contains-append_left rest (one ∷ []) other has)

    reached_cited : (other : X) → cites one other → IsReached cites start other
    reached_cited other citing = let users = walk.reached one (inr one_pending) in (one ∷ users.0, (citing, users.1))

    reached_more : (other : X) → Contains rest other ⊎ cites one other → IsReached cites start other
    reached_more other (inl has) = walk.reached other (inr (rest_pending other has))
    reached_more other (inr citing) = reached_cited other citing

    reached_old : (other : X) → Contains met other ⊎ (one ≡ other) → IsReached cites start other
    reached_old other (inl has) = walk.reached other (inl has)
    reached_old other (inr same) = subst (IsReached cites start) same (walk.reached one (inr one_pending))

    reached : (other : X) → Contains (met ++ one ∷ []) other ⊎ Contains more other → IsReached cites start other
    reached other (inl has) = reached_old other (Contains-push_cases met one other has)
    reached other (inr has) = reached_more other ((now other).0 has)

    still : (other : X) → Contains rest other ⊎ (one ≡ other) → Contains (met ++ one ∷ []) other ⊎ Contains more other
    still other (inl has) = inr ((now other).1 (inl has))
    still other (inr same) = inl (subst (Contains (met ++ one ∷ [])) same (Contains-push met one))

    moved : (other : X) → Contains met other ⊎ Contains pending other → Contains (met ++ one ∷ []) other ⊎ Contains more other
    moved other (inl has) = inl (Contains-append_left met (one ∷ []) other has)
    moved other (inr has) = still other (Contains-push_cases rest one other (subst (λ xs. Contains xs other) parts has))

    closed_user : (user other : X) → Contains met user ⊎ (one ≡ user) → cites user other → Contains (met ++ one ∷ []) other ⊎ Contains more other
    closed_user user other (inl has) citing = moved other (walk.closed user other has citing)
    closed_user user other (inr same) citing = inr ((now other).1 (inr (subst (λ z. cites z other) (sym same) citing)))

    closed : (user other : X) → Contains (met ++ one ∷ []) user → cites user other → Contains (met ++ one ∷ []) other ⊎ Contains more other
    closed user other has citing = closed_user user other (Contains-push_cases met one user has) citing

    before_one : (other : X) → Contains rest other ⊎ cites one other → before other one
    before_one other (inl has) = under other has
    before_one other (inr citing) = look.earlier one other citing

    below_user : (other user : X) → before other one → Contains met user ⊎ (one ≡ user) → before other user
    below_user other user early (inl has) = look.composes other one user early (walk.below one user one_pending has)
    below_user other user early (inr same) = subst (before other) same early

    below : (other user : X) → Contains more other → Contains (met ++ one ∷ []) user → before other user
    below other user has used = below_user other user (before_one other ((now other).0 has)) (Contains-push_cases met one user used)

    there : (other : X) → Contains rest other ⊎ cites one other → IsThere other
    there other (inl has) = walk.there other (rest_pending other has)
    there other (inr citing) = look.there one other citing

-- the walk before its first step down
pub begun : {X : Type 0} (cites before : X → X → Type 0) (IsThere : X → Type 0) (start : X) (met pending : List X)
    → LookBack cites before IsThere → met ≡ start ∷ [] → ((other : X) → Contains pending other ↔ (Contains [] other ⊎ cites start other)) → IsWalk cites before IsThere start met pending
begun {X} cites before IsThere start met pending look single now = record {
  reached = reached;
  closed = closed;
  descending = subst (AllPairs (λ later early. before early later)) (sym single) (λ i j d lt within. absurd (omega arith));
  below = λ other user has used. subst (before other) (only user used) (look.earlier start other (cited other has));
  there = λ other has. look.there start other (cited other has);
  back = [];
  begins = single;
}
  where
    only_here : (user : X) → (start ≡ user) ⊎ Contains [] user → start ≡ user
    only_here user (inl same) = same
    only_here user (inr none) = nothing_in user none

    only : (user : X) → Contains met user → start ≡ user
    only user has = only_here user (Contains-cases start user [] (subst (λ xs. Contains xs user) single has))

    citing : (other : X) → Contains [] other ⊎ cites start other → cites start other
    citing other (inl none) = nothing_in other none
    citing other (inr h) = h

    cited : (other : X) → Contains pending other → cites start other
    cited other has = citing other ((now other).0 has)

    reached : (other : X) → Contains met other ⊎ Contains pending other → IsReached cites start other
    reached other (inl has) = ([], sym (only other has))
    reached other (inr has) = (start ∷ [], (cited other has, refl))

    closed : (user other : X) → Contains met user → cites user other → Contains met other ⊎ Contains pending other
    closed user other used h = inr ((now other).1 (inr (subst (λ z. cites z other) (sym (only user used)) h)))

-- where nothing is pending, each that is reached was met
all_there : {X : Type 0} (cites before : X → X → Type 0) (IsThere : X → Type 0) (start : X) (met : List X) → IsWalk cites before IsThere start met [] → (one : X) (users : List X) → IsCitedAlong cites start one users → Contains met one
all_there cites before IsThere start met walk one [] is = subst (λ xs. Contains xs one) (sym walk.begins) (subst (Contains (start ∷ walk.back)) (sym is) (Contains-here start walk.back))
all_there {X} cites before IsThere start met walk one (user ∷ users) (citing, along) = found (walk.closed user one (all_there cites before IsThere start met walk user users along) citing)
  where
    found : Contains met one ⊎ Contains [] one → Contains met one
    found (inl has) = has
    found (inr none) = nothing_in one none

pub Contains-reverse : {X : Type 0} (xs : List X) (x : X) → Contains xs x → Contains (reverse xs) x
Contains-reverse xs x (k, lt, is) =
    let k' : ℕ = length xs - 1 - k in
    let in' : length xs - 1 - k < length xs = omega arith in
    let e : get_or (reverse xs) (length xs - 1 - k) x ≡ get_or xs (length xs - 1 - (length xs - 1 - k)) x = get_or-reverse xs (length xs - 1 - k) x in' in
    let same : length xs - 1 - (length xs - 1 - k) ≡ k = omega arith in
    (length xs - 1 - k, omega (arith, length-reverse xs), e ∙ ap (λ i. get_or xs i x) same ∙ is)

pub Contains-from_reverse : {X : Type 0} (xs : List X) (x : X) → Contains (reverse xs) x → Contains xs x
Contains-from_reverse xs x (k, lt, is) =
    let within : k < length xs = omega (arith, length-reverse xs) in
    (length xs - 1 - k, omega arith, sym (get_or-reverse xs k x within) ∙ is)

-- the walk is over: those met, turned round
pub over : {X : Type 0} (cites before : X → X → Type 0) (IsThere : X → Type 0) (start : X) (met pending turned : List X) → IsWalk cites before IsThere start met pending → pending ≡ [] → turned ≡ reverse met → AreReached cites before start turned
over {X} cites before IsThere start met pending turned walk done is = subst (AreReached cites before start) (sym is) (record {
  exactly = λ one. (λ has. walk.reached one (inl (Contains-from_reverse met one has)), λ users. Contains-reverse met one (all_there cites before IsThere start met empty one users.0 users.1));
  ascending = ascending;
  front = reverse walk.back;
  ends = ap reverse walk.begins ∙ reverse-append (start ∷ []) walk.back;
})
  where
    empty : IsWalk cites before IsThere start met []
    empty = subst (IsWalk cites before IsThere start met) done walk

    ascending : AllPairs before (reverse met)
    ascending i j d lt within =
        let j_in : j < length met = omega (arith, length-reverse met) in
        let i_in : i < length met = omega arith in
        subst (λ a. before a (get_or (reverse met) j d)) (sym (get_or-reverse met i d i_in))
        (subst (before (get_or met (length met - 1 - i) d)) (sym (get_or-reverse met j d j_in))
        (walk.descending (length met - 1 - j) (length met - 1 - i) d (omega arith) (omega arith)))

-- the greatest rank that is pending falls
pub falls : {X : Type 0} (cites before : X → X → Type 0) (IsThere : X → Type 0) (rank_of : X → ℕ) (start : X) (met pending rest more : List X) (one : X)
    → ((a b : X) → before a b → IsThere a → IsThere b → rank_of a < rank_of b)
    → IsWalk cites before IsThere start met pending → pending ≡ rest ++ one ∷ [] → IsWalk cites before IsThere start (met ++ one ∷ []) more → peak rank_of more < peak rank_of pending
falls cites before IsThere rank_of start met pending rest more one rises walk parts next =
    let one_pending : Contains pending one = subst (λ xs. Contains xs one) (sym parts) (Contains-push rest one) in
    let top = peak-above rank_of pending one one_pending in
    let under = peak-below rank_of more (rank_of one) (λ other has. rises other one (next.below other one has (Contains-push met one)) (next.there other has) (walk.there one one_pending)) in
    omega arith

-- a set that gives no greatest key is empty
pub none_left : {X : Type 0} (keys : List X) (found : Option X) → (IsSome found ↔ (0 < length keys)) → found ≡ None → keys ≡ []
none_left [] found some none = refl
none_left (key ∷ keys) found some none = let there : IsSome found = some.1 (omega arith) in absurd (cc)

along_there : {X : Type 0} (cites before : X → X → Type 0) (IsThere : X → Type 0) (start one : X) (users : List X) → LookBack cites before IsThere → IsThere start → IsCitedAlong cites start one users → IsThere one
along_there cites before IsThere start one [] look begin is = subst IsThere (sym is) begin
along_there cites before IsThere start one (user ∷ users) look begin along = look.there user one along.0

-- all that is reached is there
pub reached_there : {X : Type 0} (cites before : X → X → Type 0) (IsThere : X → Type 0) (start : X) (reached : List X) (one : X) → LookBack cites before IsThere → IsThere start → AreReached cites before start reached → Contains reached one → IsThere one
reached_there cites before IsThere start reached one look begin are has = let users = (are.exactly one).0 has in along_there cites before IsThere start one users.0 look begin users.1

-- what one that is reached cites is reached
pub cited_there : {X : Type 0} (cites before : X → X → Type 0) (start : X) (reached : List X) (user other : X) → AreReached cites before start reached → Contains reached user → cites user other → Contains reached other
cited_there cites before start reached user other are has citing = let users = (are.exactly user).0 has in (are.exactly other).1 (user ∷ users.0, (citing, users.1))
