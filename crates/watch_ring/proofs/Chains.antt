-- Chains of links, and what one write leaves of them.
use Rattle.std.proofs.Common.{◌≡◌, ◌∙◌, ℕ, zero, suc, ◌<◌, ◌≤◌, List, [], ◌∷◌, ◌++◌, length, refl, ap, subst, sym, arith, set}
use Rattle.std.specs.Prelude.{Contains, Option, None, Some}
use Rattle.std.proofs.lemmas.List.{get_or-set_same, get_or-set_other}
use Rattle.watch_ring.specs.Ring.{IsOnce, last_behind}
use Rattle.watch_ring.specs.Layout.{link_at, walk, IsChain}
use Rattle.std.proofs.lemmas.List.Elements.{Contains-append_left}
use Rattle.watch_ring.proofs.Lists.{here, there, last_in}

pub chain_walk : (links : List (Option ℕ)) (link : Option ℕ) (xs : List ℕ) (n : ℕ) → IsChain links link xs → length xs ≤ n → walk links n link ≡ xs
chain_walk links link [] zero c le = refl
chain_walk links link [] (suc n) c le = ap (walk links (suc n)) c
chain_walk links link (x ∷ xs) zero c le = absurd (omega (arith, le))
chain_walk links link (x ∷ xs) (suc n) c le =
    ap (walk links (suc n)) c.0 ∙ ap (λ (ys : List ℕ). x ∷ ys) (chain_walk links (link_at links x) xs n c.1 (omega arith))

-- a chain goes the same way along links that are the same
pub chain_same : (links new : List (Option ℕ)) (link : Option ℕ) (xs : List ℕ) → ((i : ℕ) → link_at new i ≡ link_at links i) → IsChain links link xs → IsChain new link xs
chain_same links new link [] same c = c
chain_same links new link (x ∷ xs) same c =
    (c.0, subst (λ l. IsChain new l xs) (sym (same x)) (chain_same links new (link_at links x) xs same c.1))

-- a write at a number that isn't in it
pub chain_set : (links : List (Option ℕ)) (link : Option ℕ) (xs : List ℕ) (w : ℕ) (to : Option ℕ) → (Contains xs w → ⊥) → IsChain links link xs → IsChain (set links w to) link xs
chain_set links link [] w to never c = c
chain_set links link (x ∷ xs) w to never c = (
  c.0,
  subst (λ l. IsChain (set links w to) l xs) (sym (get_or-set_other links w x to None (λ e. never (subst (Contains (x ∷ xs)) e (here x xs)))))
      (chain_set links (link_at links x) xs w to (λ h. never (there x w xs h)) c.1),
)

-- what is behind a number
pub chain_back : (links : List (Option ℕ)) (link : Option ℕ) (front : List ℕ) (w : ℕ) (back : List ℕ) → IsChain links link (front ++ w ∷ back) → IsChain links (link_at links w) back
chain_back links link [] w back c = c.1
chain_back links link (x ∷ front) w back c = chain_back links (link_at links x) front w back c.1

-- the number before is led past
pub chain_cut : (links : List (Option ℕ)) (link : Option ℕ) (x : ℕ) (front : List ℕ) (w : ℕ) (back : List ℕ) (p : ℕ) → p < length links → last_behind (Some x) front ≡ Some p → IsOnce (x ∷ front ++ w ∷ back) → IsChain links link (x ∷ front ++ w ∷ back) → IsChain (set links p (link_at links w)) link (x ∷ front ++ back)
chain_cut links link x [] w back p lt last once c = (
  c.0,
  subst (λ l. IsChain (set links p (link_at links w)) l back) (sym (is (inside last)))
      (chain_set links (link_at links w) back p (link_at links w) (λ h. once.0 (there w x back (subst (Contains back) (sym (inside last)) h))) c.1.1),
)
  where
    inside : Some x ≡ Some p → x ≡ p
    inside f = grind arith

    is : x ≡ p → link_at (set links p (link_at links w)) x ≡ link_at links w
    is e = ap (link_at (set links p (link_at links w))) e ∙ get_or-set_same links p (link_at links w) None lt
chain_cut links link x (y ∷ front) w back p lt last once c = (
  c.0,
  subst (λ l. IsChain (set links p (link_at links w)) l (y ∷ front ++ back)) (sym (get_or-set_other links p x (link_at links w) None apart))
      (chain_cut links (link_at links x) y front w back p lt last once.1 c.1),
)
  where
    apart : x ≡ p → ⊥
    apart e = once.0 (subst (Contains (y ∷ front ++ w ∷ back)) (sym e) (Contains-append_left (y ∷ front) (w ∷ back) p (last_in y p front last)))
