-- Walks over assigned variables.
use Rattle.std.proofs.Common.{◌≡◌, ◌∙◌, ℕ, ◌<◌, ◌≤◌, List, [], ◌∷◌, ◌++◌, length, ap, subst, sym, arith, true, Option, Some, None}
use Rattle.std.specs.Prelude.{IfSome}
use Rattle.std.specs.Option.{is_some}
use Rattle.std.proofs.lemmas.List.{append_assoc, length-append}
use Rattle.std.proofs.lemmas.List.Elements.{All-push}
use Rattle.trail_core.specs.Trail.{Entry, StandsAt}
use Rattle.pick_core.specs.declared.links.Links.{Links}
use Rattle.pick_core.specs.Links.{IsWay, HasWay, farther_at, walk}
use Rattle.pick_core.specs.Assigned.{IsAssigned, AreAssigned}
use Rattle.pick_core.proofs.Circles.{walk_is}

-- a walk that has come to a variable, or to 0
pub record IsPassed (entries : List Entry) (links : List Links) (vars : List ℕ) (at : ℕ) : Type 0 where
  pub passed : List ℕ
  pub left : List ℕ
  pub is : vars ≡ passed ++ left
  pub way : IsWay links at left
  pub assigned : AreAssigned entries passed

pub way_within : (links : List Links) (at : ℕ) (xs : List ℕ) → IsWay links at xs → (at ≡ 0 → ⊥) → at < length links
way_within links at [] w n = absurd (n w)
way_within links at (x ∷ xs) w n = subst (λ k. k < length links) (sym w.0) w.2

pub shorter : (links : List Links) (n at next : ℕ) (xs : List ℕ) → IsWay links at xs → (at ≡ 0 → ⊥) → length xs ≤ n → next ≡ farther_at links at → length (walk links n next) < length (walk links n at)
shorter links n at next [] w nz le e = absurd (nz w)
shorter links n at next (x ∷ xs) w nz le e =
    let rest : IsWay links next xs = subst (λ k. IsWay links k xs) (sym (e ∙ ap (farther_at links) w.0)) w.3 in
    let a = ap (λ (ys : List ℕ). length ys) (walk_is links n at (x ∷ xs) w le) in
    let b = ap (λ (ys : List ℕ). length ys) (walk_is links n next xs rest (omega (arith, le))) in
    omega (arith, a, b)

pub left_short : (entries : List Entry) (links : List Links) (from at : ℕ) (h : HasWay links from) (p : IsPassed entries links h.vars at) → length p.left ≤ length links
left_short entries links from at h p = omega (arith, h.short, ap (λ (xs : List ℕ). length xs) p.is, length-append p.passed p.left)

pub step : (entries : List Entry) (links : List Links) (vars : List ℕ) (at next : ℕ) → IsPassed entries links vars at → (at ≡ 0 → ⊥) → IsAssigned entries at → next ≡ farther_at links at → IsPassed entries links vars next
step entries links vars at next p nz assigned e = by p.left p.is p.way
  where
    by : (left : List ℕ) → vars ≡ p.passed ++ left → IsWay links at left → IsPassed entries links vars next
    by [] is w = absurd (nz w)
    by (x ∷ xs) is w = record {
      passed = p.passed ++ x ∷ [];
      left = xs;
      is = is ∙ sym (append_assoc p.passed (x ∷ []) xs);
      way = subst (λ k. IsWay links k xs) (sym (e ∙ ap (farther_at links) w.0)) w.3;
      assigned = All-push (IsAssigned entries) p.passed x p.assigned (subst (IsAssigned entries) w.0 assigned);
    }

pub is_assigned : (entries : List Entry) (at : ℕ) (found : Option ℕ) → is_some found ≡ true → IfSome found (λ place. StandsAt entries at place) → IsAssigned entries at
is_assigned entries at None e h = absurd (grind (arith, e))
is_assigned entries at (Some place) e h = record { place = place; stands = h }
