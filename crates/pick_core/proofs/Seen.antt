-- What a queue's links say of its order.
use Rattle.std.proofs.Common.{◌≡◌, ◌∙◌, ℕ, ◌+◌, ◌-◌, ◌<◌, ◌≤◌, List, [], ◌∷◌, ◌++◌, length, take, replicate, refl, ap, subst, sym, inl, inr, arith, true, false, get_or}
use Rattle.std.specs.Prelude.{◌⊎◌, Contains, ◌==◌, if◌then◌else◌}
use Rattle.std.proofs.lemmas.Bool.{cases_lt}
use Rattle.std.proofs.lemmas.Bool.Decides.{nat_tests}
use Rattle.std.proofs.lemmas.List.{append-nil, append_assoc, length-append, take_all, length-replicate, get_or_append_left, get_or-append-add, get_or-replicate}
use Rattle.std.proofs.Math.ListN.{get_or-eq_default}
use Rattle.std.proofs.lemmas.List.Elements.{All-append, All-contains, Contains-append_right}
use Rattle.trail_core.specs.Trail.{Entry, IsFree}
use Rattle.pick_core.specs.declared.links.Links.{Links}
use Rattle.pick_core.specs.Queue.{QueueView, IsOnce, HasEachOnce, IsQueue}
use Rattle.pick_core.specs.Links.{first_of, farther_at, nearer_at, IsLinked, IsOrder, IsWay, HasWay, IsFoundOn}
use Rattle.pick_core.specs.Layout.{front_to, order_of, seen, IsLaid, IsKeptIn}
use Rattle.pick_core.specs.Assigned.{IsAssigned, AreAssigned, AreAllAssigned, IsNearestFree}
use Rattle.pick_core.proofs.Lists.{here, there, not_first}
use Rattle.pick_core.proofs.Circles.{same_linked, first_is, way_of, way_behind, way_first, walk_is}

pub short : (links : List Links) (order : List ℕ) → IsOrder links order → length order ≤ length links
short links [] o = omega arith
short links (x ∷ xs) o = let k = o.room (omega arith) in omega (arith, k)

pub whole_way : (links : List Links) (order : List ℕ) → IsOrder links order → IsWay links (farther_at links 0) order
whole_way links order o = way_of links 0 order o.linked
    (λ v h. let k = o.variables.known v h in let r = o.room (omega (arith, h.1)) in (k.0, omega (arith, k.1, r)))

pub order_is : (links : List Links) (order : List ℕ) → IsOrder links order → order_of links ≡ order
order_is links order o = walk_is links (length links) (farther_at links 0) order (whole_way links order o) (short links order o)

same_number : (n : ℕ) → (n == n) ≡ true
same_number n = grind (arith, nat_tests)

other_number : (n m : ℕ) → (n ≡ m → ⊥) → (n == m) ≡ false
other_number n m h = grind (arith, nat_tests)

-- what is skipped is the front up to the cursor
pub front_is : (cursor : ℕ) (skipped rest : List ℕ) → cursor ≡ first_of rest → IsOnce (skipped ++ rest) → (Contains (skipped ++ rest) 0 → ⊥) → front_to cursor (skipped ++ rest) ≡ skipped
front_is cursor [] [] e once zeros = refl
front_is cursor [] (x ∷ xs) e once zeros =
    ap (λ n. front_to n (x ∷ xs)) e ∙ ap (λ b. if b then [] else x ∷ front_to x xs) (same_number x)
front_is cursor (y ∷ skipped) rest e once zeros =
    ap (λ b. if b then [] else y ∷ front_to cursor (skipped ++ rest)) (other_number y cursor (λ f. apart (f ∙ e)))
    ∙ ap (λ (xs : List ℕ). y ∷ xs) (front_is cursor skipped rest e once.1 (λ h. zeros (there y 0 (skipped ++ rest) h)))
  where
    behind : Contains rest y → Contains (skipped ++ rest) y
    behind h = Contains-append_right skipped rest y h

    apart : y ≡ first_of rest → ⊥
    apart = not_first y rest (λ h. once.0 (behind h)) (λ z. zeros (subst (Contains (y ∷ skipped ++ rest)) z (here y (skipped ++ rest))))

pub view_of : (vars : ℕ) (skipped rest : List ℕ) → QueueView
view_of vars skipped rest = record { order = skipped ++ rest; skipped = skipped; vars = vars }

no_zero : (order : List ℕ) (vars : ℕ) → HasEachOnce order vars → Contains order 0 → ⊥
no_zero order vars q h = let k = q.known 0 h in omega (arith, k.0)

pub seen_is : (links : List Links) (cursor vars : ℕ) (skipped rest : List ℕ) → IsLaid links cursor vars skipped rest → seen links cursor vars ≡ record { order = skipped ++ rest; skipped = skipped; vars = vars }
seen_is links cursor vars skipped rest laid =
    let view : List ℕ → List ℕ → QueueView = λ o s. record { order = o; skipped = s; vars = vars } in
    ap (λ o. view o (front_to cursor o)) (order_is links (skipped ++ rest) laid.order)
    ∙ ap (view (skipped ++ rest)) (front_is cursor skipped rest laid.cursor_is laid.order.variables.once (no_zero (skipped ++ rest) (length (skipped ++ rest)) laid.order.variables))

-- the view of a queue and its fields
pub record IsSeen (links : List Links) (cursor vars : ℕ) (view : QueueView) : Type 0 where
  pub order : IsOrder links view.order
  pub rest : List ℕ
  pub front : view.order ≡ view.skipped ++ rest
  pub cursor_is : cursor ≡ first_of rest
  pub size : vars ≡ length view.order
  pub vars_is : vars ≡ view.vars
  pub tight : length links ≤ vars + 1

pub is_seen : (links : List Links) (cursor vars : ℕ) (view : QueueView) → IsKeptIn links cursor vars → seen links cursor vars ≡ view → IsSeen links cursor vars view
is_seen links cursor vars view k e =
    subst (IsSeen links cursor vars) (sym (seen_is links cursor vars k.skipped k.rest k.laid) ∙ e) (record {
      order = k.laid.order;
      rest = k.rest;
      front = refl;
      cursor_is = k.laid.cursor_is;
      size = k.laid.vars_is;
      vars_is = refl;
      tight = k.laid.tight;
    })

-- a queue that skips nothing
pub kept_from : (links : List Links) (vars : ℕ) (order : List ℕ) (cursor : ℕ) → IsOrder links order → cursor ≡ farther_at links 0 → vars ≡ length order → length links ≤ vars + 1 → IsKeptIn links cursor vars
kept_from links vars order cursor o e size tight = record {
  skipped = [];
  rest = order;
  laid = record { order = o; cursor_is = e ∙ first_is links 0 order o.linked; vars_is = size; tight = tight };
}

pub none_skipped : (links : List Links) (order : List ℕ) (cursor : ℕ) → IsOrder links order → cursor ≡ farther_at links 0 → front_to cursor (order_of links) ≡ []
none_skipped links order cursor o e =
    ap (front_to cursor) (order_is links order o)
    ∙ front_is cursor [] order (e ∙ first_is links 0 order o.linked) o.variables.once (no_zero order (length order) o.variables)

-- more links, to nothing
same_at : (links : List Links) (i n k : ℕ) (value : Links) → length links ≤ n → value.farther ≡ 0 → value.nearer ≡ 0 → (farther_at (take n links ++ replicate k value) i ≡ farther_at links i) × (nearer_at (take n links ++ replicate k value) i ≡ nearer_at links i)
same_at links i n k value le f m =
    subst (λ (xs : List Links). (farther_at (xs ++ replicate k value) i ≡ farther_at links i) × (nearer_at (xs ++ replicate k value) i ≡ nearer_at links i)) (sym (take_all n links le)) (by (cases_lt i (length links)))
  where
    P : Links → Type 0
    P l = (l.farther ≡ farther_at links i) × (l.nearer ≡ nearer_at links i)

    none : Links
    none = record { farther = 0; nearer = 0 }

    further : length links ≤ i → (i - length links < k) ⊎ (k ≤ i - length links) → P (get_or (links ++ replicate k value) (length links + (i - length links)) none)
    further ge (inl lt) =
        let old = get_or-eq_default links none ge in
        subst P (sym (get_or-append-add links (replicate k value) (i - length links) none ∙ get_or-replicate k (i - length links) value none lt))
        (f ∙ sym (ap (λ (l : Links). l.farther) old), m ∙ sym (ap (λ (l : Links). l.nearer) old))
    further ge (inr past) =
        let old = get_or-eq_default links none ge in
        subst P (sym (get_or-append-add links (replicate k value) (i - length links) none ∙ get_or-eq_default (replicate k value) none (omega (arith, past, length-replicate k value))))
        (sym (ap (λ (l : Links). l.farther) old), sym (ap (λ (l : Links). l.nearer) old))

    by : (i < length links) ⊎ (length links ≤ i) → P (get_or (links ++ replicate k value) i none)
    by (inl lt) = subst P (sym (get_or_append_left links (replicate k value) none i lt)) (refl, refl)
    by (inr ge) =
        let e : length links + (i - length links) ≡ i = omega (arith, ge) in
        subst (λ j. P (get_or (links ++ replicate k value) j none)) e (further ge (cases_lt (i - length links) k))

pub longer : (links new : List Links) (order : List ℕ) (n k : ℕ) (value : Links) → IsOrder links order → length links ≤ n → value.farther ≡ 0 → value.nearer ≡ 0 → new ≡ take n links ++ replicate k value → length new ≡ n → IsOrder new order
longer links new order n k value o le f m e size = record {
  linked = subst (λ (xs : List Links). IsLinked xs 0 order) (sym e)
      (same_linked links (take n links ++ replicate k value) 0 order (λ v h. (same_at links v n k value le f m).0) (λ v h. (same_at links v n k value le f m).1) (same_at links 0 n k value le f m).1 o.linked);
  variables = o.variables;
  room = λ some. let r = o.room some in omega (arith, r, size, le);
}

-- a search
abbrev pub has_way : (links : List Links) (cursor vars : ℕ) (view : QueueView) → IsSeen links cursor vars view → HasWay links cursor
has_way links cursor vars view s =
    let w = subst (IsWay links (farther_at links 0)) s.front (whole_way links view.order s.order) in
    record {
      vars = s.rest;
      is = subst (λ n. IsWay links n s.rest) (sym s.cursor_is) (way_behind links (farther_at links 0) view.skipped s.rest w);
      short = omega (arith, short links view.order s.order, ap (λ (xs : List ℕ). length xs) s.front, length-append view.skipped s.rest);
    }

pub record IsSearched (entries : List Entry) (links : List Links) (vars : ℕ) (view : QueueView) (result : ℕ) : Type 0 where
  pub skipped : List ℕ
  pub left : List ℕ
  pub laid : IsLaid links result vars skipped left
  pub same : view.order ≡ skipped ++ left
  pub variables : HasEachOnce view.order view.vars
  pub assigned : AreAssigned entries skipped
  pub way : IsWay links result left
  pub free : 1 ≤ result → IsFree entries result

pub searched : (entries : List Entry) (links : List Links) (cursor vars : ℕ) (view : QueueView) (result : ℕ) → (s : IsSeen links cursor vars view) → AreAssigned entries view.skipped → ((rest : List ℕ) → IsWay links cursor rest → IsFoundOn entries links rest result) → IsSearched entries links vars view result
searched entries links cursor vars view result s assigned find = by (find s.rest (has_way links cursor vars view s).is)
  where
    by : IsFoundOn entries links s.rest result → IsSearched entries links vars view result
    by found =
        let same : view.order ≡ (view.skipped ++ found.passed) ++ found.left = s.front ∙ ap (λ (xs : List ℕ). view.skipped ++ xs) found.is ∙ sym (append_assoc view.skipped found.passed found.left) in
        record {
          skipped = view.skipped ++ found.passed;
          left = found.left;
          laid = record {
            order = subst (IsOrder links) same s.order;
            cursor_is = way_first links result found.left found.way;
            vars_is = s.size ∙ ap (λ (xs : List ℕ). length xs) same;
            tight = s.tight;
          };
          same = same;
          variables = subst (HasEachOnce view.order) (sym s.size ∙ s.vars_is) s.order.variables;
          assigned = All-append (IsAssigned entries) view.skipped found.passed assigned found.assigned;
          way = found.way;
          free = found.free;
        }

pub kept_searched : (entries : List Entry) (links : List Links) (vars : ℕ) (view : QueueView) (result : ℕ) → IsSearched entries links vars view result → IsKeptIn links result vars
kept_searched entries links vars view result s = record { skipped = s.skipped; rest = s.left; laid = s.laid }

pub all_assigned : (entries : List Entry) (links : List Links) (vars : ℕ) (view : QueueView) (result : ℕ) → IsSearched entries links vars view result → result ≡ 0 → AreAllAssigned entries view.vars
all_assigned entries links vars view result s z = by s.left s.same s.way
  where
    by : (left : List ℕ) → view.order ≡ s.skipped ++ left → IsWay links result left → AreAllAssigned entries view.vars
    by [] is w = λ var low high. All-contains (IsAssigned entries) s.skipped var s.assigned (subst (λ (xs : List ℕ). Contains xs var) (is ∙ append-nil s.skipped) (s.variables.each var low high))
    by (x ∷ xs) is w = absurd (omega (arith, w.0, w.1, z))

pub nearest : (entries : List Entry) (links : List Links) (vars : ℕ) (view : QueueView) (result : ℕ) → IsSearched entries links vars view result → (result ≡ 0 → ⊥) → IsNearestFree entries view.order result
nearest entries links vars view result s n = by s.left s.same s.way
  where
    by : (left : List ℕ) → view.order ≡ s.skipped ++ left → IsWay links result left → IsNearestFree entries view.order result
    by [] is w = absurd (n w)
    by (x ∷ xs) is w = record {
      front = s.skipped;
      back = xs;
      is = is ∙ ap (λ k. s.skipped ++ k ∷ xs) (sym w.0);
      assigned = s.assigned;
      free = s.free (omega (arith, n));
    }

pub queue_searched : (entries : List Entry) (links : List Links) (vars : ℕ) (view : QueueView) (result : ℕ) → IsSearched entries links vars view result → vars ≡ view.vars → IsQueue (seen links result vars)
queue_searched entries links vars view result s e =
    subst IsQueue (sym (seen_is links result vars s.skipped s.left s.laid))
    (record {
      variables = subst (λ (xs : List ℕ). HasEachOnce xs vars) s.same (subst (HasEachOnce view.order) (sym e) s.variables);
      rest = s.left;
      front = refl;
    })

pub skipped_searched : (entries : List Entry) (links : List Links) (vars : ℕ) (view : QueueView) (result : ℕ) → IsSearched entries links vars view result → AreAssigned entries (front_to result (order_of links))
skipped_searched entries links vars view result s =
    subst (AreAssigned entries) (sym (ap (λ (v : QueueView). v.skipped) (seen_is links result vars s.skipped s.left s.laid))) s.assigned
