-- Circles, and what new neighbours leave of them.
use Rattle.std.proofs.Common.{◌≡◌, ◌∙◌, ℕ, zero, suc, ◌+◌, ◌<◌, ◌≤◌, List, [], ◌∷◌, ◌++◌, length, refl, ap, subst, sym, inl, inr, arith, true, false, Bool}
use Rattle.std.specs.Prelude.{◌⊎◌, Contains, ◌==◌, if◌then◌else◌}
use Rattle.std.proofs.lemmas.List.{append-nil, length_push, get_or_read}
use Rattle.std.proofs.Common.{get_or}
use Rattle.std.proofs.lemmas.List.Elements.{Contains-append_right, Contains-append_left}
use Rattle.pick_core.specs.declared.links.Links.{Links}
use Rattle.pick_core.specs.Queue.{IsOnce, without, HasEachOnce, with_next}
use Rattle.pick_core.specs.Links.{first_of, last_behind, farther_at, nearer_at, IsJoined, IsLinked, IsOrder, IsWay, walk}
use Rattle.std.proofs.lemmas.Bool.Decides.{nat_tests}
use Rattle.std.proofs.lemmas.Bool.{cases_eq}
use Rattle.pick_core.proofs.Lists.{here, there, split, Cut, cut, without_split, last_in, not_first, one_more, one_moved, from_without}

-- a circle is the same where the links of its variables are
pub same_linked : (old new : List Links) (from : ℕ) (xs : List ℕ) → ((v : ℕ) → Contains (from ∷ xs) v → farther_at new v ≡ farther_at old v) → ((v : ℕ) → Contains xs v → nearer_at new v ≡ nearer_at old v) → nearer_at new 0 ≡ nearer_at old 0 → IsLinked old from xs → IsLinked new from xs
same_linked old new from [] f n z l = (f from (here from []) ∙ l.0, z ∙ l.1)
same_linked old new from (x ∷ xs) f n z l = (f from (here from (x ∷ xs)) ∙ l.0, n x (here x xs) ∙ l.1, same_linked old new x xs (λ v h. f v (there from v (x ∷ xs) h)) (λ v h. n v (there x v xs h)) z l.2)

-- a variable comes between two neighbours
pub inserted : (old mid new : List Links) (from v : ℕ) (front back : List ℕ) → IsJoined old mid (last_behind from front) v → IsJoined mid new v (first_of back) → IsOnce (from ∷ front ++ back) → (Contains (from ∷ front ++ back) v → ⊥) → (Contains (front ++ back) 0 → ⊥) → (v ≡ 0 → ⊥) → IsLinked old from (front ++ back) → IsLinked new from (front ++ v ∷ back)
inserted old mid new from v [] back j k once out zeros nz l = (
  k.other_farther from (λ e. out (subst (Contains (from ∷ back)) e (here from back))) ∙ j.farther_is,
  k.other_nearer v (not_first v back (λ h. out (there from v back h)) nz) ∙ j.nearer_is,
  behind back k once out zeros l,
)
  where
    behind : (back : List ℕ) → IsJoined mid new v (first_of back) → IsOnce (from ∷ back) → (Contains (from ∷ back) v → ⊥) → (Contains back 0 → ⊥) → IsLinked old from back → IsLinked new v back
    behind [] k once out zeros l = (k.farther_is, k.nearer_is)
    behind (x ∷ xs) k once out zeros l = (k.farther_is, k.nearer_is, same_linked old new x xs f n z l.2)
      where
        f : (u : ℕ) → Contains (x ∷ xs) u → farther_at new u ≡ farther_at old u
        f u h = k.other_farther u (λ e. out (there from v (x ∷ xs) (subst (Contains (x ∷ xs)) e h))) ∙ j.other_farther u (λ e. once.0 (subst (Contains (x ∷ xs)) e h))

        n : (u : ℕ) → Contains xs u → nearer_at new u ≡ nearer_at old u
        n u h = k.other_nearer u (λ e. once.1.0 (subst (Contains xs) e h)) ∙ j.other_nearer u (λ e. out (there from v (x ∷ xs) (there x v xs (subst (Contains xs) e h))))

        z : nearer_at new 0 ≡ nearer_at old 0
        z = k.other_nearer 0 (λ e. zeros (subst (Contains (x ∷ xs)) (sym e) (here x xs))) ∙ j.other_nearer 0 (λ e. nz (sym e))
inserted old mid new from v (y ∷ front) back j k once out zeros nz l = (
  k.other_farther from (λ e. out (subst (Contains (from ∷ y ∷ front ++ back)) e (here from (y ∷ front ++ back))))
      ∙ j.other_farther from (λ e. once.0 (subst (Contains (y ∷ front ++ back)) (sym e) (Contains-append_left (y ∷ front) back (last_behind y front) (last_in y front))))
      ∙ l.0,
  k.other_nearer y (not_first y back (λ h. once.1.0 (Contains-append_right front back y h)) (λ e. zeros (subst (Contains (y ∷ front ++ back)) e (here y (front ++ back)))))
      ∙ j.other_nearer y (λ e. out (there from v (y ∷ front ++ back) (subst (Contains (y ∷ front ++ back)) e (here y (front ++ back)))))
      ∙ l.1,
  inserted old mid new y v front back j k once.1 (λ h. out (there from v (y ∷ front ++ back) h)) (λ h. zeros (there y 0 (front ++ back) h)) nz l.2,
)

-- the two beside a variable become neighbours
pub unlinked : (old new : List Links) (from v : ℕ) (front back : List ℕ) → IsJoined old new (last_behind from front) (first_of back) → IsOnce (from ∷ front ++ v ∷ back) → (Contains (front ++ v ∷ back) 0 → ⊥) → IsLinked old from (front ++ v ∷ back) → IsLinked new from (front ++ back)
unlinked old new from v [] back j once zeros l = behind back j once zeros l.2
  where
    behind : (back : List ℕ) → IsJoined old new from (first_of back) → IsOnce (from ∷ v ∷ back) → (Contains (v ∷ back) 0 → ⊥) → IsLinked old v back → IsLinked new from back
    behind [] j once zeros l = (j.farther_is, j.nearer_is)
    behind (x ∷ xs) j once zeros l = (j.farther_is, j.nearer_is, same_linked old new x xs f n z l.2)
      where
        f : (u : ℕ) → Contains (x ∷ xs) u → farther_at new u ≡ farther_at old u
        f u h = j.other_farther u (λ e. once.0 (there v from (x ∷ xs) (subst (Contains (x ∷ xs)) e h)))

        n : (u : ℕ) → Contains xs u → nearer_at new u ≡ nearer_at old u
        n u h = j.other_nearer u (λ e. once.1.1.0 (subst (Contains xs) e h))

        z : nearer_at new 0 ≡ nearer_at old 0
        z = j.other_nearer 0 (λ e. zeros (there v 0 (x ∷ xs) (subst (Contains (x ∷ xs)) (sym e) (here x xs))))
unlinked old new from v (y ∷ front) back j once zeros l = (
  j.other_farther from (λ e. once.0 (subst (Contains (y ∷ front ++ v ∷ back)) (sym e) (Contains-append_left (y ∷ front) (v ∷ back) (last_behind y front) (last_in y front)))) ∙ l.0,
  j.other_nearer y (not_first y back (λ h. once.1.0 (Contains-append_right front (v ∷ back) y (there v y back h))) (λ e. zeros (subst (Contains (y ∷ front ++ v ∷ back)) e (here y (front ++ v ∷ back))))) ∙ l.1,
  unlinked old new y v front back j once.1 (λ h. zeros (there y 0 (front ++ v ∷ back) h)) l.2,
)

-- reads
pub first_is : (links : List Links) (from : ℕ) (xs : List ℕ) → IsLinked links from xs → farther_at links from ≡ first_of xs
first_is links from [] l = l.0
first_is links from (x ∷ xs) l = l.0

pub last_is : (links : List Links) (from : ℕ) (xs : List ℕ) → IsLinked links from xs → nearer_at links 0 ≡ last_behind from xs
last_is links from [] l = l.1
last_is links from (x ∷ xs) l = last_is links x xs l.2

pub farther_is : (links : List Links) (from v : ℕ) (front back : List ℕ) → IsLinked links from (front ++ v ∷ back) → farther_at links v ≡ first_of back
farther_is links from v [] back l = first_is links v back l.2
farther_is links from v (y ∷ front) back l = farther_is links y v front back l.2

pub nearer_is : (links : List Links) (from v : ℕ) (front back : List ℕ) → IsLinked links from (front ++ v ∷ back) → nearer_at links v ≡ last_behind from front
nearer_is links from v [] back l = l.1
nearer_is links from v (y ∷ front) back l = nearer_is links y v front back l.2

no_zero : (order : List ℕ) (vars : ℕ) → HasEachOnce order vars → Contains order 0 → ⊥
no_zero order vars q h = let k = q.known 0 h in omega (arith, k.0)

pub zero_in : (n : ℕ) (xs : List ℕ) → Contains (0 ∷ xs) n → (n ≡ 0) ⊎ Contains xs n
zero_in n xs h = by (split 0 n xs h)
  where
    by : (0 ≡ n) ⊎ Contains xs n → (n ≡ 0) ⊎ Contains xs n
    by (inl e) = inl (sym e)
    by (inr m) = inr m

-- a variable of the circle, and 0, are within the links
pub within : (links : List Links) (order : List ℕ) (n : ℕ) → IsOrder links order → 0 < length order → (n ≡ 0) ⊎ Contains order n → n < length links
within links order n o some (inl e) = omega (arith, o.room some, e)
within links order n o some (inr h) = let k = o.variables.known n h in omega (arith, o.room some, k.1)

pub first_of_in : (xs : List ℕ) → (first_of xs ≡ 0) ⊎ Contains xs (first_of xs)
first_of_in [] = inl refl
first_of_in (x ∷ xs) = inr (here x xs)

-- the neighbours of a variable of the circle
pub record HasNeighbours (links : List Links) (order : List ℕ) (v : ℕ) : Type 0 where
  pub farther : (farther_at links v ≡ 0) ⊎ Contains order (farther_at links v)
  pub nearer : (nearer_at links v ≡ 0) ⊎ Contains order (nearer_at links v)

pub neighbours : (links : List Links) (order : List ℕ) (v : ℕ) → IsOrder links order → Contains order v → HasNeighbours links order v
neighbours links order v o has = by (cut order v has)
  where
    by : Cut order v → HasNeighbours links order v
    by k =
        let l = subst (IsLinked links 0) k.is o.linked in
        record {
          farther = subst (λ n. (n ≡ 0) ⊎ Contains order n) (sym (farther_is links 0 v k.front k.back l)) (far (first_of_in k.back));
          nearer = subst (λ n. (n ≡ 0) ⊎ Contains order n) (sym (nearer_is links 0 v k.front k.back l)) (near (zero_in (last_behind 0 k.front) k.front (last_in 0 k.front)));
        }
      where
        far : (first_of k.back ≡ 0) ⊎ Contains k.back (first_of k.back) → (first_of k.back ≡ 0) ⊎ Contains order (first_of k.back)
        far (inl e) = inl e
        far (inr h) = inr (subst (λ (xs : List ℕ). Contains xs (first_of k.back)) (sym k.is) (Contains-append_right k.front (v ∷ k.back) (first_of k.back) (there v (first_of k.back) k.back h)))

        near : (last_behind 0 k.front ≡ 0) ⊎ Contains k.front (last_behind 0 k.front) → (last_behind 0 k.front ≡ 0) ⊎ Contains order (last_behind 0 k.front)
        near (inl e) = inl e
        near (inr h) = inr (subst (λ (xs : List ℕ). Contains xs (last_behind 0 k.front)) (sym k.is) (Contains-append_left k.front (v ∷ k.back) (last_behind 0 k.front) h))

-- a variable is taken out, and put in at the end
pub moved : (old a b new : List Links) (order : List ℕ) (v : ℕ) → IsOrder old order → Contains order v → IsJoined old a (nearer_at old v) (farther_at old v) → IsJoined a b 0 v → IsJoined b new v (farther_at a 0) → IsOrder new (v ∷ without v order)
moved old a b new order v o has j k l = record {
  linked = linked (cut order v has);
  variables = subst (HasEachOnce (v ∷ without v order)) (sym q.size) q;
  room = λ some. let r = o.room more in omega (arith, r, q.size, l.size, k.size, j.size);
}
  where
    q : HasEachOnce (v ∷ without v order) (length order)
    q = one_moved v order (length order) o.variables has

    more : 0 < length order
    more = omega (arith, has.1)

    linked : Cut order v → IsLinked new 0 (v ∷ without v order)
    linked c =
        let e : without v order ≡ c.front ++ c.back = ap (without v) c.is ∙ without_split v c.front c.back (subst IsOnce c.is o.variables.once) in
        let all = subst (IsLinked old 0) c.is o.linked in
        let first = subst (λ n. IsJoined old a n (first_of c.back)) (nearer_is old 0 v c.front c.back all) (subst (λ n. IsJoined old a (nearer_at old v) n) (farther_is old 0 v c.front c.back all) j) in
        let out = no_zero order (length order) o.variables in
        let none : Contains (c.front ++ v ∷ c.back) 0 → ⊥ = λ h. out (subst (λ (xs : List ℕ). Contains xs 0) (sym c.is) h) in
        let rest : IsLinked a 0 (without v order) = subst (IsLinked a 0) (sym e) (unlinked old a 0 v c.front c.back first (none, subst IsOnce c.is o.variables.once) none all) in
        let second = subst (λ n. IsJoined b new v n) (first_is a 0 (without v order) rest) l in
        let gone : Contains (without v order) 0 → ⊥ = λ h. out (from_without v 0 order h).0 in
        let low = o.variables.known v has in
        inserted a b new 0 v [] (without v order) k second (gone, q.once.1) (λ h. away low.0 (zero_in v (without v order) h)) gone (λ h. omega (arith, low.0, h)) rest
      where
        away : 1 ≤ v → (v ≡ 0) ⊎ Contains (without v order) v → ⊥
        away low (inl z) = omega (arith, low, z)
        away low (inr h) = q.once.0 h

-- the next variable is put in
new_out : (order : List ℕ) (v : ℕ) → HasEachOnce order (length order) → v ≡ length order + 1 → Contains (0 ∷ order) v → ⊥
new_out order v q next h = by (zero_in v order h)
  where
    by : (v ≡ 0) ⊎ Contains order v → ⊥
    by (inl z) = omega (arith, next, z)
    by (inr m) = let k = q.known v m in omega (arith, next, k.1)

more_variables : (at_end : Bool) (order : List ℕ) (v : ℕ) → HasEachOnce order (length order) → v ≡ length order + 1 → HasEachOnce (with_next at_end v order) (length (with_next at_end v order))
more_variables at_end order v q next =
    let k = one_more at_end order (length order) q in
    subst (λ n. HasEachOnce (with_next at_end n order) (length (with_next at_end n order))) (sym next) (subst (HasEachOnce (with_next at_end (length order + 1) order)) (sym k.size) k)

pub entered_at_end : (old mid new : List Links) (order : List ℕ) (v : ℕ) → IsOrder old order → v ≡ length order + 1 → v < length old → IsJoined old mid 0 v → IsJoined mid new v (farther_at old 0) → IsOrder new (v ∷ order)
entered_at_end old mid new order v o next lt j k = record {
  linked = inserted old mid new 0 v [] order j (subst (λ n. IsJoined mid new v n) (first_is old 0 order o.linked) k) (none, o.variables.once) (new_out order v o.variables next) none (λ z. omega (arith, next, z)) o.linked;
  variables = more_variables true order v o.variables next;
  room = λ _. omega (arith, next, lt, j.size, k.size);
}
  where
    none : Contains order 0 → ⊥
    none = no_zero order (length order) o.variables

pub entered_at_front : (old mid new : List Links) (order : List ℕ) (v : ℕ) → IsOrder old order → v ≡ length order + 1 → v < length old → IsJoined old mid (nearer_at old 0) v → IsJoined mid new v 0 → IsOrder new (order ++ v ∷ [])
entered_at_front old mid new order v o next lt j k = record {
  linked = inserted old mid new 0 v order [] (subst (λ n. IsJoined old mid n v) (last_is old 0 order o.linked) j) k
      (subst (λ (xs : List ℕ). IsOnce (0 ∷ xs)) (sym (append-nil order)) (none, o.variables.once))
      (λ h. new_out order v o.variables next (subst (λ (xs : List ℕ). Contains (0 ∷ xs) v) (append-nil order) h))
      (λ h. none (subst (λ (xs : List ℕ). Contains xs 0) (append-nil order) h))
      (λ z. omega (arith, next, z))
      (subst (IsLinked old 0) (sym (append-nil order)) o.linked);
  variables = more_variables false order v o.variables next;
  room = λ _. omega (arith, next, lt, j.size, k.size, length_push order v);
}
  where
    none : Contains order 0 → ⊥
    none = no_zero order (length order) o.variables

-- a link that was read
pub record IsRead (links : List Links) (var : ℕ) (read : Links) : Type 0 where
  pub farther : read.farther ≡ farther_at links var
  pub nearer : read.nearer ≡ nearer_at links var

pub is_read : (links : List Links) (var : ℕ) (read : Links) → var < length links → read ≡ get_or links var read → IsRead links var read
is_read links var read lt e =
    let k = get_or_read links var read lt e (record { farther = 0; nearer = 0 }) in
    record { farther = ap (λ (l : Links). l.farther) k; nearer = ap (λ (l : Links). l.nearer) k }

-- the ends of the circle are within the links
pub ends_within : (links : List Links) (order : List ℕ) → IsOrder links order → 0 < length links → (farther_at links 0 < length links) × (nearer_at links 0 < length links)
ends_within links [] o some = (omega (arith, some, o.linked.0), omega (arith, some, o.linked.1))
ends_within links (x ∷ xs) o some = (
  subst (λ n. n < length links) (sym (first_is links 0 (x ∷ xs) o.linked)) (within links (x ∷ xs) x o (omega arith) (inr (here x xs))),
  subst (λ n. n < length links) (sym (last_is links 0 (x ∷ xs) o.linked)) (within links (x ∷ xs) (last_behind 0 (x ∷ xs)) o (omega arith) (inr (last_in x xs))),
)

-- a way is the part of a circle from a variable on
pub way_of : (links : List Links) (from : ℕ) (xs : List ℕ) → IsLinked links from xs → ((v : ℕ) → Contains xs v → (1 ≤ v) × (v < length links)) → IsWay links (farther_at links from) xs
way_of links from [] l in_links = l.0
way_of links from (x ∷ xs) l in_links =
    let k = in_links x (here x xs) in
    (l.0, k.0, k.1, subst (λ n. IsWay links (farther_at links n) xs) refl (way_of links x xs l.2 (λ v h. in_links v (there x v xs h))))

pub way_behind : (links : List Links) (at : ℕ) (front back : List ℕ) → IsWay links at (front ++ back) → IsWay links (first_of back) back
way_behind links at [] [] w = refl
way_behind links at [] (x ∷ xs) w = (refl, w.1, w.2, w.3)
way_behind links at (y ∷ front) back w = way_behind links (farther_at links y) front back w.3

pub way_first : (links : List Links) (at : ℕ) (xs : List ℕ) → IsWay links at xs → at ≡ first_of xs
way_first links at [] w = w
way_first links at (x ∷ xs) w = w.0

pub walk_is : (links : List Links) (n at : ℕ) (xs : List ℕ) → IsWay links at xs → length xs ≤ n → walk links n at ≡ xs
walk_is links zero at [] w le = refl
walk_is links zero at (x ∷ xs) w le = absurd (omega (arith, le))
walk_is links (suc n) at [] w le = ap (walk links (suc n)) w
walk_is links (suc n) at (x ∷ xs) w le =
    ap (walk links (suc n)) w.0
    ∙ ap (λ b. if b then [] else x ∷ walk links n (farther_at links x)) (nonzero x w.1)
    ∙ ap (λ (ys : List ℕ). x ∷ ys) (walk_is links n (farther_at links x) xs w.3 (omega (arith, le)))
  where
    nonzero : (v : ℕ) → 1 ≤ v → (v == 0) ≡ false
    nonzero v low = grind (arith, nat_tests, low)

pub after_join_within : (old new : List Links) (nearer farther : ℕ) → IsJoined old new nearer farther → farther < length old → farther_at old 0 < length old → farther_at new 0 < length old
after_join_within old new nearer farther j far first = by (cases_eq 0 nearer)
  where
    by : (0 ≡ nearer) ⊎ (0 ≡ nearer → ⊥) → farther_at new 0 < length old
    by (inl e) = subst (λ n. n < length old) (sym (ap (farther_at new) e ∙ j.farther_is)) far
    by (inr n) = subst (λ n. n < length old) (sym (j.other_farther 0 n)) first
