-- Proofs step by step, and what refutes a part.
use Rattle.std.proofs.Common.{◌≡◌, ◌∙◌, ℕ, ◌+◌, ◌-◌, List, [], ◌∷◌, ◌++◌, map, length, take, get_or, Bool, true, false, refl, sym, subst, ap, arith, suc, zero}
use Rattle.std.specs.Prelude.{◌↔◌, ◌&&◌, nat_eq, Contains, IsTrue}
use Rattle.std.specs.Cmp.Lexicographic.{pointwise}
use Rattle.std.proofs.lemmas.Bool.{and_from, eqb-true, eq-eqb}
use Rattle.std.proofs.lemmas.List.{length-append, take_all, take_more}
use Rattle.std.proofs.Math.Seq.{get_or-append_seam}
use Rattle.sat_base.specs.Lit.{IsLitSet, opposite}
use Rattle.sat_base.proofs.Ascending.{same_set}
use Rattle.trace_core.specs.Known.{Known, known}
use Rattle.trace_core.specs.Trace.{known_of}
use Rattle.trace_core.specs.declared.derivation.Step.{Step}
use Rattle.verdict_audit.specs.Audit.{IsRefuted}
use Rattle.verdict_audit.specs.Proof.{Proof}

-- what a proof knows, by the parts of its value
pub same_table : (view : Proof) (inputs known_steps : List Known) (steps : List Step) → inputs ≡ view.inputs → steps ≡ view.steps → known_steps ≡ map known_of steps → known inputs [] known_steps ≡ known view.inputs [] (map known_of view.steps)
same_table view inputs known_steps steps same_inputs same_steps same_known =
    ap (λ (ks : List Known). known inputs [] ks) (same_known ∙ ap (map known_of) same_steps) ∙ ap (λ (is : List Known). known is [] (map known_of view.steps)) same_inputs

pub viewed : (part other : List ℕ) (inputs others : List Known) (steps more : List Step) → part ≡ other → inputs ≡ others → steps ≡ more → ◌≡◌ {A = Proof} (record { part = part; inputs = inputs; steps = steps }) (record { part = other; inputs = others; steps = more })
viewed part other inputs others steps more same_part same_inputs same_steps = cc

pub clash : (b : Bool) → b ≡ true → b ≡ false → ⊥
clash true here there = cc
clash false here there = cc

-- ---- clauses with the same literals

both : (b c : Bool) → (b && c) ≡ true → (b ≡ true) × (c ≡ true)
both true c h = (refl, h)
both false c h = cc

equal_lists : (xs ys : List ℕ) → pointwise nat_eq xs ys ≡ true → xs ≡ ys
equal_lists [] [] h = refl
equal_lists [] (y ∷ ys) h = cc
equal_lists (x ∷ xs) [] h = cc
equal_lists (x ∷ xs) (y ∷ ys) h = let parts = both (nat_eq x y) (pointwise nat_eq xs ys) h in let head = eqb-true x y parts.0 in let tail = equal_lists xs ys parts.1 in cc

itself : (xs : List ℕ) → pointwise nat_eq xs xs ≡ true
itself [] = refl
itself (x ∷ xs) = and_from (nat_eq x x) (pointwise nat_eq xs xs) (eq-eqb x x refl) (itself xs)

pub same_members : (xs ys : List ℕ) (b : Bool) → b ≡ pointwise nat_eq xs ys → IsLitSet xs → IsLitSet ys → IsTrue b ↔ ((lit : ℕ) → Contains xs lit ↔ Contains ys lit)
same_members xs ys b is left right = (there, back)
  where
    there : IsTrue b → (lit : ℕ) → Contains xs lit ↔ Contains ys lit
    there holds lit = let same = equal_lists xs ys (sym is ∙ holds) in (λ has. subst (λ (l : List ℕ). Contains l lit) same has, λ has. subst (λ (l : List ℕ). Contains l lit) (sym same) has)

    back : ((lit : ℕ) → Contains xs lit ↔ Contains ys lit) → IsTrue b
    back members = let same = same_set 0 0 xs ys left.ascending right.ascending (λ lit. (members lit).0) (λ lit. (members lit).1) in is ∙ ap (λ (l : List ℕ). pointwise nat_eq l ys) same ∙ itself ys

-- ---- the last step

pub none_refutes : (part : List ℕ) (steps : List Step) → length steps ≡ 0 → IsRefuted part steps → ⊥
none_refutes part steps empty refuted = let longer : length (refuted.front ++ refuted.last ∷ []) ≡ length refuted.front + 1 = length-append refuted.front (refuted.last ∷ []) in let same = ap length refuted.ends in absurd (omega (arith, longer, same, empty))

pub last_refutes : (part : List ℕ) (steps : List Step) (last : Step) (negated : List ℕ) (b : Bool) → (length steps ≡ 0 → ⊥) → last ≡ get_or steps (length steps - 1) last
    → ((lit : ℕ) → Contains negated lit ↔ Contains part (opposite lit)) → (IsTrue b ↔ ((lit : ℕ) → Contains negated lit ↔ Contains last.clause lit)) → IsTrue b ↔ IsRefuted part steps
last_refutes part steps last negated b some is members same = (there, back)
  where
    size : length steps - 1 + 1 ≡ length steps
    size = by_size (length steps) some
      where
        by_size : (n : ℕ) → (n ≡ 0 → ⊥) → n - 1 + 1 ≡ n
        by_size zero h = absurd (h refl)
        by_size (suc n) h = omega arith

    ends : steps ≡ take (length steps - 1) steps ++ last ∷ []
    ends =
        sym (take_all (length steps) steps (omega arith)) ∙ ap (λ n. take n steps) (sym size) ∙ take_more steps (length steps - 1) last (omega (arith, size))
        ∙ ap (λ (s : Step). take (length steps - 1) steps ++ s ∷ []) (sym is)

    there : IsTrue b → IsRefuted part steps
    there holds = record {
      front = take (length steps - 1) steps;
      last = last;
      ends = ends;
      refutes = λ lit. (λ has. (members lit).0 ((same.0 holds lit).1 has), λ has. (same.0 holds lit).0 ((members lit).1 has));
    }

    back : IsRefuted part steps → IsTrue b
    back refuted = same.1 (λ lit. (λ has. subst (λ (s : Step). Contains s.clause lit) (sym which) ((refuted.refutes lit).1 ((members lit).0 has)), λ has. (members lit).1 ((refuted.refutes lit).0 (subst (λ (s : Step). Contains s.clause lit) which has))))
      where
        longer : length steps ≡ length refuted.front + 1
        longer = ap length refuted.ends ∙ length-append refuted.front (refuted.last ∷ [])

        which : last ≡ refuted.last
        which = is ∙ ap (λ (ss : List Step). get_or ss (length steps - 1) last) refuted.ends ∙ ap (λ n. get_or (refuted.front ++ refuted.last ∷ []) n last) (omega (arith, longer)) ∙ get_or-append_seam refuted.front refuted.last [] last
