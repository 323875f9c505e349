-- From one propagation to the next: a store is filled, and a literal is decided.
use Rattle.std.proofs.Common.{◌≡◌, ◌∙◌, ℕ, ◌+◌, ◌<◌, ◌≤◌, List, [], ◌∷◌, ◌++◌, length, take, refl, ap, subst, sym, inl, inr, arith}
use Rattle.std.specs.Prelude.{◌⊎◌, Contains, Option, None, Some, IfNone, Result, Ok, Err, OnOk, OnErr, nat_lt}
use Rattle.std.specs.List.{filter}
use Rattle.std.proofs.lemmas.Bool.{cases_lt, lt-ltb}
use Rattle.std.proofs.lemmas.List.{length_push, length-take}
use Rattle.std.proofs.lemmas.List.Elements.{Contains-append_left, Contains-push}
use Rattle.clause_arena.specs.Arena.{ArenaClause}
use Rattle.trail_core.specs.Trail.{Entry, TrailView}
use Rattle.propagate.specs.Store.{StoreView, AreNewFrom}
use Rattle.propagate.specs.Pairing.{IsPaired, ArePendingAt, AreFit, IsSettled}
use Rattle.propagate.proofs.Keeps.{contains_filter, paired_assign, pending_assign, pending_none, ready_none, ready_zero}

-- where all clauses are new, any trail is paired with them
pub paired_all_new : (store : StoreView) (entries : List Entry) (looked : ℕ) → AreNewFrom store 0 → IsPaired store.clauses store.fresh entries looked
paired_all_new store entries looked new = record {
  pairs = λ side place s lt is. absurd (s.clause.not_new (new _ (omega arith) s.clause.known));
  single = λ id o one. absurd (o.not_new (new id (omega arith) o.known));
  some = λ id o. absurd (o.not_new (new id (omega arith) o.known));
}

pub new_from_add : (old new : StoreView) (clause : ArenaClause) (number : ℕ) → new.clauses ≡ old.clauses ++ clause ∷ [] → new.fresh ≡ old.fresh ++ length old.clauses ∷ [] → AreNewFrom old number → AreNewFrom new number
new_from_add old new clause number clauses fresh from = λ id ge lt. at id ge lt (cases_lt id (length old.clauses))
  where
    size : length new.clauses ≡ length old.clauses + 1
    size = ap (λ (xs : List ArenaClause). length xs) clauses ∙ length_push old.clauses clause

    up : (id : ℕ) → Contains (old.fresh ++ length old.clauses ∷ []) id → Contains new.fresh id
    up id c = subst (λ (xs : List ℕ). Contains xs id) (sym fresh) c

    at : (id : ℕ) → number ≤ id → id < length new.clauses → (id < length old.clauses) ⊎ (length old.clauses ≤ id) → Contains new.fresh id
    at id ge lt (inl before) = up id (Contains-append_left old.fresh (length old.clauses ∷ []) id (from id ge before))
    at id ge lt (inr last) =
        let e : length old.clauses ≡ id = omega (arith, lt, last, size) in
        up id (subst (Contains (old.fresh ++ length old.clauses ∷ [])) e (Contains-push old.fresh (length old.clauses)))

pub fit_all_new : (store : StoreView) (trail : TrailView) → AreNewFrom store 0 → trail.entries ≡ [] → trail.depth ≡ 0 → AreFit store trail
fit_all_new store trail new empty zero_is = record {
  paired = paired_all_new store trail.entries trail.looked new;
  ready = ready_zero store.clauses store.fresh trail.entries trail.depth zero_is;
  pending = record { each = λ place from to. absurd (omega (arith, to, ap (λ (xs : List Entry). length xs) empty)) };
}

-- a decision on a new level
pub fit_decided : (store : StoreView) (settled opened decided : TrailView) (lit : ℕ) (why : Option ℕ) → IsSettled store settled → opened.entries ≡ settled.entries → opened.looked ≡ settled.looked → decided.entries ≡ opened.entries ++ record { lit = lit; level = opened.depth; reason = why } ∷ [] → decided.depth ≡ opened.depth → decided.looked ≡ opened.looked → AreFit store decided
fit_decided store settled opened decided lit why s entries looked pushed depth still =
    let e : Entry = record { lit = lit; level = opened.depth; reason = why } in
    let all : decided.entries ≡ settled.entries ++ e ∷ [] = pushed ∙ ap (λ (xs : List Entry). xs ++ e ∷ []) entries in
    let count : decided.looked ≡ settled.looked = still ∙ looked in
    record {
      paired = subst (IsPaired store.clauses store.fresh decided.entries) (sym count)
          (subst (λ (xs : List Entry). IsPaired store.clauses store.fresh xs settled.looked) (sym all)
          (paired_assign store.clauses store.fresh settled.entries settled.looked e (omega (arith, s.looked)) s.paired));
      ready = ready_none store.clauses store.fresh decided.entries decided.depth s.none_new;
      pending = subst (ArePendingAt decided.entries decided.looked) (sym depth)
          (subst (λ n. ArePendingAt decided.entries n opened.depth) (sym count)
          (subst (λ (xs : List Entry). ArePendingAt xs settled.looked opened.depth) (sym all)
          (pending_assign settled.entries settled.looked opened.depth e (pending_none settled.entries settled.looked opened.depth s.looked) refl)));
    }

-- what propagation leaves where no clause is false
pub settled_after : (result : Option ℕ) (store : StoreView) (trail : TrailView) → IsPaired store.clauses store.fresh trail.entries trail.looked → IfNone result (store.fresh ≡ []) → IfNone result (trail.looked ≡ length trail.entries) → IfNone result (IsSettled store trail)
settled_after None store trail paired fresh looked = record { paired = paired; none_new = fresh; looked = looked }
settled_after (Some id) store trail paired fresh looked = tt

pub new_after_add : {T E : Type 0} (r : Result T E) (old new : StoreView) (clause : ArenaClause) → OnOk r (new.clauses ≡ old.clauses ++ clause ∷ []) → OnOk r (new.fresh ≡ old.fresh ++ length old.clauses ∷ []) → OnErr r (new ≡ old) → AreNewFrom old 0 → AreNewFrom new 0
new_after_add (Ok x) old new clause clauses fresh err from = new_from_add old new clause 0 clauses fresh from
new_after_add (Err e) old new clause clauses fresh err from = subst (λ (s : StoreView). AreNewFrom s 0) (sym err) from

pub new_after_cut : (old new : StoreView) (len : ℕ) → new.clauses ≡ take len old.clauses → new.fresh ≡ filter (λ id. nat_lt id len) old.fresh → AreNewFrom old 0 → AreNewFrom new 0
new_after_cut old new len clauses fresh from = λ id ge lt.
    let size = ap (λ (xs : List ArenaClause). length xs) clauses ∙ length-take len old.clauses in
    subst (λ (xs : List ℕ). Contains xs id) (sym fresh)
    (contains_filter (λ n. nat_lt n len) old.fresh id (from id ge (omega (arith, lt, size))) (lt-ltb id len (omega (arith, lt, size))))
