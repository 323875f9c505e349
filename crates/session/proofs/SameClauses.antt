-- Clauses whose literals change places are the same to a solver.
use Rattle.std.proofs.Common.{◌≡◌, ◌∙◌, ℕ, zero, suc, ◌<◌, ◌≤◌, List, [], ◌∷◌, length, map, filter}
use Rattle.std.proofs.Common.{Bool, true, false, refl, ap, sym, subst, arith}
use Rattle.std.specs.Prelude.{All, Contains, cond, Option, Some}
use Rattle.std.proofs.lemmas.List.Elements.{All-contains}
use Rattle.sat_base.specs.Lit.{IsLit}
use Rattle.sat_base.specs.Truth.{Entails}
use Rattle.sat_base.proofs.Members.{All-from_members}
use Rattle.trace_core.specs.Known.{Known}
use Rattle.trace_core.specs.Trace.{AreOkSteps, known_of}
use Rattle.trace_core.specs.declared.derivation.Step.{Step}
use Rattle.clause_arena.specs.Arena.{ArenaClause, clause_at}
use Rattle.propagate.specs.Store.{IsSameClause, HasSameClauses}
use Rattle.session.specs.Solver.{inputs_of, held_of, clauses_of, named_by, shared_by, known_clause}
use Rattle.session.specs.Solver.{is_input, IsWithinItsTag}
use Rattle.sat_base.specs.Lit.{in_order}
use Rattle.session.specs.Stock.{IsStocked}
use Rattle.sat_base.proofs.InOrder.{in_order-same}

-- each pair is one clause with one name
pub record IsOneClause (old new : ArenaClause) : Type 0 where
  pub known : known_clause old ≡ known_clause new
  pub name : old.origin ≡ new.origin
  pub lits : All (Contains old.lits) new.lits

abbrev pub AreOneByOne : List ArenaClause → List ArenaClause → Type 0
AreOneByOne [] [] = Unit {0}
AreOneByOne [] (new ∷ news) = ⊥
AreOneByOne (old ∷ olds) [] = ⊥
AreOneByOne (old ∷ olds) (new ∷ news) = IsOneClause old new × AreOneByOne olds news

one_clause : (old new : ArenaClause) → All IsLit old.lits → IsSameClause old new
    → IsOneClause old new
one_clause old new lits same =
    let positive : All (λ lit. 0 < lit) old.lits = All-from_members (λ lit. 0 < lit) old.lits
    (λ lit has. let is = All-contains IsLit old.lits lit lits has in omega
    (arith, is.not_zero)) in
    let ordered : in_order old.lits ≡ in_order new.lits = in_order-same old.lits new.lits positive
    (λ lit. (
      λ has. All-contains
          (Contains new.lits) old.lits lit same.kept has,
      λ has. All-contains
          (Contains old.lits) new.lits lit same.no_more has,
    )) in
    record {
      known = ap (λ lits. record { clause = lits; tag = old.tag }) ordered
          ∙ ap (λ tag. record { clause = in_order new.lits; tag = tag }) (sym same.tag);
      name = sym same.origin;
      lits = same.no_more;
    }

pub one_by_one : (olds news : List ArenaClause) → All (λ clause. All IsLit clause.lits) olds
    → length news ≡ length olds
    → ((id : ℕ) → id < length olds → IsSameClause (clause_at olds id) (clause_at news id))
    → AreOneByOne olds news
one_by_one [] [] lits size each = tt
one_by_one [] (new ∷ news) lits size each = absurd (omega (arith, size))
one_by_one (old ∷ olds) [] lits size each = absurd (omega (arith, size))
one_by_one (old ∷ olds) (new ∷ news) lits size each = (
  one_clause old new (lits 0 old (omega arith)) (each 0 (omega arith)),
  one_by_one olds news (λ i d lt. lits (suc i) d (omega (arith, lt))) (omega (arith, size))
      (λ id lt. each (suc id) (omega (arith, lt))),
)

inputs_cons : (clause : ArenaClause) (clauses : List ArenaClause)
    → inputs_of (clause ∷ clauses) ≡ cond (is_input clause.origin)
    (known_clause clause ∷ inputs_of clauses) (inputs_of clauses)
inputs_cons clause clauses = by_test (is_input clause.origin)
  where
    by_test : (b : Bool) → map known_clause (cond b
        (clause ∷ filter (λ one. is_input one.origin) clauses)
        (filter (λ one. is_input one.origin) clauses))
        ≡ cond b (known_clause clause ∷ inputs_of clauses) (inputs_of clauses)
    by_test true = refl
    by_test false = refl

pub inputs_same : (olds news : List ArenaClause) → AreOneByOne olds news
    → inputs_of olds ≡ inputs_of news
inputs_same [] [] same = refl
inputs_same [] (new ∷ news) same = absurd same
inputs_same (old ∷ olds) [] same = absurd same
inputs_same (old ∷ olds) (new ∷ news) same =
    inputs_cons old olds
    ∙ ap (λ b. cond b (known_clause old ∷ inputs_of olds) (inputs_of olds))
    (ap is_input same.0.name)
    ∙ ap (λ one. cond (is_input new.origin) (one ∷ inputs_of olds) (inputs_of olds)) same.0.known
    ∙ ap (λ inputs. cond (is_input new.origin) (known_clause new ∷ inputs) inputs)
    (inputs_same olds news same.1)
    ∙ sym (inputs_cons new news)

pub held_same : (olds news : List ArenaClause) → AreOneByOne olds news → held_of olds ≡ held_of news
held_same [] [] same = refl
held_same [] (new ∷ news) same = absurd same
held_same (old ∷ olds) [] same = absurd same
held_same (old ∷ olds) (new ∷ news) same = ap (λ one. one ∷ held_of olds) same.0.known
    ∙ ap (λ held. known_clause new ∷ held) (held_same olds news same.1)

All-one_by_one : (P Q : ArenaClause → Type 0) →
    ((old new : ArenaClause) → IsOneClause old new → P old → Q new)
    → (olds news : List ArenaClause) → AreOneByOne olds news → All P olds → All Q news
All-one_by_one P Q under [] [] same all i d lt = absurd (omega (arith, lt))
All-one_by_one P Q under [] (new ∷ news) same all i d lt = absurd same
All-one_by_one P Q under (old ∷ olds) [] same all i d lt = absurd same
All-one_by_one P Q under (old ∷ olds) (new ∷ news) same all zero d lt = under old new same.0
    (all 0 d (omega arith))
All-one_by_one P Q under (old ∷ olds) (new ∷ news) same all (suc i) d lt =
    All-one_by_one P Q under olds news same.1 (λ j e below. all (suc j) e
    (omega (arith, below))) i d (omega (arith, lt))

pub stock_same : (olds news : List ArenaClause) (packets : List (Option (List Step)))
    (steps : List Step) (bound : ℕ) → HasSameClauses olds news → IsStocked olds packets steps bound
    → IsStocked news packets steps bound
stock_same olds news packets steps bound same stock = record {
  lits = All-one_by_one (λ clause. All IsLit clause.lits) (λ clause. All IsLit clause.lits)
      (λ old new one lits. All-from_members IsLit new.lits
      (λ lit has. All-contains IsLit old.lits lit lits
      (All-contains (Contains old.lits) new.lits lit one.lits has))) olds news pairs stock.lits;
  named = subst (λ inputs. All (λ clause. named_by inputs packets steps clause.origin
      ≡ Some (known_clause clause)) news) inputs
      (All-one_by_one (λ clause. named_by (inputs_of olds) packets steps clause.origin
      ≡ Some (known_clause clause)) (λ clause. named_by
      (inputs_of olds) packets steps clause.origin ≡ Some (known_clause clause))
      (λ old new one is. ap (named_by (inputs_of olds) packets steps) (sym one.name) ∙ is
      ∙ ap Some one.known) olds news pairs stock.named);
  entailed = subst (λ inputs. All (λ clause. Entails (clauses_of inputs)
      (known_clause clause).clause) news) inputs
      (All-one_by_one (λ clause. Entails (clauses_of (inputs_of olds))
      (known_clause clause).clause) (λ clause. Entails (clauses_of (inputs_of olds))
      (known_clause clause).clause)
      (λ old new one follows. subst (λ (known : Known). Entails
      (clauses_of (inputs_of olds)) known.clause) one.known follows) olds news pairs stock.entailed);
  bounded = All-one_by_one (λ clause. clause.tag ≤ bound) (λ clause. clause.tag ≤ bound)
      (λ old new one low. subst
      (λ (known : Known). known.tag ≤ bound) one.known low) olds news pairs stock.bounded;
  within = subst (λ inputs. All (λ clause. IsWithinItsTag inputs (known_clause clause)) news) inputs
      (All-one_by_one (λ clause. IsWithinItsTag (inputs_of olds) (known_clause clause))
      (λ clause. IsWithinItsTag (inputs_of olds) (known_clause clause))
      (λ old new one low. subst
      (IsWithinItsTag (inputs_of olds)) one.known low) olds news pairs stock.within);
  packets_held = λ place number one is. subst (λ (held : List Known). Contains held one)
      (held_same olds news pairs) (stock.packets_held place number one is);
  ok = subst (λ inputs. AreOkSteps inputs (shared_by packets) [] steps) inputs stock.ok;
  steps_entailed = subst (λ inputs. All (λ (step : Step). Entails
      (clauses_of inputs) step.clause) steps) inputs stock.steps_entailed;
  steps_within = subst (λ inputs. All (λ (step : Step). IsWithinItsTag inputs
      (known_of step)) steps) inputs stock.steps_within;
  steps_bounded = stock.steps_bounded;
}
  where
    pairs : AreOneByOne olds news
    pairs = one_by_one olds news stock.lits same.count same.each

    inputs : inputs_of olds ≡ inputs_of news
    inputs = inputs_same olds news pairs
