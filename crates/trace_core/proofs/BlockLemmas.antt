-- Known clauses in one block of literals.
use Rattle.std.proofs.Common.{◌≡◌, ◌∙◌, ℕ, ◌≤◌, List, [], ◌∷◌, ◌++◌, take, drop, length, refl, ap, sym, arith, length-drop}
use Rattle.std.specs.Prelude.{All}
use Rattle.std.proofs.lemmas.List.{drop-append-le, take-append-le, drop_at, take_all, map_push}
use Rattle.std.proofs.lemmas.List.Elements.{All-head, All-tail}
use Rattle.trace_core.specs.Known.{Known}
use Rattle.trace_core.specs.Layout.{clause_at, clauses_in, EndsWithin}
use Rattle.trace_core.specs.declared.block.Place.{Place}

-- a place of the block keeps its clause where literals are added behind it
same_clause : (lits more : List ℕ) (place : Place) → EndsWithin (length lits) place → clause_at (lits ++ more) place ≡ clause_at lits place
same_clause lits more place within =
    let dropped : drop place.start (lits ++ more) ≡ drop place.start lits ++ more = drop-append-le place.start lits more (omega arith) in
    let room : place.len ≤ length (drop place.start lits) = omega (arith, length-drop place.start lits) in
    let taken : take place.len (drop place.start (lits ++ more)) ≡ take place.len (drop place.start lits) = ap (take place.len) dropped ∙ take-append-le place.len (drop place.start lits) more room in
    ap (λ (clause : List ℕ). let k : Known = record { clause = clause; tag = place.tag } in k) taken

same_clauses : (lits more : List ℕ) (places : List Place) → All (EndsWithin (length lits)) places → clauses_in (lits ++ more) places ≡ clauses_in lits places
same_clauses lits more [] within = refl
same_clauses lits more (place ∷ places) within =
    let first = same_clause lits more place (All-head (EndsWithin (length lits)) place places within) in
    let rest = same_clauses lits more places (All-tail (EndsWithin (length lits)) place places within) in
    cc

pub clauses_kept : (lits more lits' : List ℕ) (places places' : List Place) → All (EndsWithin (length lits)) places
    → lits' ≡ lits ++ more → places' ≡ places → clauses_in lits' places' ≡ clauses_in lits places
clauses_kept lits more lits' places places' within grown same =
    ap (λ ls. clauses_in ls places') grown ∙ ap (clauses_in (lits ++ more)) same ∙ same_clauses lits more places within

pub clauses_pushed : (lits new lits' : List ℕ) (places places' : List Place) (place : Place) (tag : ℕ) → All (EndsWithin (length lits)) places
    → lits' ≡ lits ++ new → places' ≡ places ++ place ∷ [] → place.start ≡ length lits → place.len ≡ length new → place.tag ≡ tag
    → clauses_in lits' places' ≡ clauses_in lits places ++ record { clause = new; tag = tag } ∷ []
clauses_pushed lits new lits' places places' place tag within grown added start len is_tag =
    let whole : clauses_in lits' places' ≡ clauses_in (lits ++ new) places ++ clause_at (lits ++ new) place ∷ [] =
    ap (λ ls. clauses_in ls places') grown ∙ ap (clauses_in (lits ++ new)) added ∙ map_push (clause_at (lits ++ new)) places place in
    let clause : take place.len (drop place.start (lits ++ new)) ≡ new =
    ap (take place.len) (drop_at lits new place.start (sym start)) ∙ take_all place.len new (omega arith) in
    let last : clause_at (lits ++ new) place ≡ record { clause = new; tag = tag } =
    ap (λ (c : List ℕ). let k : Known = record { clause = c; tag = place.tag } in k) clause ∙ ap (λ (t : ℕ). let k : Known = record { clause = new; tag = t } in k) is_tag in
    whole ∙ ap (λ ks. ks ++ clause_at (lits ++ new) place ∷ []) (same_clauses lits new places within) ∙ ap (λ (k : Known). clauses_in lits places ++ k ∷ []) last
