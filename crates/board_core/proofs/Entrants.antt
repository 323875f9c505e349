-- One more entrant in a tree that has a leaf for it.
use Rattle.std.proofs.Common.{◌≡◌, ◌≢◌, ◌∙◌, ℕ, ◌+◌, ◌-◌, ◌*◌, ◌/◌, ◌<◌, ◌≤◌, List, [], ◌∷◌, ◌++◌, length, Option, None, ap, subst, sym, inl, inr, arith, get_or}
use Rattle.std.specs.Prelude.{◌⊎◌}
use Rattle.std.proofs.lemmas.Bool.{cases_lt}
use Rattle.std.proofs.lemmas.List.{length_push, get_or_append_left}
use Rattle.std.proofs.Math.ListN.{get_or-eq_default}
use Rattle.tournament.specs.declared.rank.Rank.{Rank}
use Rattle.tournament.specs.Rank.{earlier_of}
use Rattle.tournament.specs.Tree.{standing_at, AreWonBut}
use Rattle.tournament.proofs.Matches.{inner, leaf}

other_place : (es : List (Option Rank)) (x : Option Rank) (place : ℕ) → place ≢ length es → get_or (es ++ x ∷ []) place None ≡ get_or es place None
other_place es x place differs = at (cases_lt place (length es))
  where
    at : (place < length es) ⊎ (length es ≤ place) → get_or (es ++ x ∷ []) place None ≡ get_or es place None
    at (inl lt) = get_or_append_left es (x ∷ []) None place lt
    at (inr le) =
        let beyond : length (es ++ x ∷ []) ≤ place = omega (arith, le, differs, length_push es x) in
        get_or-eq_default (es ++ x ∷ []) None beyond ∙ sym (get_or-eq_default es None le)

standing_else : (es ws : List (Option Rank)) (x : Option Rank) (node : ℕ) → node ≢ length ws + length es → standing_at (es ++ x ∷ []) ws node ≡ standing_at es ws node
standing_else es ws x node differs = at (cases_lt node (length ws))
  where
    at : (node < length ws) ⊎ (length ws ≤ node) → standing_at (es ++ x ∷ []) ws node ≡ standing_at es ws node
    at (inl lt) = inner (es ++ x ∷ []) ws node lt ∙ sym (inner es ws node lt)
    at (inr le) = leaf (es ++ x ∷ []) ws node le ∙ other_place es x (node - length ws) (λ e. differs (omega (arith, le, e))) ∙ sym (leaf es ws node le)

won_but_above : (es ws : List (Option Rank)) (x : Option Rank) (at : ℕ) → AreWonBut es ws 1 0 → at ≡ length ws + length es → AreWonBut (es ++ x ∷ []) ws 1 (at / 2)
won_but_above es ws x at won is = record {
  won = λ node low high differs.
      standing_else es ws x node (λ e. omega (arith, high, e))
      ∙ won.won node low high (λ e. omega (arith, low, e))
      ∙ sym (ap (λ y. earlier_of y (standing_at (es ++ x ∷ []) ws (2 * node + 1))) (standing_else es ws x (2 * node) (λ e. differs (omega (arith, is, e))))
      ∙ ap (earlier_of (standing_at es ws (2 * node))) (standing_else es ws x (2 * node + 1) (λ e. differs (omega (arith, is, e)))));
}

-- the only match that is open is the one above the new leaf
pub won_but_pushed : (es es' ws ws' : List (Option Rank)) (x : Option Rank) (at : ℕ) → es' ≡ es ++ x ∷ [] → ws' ≡ ws → length es < length ws → at ≡ length ws + length es → AreWonBut es ws 1 0 → AreWonBut es' ws' 1 (at / 2)
won_but_pushed es es' ws ws' x at is same room place won =
    subst (λ ys. AreWonBut ys ws' 1 (at / 2)) (sym is) (subst (λ xs. AreWonBut (es ++ x ∷ []) xs 1 (at / 2)) (sym same) (won_but_above es ws x at won place))
