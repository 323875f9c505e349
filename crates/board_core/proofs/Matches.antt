-- One match played in a tree of matches.
use Rattle.std.proofs.Common.{◌≡◌, ◌≢◌, ◌∙◌, ℕ, ◌+◌, ◌-◌, ◌*◌, ◌/◌, ◌<◌, ◌≤◌, List, length, Option, None, ap, subst, sym, inl, inr, arith, get_or, set}
use Rattle.std.specs.Prelude.{◌⊎◌}
use Rattle.std.proofs.lemmas.Bool.{cases_lt, cases_eq}
use Rattle.std.proofs.lemmas.Bool.Decides.{nat_tests}
use Rattle.std.proofs.lemmas.List.{length-set, get_or-set_same, get_or-set_other}
use Rattle.tournament.specs.declared.rank.Rank.{Rank}
use Rattle.tournament.specs.Rank.{earlier_of}
use Rattle.tournament.specs.Tree.{standing_at, IsWon, AreWonBut}

pub inner : (es ws : List (Option Rank)) (node : ℕ) → node < length ws → standing_at es ws node ≡ get_or ws node None
inner es ws node lt = grind (arith, nat_tests)

pub leaf : (es ws : List (Option Rank)) (node : ℕ) → length ws ≤ node → standing_at es ws node ≡ get_or es (node - length ws) None
leaf es ws node le = grind (arith, nat_tests)

set_here : (es ws : List (Option Rank)) (node : ℕ) (winner : Option Rank) → node < length ws → standing_at es (set ws node winner) node ≡ winner
set_here es ws node winner lt =
    inner es (set ws node winner) node (omega (arith, length-set ws node winner)) ∙ get_or-set_same ws node winner None lt

set_other : (es ws : List (Option Rank)) (node other : ℕ) (winner : Option Rank) → other ≢ node → standing_at es (set ws node winner) other ≡ standing_at es ws other
set_other es ws node other winner differs = at (cases_lt other (length ws))
  where
    at : (other < length ws) ⊎ (length ws ≤ other) → standing_at es (set ws node winner) other ≡ standing_at es ws other
    at (inl lt) = inner es (set ws node winner) other (omega (arith, length-set ws node winner)) ∙ get_or-set_other ws node other winner None differs ∙ sym (inner es ws other lt)
    at (inr le) = leaf es (set ws node winner) other (omega (arith, length-set ws node winner)) ∙ ap (λ n. get_or es (other - n) None) (length-set ws node winner) ∙ sym (leaf es ws other le)

-- the winners after the match at a node was played
abbrev pub played : List (Option Rank) → List (Option Rank) → ℕ → List (Option Rank)
played es ws node = set ws node (earlier_of (standing_at es ws (2 * node)) (standing_at es ws (2 * node + 1)))

won_here : (es ws : List (Option Rank)) (node : ℕ) → 1 ≤ node → node < length ws → IsWon es (played es ws node) node
won_here es ws node pos lt =
    let winner = earlier_of (standing_at es ws (2 * node)) (standing_at es ws (2 * node + 1)) in
    set_here es ws node winner lt
    ∙ sym (ap (λ x. earlier_of x (standing_at es (set ws node winner) (2 * node + 1))) (set_other es ws node (2 * node) winner (λ e. omega (arith, pos, e)))
    ∙ ap (earlier_of (standing_at es ws (2 * node))) (set_other es ws node (2 * node + 1) winner (λ e. omega (arith, pos, e))))

won_else : (es ws : List (Option Rank)) (node other : ℕ) → other ≢ node → 2 * other ≢ node → 2 * other + 1 ≢ node → IsWon es ws other → IsWon es (played es ws node) other
won_else es ws node other self left right won =
    let winner = earlier_of (standing_at es ws (2 * node)) (standing_at es ws (2 * node + 1)) in
    set_other es ws node other winner self
    ∙ won
    ∙ sym (ap (λ x. earlier_of x (standing_at es (set ws node winner) (2 * other + 1))) (set_other es ws node (2 * other) winner left)
    ∙ ap (earlier_of (standing_at es ws (2 * other))) (set_other es ws node (2 * other + 1) winner right))

-- where only this match was open, only the one above is
pub play_up : (es ws ws' : List (Option Rank)) (node : ℕ) → ws' ≡ played es ws node → 1 ≤ node → node < length ws → AreWonBut es ws 1 node → AreWonBut es ws' 1 (node / 2)
play_up es ws ws' node is pos lt others = subst (λ xs. AreWonBut es xs 1 (node / 2)) (sym is) (record { won = λ k low high differs. at k low high differs (cases_eq k node) })
  where
    at : (k : ℕ) → 1 ≤ k → k < length (played es ws node) → k ≢ node / 2 → (k ≡ node) ⊎ (k ≡ node → ⊥) → IsWon es (played es ws node) k
    at k low high differs (inl e) = subst (IsWon es (played es ws node)) (sym e) (won_here es ws node pos lt)
    at k low high differs (inr n) =
        won_else es ws node k n (λ e. differs (omega (arith, e))) (λ e. differs (omega (arith, e)))
        (others.won k low (omega (arith, high, length-set ws node (earlier_of (standing_at es ws (2 * node)) (standing_at es ws (2 * node + 1))))) n)

-- where the matches behind this one are won, so is it
pub play_down : (es ws ws' : List (Option Rank)) (node : ℕ) → ws' ≡ played es ws node → 1 ≤ node → node < length ws → AreWonBut es ws (node + 1) 0 → AreWonBut es ws' node 0
play_down es ws ws' node is pos lt behind = subst (λ xs. AreWonBut es xs node 0) (sym is) (record { won = λ k low high _. at k low high (cases_eq k node) })
  where
    at : (k : ℕ) → node ≤ k → k < length (played es ws node) → (k ≡ node) ⊎ (k ≡ node → ⊥) → IsWon es (played es ws node) k
    at k low high (inl e) = subst (IsWon es (played es ws node)) (sym e) (won_here es ws node pos lt)
    at k low high (inr n) =
        won_else es ws node k n (λ e. omega (arith, low, pos, e)) (λ e. omega (arith, low, pos, e))
        (behind.won k (omega (arith, low, n)) (omega (arith, high, length-set ws node (earlier_of (standing_at es ws (2 * node)) (standing_at es ws (2 * node + 1))))) (λ e. omega (arith, low, pos, e)))

pub length-played : (es ws : List (Option Rank)) (node : ℕ) → length (played es ws node) ≡ length ws
length-played es ws node = length-set ws node (earlier_of (standing_at es ws (2 * node)) (standing_at es ws (2 * node + 1)))
