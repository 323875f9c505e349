-- A generated text is within the limits.
use Rattle.std.proofs.Common.{◌≡◌, ◌∙◌, ℕ, ◌+◌, ◌*◌, ◌/◌, ◌<◌, ◌≤◌, List, [], ◌∷◌, ◌++◌, length, map, Bool, true, false, cond, refl, ap, sym, subst, arith}
use Rattle.std.specs.Prelude.{All, codes, decimal, if◌then◌else◌, not, count_by, sum_by}
use Rattle.std.specs.List.{flat_map, range_with_len}
use Rattle.std.proofs.lemmas.Fmt.{length-decimal-le}
use Rattle.std.proofs.lemmas.List.{length-append}
use Rattle.std.proofs.lemmas.List.Concat.{length-flat_map}
use Rattle.std.proofs.lemmas.List.Elements.{All-nil, All-cons, All-append, All-weaker}
use Rattle.std.proofs.lemmas.List.FromFn.{length-map-range_with_len}
use Rattle.std.proofs.lemmas.List.Sums.{sum_by-append, sum_by-le}
use Rattle.sat_base.specs.Lit.{variable, is_negative}
use Rattle.icnf_text.specs.declared.statements.Statement.{Statement}
use Rattle.icnf_text.specs.declared.statements.Statement.TheVariants.{Clause, Cube}
use Rattle.icnf_text.specs.Judgement.{is_clause}
use Rattle.icnf_text.specs.Printed.{number_text, lits_text, statement_text, lits_in, IsWithin}
use Rattle.icnf_gen.specs.Draws.{lit_of_number, number_of, state_after, drawn_lit}
use Rattle.icnf_gen.specs.Drawn.{implication, drawn_clause, drawn_cube, drawn_clauses, drawn_cubes, stretch, generated}
use Rattle.icnf_gen.proofs.Sizes.{sum_of_equal, sum_of_lists, length_of_lists, all_of_range, all_of_lists, in_order-length, in_order-all}

-- a literal of a variable of at most five digits
abbrev IsSmall : ℕ → Type 0
IsSmall lit = lit / 2 < 100000

-- a statement of at most three such literals
pub record IsShort (statement : Statement) : Type 0 where
  pub few : length (lits_in statement) ≤ 3
  pub small : All IsSmall (lits_in statement)

drawn_small : (seed draw : ℕ) → IsSmall (drawn_lit seed draw)
drawn_small seed draw = by (number_of (state_after seed draw))
  where
    by : (number : ℕ) → lit_of_number number / 2 < 100000
    by number = omega arith

three : (a b c : ℕ) → IsSmall a → IsSmall b → IsSmall c → All IsSmall (a ∷ b ∷ c ∷ [])
three a b c h i j = All-cons IsSmall a (b ∷ c ∷ []) h (All-cons IsSmall b (c ∷ []) i (All-cons IsSmall c [] j (All-nil IsSmall)))

implication_short : (variable : ℕ) → variable < 10101 → IsShort (implication variable)
implication_short variable below = record {
  few = omega arith;
  small = All-cons IsSmall (2 * variable + 1) (2 * (variable + 1) ∷ []) (omega (arith, below)) (All-cons IsSmall (2 * (variable + 1)) [] (omega (arith, below)) (All-nil IsSmall));
}

clause_short : (seed draws : ℕ) → IsShort (drawn_clause seed draws)
clause_short seed draws =
    let a = drawn_lit seed (draws + 1) in
    let b = drawn_lit seed (draws + 2) in
    let c = drawn_lit seed (draws + 3) in record {
      few = in_order-length (a ∷ b ∷ c ∷ []);
      small = in_order-all IsSmall (a ∷ b ∷ c ∷ []) (three a b c (drawn_small seed (draws + 1)) (drawn_small seed (draws + 2)) (drawn_small seed (draws + 3)));
    }

cube_short : (seed draws : ℕ) → IsShort (drawn_cube seed draws)
cube_short seed draws =
    let a = drawn_lit seed (draws + 1) in
    let b = drawn_lit seed (draws + 2) in record {
      few = in_order-length (a ∷ b ∷ 202 ∷ []);
      small = in_order-all IsSmall (a ∷ b ∷ 202 ∷ []) (three a b 202 (drawn_small seed (draws + 1)) (drawn_small seed (draws + 2)) (omega arith));
    }

stretch_short : (seed draws : ℕ) → All IsShort (stretch seed draws)
stretch_short seed draws =
    All-append IsShort (drawn_clauses seed draws) (drawn_cubes seed (draws + 48))
    (all_of_range IsShort (λ place. drawn_clause seed (draws + 3 * place)) 16 (λ place below. clause_short seed (draws + 3 * place)) 0 16 (omega arith))
    (all_of_range IsShort (λ place. drawn_cube seed (draws + 48 + 2 * place)) 4 (λ place below. cube_short seed (draws + 48 + 2 * place)) 0 4 (omega arith))

-- the statements with a chain of any length and any number of stretches
abbrev of_sizes : ℕ → ℕ → ℕ → List Statement
of_sizes seed links count = map implication (range_with_len 101 links) ++ flat_map (λ place. stretch seed (56 * place)) (range_with_len 0 count)

short : (seed links count : ℕ) → links ≤ 10000 → All IsShort (of_sizes seed links count)
short seed links count few =
    All-append IsShort (map implication (range_with_len 101 links)) (flat_map (λ place. stretch seed (56 * place)) (range_with_len 0 count))
    (all_of_range IsShort implication 10101 implication_short 101 links (omega (arith, few)))
    (all_of_lists IsShort (λ place. stretch seed (56 * place)) (λ place. stretch_short seed (56 * place)) 0 count)

-- how many there are of a kind
kinds : (weight : Statement → ℕ) (clauses cubes : ℕ) → ((lits : List ℕ) → weight (Clause lits) ≡ clauses) → ((lits : List ℕ) → weight (Cube lits) ≡ cubes) → (seed links count : ℕ)
    → sum_by weight (of_sizes seed links count) ≡ links * clauses + count * (16 * clauses + 4 * cubes)
kinds weight clauses cubes at_clause at_cube seed links count =
    sum_by-append weight (map implication (range_with_len 101 links)) (flat_map (λ place. stretch seed (56 * place)) (range_with_len 0 count))
    ∙ ap (λ k. k + sum_by weight (flat_map (λ place. stretch seed (56 * place)) (range_with_len 0 count)))
    (sum_of_equal weight implication clauses (λ v. at_clause _) 101 links)
    ∙ ap (λ k. links * clauses + k)
    (sum_of_lists weight (λ place. stretch seed (56 * place)) (16 * clauses + 4 * cubes) (λ place. in_stretch (56 * place)) 0 count)
  where
    in_stretch : (draws : ℕ) → sum_by weight (stretch seed draws) ≡ 16 * clauses + 4 * cubes
    in_stretch draws =
        sum_by-append weight (drawn_clauses seed draws) (drawn_cubes seed (draws + 48))
        ∙ ap (λ k. k + sum_by weight (drawn_cubes seed (draws + 48))) (sum_of_equal weight (λ place. drawn_clause seed (draws + 3 * place)) clauses (λ place. at_clause _) 0 16)
        ∙ ap (λ k. 16 * clauses + k) (sum_of_equal weight (λ place. drawn_cube seed (draws + 48 + 2 * place)) cubes (λ place. at_cube _) 0 4)

pub clauses_of_sizes : (seed links count : ℕ) → count_by is_clause (of_sizes seed links count) ≡ links + count * 16
clauses_of_sizes seed links count =
    kinds (λ s. cond (is_clause s) 1 0) 1 0 (λ lits. refl) (λ lits. refl) seed links count
    ∙ (let e : links * 1 + count * (16 * 1 + 4 * 0) ≡ links + count * 16 = omega arith in e)

pub cubes_of_sizes : (seed links count : ℕ) → count_by (λ s. not (is_clause s)) (of_sizes seed links count) ≡ count * 4
cubes_of_sizes seed links count =
    kinds (λ s. cond (not (is_clause s)) 1 0) 0 1 (λ lits. refl) (λ lits. refl) seed links count
    ∙ (let e : links * 0 + count * (16 * 0 + 4 * 1) ≡ count * 4 = omega arith in e)

length_of_sizes : (seed links count : ℕ) → length (of_sizes seed links count) ≡ links + count * 20
length_of_sizes seed links count =
    length-append (map implication (range_with_len 101 links)) (flat_map (λ place. stretch seed (56 * place)) (range_with_len 0 count))
    ∙ ap (λ k. k + length (flat_map (λ place. stretch seed (56 * place)) (range_with_len 0 count))) (length-map-range_with_len implication 101 links)
    ∙ ap (λ k. links + k) (length_of_lists (λ place. stretch seed (56 * place)) 20 (λ place. refl) 0 count)

-- the text of a literal and a space
abbrev sign : Bool → List ℕ
sign negative = if negative then codes "-" else []

sign_length : (negative : Bool) → length (sign negative) ≤ 1
sign_length true = omega arith
sign_length false = omega arith

number_length : (lit : ℕ) → IsSmall lit → length (number_text lit ++ codes " ") ≤ 7
number_length lit small =
    let digits = length-decimal-le 5 (lit / 2) (omega arith) small (omega (arith, small)) in
    omega (arith, length-append (number_text lit) (codes " "), length-append (sign (is_negative lit)) (decimal (lit / 2)), sign_length (is_negative lit), digits)

numbers_length : (lits : List ℕ) → All IsSmall lits → length (flat_map (λ lit. number_text lit ++ codes " ") lits) ≤ length lits * 7
numbers_length lits small =
    subst (λ n. n ≤ length lits * 7) (sym (length-flat_map (λ lit. number_text lit ++ codes " ") lits))
    (sum_by-le (λ lit. length (number_text lit ++ codes " ")) 7 lits (All-weaker IsSmall (λ lit. length (number_text lit ++ codes " ") ≤ 7) number_length lits small))

lits_length : (lits : List ℕ) → length lits ≤ 3 → All IsSmall lits → length (lits_text lits) ≤ 23
lits_length lits few small =
    omega (arith, length-append (flat_map (λ lit. number_text lit ++ codes " ") lits) (codes "0\n"), numbers_length lits small, few)

statement_length : (statement : Statement) → IsShort statement → length (statement_text statement) ≤ 25
statement_length (Clause lits) short = omega (arith, lits_length lits short.few short.small)
statement_length (Cube lits) short = omega (arith, lits_length lits short.few short.small)

pub within_of_sizes : (seed links count : ℕ) → links ≤ 10000 → count ≤ 30 → IsWithin (of_sizes seed links count)
within_of_sizes seed links count few rare =
    let list = of_sizes seed links count in
    let all = short seed links count few in
    let items = length_of_sizes seed links count in
    let bytes = sum_by-le (λ s. length (statement_text s)) 25 list (All-weaker IsShort (λ s. length (statement_text s) ≤ 25) statement_length list all) in
    let lits = sum_by-le (λ s. length (lits_in s)) 3 list (All-weaker IsShort (λ s. length (lits_in s) ≤ 3) (λ s is. is.few) list all) in record {
      bytes = omega (arith, length-append (codes "p inccnf\n") (flat_map statement_text list), length-flat_map statement_text list, bytes, items, few, rare);
      clauses = omega (arith, clauses_of_sizes seed links count, few, rare);
      cubes = omega (arith, cubes_of_sizes seed links count, few, rare);
      literals = omega (arith, lits, items, few, rare);
    }

pub is_within : (seed : ℕ) → IsWithin (generated seed)
is_within seed = within_of_sizes seed 10000 30 (omega arith) (omega arith)

pub count_clauses : (seed : ℕ) → count_by is_clause (generated seed) ≡ 10480
count_clauses seed = clauses_of_sizes seed 10000 30

pub count_cubes : (seed : ℕ) → count_by (λ s. not (is_clause s)) (generated seed) ≡ 120
count_cubes seed = cubes_of_sizes seed 10000 30
