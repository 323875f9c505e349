-- Each text states at most as much as there may be.
use Rattle.std.proofs.Common.{◌≡◌, ◌∙◌, ℕ, ◌+◌, ◌<◌, ◌≤◌, List, [], ◌∷◌, ◌++◌, length, map, Bool, true, false, cond, refl, ap, sym, subst, arith}
use Rattle.std.specs.Prelude.{◌&&◌, ◌||◌, ◌==◌, not, nat_lt, nat_le, is_some, Option, Some, None, sum_by}
use Rattle.std.proofs.lemmas.Bool.{leb-false}
use Rattle.std.proofs.lemmas.List.{length-append}
use Rattle.std.proofs.lemmas.List.Sums.{sum_by-append, sum_by-cons, sum_by_push}
use Rattle.sat_base.specs.Limits.{most_clauses, most_jobs, most_literals}
use Rattle.sat_base.specs.Lit.{in_order, put_in}
use Rattle.icnf_text.specs.declared.statements.Statement.{Statement}
use Rattle.icnf_text.specs.declared.statements.Statement.TheVariants.{Clause, Cube}
use Rattle.icnf_text.specs.declared.statements.Numbered.{Numbered}
use Rattle.icnf_text.specs.declared.faults.Reason.{Reason}
use Rattle.icnf_text.specs.declared.faults.Reason.TheVariants as reason
use Rattle.icnf_text.specs.Jobs.{clauses_after, jobs_after}
use Rattle.icnf_text.specs.Law.{literals_in, IsWithinLimits}
use Rattle.icnf_text.specs.Layout.{Token}
use Rattle.icnf_text.specs.Number.{is_zero, is_mark, is_literal, code_of}
use Rattle.icnf_text.specs.Judgement.{Header, Missing, Broken, Found, header, open_of, lits_of, begins_cube, statement_of, statements_of, statements, statements_under, is_clause, count_clauses, count_cubes, count_literals, is_one_too_many, reason_of, right_after}
use Rattle.icnf_text.proofs.Grammar.{open_of-more, open_of-zero, statements_of-more, statements_of-zero, lits_of-push, count_by-push}
use Rattle.icnf_text.proofs.TokenKinds.{literal_differs}

abbrev unnumbered : List Numbered → List Statement
unnumbered list = map (λ (numbered : Numbered). numbered.statement) list

-- clauses and queries of statements, counted
clauses_step : (before : List (List ℕ)) (s : Statement) (list : List Numbered) → ((more : List (List ℕ)) → length (clauses_after more (unnumbered list)) ≡ length more + count_clauses list) →
    length (clauses_after before (s ∷ unnumbered list)) ≡ length before + (cond (is_clause s) 1 0 + count_clauses list)
clauses_step before (Clause clause) list h = let more = h (before ++ clause ∷ []) in let one = length-append before (clause ∷ []) in omega arith
clauses_step before (Cube cube) list h = let same = h before in omega arith

pub clauses_counted : (before : List (List ℕ)) (list : List Numbered) → length (clauses_after before (unnumbered list)) ≡ length before + count_clauses list
clauses_counted before [] = omega arith
clauses_counted before (n ∷ list) =
    clauses_step before n.statement list (λ more. clauses_counted more list)
    ∙ ap (λ k. length before + k) (sym (sum_by-cons (λ (m : Numbered). cond (is_clause m.statement) 1 0) n list))

jobs_step : (before : List (List ℕ)) (s : Statement) (list : List Numbered) → ((more : List (List ℕ)) → length (jobs_after more (unnumbered list)) ≡ count_cubes list) →
    length (jobs_after before (s ∷ unnumbered list)) ≡ cond (not (is_clause s)) 1 0 + count_cubes list
jobs_step before (Clause clause) list h = let same = h (before ++ clause ∷ []) in omega arith
jobs_step before (Cube cube) list h = let more = h before in omega arith

pub jobs_counted : (before : List (List ℕ)) (list : List Numbered) → length (jobs_after before (unnumbered list)) ≡ count_cubes list
jobs_counted before [] = refl
jobs_counted before (n ∷ list) =
    jobs_step before n.statement list (λ more. jobs_counted more list)
    ∙ sym (sum_by-cons (λ (m : Numbered). cond (not (is_clause m.statement)) 1 0) n list)

-- literals of statements
abbrev stated_literals : List Numbered → ℕ
stated_literals list = sum_by (λ (n : Numbered). literals_in n.statement) list

literals_counted : (list : List Numbered) → sum_by literals_in (unnumbered list) ≡ stated_literals list
literals_counted [] = refl
literals_counted (n ∷ list) =
    sum_by-cons literals_in n.statement (unnumbered list) ∙ ap (λ k. literals_in n.statement + k) (literals_counted list)
    ∙ sym (sum_by-cons (λ (m : Numbered). literals_in m.statement) n list)

-- a list in order is no longer
put_longer : (lit : ℕ) (lits : List ℕ) → length (put_in lit lits) ≤ length lits + 1
put_longer lit [] = omega arith
put_longer lit (other ∷ lits) = by (nat_lt lit other) (lit == other) (put_longer lit lits)
  where
    by : (a b : Bool) → length (put_in lit lits) ≤ length lits + 1 →
        length (cond a (lit ∷ other ∷ lits) (cond b (other ∷ lits) (other ∷ put_in lit lits))) ≤ length (other ∷ lits) + 1
    by true b h = omega arith
    by false true h = omega arith
    by false false h = omega arith

ordered_no_longer : (lits : List ℕ) → length (in_order lits) ≤ length lits
ordered_no_longer [] = omega arith
ordered_no_longer (lit ∷ lits) = let one = put_longer lit (in_order lits) in let more = ordered_no_longer lits in omega arith

-- what the open statement will be
abbrev open_clause : List Token → ℕ
open_clause [] = 0
open_clause (t ∷ ts) = cond (not (is_mark t.bytes)) 1 0

abbrev open_cube : List Token → ℕ
open_cube [] = 0
open_cube (t ∷ ts) = cond (is_mark t.bytes) 1 0

-- within the limits with the statement that is open, where so many literals came
record IsRoom (list : List Numbered) (open_ones : List Token) (count : ℕ) : Type 0 where
  clauses : count_clauses list + open_clause open_ones ≤ most_clauses
  cubes : count_cubes list + open_cube open_ones ≤ most_jobs
  literals : stated_literals list + length (lits_of open_ones) ≤ count
  few : count ≤ most_literals

abbrev one_if : Bool → ℕ
one_if holds = cond holds 1 0

-- the open statement ends
as_clause : (mark : Bool) (lits : List ℕ) → one_if (is_clause (cond mark (Cube lits) (Clause lits))) ≡ one_if (not mark)
as_clause true lits = refl
as_clause false lits = refl

as_cube : (mark : Bool) (lits : List ℕ) → one_if (not (is_clause (cond mark (Cube lits) (Clause lits)))) ≡ one_if mark
as_cube true lits = refl
as_cube false lits = refl

as_lits : (mark : Bool) (lits : List ℕ) → literals_in (cond mark (Cube lits) (Clause lits)) ≡ length lits
as_lits true lits = refl
as_lits false lits = refl

closed_clause : (open_ones : List Token) (t : Token) → one_if (is_clause (statement_of (open_ones ++ t ∷ [])).statement) ≡ open_clause (open_ones ++ t ∷ [])
closed_clause [] t = as_clause (is_mark t.bytes) _
closed_clause (u ∷ us) t = as_clause (is_mark u.bytes) _

closed_cube : (open_ones : List Token) (t : Token) → one_if (not (is_clause (statement_of (open_ones ++ t ∷ [])).statement)) ≡ open_cube (open_ones ++ t ∷ [])
closed_cube [] t = as_cube (is_mark t.bytes) _
closed_cube (u ∷ us) t = as_cube (is_mark u.bytes) _

closes : (list : List Numbered) (open_ones : List Token) (t : Token) (count : ℕ) → IsRoom list (open_ones ++ t ∷ []) count → IsRoom (list ++ statement_of (open_ones ++ t ∷ []) ∷ []) [] count
closes list open_ones t count room =
    let group : List Token = open_ones ++ t ∷ [] in record {
      clauses = (let one = count_by-push (λ (n : Numbered). is_clause n.statement) list (statement_of group) in let kind = closed_clause open_ones t in let h = room.clauses in omega arith);
      cubes = (let one = count_by-push (λ (n : Numbered). not (is_clause n.statement)) list (statement_of group) in let kind = closed_cube open_ones t in let h = room.cubes in omega arith);
      literals = (let one = sum_by_push (λ (n : Numbered). literals_in n.statement) list (statement_of group) in let kind = as_lits (begins_cube group) (in_order (lits_of group)) in
          let short = ordered_no_longer (lits_of group) in let h = room.literals in omega arith);
      few = room.few;
    }

-- one token more
not_either : (a b : Bool) → (a || b) ≡ false → (a ≡ false) × (b ≡ false)
not_either true b h = cc
not_either false b h = (refl, h)

clauses_room : (open_ones : List Token) (t : Token) (count : ℕ) (cubes literals : Bool) → count + open_clause open_ones ≤ most_clauses →
    cond (is_mark t.bytes) cubes (((length open_ones == 0) && nat_le most_clauses count) || literals) ≡ false → count + open_clause (open_ones ++ t ∷ []) ≤ most_clauses
clauses_room (u ∷ us) t count cubes literals h right = h
clauses_room [] t count cubes literals h right = by (is_mark t.bytes) right
  where
    by : (mark : Bool) → cond mark cubes (nat_le most_clauses count || literals) ≡ false → count + cond (not mark) 1 0 ≤ most_clauses
    by true k = omega arith
    by false k = let less = leb-false most_clauses count (not_either _ _ k).0 in omega arith

cubes_room : (open_ones : List Token) (t : Token) (count : ℕ) (others : Bool) → count + open_cube open_ones ≤ most_jobs →
    cond (is_mark t.bytes) (nat_le most_jobs count) others ≡ false → count + open_cube (open_ones ++ t ∷ []) ≤ most_jobs
cubes_room (u ∷ us) t count others h right = h
cubes_room [] t count others h right = by (is_mark t.bytes) right
  where
    by : (mark : Bool) → cond mark (nat_le most_jobs count) others ≡ false → count + cond mark 1 0 ≤ most_jobs
    by true k = let less = leb-false most_jobs count k in omega arith
    by false k = omega arith

literals_room : (literal mark cubes begins : Bool) (count : ℕ) → (literal ≡ true → mark ≡ false) → count ≤ most_literals →
    cond mark cubes (begins || (literal && nat_le most_literals count)) ≡ false → count + cond literal 1 0 ≤ most_literals
literals_room false mark cubes begins count none h right = omega arith
literals_room true true cubes begins count none h right = absurd (let e = none refl in cc)
literals_room true false cubes begins count none h right = let less : count < most_literals = leb-false most_literals count (not_either begins (nat_le most_literals count) right).1 in omega arith

lits_length : (tokens : List Token) (t : Token) → length (lits_of (tokens ++ t ∷ [])) ≡ length (lits_of tokens) + cond (is_literal t.bytes) 1 0
lits_length tokens t = by (is_literal t.bytes) (lits_of-push tokens t (is_literal t.bytes) refl)
  where
    by : (l : Bool) → lits_of (tokens ++ t ∷ []) ≡ cond l (lits_of tokens ++ code_of t.bytes ∷ []) (lits_of tokens) → length (lits_of (tokens ++ t ∷ [])) ≡ length (lits_of tokens) + cond l 1 0
    by true h = ap length h ∙ length-append (lits_of tokens) (code_of t.bytes ∷ [])
    by false h = ap length h ∙ omega arith

takes : (tokens : List Token) (t : Token) → IsRoom (statements_of tokens) (open_of tokens) (count_literals tokens) → is_one_too_many tokens t.bytes ≡ false →
    IsRoom (statements_of tokens) (open_of tokens ++ t ∷ []) (count_literals (tokens ++ t ∷ []))
takes tokens t room right =
    let counted = count_by-push (λ (u : Token). is_literal u.bytes) tokens t in record {
      clauses = clauses_room (open_of tokens) t _ _ _ room.clauses right;
      cubes = cubes_room (open_of tokens) t _ _ room.cubes right;
      literals = (let one = lits_length (open_of tokens) t in let h = room.literals in omega arith);
      few = (let less = literals_room (is_literal t.bytes) (is_mark t.bytes) _ _ _ (λ l. literal_differs t.bytes (97 ∷ []) l refl) room.few right in omega arith);
    }

one_more : (tokens : List Token) (t : Token) → IsRoom (statements_of tokens) (open_of tokens) (count_literals tokens) → is_one_too_many tokens t.bytes ≡ false →
    IsRoom (statements_of (tokens ++ t ∷ [])) (open_of (tokens ++ t ∷ [])) (count_literals (tokens ++ t ∷ []))
one_more tokens t room right = by (is_zero t.bytes) refl
  where
    count : ℕ
    count = count_literals (tokens ++ t ∷ [])

    by : (zero : Bool) → is_zero t.bytes ≡ zero → IsRoom (statements_of (tokens ++ t ∷ [])) (open_of (tokens ++ t ∷ [])) count
    by true is =
        subst (λ (list : List Numbered). IsRoom list (open_of (tokens ++ t ∷ [])) count) (sym (statements_of-zero tokens t is))
        (subst (λ (o : List Token). IsRoom (statements_of tokens ++ statement_of (open_of tokens ++ t ∷ []) ∷ []) o count) (sym (open_of-zero tokens t is))
        (closes (statements_of tokens) (open_of tokens) t count (takes tokens t room right)))
    by false is =
        subst (λ (list : List Numbered). IsRoom list (open_of (tokens ++ t ∷ [])) count) (sym (statements_of-more tokens t is))
        (subst (λ (o : List Token). IsRoom (statements_of tokens) o count) (sym (open_of-more tokens t is)) (takes tokens t room right))

-- the tokens before the first wrong one
not_too_many : (a b c : Bool) → cond a (Some reason.Token) (cond b (Some reason.Variable) (cond c (Some reason.TooMany) None)) ≡ None → c ≡ false
not_too_many true b c h = cc
not_too_many false true c h = cc
not_too_many false false true h = cc
not_too_many false false false h = refl

right_room : (before tokens : List Token) → IsRoom (statements_of before) (open_of before) (count_literals before) →
    IsRoom (statements_of (right_after before tokens)) (open_of (right_after before tokens)) (count_literals (right_after before tokens))
right_room before [] room = room
right_room before (t ∷ tokens) room = right_step before t tokens room (λ more. right_room (before ++ t ∷ []) tokens more)
  where
    right_step : (before : List Token) (t : Token) (tokens : List Token) → IsRoom (statements_of before) (open_of before) (count_literals before) →
        (IsRoom (statements_of (before ++ t ∷ [])) (open_of (before ++ t ∷ [])) (count_literals (before ++ t ∷ [])) →
        (let all = right_after (before ++ t ∷ []) tokens in IsRoom (statements_of all) (open_of all) (count_literals all))) →
        (let all = cond (is_some (reason_of before t.bytes)) before (right_after (before ++ t ∷ []) tokens) in IsRoom (statements_of all) (open_of all) (count_literals all))
    right_step before t tokens room more = by (reason_of before t.bytes) refl
      where
        by : (why : Option Reason) → reason_of before t.bytes ≡ why →
            (let all = cond (is_some why) before (right_after (before ++ t ∷ []) tokens) in IsRoom (statements_of all) (open_of all) (count_literals all))
        by (Some why) is = room
        by None is = more (one_more before t room (not_too_many _ _ _ is))

none_room : IsRoom [] [] 0
none_room = record { clauses = omega arith; cubes = omega arith; literals = omega arith; few = omega arith }

room_within : (list : List Numbered) (open_ones : List Token) (count : ℕ) → IsRoom list open_ones count → IsWithinLimits (unnumbered list)
room_within list open_ones count room = record {
  clauses = (let h = clauses_counted [] list in let k = room.clauses in omega arith);
  jobs = (let h = jobs_counted [] list in let k = room.cubes in omega arith);
  literals = (let h = literals_counted list in let k = room.literals in let few = room.few in omega arith);
}

-- what stands in front of statements within the limits is within them too
pub front_within : (first rest : List Numbered) → IsWithinLimits (unnumbered (first ++ rest)) → IsWithinLimits (unnumbered first)
front_within first rest all = record {
  clauses = (let part = clauses_counted [] first in let whole = clauses_counted [] (first ++ rest) in let parts = sum_by-append (λ (n : Numbered). one_if (is_clause n.statement)) first rest in let h = all.clauses in omega arith);
  jobs = (let part = jobs_counted [] first in let whole = jobs_counted [] (first ++ rest) in let parts = sum_by-append (λ (n : Numbered). one_if (not (is_clause n.statement))) first rest in let h = all.jobs in omega arith);
  literals = (let part = literals_counted first in let whole = literals_counted (first ++ rest) in let parts = sum_by-append (λ (n : Numbered). literals_in n.statement) first rest in let h = all.literals in omega arith);
}

under_within : (header : Header) → IsWithinLimits (unnumbered (statements_under header))
under_within Missing = room_within [] [] 0 none_room
under_within (Broken line) = room_within [] [] 0 none_room
under_within (Found tokens) = let all = right_after [] tokens in room_within (statements_of all) (open_of all) (count_literals all) (right_room [] tokens none_room)

pub each_within : (text : List ℕ) (ended : Bool) → IsWithinLimits (unnumbered (statements text ended))
unfolding statements
each_within text ended = under_within (header text ended)
