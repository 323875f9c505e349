-- What forces and what is complete, where clauses change the places of their literals or become
-- more.
use Rattle.std.proofs.Common.{ℕ, ◌<◌, List, [], ◌∷◌, ◌++◌, length, take, sym, subst, arith}
use Rattle.std.specs.Prelude.{All, Contains}
use Rattle.std.proofs.lemmas.List.{length_push, get_or_append_left}
use Rattle.std.proofs.lemmas.List.Elements.{All-contains, All-get_or}
use Rattle.sat_base.proofs.Members.{All-from_members}
use Rattle.clause_arena.specs.Arena.{ArenaClause, clause_at, lits_of_each}
use Rattle.trail_core.specs.Trail.{Entry, entry_at, lits_of, up_to}
use Rattle.trail_core.specs.UnderTrail.{IsFalseLit, IsOpenClause, HasOthersFalse, IsForced}
use Rattle.trail_core.specs.UnderTrail.{IsFounded, IsComplete}
use Rattle.propagate.specs.Store.{HasSameClauses}
use Rattle.propagate.proofs.Whole.{length-lits_of_each, lits_at-each, all_open}
use Rattle.session.specs.OnTrail.{IsForcedAtZero}
use Rattle.session.proofs.Lists.{All-push}

-- the same sets of literals
pub forced_same : (olds news : List ArenaClause) (before : List Entry) (entry : Entry)
    → HasSameClauses olds news → IsForced (lits_of_each olds) before entry
    → IsForced (lits_of_each news) before entry
forced_same olds news before entry same forced =
    let known : forced.id < length olds = omega (arith, forced.known, length-lits_of_each olds) in
    let one = same.each forced.id known in
    let is_old = lits_at-each olds forced.id known in
    let is_new = lits_at-each news forced.id (omega (arith, known, same.count)) in
    record {
      id = forced.id;
      reason = forced.reason;
      known = omega (arith, known, same.count, length-lits_of_each news);
      rest = subst (λ (lits : List ℕ). HasOthersFalse (lits_of before) lits entry.lit) (sym is_new) (record {
        stands = All-contains (Contains (clause_at news forced.id).lits)
            (clause_at olds forced.id).lits entry.lit one.kept
            (subst (λ (lits : List ℕ). Contains lits entry.lit) is_old forced.rest.stands);
        others = λ other has differs. forced.rest.others other
            (subst (λ (lits : List ℕ). Contains lits other) (sym is_old)
            (All-contains (Contains (clause_at olds forced.id).lits)
            (clause_at news forced.id).lits other one.no_more has)) differs;
      });
    }

open_same : (trues old new : List ℕ) → All (Contains new) old → All (Contains old) new
    → IsOpenClause trues old → IsOpenClause trues new
open_same trues old new kept no_more is_open = record {
  not_false = λ all. is_open.not_false (record {
    each = All-from_members (IsFalseLit trues) old
        (λ lit has. All-contains (IsFalseLit trues) new lit all.each
        (All-contains (Contains new) old lit kept has));
  });
  not_unit = λ lit unit. is_open.not_unit lit (record {
    free = unit.free;
    rest = record {
      stands = All-contains (Contains old) new lit no_more unit.rest.stands;
      others = λ other has differs. unit.rest.others other
          (All-contains (Contains new) old other kept has) differs;
    };
  });
}

pub open_at : (trues : List ℕ) (clauses : List ArenaClause) (id : ℕ) → id < length clauses
    → All (IsOpenClause trues) (lits_of_each clauses)
    → IsOpenClause trues (clause_at clauses id).lits
open_at trues clauses id known all =
    subst (IsOpenClause trues) (lits_at-each clauses id known)
    (All-get_or (IsOpenClause trues) (lits_of_each clauses) id []
    (omega (arith, known, length-lits_of_each clauses)) all)

pub complete_same : (olds news : List ArenaClause) (entries : List Entry) (level : ℕ)
    → HasSameClauses olds news → IsComplete entries level (lits_of_each olds)
    → IsComplete entries level (lits_of_each news)
complete_same olds news entries level same complete = record {
  each = all_open (lits_of (up_to level entries)) news (λ id known.
      let was : id < length olds = omega (arith, known, same.count) in
      let one = same.each id was in
      open_same (lits_of (up_to level entries)) (clause_at olds id).lits
      (clause_at news id).lits one.kept one.no_more
      (open_at (lits_of (up_to level entries)) olds id was complete.each));
}

-- one clause more
pub forced_more : (clauses : List (List ℕ)) (clause : List ℕ) (before : List Entry) (entry : Entry)
    → IsForced clauses before entry → IsForced (clauses ++ clause ∷ []) before entry
forced_more clauses clause before entry forced = record {
  id = forced.id;
  reason = forced.reason;
  known = omega (arith, forced.known, length_push clauses clause);
  rest = subst (λ (lits : List ℕ). HasOthersFalse (lits_of before) lits entry.lit)
      (sym (get_or_append_left clauses (clause ∷ []) [] forced.id forced.known)) forced.rest;
}

pub founded_more : (clauses : List (List ℕ)) (clause : List ℕ) (entries : List Entry) (depth : ℕ)
    → IsFounded clauses entries depth → IsFounded (clauses ++ clause ∷ []) entries depth
founded_more clauses clause entries depth founded = record {
  begun = founded.begun;
  first = founded.first;
  other = λ place k lt above before equal. forced_more clauses clause (take place entries)
      (entry_at entries place) (founded.other place k lt above before equal);
}

pub zero_more : (clauses : List (List ℕ)) (clause : List ℕ) (entries : List Entry)
    → IsForcedAtZero clauses entries → IsForcedAtZero (clauses ++ clause ∷ []) entries
zero_more clauses clause entries zero_ok = record {
  forced = λ place lt level. forced_more clauses clause (take place entries)
      (entry_at entries place) (zero_ok.forced place lt level);
}

pub complete_more : (clauses : List (List ℕ)) (clause : List ℕ) (entries : List Entry) (level : ℕ)
    → IsComplete entries level clauses → IsOpenClause (lits_of (up_to level entries)) clause
    → IsComplete entries level (clauses ++ clause ∷ [])
complete_more clauses clause entries level complete is_open = record {
  each = All-push (IsOpenClause
      (lits_of (up_to level entries))) clauses clause complete.each is_open;
}
