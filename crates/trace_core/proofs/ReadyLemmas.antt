-- A checker between two calls.
use Rattle.std.proofs.Common.{◌≡◌, ◌∙◌, ℕ, ◌+◌, ◌<◌, ◌≤◌, List, [], ◌∷◌, ◌++◌, take, drop, length, ltb, ap, subst, sym, inl, inr, arith}
use Rattle.std.specs.Prelude.{IsTrue, Contains, ◌⊎◌}
use Rattle.std.specs.List.{AllByRecursion}
use Rattle.std.proofs.lemmas.Bool.{and_parts, ltb-true}
use Rattle.std.proofs.lemmas.List.{take_at}
use Rattle.std.proofs.lemmas.List.Elements.{Contains-push_cases, recursion_from_All}
use Rattle.sat_base.specs.Lit.{IsLit, IsLitSet, ascends_above}
use Rattle.trace_core.specs.Known.{Known}
use Rattle.trace_core.specs.Marking.{holds, AreFree, HasRoom}
use Rattle.trace_core.specs.Ready.{HaveRoomFor, IsReady}
use Rattle.trace_core.specs.declared.marks.Mark.{Mark}
use Rattle.trace_core.proofs.RoomLemmas.{room_grows}

pub rooms_grow : (size size' : ℕ) (clauses : List Known) → size ≤ size' → HaveRoomFor size clauses → HaveRoomFor size' clauses
rooms_grow size size' clauses le room named has = room_grows size size' named.clause le (room named has)

-- one more known clause with room
room_pushed : (size : ℕ) (clauses clauses' : List Known) (named : Known) → clauses' ≡ clauses ++ named ∷ [] → HaveRoomFor size clauses → HasRoom size named.clause → HaveRoomFor size clauses'
room_pushed size clauses clauses' named is room new other has = either (Contains-push_cases clauses named other (subst (λ (ks : List Known). Contains ks other) is has))
  where
    either : Contains clauses other ⊎ (named ≡ other) → HasRoom size other.clause
    either (inl before) = room other before
    either (inr same) = subst (λ (k : Known). HasRoom size k.clause) same new

pub ready_grown : (marks marks' : List Mark) (lits : List ℕ) (inputs steps : List Known) → length marks ≤ length marks' → ((lit : ℕ) → holds marks' lit ≡ holds marks lit)
    → IsReady marks lits inputs steps → IsReady marks' lits inputs steps
ready_grown marks marks' lits inputs steps le same ready = record {
  free = λ lit. same lit ∙ ready.free lit;
  empty = ready.empty;
  inputs_room = rooms_grow (length marks) (length marks') inputs le ready.inputs_room;
  steps_room = rooms_grow (length marks) (length marks') steps le ready.steps_room;
}

pub ready_input : (marks : List Mark) (lits : List ℕ) (inputs inputs' steps : List Known) (named : Known) → inputs' ≡ inputs ++ named ∷ [] → HasRoom (length marks) named.clause
    → IsReady marks lits inputs steps → IsReady marks lits inputs' steps
ready_input marks lits inputs inputs' steps named is room ready = record {
  free = ready.free;
  empty = ready.empty;
  inputs_room = room_pushed (length marks) inputs inputs' named is ready.inputs_room room;
  steps_room = ready.steps_room;
}

pub ready_step : (marks : List Mark) (lits : List ℕ) (inputs steps steps' : List Known) (named : Known) → steps' ≡ steps ++ named ∷ [] → HasRoom (length marks) named.clause
    → IsReady marks lits inputs steps → IsReady marks lits inputs steps'
ready_step marks lits inputs steps steps' named is room ready = record {
  free = ready.free;
  empty = ready.empty;
  inputs_room = ready.inputs_room;
  steps_room = room_pushed (length marks) steps steps' named is ready.steps_room room;
}

-- the marks that a call was lent, written back
written_back : (old new : List Mark) (size : ℕ) → size ≡ length old → length new ≡ length old → take size (new ++ drop (length new) old) ≡ new
written_back old new size is same = take_at new (drop (length new) old) size (same ∙ sym is)

-- after a check that left all marks free
pub ready_checked : (old new : List Mark) (size : ℕ) (lits lits' : List ℕ) (inputs steps : List Known) → size ≡ length old → length new ≡ length old → AreFree new → lits' ≡ []
    → IsReady old lits inputs steps → IsReady (take size (new ++ drop (length new) old)) lits' inputs steps
ready_checked old new size lits lits' inputs steps is same free empty ready =
    subst (λ (ms : List Mark). IsReady ms lits' inputs steps) (sym (written_back old new size is same))
    (record {
      free = free;
      empty = empty;
      inputs_room = subst (λ n. HaveRoomFor n inputs) (sym same) ready.inputs_room;
      steps_room = subst (λ n. HaveRoomFor n steps) (sym same) ready.steps_room;
    })

pub room_checked : (old new : List Mark) (size : ℕ) (clause : List ℕ) → size ≡ length old → length new ≡ length old → HasRoom (length old) clause → HasRoom (length (take size (new ++ drop (length new) old))) clause
room_checked old new size clause is same room = subst (λ n. HasRoom n clause) (sym (ap length (written_back old new size is same) ∙ same)) room

-- a set of literals is short: they ascend and are bounded
short : (bound : ℕ) (lits : List ℕ) → AllByRecursion IsLit lits → IsTrue (ascends_above bound lits) → bound < 16777216 → length lits + bound < 16777216
short bound [] each up lt = omega arith
short bound (lit ∷ lits) each up lt =
    let h : bound < lit = ltb-true bound lit (and_parts (ltb bound lit) (ascends_above lit lits) up).0 in
    let k : length lits + lit < 16777216 = short lit lits each.1 (and_parts (ltb bound lit) (ascends_above lit lits) up).1 each.0.within in
    omega arith

pub set_is_short : (lits : List ℕ) → IsLitSet lits → length lits < 4294967296
set_is_short lits set = let h = short 0 lits (recursion_from_All IsLit lits set.each) set.ascending (omega arith) in omega arith
