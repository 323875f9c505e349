-- A step that isn't a tautology is ok exactly where its hints derive its clause.
use Rattle.std.proofs.Common.{◌≡◌, ◌∙◌, ℕ, List, map, Bool, Option, Some, None, refl, ap, subst, sym, inl, inr}
use Rattle.std.specs.Prelude.{IsTrue, IsSome, All, ◌↔◌}
use Rattle.sat_base.specs.Lit.{IsTautology}
use Rattle.sat_base.specs.declared.origins.Ref.{Ref}
use Rattle.sat_base.specs.declared.origins.Ref.TheVariants.{Input, Shared, Own}
use Rattle.sat_base.proofs.Members.{Contains-from_map}
use Rattle.trace_core.specs.Known.{Known, item_at, clause_of, tag_of}
use Rattle.trace_core.specs.Propagation.{Derive, IsProved}
use Rattle.trace_core.specs.Trace.{IsOkStep, greatest}
use Rattle.trace_core.specs.Marking.{HasRoom}
use Rattle.trace_core.specs.Checked.{known_to, hinted, HaveRoom}
use Rattle.trace_core.specs.Ready.{HaveRoomFor}
use Rattle.trace_core.specs.declared.derivation.Step.{Step}
use Rattle.trace_core.proofs.Soundness.{nothing_shared}
use Rattle.trace_core.proofs.Items.{item_at-contains}
use Rattle.trace_core.proofs.RoomLemmas.{room_none}

room_of : (size : ℕ) (o : Option Known) → ((named : Known) → o ≡ Some named → HasRoom size named.clause) → HasRoom size (clause_of o)
room_of size None each = room_none size
room_of size (Some named) each = each named refl

named_room : (size : ℕ) (inputs steps : List Known) (name : Ref) → HaveRoomFor size inputs → HaveRoomFor size steps → HasRoom size (clause_of (known_to inputs steps name))
named_room size inputs steps (Input number) inputs_room steps_room = room_of size (item_at inputs number) (λ named is. inputs_room named (item_at-contains inputs number named is))
named_room size inputs steps (Shared packet step) inputs_room steps_room = room_of size (known_to inputs steps (Shared packet step)) (λ named is. absurd (nothing_shared packet step named is))
named_room size inputs steps (Own number) inputs_room steps_room = room_of size (item_at steps number) (λ named is. steps_room named (item_at-contains steps number named is))

-- each hinted clause has its marks
pub hinted_room : (size : ℕ) (inputs steps : List Known) (hints : List Ref) → HaveRoomFor size inputs → HaveRoomFor size steps → HaveRoom size (hinted inputs steps hints)
hinted_room size inputs steps hints inputs_room steps_room clause has =
    let m = Contains-from_map (λ hint. clause_of (known_to inputs steps hint)) hints clause has in
    subst (HasRoom size) m.2 (named_room size inputs steps m.0 inputs_room steps_room)

-- the parts of an ok step, where its clause is no tautology
pub ok_exactly : (table : Ref → Option Known) (step : Step) (clause : List ℕ) (hints : List Ref) (tag : ℕ) (b : Bool) → hints ≡ step.hints → clause ≡ step.clause → tag ≡ step.tag
    → All (λ hint. IsSome (table hint)) hints → tag ≡ greatest (map (λ hint. tag_of (table hint)) hints) → ¬ IsTautology step.clause
    → IsTrue b ↔ Derive (map (λ hint. clause_of (table hint)) hints) clause
    → IsTrue b ↔ IsOkStep table step
ok_exactly table step clause hints tag b same_hints same_clause same_tag all_known greatest_is proper derived = (
  λ h. record {
    all_known = subst (λ hs. All (λ hint. IsSome (table hint)) hs) same_hints all_known;
    proved = subst (λ c. IsProved (map (λ hint. clause_of (table hint)) step.hints) c) same_clause
        (subst (λ hs. IsProved (map (λ hint. clause_of (table hint)) hs) clause) same_hints
        (inr (record { proper = subst (λ c. ¬ IsTautology c) (sym same_clause) proper; covered = (derived.0 h).0; conflict = (derived.0 h).1 })));
    exact_tag = sym same_tag ∙ greatest_is ∙ ap (λ hs. greatest (map (λ hint. tag_of (table hint)) hs)) same_hints;
  },
  λ ok. derived.1 (parts (subst (λ c. IsProved (map (λ hint. clause_of (table hint)) hints) c) (sym same_clause) (subst (λ hs. IsProved (map (λ hint. clause_of (table hint)) hs) step.clause) (sym same_hints) ok.proved))),
)
  where
    parts : IsProved (map (λ hint. clause_of (table hint)) hints) clause
        → Derive (map (λ hint. clause_of (table hint)) hints) clause
    parts (inl excluded) = absurd (proper (subst IsTautology same_clause excluded.tautology))
    parts (inr is) = (is.covered, is.conflict)
