use Rattle.std.proofs.Common.{◌≡◌, ◌∙◌, ◌+◌, length, min, ◌≤◌, [], ◌∷◌, ◌++◌, vec_len, vec_capacity, refl, sym, subst, ap, rules, arith}
use Rattle.std.specs.Arc.{arc_value}
use Rattle.entry_core.specs.Legal.{IsClient}
use Rattle.entry_core.specs.declared.segments.Segment.{Segment}
use Rattle.entry_core.specs.Journal.{segment_literals}
use Rattle.entry_core.specs.declared.entries.Event.TheVariants as event
use Rattle.std.specs.Prelude.{is_some, if◌then◌else◌}
use Rattle.board_core.specs.Index.{room, rank_of}
use Rattle.board_core.proofs.Changes.{added_state}
use Rattle.board_core.specs.Kept.{state_of}
use Rattle.board_core.specs.State.{State}
use Rattle.board_core.specs.Replies.{HasRoomFor}
use Rattle.board_core.proofs.Verdicts.{entry_by}
use Rattle.board_core.proofs.Keeping.{countable, kept_grown, kept_added, settled_few}
use Rattle.board_core.proofs.Overtaken.{one_at_most}
use Rattle.board_core.proofs.board.Board.add.Goals as goal

pub room-room-requires : goal.room-room-requires
room-room-requires c = countable c.self.inside c.self.invariant

pub invariant_of-self-in_err-reserve-3 : goal.invariant_of-self-in_err-reserve-3
invariant_of-self-in_err-reserve-3 c =
    kept_grown c.self.inside c.reserve-3.new.self c.reserve.new.self c.reserve-2.new.self c.self.inside.index.packets c.self.inside.index.attempts c.self.inside.index.waiting c.self.invariant
    c.reserve-3.ensures.items c.reserve-3.ensures.capacity c.reserve.ensures.items c.reserve-2.ensures.items refl refl refl

pub invariant_of-self-in_err-push : goal.invariant_of-self-in_err-push
invariant_of-self-in_err-push c =
    kept_grown c.self.inside c.reserve-3.new.self c.reserve.new.self c.reserve-2.new.self c.self.inside.index.packets c.self.inside.index.attempts c.push.new.self c.self.invariant
    c.reserve-3.ensures.items c.reserve-3.ensures.capacity c.reserve.ensures.items c.reserve-2.ensures.items refl refl c.in_err-push.ensures.err

pub invariant_of-self-2 : goal.invariant_of-self-2
invariant_of-self-2 c =
    let spare : vec_len c.self.inside.journal + (room c.self.inside.index + 2) ≤ vec_capacity c.push_reserved.new.self =
    let made = c.in_ok-reserve-3.ensures.ok in let same = c.push_reserved.ensures.capacity in let owed = c.room-room.ensures in let size = c.reserve-3.ensures.len in omega arith in
    let kept = c.self.invariant in
    let given : length c.items-clauses.result.now ≡ length (arc_value c.args.segment).clauses = ap length c.items-clauses.ensures ∙ ap (λ (segment : Segment). length segment.clauses) c.deref.ensures in
    let counted : c.literals_of-literals.result ≡ min (segment_literals (arc_value c.args.segment)) 18446744073709551615 =
    c.literals_of-literals.ensures ∙ ap (λ (segment : Segment). min (segment_literals segment) 18446744073709551615) c.deref-2.ensures in
    let few = kept.few.literals in
    let known = kept.index.literals in
    let exact : c.literals_of-literals.result ≡ segment_literals (arc_value c.args.segment) = omega arith in
    let number : c.len-before.result ≡ length c.self.inside.index.jobs.items = c.len-before.ensures ∙ c.self.inside.index.jobs.ok.0 in
    let ranked : c.push.new.self ≡ c.self.inside.index.waiting ++ rank_of c.self.inside.rules.attempts (length c.self.inside.index.jobs.items + 1) (added_state c.self.inside.index) ∷ [] =
    c.in_ok-push.ensures.ok ∙ ap (λ rank. c.self.inside.index.waiting ++ rank ∷ []) c.rank_of.ensures
    ∙ ap (λ how. c.self.inside.index.waiting ++ rank_of c.self.inside.rules.attempts (c.len-before.result + 1) (record { open_now = 0; spent = 0; ending = how }) ∷ []) c.next_ending.ensures
    ∙ ap (λ n. c.self.inside.index.waiting ++ rank_of c.self.inside.rules.attempts (n + 1) (added_state c.self.inside.index) ∷ []) number in
    let fits : HasRoomFor (state_of c.self.inside) (arc_value c.args.segment) = record {
      clauses = record {
        job = record {
          open_yet = sym kept.index.place ∙ c.in_default.is;
          few_jobs = let size = c.self.inside.index.jobs.ok.0 in let e = kept.index.jobs in omega arith;
        };
        few_clauses = let e = kept.index.clauses in let le = kept.few.clauses in omega arith;
      };
      few_literals = omega arith;
    } in
    kept_added c.self.inside c.push_reserved.new.self c.push_reserved-2.new.self c.push_reserved-3.new.self c.push.new.self c.args.caller c.args.segment c.in_ok-copy.copy _ _ c.newly_settled.result c.self.invariant
    (subst (λ (board : State). IsClient board.rules c.args.caller) (sym c.self.view_is) c.requires.client) fits
    (c.push_reserved.ensures.items ∙ ap (λ xs. xs ++ entry_by c.args.caller (event.Added c.args.segment) ∷ []) c.reserve-3.ensures.items) spare
    (c.push_reserved-2.ensures.items ∙ ap (λ xs. xs ++ (record { open_now = 0; spent = 0; ending = c.next_ending.result }) ∷ []) c.reserve.ensures.items
    ∙ ap (λ how. c.self.inside.index.jobs.items ++ (record { open_now = 0; spent = 0; ending = how }) ∷ []) c.next_ending.ensures)
    (c.push_reserved-3.ensures.items ∙ ap (λ xs. xs ++ c.in_ok-copy.copy ∷ []) c.reserve-2.ensures.items) (search rules)
    given exact ranked (c.newly_settled.ensures ∙ ap (λ how. if is_some how then 1 else 0) c.next_ending.ensures)

pub overflow_add-self-3 : goal.overflow_add-self-3
overflow_add-self-3 c =
    let few = settled_few c.self.inside c.self.invariant in
    let one = one_at_most (is_some c.next_ending.result) _ c.newly_settled.ensures in
    omega arith
