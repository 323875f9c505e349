use Rattle.std.proofs.Common.{◌≡◌, ◌∙◌, length, ◌++◌, List, None, map, take, refl, ap, sym, subst}
use Rattle.std.proofs.Common.{arith}
use Rattle.std.specs.Prelude.{option_map, replicate}
use Rattle.std.specs.Arc.{arc_value}
use Rattle.std.proofs.Math.Seq.{take-append_seam}
use Rattle.trace_core.specs.declared.derivation.Step.{Step}
use Rattle.session.specs.declared.search.Search.{Search}
use Rattle.session.specs.Searching.{IsSearching, packets_of, solver_of}
use Rattle.session.specs.Sharing.{HasPlaceMore, HasTaken}
use Rattle.session.proofs.Taken.{place_marked, last_within, takes, search_unplaced}
use Rattle.session.proofs.sharing.take_in.Goals as goal

pub hold_last-requires : goal.hold_last-requires
hold_last-requires c = record {
  within = last_within c.args.search.now
      (arc_value c.args.packet.now) c.deref.result.now c.requires.kept c.deref.ensures c.requires.takable;
}

-- what the place is marked with
marked : (c : goal.After-mark) → HasPlaceMore (packets_of c.args.search.now)
    (packets_of (record c.hold_last.new.search { packets = c.mark.new.self })) c.args.place (arc_value c.args.packet.now)
marked c =
    let s = c.args.search.now in
    let places = c.in-Ok.ensures.places in
    subst (λ (packet : List Step). HasPlaceMore (packets_of s)
    (packets_of (record c.hold_last.new.search { packets = c.mark.new.self })) c.args.place packet) c.in_ok-copy.ensures.cases
    (subst (λ items. HasPlaceMore (packets_of s) (map (option_map arc_value) items) c.args.place
    (arc_value c.in_ok-copy.copy)) (sym c.mark.ensures)
    (place_marked arc_value s.packets c.hold_last.new.search.packets places.count c.args.place c.in_ok-copy.copy places.are c.requires.place c.in-Ok.ensures.reached))

both : (c : goal.After-mark) → IsSearching
    (record c.hold_last.new.search { packets = c.mark.new.self })
    × ((one : _) × HasTaken (solver_of c.args.search.now)
    (solver_of (record c.hold_last.new.search { packets = c.mark.new.self })) c.args.place
    (arc_value c.args.packet.now) one)
both c =
    takes c.args.search.now c.hold_last.new.search
    (record c.hold_last.new.search { packets = c.mark.new.self }) c.args.place
    (arc_value c.args.packet.now) c.deref.result.now c.requires.kept c.requires.zero
    (ap (λ (x : Search). record x { packets = c.mark.new.self }) c.hold_last.ensures.parts) refl c.in-Ok.ensures.held c.deref.ensures c.requires.takable (marked c) c.requires.unknown

pub returns-in-Ok-clause-kept : goal.returns-in-Ok-clause-kept
returns-in-Ok-clause-kept c = (both c).0

pub returns-in-Ok-clause-ok : goal.returns-in-Ok-clause-ok
returns-in-Ok-clause-ok c = (both c).1

pub returns-in-Err-clause-kept : goal.returns-in-Err-clause-kept
returns-in-Err-clause-kept c =
    let s = c.args.search.now in
    let mid = c.hold_last.new.search in
    let places = c.hold_last.ensures.places in
    search_unplaced s (record mid { packets = c.truncate.new.self }) c.requires.kept
    (ap (λ (x : Search). record x { packets = c.truncate.new.self }) c.hold_last.ensures.parts) c.in-Err.ensures.err
    (ap (λ items. map (option_map arc_value) items)
    (c.truncate.ensures ∙ ap (take c.len-before.result) places.are
    ∙ ap (λ n. take n (s.packets ++ replicate places.count None))
    (let e : c.len-before.result ≡ length s.packets = omega
    (arith, c.len-before.ensures) in e) ∙ take-append_seam s.packets
    (replicate places.count None)))
