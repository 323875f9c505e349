use Rattle.std.proofs.Common.{◌≡◌, ◌∙◌, ◌++◌, length, List, None, map, take, refl, ap, sym, subst}
use Rattle.std.proofs.Common.{arith}
use Rattle.std.specs.Prelude.{option_map, replicate}
use Rattle.std.specs.Arc.{arc_value}
use Rattle.std.proofs.Math.Seq.{take-append_seam}
use Rattle.trace_core.specs.declared.derivation.Step.{Step}
use Rattle.session.specs.Searching.{packets_of}
use Rattle.session.specs.Sharing.{HasPlaceMore}
use Rattle.session.proofs.Taken.{place_marked, search_knows, search_unplaced}
use Rattle.session.proofs.sharing.know.Goals as goal

-- what the place is marked with
marked : (c : goal.After-mark) → HasPlaceMore (packets_of c.args.search.now)
    (packets_of (record c.args.search.now { packets = c.mark.new.self })) c.args.place
    (arc_value c.args.packet.now)
marked c =
    let s = c.args.search.now in
    let (count, are) = c.reach.ensures.more in
    subst (λ (packet : List Step). HasPlaceMore (packets_of s)
    (packets_of (record s { packets = c.mark.new.self })) c.args.place packet) c.in_ok-copy.ensures.cases
    (subst (λ items. HasPlaceMore (packets_of s) (map (option_map arc_value) items) c.args.place
    (arc_value c.in_ok-copy.copy)) (sym c.mark.ensures)
    (place_marked arc_value s.packets c.reach.new.self count c.args.place c.in_ok-copy.copy are c.requires.place c.in-Ok.ensures.ok))

pub returns-in-Ok-clause-kept : goal.returns-in-Ok-clause-kept
returns-in-Ok-clause-kept c =
    search_knows c.args.search.now
    (record c.args.search.now { packets = c.mark.new.self }) c.args.place
    (arc_value c.args.packet.now) c.requires.kept refl
    (marked c) c.requires.unknown c.requires.held

pub returns-in-Ok-clause-ok : goal.returns-in-Ok-clause-ok
returns-in-Ok-clause-ok c = record { same = refl; packets = marked c }

pub returns-in-Err-clause-kept : goal.returns-in-Err-clause-kept
returns-in-Err-clause-kept c =
    let s = c.args.search.now in
    let (count, are) = c.reach.ensures.more in
    search_unplaced s (record s { packets = c.truncate.new.self }) c.requires.kept refl refl
    (ap (λ items. map (option_map arc_value) items)
    (c.truncate.ensures ∙ ap (take c.len-before.result) are
    ∙ ap (λ n. take n (s.packets ++ replicate count None))
    (let e : c.len-before.result ≡ length s.packets = omega
    (arith, c.len-before.ensures) in e) ∙ take-append_seam s.packets
    (replicate count None)))
