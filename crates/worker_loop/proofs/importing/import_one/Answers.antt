use Rattle.std.proofs.Common.{◌∙◌, ◌≤◌, List, Option, ap, arith, subst, sym}
use Rattle.std.specs.Prelude.{IfSome}
use Rattle.std.specs.Arc.{arc_value}
use Rattle.std.proofs.lemmas.Result.{on_ok_weaker}
use Rattle.trace_core.specs.Known.{tag_of}
use Rattle.trace_core.specs.declared.derivation.Step.{Step}
use Rattle.trace_trim.specs.Packed.{ends_in}
use Rattle.session.specs.Solver.{packet_at}
use Rattle.worker_loop.proofs.Imports.{imported_none, imported_one, known_one_more, none_there, read_at}
use Rattle.worker_loop.proofs.importing.import_one.Goals as goal

pub import-requires-clause-takable : goal.import-requires-clause-takable
import-requires-clause-takable c =
    c.requires.takable c.args.place (arc_value c.index-packet.result.now) (read_at c.args.bench.now c.args.place c.index-packet.result.now c.requires.from_one c.requires.read c.index-packet.ensures)
    (omega (arith, c.if-last_tag-bound.false, c.bound.ensures, c.last_tag.ensures, ap (λ (packet : List Step). tag_of (ends_in packet)) c.deref.ensures))

pub returns-clause-imported : goal.returns-clause-imported
returns-clause-imported c =
    imported_one c.import.result c.args.bench.now c.import.new.self c.args.place (arc_value c.index-packet.result.now) c.import.ensures.ok c.import.ensures.err
    (none_there (packet_at c.args.bench.now.session.solver.packets c.args.place) (sym c.knows.ensures ∙ c.if-knows.false)) (read_at c.args.bench.now c.args.place c.index-packet.result.now c.requires.from_one c.requires.read c.index-packet.ensures)

pub returns-clause-known : goal.returns-clause-known
returns-clause-known c =
    let imported = imported_one c.import.result c.args.bench.now c.import.new.self c.args.place (arc_value c.index-packet.result.now) c.import.ensures.ok c.import.ensures.err
    (none_there (packet_at c.args.bench.now.session.solver.packets c.args.place) (sym c.knows.ensures ∙ c.if-knows.false)) (read_at c.args.bench.now c.args.place c.index-packet.result.now c.requires.from_one c.requires.read c.index-packet.ensures) in
    on_ok_weaker c.import.result
    (λ taken before. known_one_more c.args.bench.now _ c.args.place imported c.requires.from_one
    (λ packet found low. taken.1.packets.here ∙ sym (read_at c.args.bench.now c.args.place c.index-packet.result.now c.requires.from_one c.requires.read c.index-packet.ensures) ∙ found) before)
    c.import.ensures.ok

pub returns-then-knows-clause-imported : goal.returns-then-knows-clause-imported
returns-then-knows-clause-imported c = imported_none c.args.bench.now

pub returns-then-last_tag-bound-clause-imported : goal.returns-then-last_tag-bound-clause-imported
returns-then-last_tag-bound-clause-imported c = imported_none c.args.bench.now

pub returns-then-last_tag-bound-clause-known : goal.returns-then-last_tag-bound-clause-known
returns-then-last_tag-bound-clause-known c =
    let here = read_at c.args.bench.now c.args.place c.index-packet.result.now c.requires.from_one c.requires.read c.index-packet.ensures in
    known_one_more c.args.bench.now c.args.bench.now c.args.place (imported_none c.args.bench.now) c.requires.from_one
    (λ packet found low.
    let low_there : tag_of (ends_in (arc_value c.index-packet.result.now)) ≤ c.args.bench.now.session.solver.bound =
    subst (λ (o : Option (List Step)). IfSome o (λ steps. tag_of (ends_in steps) ≤ c.args.bench.now.session.solver.bound)) (sym found ∙ here) low in
    absurd (omega (arith, c.if-last_tag-bound.true, c.bound.ensures, c.last_tag.ensures, ap (λ (packet : List Step). tag_of (ends_in packet)) c.deref.ensures, low_there)))
