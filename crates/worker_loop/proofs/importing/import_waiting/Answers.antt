use Rattle.std.proofs.Common.{◌≡◌, ◌∙◌, ◌+◌, ◌-◌, ap, arith, length, subst}
use Rattle.std.proofs.lemmas.List.{length-map}
use Rattle.std.specs.Arc.{arc_value}
use Rattle.worker_loop.specs.declared.bench.Bench.{Bench}
use Rattle.worker_loop.specs.Importing.{KnowsReadUpTo}
use Rattle.worker_loop.specs.Fits.{read_by}
use Rattle.worker_loop.proofs.Imports.{imported_none, imported_twice, front_known, known_all, only_kept, takable_kept}
use Rattle.worker_loop.proofs.importing.import_waiting.Goals as goal

pub loop-place-init : goal.loop-place-init
loop-place-init c = record { imported = imported_none c.args.bench.now; known = front_known c.args.bench.now c.known_front.result c.min-place.result (omega (arith, c.min-place.ensures)) c.requires.only c.known_front.ensures.known; within = omega (arith, c.min-place.ensures) }

pub import_one-requires-clause-only : goal.import_one-requires-clause-only
import_one-requires-clause-only c = only_kept c.args.bench.now c.loop-place.bench c.loop-place.invariant.imported c.requires.only

pub import_one-requires-clause-takable : goal.import_one-requires-clause-takable
import_one-requires-clause-takable c = takable_kept c.args.bench.now c.loop-place.bench c.loop-place.invariant.imported c.requires.takable

pub loop-place-preserved : goal.loop-place-preserved
loop-place-preserved c =
    let before : c.loop-place.place ≡ c.loop-place.place + 1 - 1 = omega arith in
    record {
      imported = imported_twice c.args.bench.now c.loop-place.bench c.import_one.new.bench c.loop-place.invariant.imported c.import_one.ensures.imported;
      known = c.in_ok-import_one.ensures.known (subst (KnowsReadUpTo c.loop-place.bench) before c.loop-place.invariant.known);
      within = omega (arith, c.loop-place-test.true);
    }

pub returns-in_err-import_one-clause-imported : goal.returns-in_err-import_one-clause-imported
returns-in_err-import_one-clause-imported c = imported_twice c.args.bench.now c.loop-place.bench c.import_one.new.bench c.loop-place.invariant.imported c.import_one.ensures.imported

pub returns-clause-known : goal.returns-clause-known
returns-clause-known c =
    let same : length (read_by c.loop-place.bench) ≡ length c.args.bench.now.packets.items =
    ap (λ (bench : Bench). length (read_by bench)) c.loop-place.invariant.imported.session ∙ length-map c.args.bench.now.packets.items arc_value in
    known_all c.loop-place.bench c.loop-place.place (omega (arith, same, c.len-count.ensures, c.loop-place-test.false)) c.loop-place.invariant.known
