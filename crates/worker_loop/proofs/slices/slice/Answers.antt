use Rattle.std.proofs.Common.{◌≡◌, ◌∙◌, ◌+◌, ◌-◌, ◌<◌, List, ◌++◌, ap, arith, drop, length, min, subst, sym, take}
use Rattle.std.specs.Prelude.{All, IfSome, is_some}
use Rattle.trace_core.specs.declared.derivation.Step.{Step}
use Rattle.entry_core.specs.declared.rules.Rules.{Rules}
use Rattle.entry_core.specs.Journal.{inputs_of}
use Rattle.entry_core.specs.Settled.{settled}
use Rattle.session.specs.Solver.{Solver}
use Rattle.worker_loop.specs.declared.attempt.Attempt.{Attempt}
use Rattle.worker_loop.specs.Asked.{IsEndOver, clauses_at}
use Rattle.worker_loop.specs.Ends.{IsEnd}
use Rattle.worker_loop.specs.Fits.{read_by}
use Rattle.worker_loop.specs.Importing.{IsLastOfOne}
use Rattle.worker_loop.specs.Shared.{IsLesson, IsShared}
use Rattle.worker_loop.specs.Slices.{HasOpen, IsSlice, IsTurn}
use Rattle.worker_loop.proofs.Asked.{end_for_job}
use Rattle.worker_loop.proofs.Fitting.{few_read, fits_kept}
use Rattle.worker_loop.proofs.Imports.{can_be_taken, fits_imported, keeps_imported}
use Rattle.worker_loop.proofs.InRounds.{attempt_fits, few_after, grown}
use Rattle.worker_loop.proofs.Keeping.{kept_twice}
use Rattle.worker_loop.proofs.Slicing.{end_kept, fits_later, goes_on, holds_shared, is_turn, kept_sharing, lessons_behind, names_behind, some_weaker}
use Rattle.worker_loop.proofs.slices.slice.Goals as goal

pub end_of-requires-clause-few : goal.end_of-requires-clause-few
end_of-requires-clause-few g c =
    few_after c.args.bench.now.session.solver c.make_round.new.bench.session.solver c.args.attempt.now c.make_round.new.attempt c.rules-rules.result.now.conflicts c.in_ok-round.round
    (subst (λ (r : Rules). length c.args.attempt.now.learnt.items < r.conflicts) (sym c.rules-rules.ensures) c.requires.left) c.in_ok-round.ensures.round

pub share_once-requires-clause-lessons : goal.share_once-requires-clause-lessons
share_once-requires-clause-lessons g c =
    subst (λ numbers. All (IsLesson c.make_round.new.bench.session.solver) (take (length numbers - c.len-before.result) (drop c.len-before.result numbers))) (sym c.deref.ensures.value)
    (lessons_behind c.make_round.new.bench.session.solver c.make_round.new.attempt.cube c.make_round.new.attempt.learnt.items c.len-before.result
    (c.in_ok-round.ensures.learnt c.requires.under_way.fits_attempt.learnt))

pub import_waiting-requires-clause-few : goal.import_waiting-requires-clause-few
import_waiting-requires-clause-few g c =
    let job : c.make_round.new.attempt.job ≡ c.args.attempt.now.job = ap (λ (a : Attempt). a.job) c.in_ok-round.ensures.round.same in
    let s = c.share_once.ensures.sliced c.args.attempt.now.number (subst (HasOpen c.args.service.now.lock c.args.pass.now c.args.attempt.now.number) (sym job) c.requires.under_way.at) in
    few_read c.args.service.now.lock.basis c.share_once.new.pass.seen c.share_once.new.bench s.on.work.legal c.in_ok-is_settled.ensures.shared.fits

pub import_waiting-requires-clause-takable : goal.import_waiting-requires-clause-takable
import_waiting-requires-clause-takable g c =
    let job : c.make_round.new.attempt.job ≡ c.args.attempt.now.job = ap (λ (a : Attempt). a.job) c.in_ok-round.ensures.round.same in
    let s = c.share_once.ensures.sliced c.args.attempt.now.number (subst (HasOpen c.args.service.now.lock c.args.pass.now c.args.attempt.now.number) (sym job) c.requires.under_way.at) in
    can_be_taken c.share_once.new.bench (record { rules = c.args.service.now.lock.basis; journal = c.share_once.new.pass.seen; legal = s.on.work.legal; fits = c.in_ok-is_settled.ensures.shared.fits })

pub returns-clause-under_way : goal.returns-clause-under_way
returns-clause-under_way g c =
    let made = c.in_ok-round.ensures.round in
    let job : c.make_round.new.attempt.job ≡ c.args.attempt.now.job = ap (λ (a : Attempt). a.job) made.same in
    let number : c.make_round.new.attempt.number ≡ c.args.attempt.now.number = ap (λ (a : Attempt). a.number) made.same in
    let open_yet = subst (HasOpen c.args.service.now.lock c.args.pass.now c.args.attempt.now.number) (sym job) c.requires.under_way.at in
    let s = c.share_once.ensures.sliced c.args.attempt.now.number open_yet in
    let shared = c.in_ok-is_settled.ensures.shared in
    let before = attempt_fits c.args.bench.now c.make_round.new.bench c.args.attempt.now c.make_round.new.attempt c.args.pass.now.seen c.make_round.ensures.keeps c.make_round.ensures.bench made.same
    (c.in_ok-round.ensures.learnt c.requires.under_way.fits_attempt.learnt) c.requires.under_way.fits_attempt in
    record {
      at = subst (λ n. HasOpen c.args.service.now.lock c.share_once.new.pass n c.make_round.new.attempt.job) (sym number) s.on.at;
      fits = fits_imported c.share_once.new.bench c.import_waiting.new.bench c.share_once.new.pass.seen c.import_waiting.ensures.imported shared.fits;
      fits_attempt = fits_later c.make_round.new.bench c.share_once.new.bench c.import_waiting.new.bench c.make_round.new.attempt c.args.pass.now.seen c.share_once.new.pass.seen s.on.keeps.later.0 s.on.keeps.later.1
          open_yet.there.added shared.session c.import_waiting.ensures.imported c.in_ok-import_waiting.ensures.known before;
    }

pub returns-clause-turn : goal.returns-clause-turn
returns-clause-turn g c =
    let made = c.in_ok-round.ensures.round in
    let rules : Rules = c.rules-rules.result.now in
    let mid = c.make_round.new.bench in
    let after : Attempt = c.make_round.new.attempt in
    let later = c.share_once.new.pass.seen in
    let job : after.job ≡ c.args.attempt.now.job = ap (λ (a : Attempt). a.job) made.same in
    let open_yet = subst (HasOpen c.args.service.now.lock c.args.pass.now c.args.attempt.now.number) (sym job) c.requires.under_way.at in
    let s = c.share_once.ensures.sliced c.args.attempt.now.number open_yet in
    let shared = c.in_ok-is_settled.ensures.shared in
    let before = attempt_fits c.args.bench.now mid c.args.attempt.now after c.args.pass.now.seen c.make_round.ensures.keeps c.make_round.ensures.bench made.same
    (c.in_ok-round.ensures.learnt c.requires.under_way.fits_attempt.learnt) c.requires.under_way.fits_attempt in
    let fits = fits_kept c.args.bench.now mid c.args.pass.now.seen c.make_round.ensures.keeps c.make_round.ensures.bench c.requires.under_way.fits in
    let numbers = subst (λ numbers. All (IsShared mid.session.solver.steps later) (take (length numbers - c.len-before.result) (drop c.len-before.result numbers))) c.deref.ensures.value shared.shared in
    let found : c.in_ok-is_settled.is_settled ≡ is_some (settled rules later after.job) =
    subst (λ (r : Rules). c.in_ok-is_settled.is_settled ≡ is_some (settled r later after.job)) (sym c.rules-rules.ensures) c.in_ok-is_settled.ensures.settled in
    let right : IfSome c.in_ok-end.end (IsEnd rules later after.job) =
    some_weaker (IsEndOver rules.traces mid.session.solver.inputs after.cube rules.conflicts) (IsEnd rules later after.job) c.in_ok-end.end
    (λ given is. end_kept rules c.args.pass.now.seen s.on.keeps.later.0 later after.job given s.on.keeps.later.1 open_yet.there.added
    (end_for_job rules c.args.pass.now.seen mid.session.solver.inputs after.cube after.job given (fits.inputs ∙ ap (inputs_of c.args.pass.now.seen) before.bound) before.cube is)) c.in_ok-end.ensures.end in
    subst (λ (r : Rules). IsSlice r later c.args.bench.now c.import_waiting.new.bench c.args.attempt.now after c.turn_of.result) c.rules-rules.ensures (record {
      round = c.in_ok-round.round;
      solver = mid.session.solver;
      made = made;
      shared = subst (All (IsShared mid.session.solver.steps later))
          (names_behind c.args.bench.now.session.solver mid.session.solver c.args.attempt.now after rules.conflicts c.len-before.result c.in_ok-round.round made (let e : c.len-before.result ≡ length c.args.attempt.now.learnt.items = omega (arith, c.len-before.ensures) in e)) numbers;
      kept = kept_twice mid.session.solver c.share_once.new.bench.session.solver c.import_waiting.new.bench.session.solver (kept_sharing mid.session.solver c.share_once.new.bench.session.solver shared.session)
          (keeps_imported c.share_once.new.bench c.import_waiting.new.bench c.import_waiting.ensures.imported);
      steps = c.import_waiting.ensures.imported.steps ∙ ap (λ (s : Solver). s.steps) shared.session.same;
      learnt = c.import_waiting.ensures.imported.learnt ∙ ap (λ (s : Solver). s.learnt) shared.session.same;
      came = (
        c.import_waiting.ensures.imported.held.more,
        c.import_waiting.ensures.imported.held.is ∙ ap (λ (s : Solver). s.held ++ c.import_waiting.ensures.imported.held.more) shared.session.same,
        subst (λ (all : List (List Step)). All (IsLastOfOne all) c.import_waiting.ensures.imported.held.more) shared.read c.import_waiting.ensures.imported.lasts,
      );
      comes = subst (IsTurn rules later after c.in_ok-round.round (clauses_at mid.session.solver.steps after.learnt.items)) (sym c.turn_of.ensures)
          (is_turn rules later after c.in_ok-round.round mid.session.solver c.in_ok-is_settled.is_settled c.in_ok-end.end found right c.in_ok-end.ensures.of_round c.in_ok-end.ensures.learnt);
    })

pub returns-clause-going : goal.returns-clause-going
returns-clause-going g c = λ going.
    subst (λ (r : Rules). length c.make_round.new.attempt.learnt.items ≡ length c.args.attempt.now.learnt.items + min 256 (r.conflicts - length c.args.attempt.now.learnt.items)) c.rules-rules.ensures
    (grown c.args.bench.now.session.solver c.make_round.new.bench.session.solver c.args.attempt.now c.make_round.new.attempt c.rules-rules.result.now.conflicts c.in_ok-round.round c.in_ok-round.ensures.round
    (goes_on c.make_round.new.attempt c.rules-rules.result.now.conflicts c.in_ok-round.round c.in_ok-is_settled.is_settled c.in_ok-end.end c.in_ok-end.ensures.of_round (sym c.turn_of.ensures ∙ going)))

pub returns-clause-holds : goal.returns-clause-holds
returns-clause-holds g c =
    let made = c.in_ok-round.ensures.round in
    let job : c.make_round.new.attempt.job ≡ c.args.attempt.now.job = ap (λ (a : Attempt). a.job) made.same in
    let open_yet = subst (HasOpen c.args.service.now.lock c.args.pass.now c.args.attempt.now.number) (sym job) c.requires.under_way.at in
    let s = c.share_once.ensures.sliced c.args.attempt.now.number open_yet in
    let shared = c.in_ok-is_settled.ensures.shared in
    let imported = c.import_waiting.ensures.imported in
    holds_shared c.args.service.now.lock.basis c.share_once.new.pass.seen c.import_waiting.new.bench c.args.attempt.now.job s.on.work.legal c.steps.ensures.sound (ap read_by imported.session ∙ shared.read)
    c.in_ok-import_waiting.ensures.known (imported.bound ∙ ap (λ s. s.bound) shared.session.same ∙ c.make_round.ensures.keeps.bound ∙ c.requires.under_way.fits_attempt.bound)
