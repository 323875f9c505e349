use Rattle.std.proofs.Common.{◌∙◌, List, ap, arith, length, map, subst, sym}
use Rattle.std.specs.Arc.{arc_value}
use Rattle.std.specs.declared.sync.Arc.{Arc}
use Rattle.std.specs.declared.alloc.Global.{Global}
use Rattle.entry_core.specs.declared.segments.Segment.{Segment}
use Rattle.entry_core.specs.Journal.{cube_in}
use Rattle.session.specs.Session.{SessionView}
use Rattle.worker_loop.specs.Fits.{AreLearnt}
use Rattle.worker_loop.specs.Kept.{KeepsLearnt}
use Rattle.worker_loop.specs.Rounds.{IsLearntBefore}
use Rattle.worker_loop.specs.Segments.{AreSegments}
use Rattle.worker_loop.proofs.Fitting.{few_read}
use Rattle.worker_loop.proofs.Imports.{can_be_taken, fits_imported, keeps_imported}
use Rattle.worker_loop.proofs.Keeping.{kept_twice}
use Rattle.worker_loop.proofs.Learnt.{learnt_none}
use Rattle.worker_loop.proofs.Segmented.{loaded_fit}
use Rattle.worker_loop.proofs.serving.start_attempt.Goals as goal

pub load_all-requires : goal.load_all-requires
load_all-requires g c = record {
  fits = record {
    rules = c.args.service.now.lock.basis;
    journal = c.look_once.new.pass.seen;
    legal = (c.look_once.ensures.on c.args.number c.requires.open).work.legal;
    fits = c.look_once.ensures.fits;
    next = subst (λ (found : List (Arc Segment Global)). AreSegments c.look_once.new.pass.seen c.look_once.new.bench.session.solver.bound (map arc_value found)) (sym c.deref.ensures.value)
        (subst (λ (s : SessionView). AreSegments c.look_once.new.pass.seen s.solver.bound (map arc_value c.in_ok-needs.needs.unloaded.items)) (sym c.look_once.ensures.session) c.in_ok-needs.ensures.unloaded);
  };
}

pub import_waiting-requires-clause-few : goal.import_waiting-requires-clause-few
import_waiting-requires-clause-few g c =
    few_read c.args.service.now.lock.basis c.look_once.new.pass.seen c.load_all.new.bench (c.look_once.ensures.on c.args.number c.requires.open).work.legal
    (loaded_fit c.look_once.new.bench c.load_all.new.bench c.look_once.new.pass.seen c.begin_anew_past.new.bench.session.solver.bound c.in_ok-needs.needs.unloaded.items c.deref.result.now
    (sym (ap (λ (s : SessionView). s.solver.bound) c.look_once.ensures.session)) c.deref.ensures.value c.in_ok-needs.ensures.unloaded c.look_once.ensures.fits c.in_ok-load_all.ensures.fits)

pub import_waiting-requires-clause-only : goal.import_waiting-requires-clause-only
import_waiting-requires-clause-only g c =
    (loaded_fit c.look_once.new.bench c.load_all.new.bench c.look_once.new.pass.seen c.begin_anew_past.new.bench.session.solver.bound c.in_ok-needs.needs.unloaded.items c.deref.result.now
    (sym (ap (λ (s : SessionView). s.solver.bound) c.look_once.ensures.session)) c.deref.ensures.value c.in_ok-needs.ensures.unloaded c.look_once.ensures.fits c.in_ok-load_all.ensures.fits).known

pub import_waiting-requires-clause-takable : goal.import_waiting-requires-clause-takable
import_waiting-requires-clause-takable g c =
    can_be_taken c.load_all.new.bench (record {
      rules = c.args.service.now.lock.basis;
      journal = c.look_once.new.pass.seen;
      legal = (c.look_once.ensures.on c.args.number c.requires.open).work.legal;
      fits = (loaded_fit c.look_once.new.bench c.load_all.new.bench c.look_once.new.pass.seen c.begin_anew_past.new.bench.session.solver.bound c.in_ok-needs.needs.unloaded.items c.deref.result.now
          (sym (ap (λ (s : SessionView). s.solver.bound) c.look_once.ensures.session)) c.deref.ensures.value c.in_ok-needs.ensures.unloaded c.look_once.ensures.fits c.in_ok-load_all.ensures.fits);
    })

pub returns-in_err-copy-clause-on : goal.returns-in_err-copy-clause-on
returns-in_err-copy-clause-on g c = c.look_once.ensures.on c.args.number c.requires.open

pub returns-clause-under_way : goal.returns-clause-under_way
returns-clause-under_way g c =
    let imported = c.import_waiting.ensures.imported in
    record {
      at = (c.look_once.ensures.on c.args.number c.requires.open).at;
      fits = fits_imported c.load_all.new.bench c.import_waiting.new.bench c.look_once.new.pass.seen imported (loaded_fit c.look_once.new.bench c.load_all.new.bench c.look_once.new.pass.seen c.begin_anew_past.new.bench.session.solver.bound c.in_ok-needs.needs.unloaded.items c.deref.result.now
          (sym (ap (λ (s : SessionView). s.solver.bound) c.look_once.ensures.session)) c.deref.ensures.value c.in_ok-needs.ensures.unloaded c.look_once.ensures.fits c.in_ok-load_all.ensures.fits);
      fits_attempt = record {
        bound = omega (arith, imported.bound, c.in_ok-load_all.ensures.bound, ap (λ (s : SessionView). s.solver.bound) c.look_once.ensures.session, c.in_ok-needs.ensures.count, ap length c.deref.ensures.value);
        cube = c.in_ok-copy.ensures ∙ ap (λ (s : Segment). s.cube) c.deref-2.ensures ∙ sym (ap cube_in c.in_ok-needs.ensures.segment);
        known = c.in_ok-import_waiting.ensures.known;
        learnt = subst (AreLearnt c.import_waiting.new.bench.session.solver c.in_ok-copy.field-0) (sym c.new.ensures.items) (learnt_none c.import_waiting.new.bench.session.solver c.in_ok-copy.field-0);
      };
    }

pub returns-clause-on : goal.returns-clause-on
returns-clause-on g c = c.look_once.ensures.on c.args.number c.requires.open

pub returns-clause-learnt : goal.returns-clause-learnt
returns-clause-learnt g c =
    subst (IsLearntBefore c.args.bench.now.session.solver c.args.job)
    (sym (c.import_waiting.ensures.imported.learnt ∙ c.load_all.ensures.learnt ∙ ap (λ (s : SessionView). s.solver.learnt) c.look_once.ensures.session)) c.begin_anew_past.ensures.learnt

pub returns-clause-kept : goal.returns-clause-kept
returns-clause-kept g c = λ le.
    kept_twice c.args.bench.now.session.solver c.load_all.new.bench.session.solver c.import_waiting.new.bench.session.solver
    (kept_twice c.args.bench.now.session.solver c.look_once.new.bench.session.solver c.load_all.new.bench.session.solver
    (subst (λ (s : SessionView). KeepsLearnt c.args.bench.now.session.solver s.solver) (sym c.look_once.ensures.session) (c.begin_anew_past.ensures.kept le)) c.load_all.ensures.kept)
    (keeps_imported c.load_all.new.bench c.import_waiting.new.bench c.import_waiting.ensures.imported)
