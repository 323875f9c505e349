use Rattle.std.proofs.Common.{◌∙◌, List, map, subst, sym}
use Rattle.std.specs.Arc.{arc_value}
use Rattle.std.specs.declared.sync.Arc.{Arc}
use Rattle.std.specs.declared.alloc.Global.{Global}
use Rattle.entry_core.specs.declared.segments.Segment.{Segment}
use Rattle.worker_loop.specs.Fits.{Fits}
use Rattle.worker_loop.specs.Rounds.{IsLearntBefore}
use Rattle.worker_loop.specs.Segments.{AreSegments}
use Rattle.worker_loop.proofs.Fitting.{few_read}
use Rattle.worker_loop.proofs.Imports.{can_be_taken, fits_imported, keeps_imported}
use Rattle.worker_loop.proofs.Keeping.{kept_twice}
use Rattle.worker_loop.proofs.Segmented.{holds_on_ok, loaded_fit}
use Rattle.worker_loop.proofs.loading.bring_to.Goals as goal

pub load_all-requires : goal.load_all-requires
load_all-requires c = record {
  fits = record {
    rules = c.args.board.now.rules;
    journal = c.args.board.now.journal;
    legal = c.journal.ensures.legal;
    fits = c.begin_anew_past.ensures.fits c.args.board.now.journal c.requires.fits;
    next = subst (λ n. AreSegments c.args.board.now.journal n (map arc_value c.deref.result.now)) c.bound.ensures
        (subst (λ (found : List (Arc Segment Global)). AreSegments c.args.board.now.journal c.bound.result (map arc_value found)) (sym c.deref.ensures.value) c.in_ok-unloaded.ensures.segments);
  };
}

pub import_waiting-requires-clause-few : goal.import_waiting-requires-clause-few
import_waiting-requires-clause-few c =
    few_read c.args.board.now.rules c.args.board.now.journal c.load_all.new.bench c.journal.ensures.legal
    (loaded_fit c.begin_anew_past.new.bench c.load_all.new.bench c.args.board.now.journal c.bound.result c.in_ok-unloaded.unloaded.items c.deref.result.now c.bound.ensures c.deref.ensures.value c.in_ok-unloaded.ensures.segments
    (c.begin_anew_past.ensures.fits c.args.board.now.journal c.requires.fits) c.in_ok-load_all.ensures.fits)

pub import_waiting-requires-clause-only : goal.import_waiting-requires-clause-only
import_waiting-requires-clause-only c =
    (loaded_fit c.begin_anew_past.new.bench c.load_all.new.bench c.args.board.now.journal c.bound.result c.in_ok-unloaded.unloaded.items c.deref.result.now c.bound.ensures c.deref.ensures.value c.in_ok-unloaded.ensures.segments
    (c.begin_anew_past.ensures.fits c.args.board.now.journal c.requires.fits) c.in_ok-load_all.ensures.fits).known

pub import_waiting-requires-clause-takable : goal.import_waiting-requires-clause-takable
import_waiting-requires-clause-takable c =
    can_be_taken c.load_all.new.bench (record {
      rules = c.args.board.now.rules;
      journal = c.args.board.now.journal;
      legal = c.journal.ensures.legal;
      fits = loaded_fit c.begin_anew_past.new.bench c.load_all.new.bench c.args.board.now.journal c.bound.result c.in_ok-unloaded.unloaded.items c.deref.result.now c.bound.ensures c.deref.ensures.value c.in_ok-unloaded.ensures.segments
          (c.begin_anew_past.ensures.fits c.args.board.now.journal c.requires.fits) c.in_ok-load_all.ensures.fits;
    })

pub returns-clause-fits : goal.returns-clause-fits
returns-clause-fits c =
    holds_on_ok c.import_waiting.result (Fits c.import_waiting.new.bench c.args.board.now.journal)
    (fits_imported c.load_all.new.bench c.import_waiting.new.bench c.args.board.now.journal c.import_waiting.ensures.imported
    (loaded_fit c.begin_anew_past.new.bench c.load_all.new.bench c.args.board.now.journal c.bound.result c.in_ok-unloaded.unloaded.items c.deref.result.now c.bound.ensures c.deref.ensures.value c.in_ok-unloaded.ensures.segments
    (c.begin_anew_past.ensures.fits c.args.board.now.journal c.requires.fits) c.in_ok-load_all.ensures.fits))

pub returns-clause-kept : goal.returns-clause-kept
returns-clause-kept c = λ le.
    kept_twice c.args.bench.now.session.solver c.load_all.new.bench.session.solver c.import_waiting.new.bench.session.solver
    (kept_twice c.args.bench.now.session.solver c.begin_anew_past.new.bench.session.solver c.load_all.new.bench.session.solver (c.begin_anew_past.ensures.kept le) c.load_all.ensures.kept)
    (keeps_imported c.load_all.new.bench c.import_waiting.new.bench c.import_waiting.ensures.imported)

pub returns-in_err-load_all-clause-learnt : goal.returns-in_err-load_all-clause-learnt
returns-in_err-load_all-clause-learnt c = subst (IsLearntBefore c.args.bench.now.session.solver c.args.job) (sym c.load_all.ensures.learnt) c.begin_anew_past.ensures.learnt

pub returns-clause-learnt : goal.returns-clause-learnt
returns-clause-learnt c =
    subst (IsLearntBefore c.args.bench.now.session.solver c.args.job) (sym (c.import_waiting.ensures.imported.learnt ∙ c.load_all.ensures.learnt)) c.begin_anew_past.ensures.learnt

pub returns-in_err-load_all-clause-kept : goal.returns-in_err-load_all-clause-kept
returns-in_err-load_all-clause-kept c = λ le.
    kept_twice c.args.bench.now.session.solver c.begin_anew_past.new.bench.session.solver c.load_all.new.bench.session.solver (c.begin_anew_past.ensures.kept le) c.load_all.ensures.kept
