use Rattle.std.proofs.Common.{◌∙◌, ap, arith, refl, subst}
use Rattle.worker_loop.specs.declared.attempt.Attempt.{Attempt}
use Rattle.worker_loop.specs.Slices.{GoesOnOpen}
use Rattle.worker_loop.proofs.Holding.{on_none, on_twice}
use Rattle.worker_loop.proofs.Sliced.{learnt_slice, listed_slice, nothing_since, overtaken_slice}
use Rattle.worker_loop.proofs.Slicing.{going_left}
use Rattle.worker_loop.proofs.serving.slice_to_the_end.Goals as goal

pub slices-preserved : goal.slices-preserved
slices-preserved g c = record {
  on = on_twice c.args.service.now.lock c.args.pass.now c.slices.pass c.slice.new.pass c.args.attempt.now.number c.args.attempt.now.job c.slices.invariant.on
      (subst (λ n. GoesOnOpen c.args.service.now.lock c.slices.pass c.slice.new.pass n c.args.attempt.now.job) c.slices.invariant.number
      (subst (GoesOnOpen c.args.service.now.lock c.slices.pass c.slice.new.pass c.slices.attempt.number) c.slices.invariant.job c.slice.ensures.sliced.on));
  under_way = c.in_ok-slice.ensures.under_way;
  left = going_left c.args.service.now.lock.basis c.slice.new.pass.seen c.slices.bench c.slice.new.bench c.slices.attempt c.slice.new.attempt c.in_ok-slice.field-0 c.in_ok-slice.ensures.turn c.in-Going.is;
  job = ap (λ (a : Attempt). a.job) c.in_ok-slice.ensures.turn.made.same ∙ c.slices.invariant.job;
  learnt = learnt_slice c.args.service.now.lock.basis c.slice.new.pass.seen c.args.bench.now.session.solver c.slices.bench c.slice.new.bench c.args.attempt.now c.slices.attempt c.slice.new.attempt c.in_ok-slice.field-0
      c.slices.invariant.left c.slices.invariant.learnt c.in_ok-slice.ensures.turn;
  number = ap (λ (a : Attempt). a.number) c.in_ok-slice.ensures.turn.made.same ∙ c.slices.invariant.number;
}

pub returns-in-Answer-clause-on : goal.returns-in-Answer-clause-on
returns-in-Answer-clause-on g c =
    on_twice c.args.service.now.lock c.args.pass.now c.slices.pass c.slice.new.pass c.args.attempt.now.number c.args.attempt.now.job c.slices.invariant.on
    (subst (λ n. GoesOnOpen c.args.service.now.lock c.slices.pass c.slice.new.pass n c.args.attempt.now.job) c.slices.invariant.number
    (subst (GoesOnOpen c.args.service.now.lock c.slices.pass c.slice.new.pass c.slices.attempt.number) c.slices.invariant.job c.slice.ensures.sliced.on))

pub returns-in-Spent-clause-on : goal.returns-in-Spent-clause-on
returns-in-Spent-clause-on g c =
    on_twice c.args.service.now.lock c.args.pass.now c.slices.pass c.slice.new.pass c.args.attempt.now.number c.args.attempt.now.job c.slices.invariant.on
    (subst (λ n. GoesOnOpen c.args.service.now.lock c.slices.pass c.slice.new.pass n c.args.attempt.now.job) c.slices.invariant.number
    (subst (GoesOnOpen c.args.service.now.lock c.slices.pass c.slice.new.pass c.slices.attempt.number) c.slices.invariant.job c.slice.ensures.sliced.on))

pub returns-in-Overtaken-clause-on : goal.returns-in-Overtaken-clause-on
returns-in-Overtaken-clause-on g c =
    on_twice c.args.service.now.lock c.args.pass.now c.slices.pass c.slice.new.pass c.args.attempt.now.number c.args.attempt.now.job c.slices.invariant.on
    (subst (λ n. GoesOnOpen c.args.service.now.lock c.slices.pass c.slice.new.pass n c.args.attempt.now.job) c.slices.invariant.number
    (subst (GoesOnOpen c.args.service.now.lock c.slices.pass c.slice.new.pass c.slices.attempt.number) c.slices.invariant.job c.slice.ensures.sliced.on))

pub slices-init : goal.slices-init
slices-init g c = record {
  on = on_none c.args.service.now.lock c.args.pass.now c.args.attempt.now.number c.args.attempt.now.job c.requires.work c.requires.under_way.at;
  under_way = c.requires.under_way;
  left = c.requires.left;
  job = refl;
  learnt = nothing_since c.args.bench.now.session.solver c.args.attempt.now c.args.service.now.lock.basis.conflicts (let lt = c.requires.left in omega (arith, lt));
  number = refl;
}

pub returns-in-Answer-clause-learnt : goal.returns-in-Answer-clause-learnt
returns-in-Answer-clause-learnt g c =
    learnt_slice c.args.service.now.lock.basis c.slice.new.pass.seen c.args.bench.now.session.solver c.slices.bench c.slice.new.bench c.args.attempt.now c.slices.attempt c.slice.new.attempt c.in_ok-slice.field-0
    c.slices.invariant.left c.slices.invariant.learnt c.in_ok-slice.ensures.turn

pub returns-in-Spent-clause-learnt : goal.returns-in-Spent-clause-learnt
returns-in-Spent-clause-learnt g c =
    learnt_slice c.args.service.now.lock.basis c.slice.new.pass.seen c.args.bench.now.session.solver c.slices.bench c.slice.new.bench c.args.attempt.now c.slices.attempt c.slice.new.attempt c.in_ok-slice.field-0
    c.slices.invariant.left c.slices.invariant.learnt c.in_ok-slice.ensures.turn

pub returns-in-Overtaken-clause-learnt : goal.returns-in-Overtaken-clause-learnt
returns-in-Overtaken-clause-learnt g c =
    learnt_slice c.args.service.now.lock.basis c.slice.new.pass.seen c.args.bench.now.session.solver c.slices.bench c.slice.new.bench c.args.attempt.now c.slices.attempt c.slice.new.attempt c.in_ok-slice.field-0
    c.slices.invariant.left c.slices.invariant.learnt c.in_ok-slice.ensures.turn

pub returns-in-Spent-clause-listed : goal.returns-in-Spent-clause-listed
returns-in-Spent-clause-listed g c =
    listed_slice c.args.service.now.lock.basis c.slice.new.pass.seen c.slices.bench c.slice.new.bench c.slices.attempt c.slice.new.attempt c.in_ok-slice.field-0 _ c.in_ok-slice.ensures.turn c.in-Spent.is

pub returns-in-Overtaken-clause-overtaken : goal.returns-in-Overtaken-clause-overtaken
returns-in-Overtaken-clause-overtaken g c = λ none.
    overtaken_slice c.args.service.now.lock.basis c.slice.new.pass.seen c.slices.bench c.slice.new.bench c.slices.attempt c.slice.new.attempt c.in_ok-slice.field-0 c.args.attempt.now.job c.in_ok-slice.ensures.turn
    c.in-Overtaken.is c.slices.invariant.job
