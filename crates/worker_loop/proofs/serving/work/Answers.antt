use Rattle.std.proofs.Common.{rules, subst}
use Rattle.service.specs.Holds.{Looked}
use Rattle.service.proofs.Keeping.{keeps_then}
use Rattle.worker_loop.specs.Work.{HasTaken, Rests, TakesInHold}
use Rattle.worker_loop.proofs.EndedOnce.{ended_pass}
use Rattle.worker_loop.proofs.Holding.{fits_on}
use Rattle.worker_loop.proofs.serving.work.Goals as goal

pub try_job-requires-clause-fits : goal.try_job-requires-clause-fits
try_job-requires-clause-fits g c = fits_on c.args.service.now.lock c.loop.bench c.loop.pass c.take_once.new.pass c.take_once.ensures.keeps c.loop.invariant.fits

pub loop-preserved-in-Idle : goal.loop-preserved-in-Idle
loop-preserved-in-Idle g c = record {
  can = tt;
  ends = tt;
  work = c.take_once.ensures.work;
  rests = subst (HasTaken c.args.service.now.lock c.take_once.new.pass) c.in-Idle.is c.in_ok-take_once.ensures.taken;
  keeps = keeps_then c.args.service.now.lock c.args.pass.now c.loop.pass c.take_once.new.pass c.loop.invariant.keeps c.take_once.ensures.keeps;
  fits = fits_on c.args.service.now.lock c.loop.bench c.loop.pass c.take_once.new.pass c.take_once.ensures.keeps c.loop.invariant.fits;
}

pub returns-in_err-take_once-clause-keeps : goal.returns-in_err-take_once-clause-keeps
returns-in_err-take_once-clause-keeps g c =
    keeps_then c.args.service.now.lock c.args.pass.now c.loop.pass c.take_once.new.pass c.loop.invariant.keeps c.take_once.ensures.keeps

pub returns-in_err-take_once-clause-ended : goal.returns-in_err-take_once-clause-ended
returns-in_err-take_once-clause-ended g c =
    let rests : Rests c.args.service.now.lock c.take_once.new.pass = search rules in
    ended_pass c.args.service.now.lock c.take_once.new.pass c.take_once.ensures.work rests

pub returns-in-Done-clause-keeps : goal.returns-in-Done-clause-keeps
returns-in-Done-clause-keeps g c =
    keeps_then c.args.service.now.lock c.args.pass.now c.loop.pass c.take_once.new.pass c.loop.invariant.keeps c.take_once.ensures.keeps

pub returns-in-Done-clause-ended : goal.returns-in-Done-clause-ended
returns-in-Done-clause-ended g c =
    let taken = subst (HasTaken c.args.service.now.lock c.take_once.new.pass) c.in-Done.is c.in_ok-take_once.ensures.taken in
    ended_pass c.args.service.now.lock c.take_once.new.pass c.take_once.ensures.work taken.0

pub returns-in_err-take_once-clause-looked : goal.returns-in_err-take_once-clause-looked
returns-in_err-take_once-clause-looked g c =
    let looked : Looked c.args.service.now.lock c.loop.pass c.take_once.new.pass = search rules in
    record { last = c.loop.pass; keeps = c.loop.invariant.keeps; looked = looked }

pub returns-in-Done-clause-looked : goal.returns-in-Done-clause-looked
returns-in-Done-clause-looked g c = record {
  last = c.loop.pass;
  keeps = c.loop.invariant.keeps;
  looked = subst (TakesInHold c.args.service.now.lock c.loop.pass c.take_once.new.pass) c.in-Done.is c.in_ok-take_once.ensures.hold;
}
