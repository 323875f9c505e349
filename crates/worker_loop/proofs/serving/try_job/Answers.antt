use Rattle.std.proofs.Common.{ap, inl, inr}
use Rattle.session.specs.Session.{SessionView}
use Rattle.worker_loop.proofs.Holding.{fits_on}
use Rattle.worker_loop.proofs.serving.try_job.Goals as goal

pub end_once-requires-clause-may : goal.end_once-requires-clause-may
end_once-requires-clause-may g c = record {
  job = c.args.job;
  only = record {
    at = c.pursue_job_on.ensures.on.at;
    only = λ other own. c.requires.open.only other (c.pursue_job_on.ensures.on.begins_none other own);
  };
  right = c.in-Ok.ensures.end;
}

pub end_once-requires-in-Err-clause-may : goal.end_once-requires-in-Err-clause-may
end_once-requires-in-Err-clause-may g c = record {
  job = c.args.job;
  only = record {
    at = c.pursue_job_on.ensures.on.at;
    only = λ other own. c.requires.open.only other (c.pursue_job_on.ensures.on.begins_none other own);
  };
  right = tt;
}

pub returns-in-Ok-clause-fits : goal.returns-in-Ok-clause-fits
returns-in-Ok-clause-fits g c = fits_on c.args.service.now.lock c.pursue_job_on.new.bench c.pursue_job_on.new.pass c.end_once.new.pass c.end_once.ensures.keeps c.in-Ok.ensures.fits

pub returns-in-Ok-clause-tried : goal.returns-in-Ok-clause-tried
returns-in-Ok-clause-tried g c = record {
  last = c.pursue_job_on.new.pass;
  on = c.pursue_job_on.ensures.on;
  made = inl (record { end = c.in-Ok.end; ended = c.end_once.ensures.ended; is = c.in-Ok.ensures.pursued });
}

pub returns-in-Err-clause-tried : goal.returns-in-Err-clause-tried
returns-in-Err-clause-tried g c = record {
  last = c.pursue_job_on.new.pass;
  on = c.pursue_job_on.ensures.on;
  made = inr (c.end_once-in-Err.ensures.ended, record { session = ap (λ (s : SessionView). s.solver) c.new.ensures.session; packets = c.new.ensures.packets });
}
