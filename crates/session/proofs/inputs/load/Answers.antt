use Rattle.std.proofs.Common.{◌∙◌, length, ap, arith}
use Rattle.session.specs.declared.search.Search.{Search}
use Rattle.session.proofs.Loaded.{taken_back}
use Rattle.session.proofs.inputs.load.Goals as goal

pub truncate-requires : goal.truncate-requires
truncate-requires c = λ id from to. c.push_clauses.ensures.parts.fresh id
    (omega (arith, from, c.len-before.ensures.value, ap length c.arena.ensures.value)) to

pub returns-in-Err-clause-kept : goal.returns-in-Err-clause-kept
returns-in-Err-clause-kept c =
    (taken_back c.enter.new.search c.push_clauses.new.search c.truncate.new.self c.len-before.result c.in_ok-enter.ensures.kept c.push_clauses.ensures.kept
    (ap (λ (s : Search). s.trail.depth) c.in_ok-enter.ensures.parts ∙ c.in_ok-reserve.ensures.depth ∙ c.requires.zero) c.push_clauses.ensures.parts c.truncate.ensures.clauses c.truncate.ensures.fresh (c.len-before.ensures.value ∙ ap length c.arena.ensures.value) c.truncate.ensures.vars).0
