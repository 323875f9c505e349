use Rattle.std.proofs.Common.{◌==◌, rules, arith}
use Rattle.std.specs.Prelude.{Ok, Err}
use Rattle.verdict_audit.proofs.JudgeLemmas.{cut_size, finds_end, finds_line, if_found, no_memory}
use Rattle.verdict_audit.proofs.auditing.audit_lines.Goals as goal

pub returns-in-Err : goal.returns-in-Err
returns-in-Err c = if_found c.found.result _ c.loop-line.number c.in-Err.why c.found.ensures.value c.found.ensures.told (λ told finding is.
    c.loop-line.invariant.whole finding (finds_line c.args.problem.now (record { tally = c.loop-line.tally; place = c.loop-line.place }) c.loop-line.number c.loop-line.before (λ b. b == 10) c.loop-line.rest.now c.in-Some.line.now c.in-Some.more.now (Err c.in-Err.why) finding
    (search rules) (no_memory c.in-Err.why told c.in-Err.ensures.outcome) is))

pub loop-line-preserved : goal.loop-line-preserved
loop-line-preserved c =
    let size = cut_size (λ b. b == 10) c.loop-line.rest.now c.in-Some.line.now c.in-Some.more.now (search rules) in
    record {
      whole = λ finding finds. c.loop-line.invariant.whole finding (finds_line c.args.problem.now (record { tally = c.loop-line.tally; place = c.loop-line.place }) c.loop-line.number c.loop-line.before (λ b. b == 10) c.loop-line.rest.now c.in-Some.line.now c.in-Some.more.now
          (Ok (record { tally = c.step.new.tally; place = c.in-Ok.next })) finding (search rules) c.in-Ok.ensures.outcome finds);
      job = c.in-Ok.ensures.job;
      spare = c.in-Ok.ensures.spare;
      number = omega (arith, c.loop-line.invariant.number, size);
      before = omega (arith, c.loop-line.invariant.before, size);
    }

pub returns-in-Err-end : goal.returns-in-Err-end
returns-in-Err-end c = if_found c.found-in-Err-end.result _ c.loop-line.number c.in-Err-end.why c.found-in-Err-end.ensures.value c.found-in-Err-end.ensures.told (λ told finding is.
    c.loop-line.invariant.whole finding (finds_end c.args.problem.now (record { tally = c.loop-line.tally; place = c.loop-line.place }) c.loop-line.number c.loop-line.before (λ b. b == 10) c.loop-line.rest.now (Err c.in-Err-end.why) finding
    (search rules) (no_memory c.in-Err-end.why told c.in-Err-end.ensures) is))
