use Rattle.std.proofs.Common.{◌≡◌, ◌∙◌, Some, true, false, length, refl, sym, ap}
use Rattle.std.specs.Prelude.{is_some}
use Rattle.board_core.specs.declared.index.Ending.TheVariants as ending
use Rattle.board_core.specs.declared.index.JobState.{JobState}
use Rattle.board_core.specs.Index.{state_at, ranks_from}
use Rattle.board_core.specs.Overtaking.{ended_up_to}
use Rattle.board_core.proofs.Ranked.{ranks_length}
use Rattle.board_core.proofs.Overtaken.{same_written, ended_one, ranks_put}
use Rattle.board_core.proofs.index.overtake_one.Goals as goal

pub returns-then-is_some-clause-jobs : goal.returns-then-is_some-clause-jobs
returns-then-is_some-clause-jobs c =
    let before = c.state-before.ensures ∙ ap (λ states. state_at states c.args.job) c.deref.ensures.value in
    let is : is_some c.state-before.result.ending ≡ true = cc in
    same_written c.args.jobs.now.items c.args.by c.args.job c.requires.from_one c.requires.there (ap (λ (s : JobState). is_some s.ending) (sym before) ∙ is)

pub put-requires-clause-entered : goal.put-requires-clause-entered
put-requires-clause-entered c = ap length c.requires.ranked ∙ ranks_length c.args.most 1 c.args.jobs.now.items

pub returns-clause-ranked : goal.returns-clause-ranked
returns-clause-ranked c =
    ranks_put c.args.most c.args.job c.args.jobs.now.items (record c.state-before.result { ending = Some (ending.Cancelled c.args.by) }) c.args.waiting.now c.put.new.waiting
    c.requires.from_one c.requires.ranked c.put.ensures.waiting ∙ ap (ranks_from c.args.most 1) (sym c.put.ensures.jobs)

pub returns-clause-settled : goal.returns-clause-settled
returns-clause-settled c =
    let before = c.state-before.ensures ∙ ap (λ states. state_at states c.args.job) c.deref.ensures.value in
    let is : is_some c.state-before.result.ending ≡ false = cc in
    ap (λ states. ended_up_to states (length c.args.jobs.now.items)) c.put.ensures.jobs
    ∙ ended_one c.args.jobs.now.items c.args.job (record c.state-before.result { ending = Some (ending.Cancelled c.args.by) }) (length c.args.jobs.now.items)
    c.requires.from_one c.requires.there c.requires.there (ap (λ (s : JobState). is_some s.ending) (sym before) ∙ is) refl
