use Rattle.std.proofs.Common.{◌≡◌, ◌⊎◌, rules, false, inl, inr, is_some}
use Rattle.words.specs.Given.{is_on_jobs}
use Rattle.words.proofs.Rule.{asks, is_kept}
use Rattle.words.proofs.given.Given.command.Goals as goal
use Rattle.words.proofs.given.Given.command.Goals.{else-is_some-via-then-is_some+else-is_on_jobs}
use Rattle.words.proofs.given.Given.command.Goals.{else-is_some-via-else-is_some}

pub returns-clause-command : goal.returns-clause-command
returns-clause-command c = λ rows told.
    let given = c.args.self.now in
    let consistent : (is_some given.sum ≡ false) ⊎ (is_on_jobs given ≡ false) = elim
    c.else-is_some.branch [
      | else-is_some-via-then-is_some+else-is_on_jobs w ↦ inr (search rules)
      | else-is_some-via-else-is_some w ↦ inl (search rules)
    ] in (
      is_kept rows given told consistent,
      rw (c.unwrap_or.ensures, c.unwrap_or-2.ensures, c.unwrap_or-3.ensures)
          (asks rows given c.in_ok-work.field-0 told c.in_ok-work.ensures.sum
          c.in_ok-work.ensures.text),
    )
