use Rattle.std.proofs.Common.{◌∙◌}
use Rattle.words.proofs.Options.{flag_is}
use Rattle.words.proofs.given.is_there.Goals as goal

pub returns : goal.returns
returns c =
    c.unwrap_or.ensures ∙ flag_is _ c.args.matches.now c.args.name.now c.get_one.result
    c.get_one.ensures.none c.get_one.ensures.value
