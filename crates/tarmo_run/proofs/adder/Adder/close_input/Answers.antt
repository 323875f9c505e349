use Rattle.std.proofs.Common.{refl}
use Rattle.tarmo_run.proofs.Passing.{adder_closed, own_closed}
use Rattle.tarmo_run.proofs.adder.Adder.close_input.Goals as goal

pub returns-clause-adder : goal.returns-clause-adder
returns-clause-adder g c =
    adder_closed _ c.close_input.result c.args.self.now _ c.requires.adder
    c.close_input.ensures.keeps c.close_input.ensures.closed c.close_input.ensures.looked refl

pub returns-clause-more : goal.returns-clause-more
returns-clause-more g c =
    own_closed _ c.close_input.result _ _ c.close_input.ensures.closed
    c.close_input.ensures.looked
