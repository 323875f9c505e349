use Rattle.tarmo_run.proofs.Fitted.{texts_fit}
use Rattle.tarmo_run.proofs.laws.texts_fit_on_boards.Goals as goal

pub returns : goal.returns
returns c = texts_fit
