use Rattle.std.proofs.Common.{◌≡◌, ◌∙◌, ℕ, ap, sym, not, is_some, false}
use Rattle.std.specs.Prelude.{Option, None, Some, IfNone}
use Rattle.std.proofs.lemmas.Bool.{false≢true}
use Rattle.propagate.proofs.Rounds.{fit_all_new, settled_after}
use Rattle.tarmo_bench.proofs.learning.search.begin.Goals as goal

if_none : (r : Option ℕ) (P : Type 0) → IfNone r P → is_some r ≡ false → P
if_none None P p e = p
if_none (Some n) P p e = absurd (false≢true (sym e))

pub propagate-requires-clause-paired : goal.propagate-requires-clause-paired
propagate-requires-clause-paired c = (fit_all_new c.args.store.now c.args.trail.now c.requires.all_new c.requires.empty c.requires.depth).paired

pub returns-clause-settled : goal.returns-clause-settled
returns-clause-settled c = λ yes.
    if_none c.propagate.result _
    (settled_after c.propagate.result c.propagate.new.store c.propagate.new.trail c.propagate.ensures.paired c.propagate.ensures.fresh c.propagate.ensures.looked)
    (c.is_none.ensures ∙ ap not yes)
