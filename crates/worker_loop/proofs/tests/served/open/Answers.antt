use Rattle.std.proofs.Common.{◌≡◌, ◌∙◌, ◌∷◌, [], ◌++◌, List, ap, subst, sym}
use Rattle.std.specs.Prelude.{Contains, option_to_list}
use Rattle.std.proofs.lemmas.List.Elements.{All-contains, Contains-append_right}
use Rattle.sat_base.proofs.Members.{Contains-here}
use Rattle.service.specs.Passes.{BoardPass}
use Rattle.worker_loop.specs.Slices.{IsAtWork}
use Rattle.worker_loop.specs.Work.{Rests}
use Rattle.worker_loop.proofs.Opening.{workers_at_work}
use Rattle.worker_loop.proofs.tests.served.open.Goals as goal

pub returns-clause-worker : goal.returns-clause-worker
returns-clause-worker g c =
    let lock = c.in_ok-service.service.lock in
    let worker : BoardPass = c.expect-worker.result in
    let items : c.in_ok-service.workers.items ≡ c.pop-2.new.self.items ++ worker ∷ [] = c.pop-2.ensures.items ∙ ap (λ o. c.pop-2.new.self.items ++ option_to_list o) c.expect-worker.ensures in
    All-contains (λ (pass : BoardPass). IsAtWork lock pass × Rests lock pass) c.in_ok-service.workers.items worker
    (workers_at_work lock c.in_ok-service.clients.items c.in_ok-service.workers.items c.in_ok-service.ensures.passes c.in_ok-service.ensures.workers)
    (subst (λ (all : List BoardPass). Contains all worker) (sym items) (Contains-append_right c.pop-2.new.self.items (worker ∷ []) worker (Contains-here worker [])))
