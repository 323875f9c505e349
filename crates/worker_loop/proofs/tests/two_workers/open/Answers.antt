use Rattle.std.proofs.Common.{◌≡◌, ◌∙◌, ◌∷◌, [], ◌++◌, List, ap, subst, sym}
use Rattle.std.specs.Prelude.{Contains, option_to_list}
use Rattle.std.proofs.lemmas.List.Elements.{All-contains, Contains-append_left, Contains-append_right}
use Rattle.sat_base.proofs.Members.{Contains-here}
use Rattle.service.specs.Passes.{BoardPass}
use Rattle.worker_loop.specs.Slices.{IsAtWork}
use Rattle.worker_loop.specs.Work.{Rests}
use Rattle.worker_loop.proofs.Opening.{workers_at_work}
use Rattle.worker_loop.proofs.tests.two_workers.open.Goals as goal

pub returns-clause-second : goal.returns-clause-second
returns-clause-second g c =
    let lock = c.in_ok-service.service.lock in
    let second : BoardPass = c.expect-second.result in
    let items : c.in_ok-service.workers.items ≡ c.pop-2.new.self.items ++ second ∷ [] = c.pop-2.ensures.items ∙ ap (λ o. c.pop-2.new.self.items ++ option_to_list o) c.expect-second.ensures in
    All-contains (λ (pass : BoardPass). IsAtWork lock pass × Rests lock pass) c.in_ok-service.workers.items second
    (workers_at_work lock c.in_ok-service.clients.items c.in_ok-service.workers.items c.in_ok-service.ensures.passes c.in_ok-service.ensures.workers)
    (subst (λ (all : List BoardPass). Contains all second) (sym items) (Contains-append_right c.pop-2.new.self.items (second ∷ []) second (Contains-here second [])))

pub returns-clause-first : goal.returns-clause-first
returns-clause-first g c =
    let lock = c.in_ok-service.service.lock in
    let first : BoardPass = c.expect-first.result in
    let second : BoardPass = c.expect-second.result in
    let items : c.in_ok-service.workers.items ≡ c.pop-2.new.self.items ++ second ∷ [] = c.pop-2.ensures.items ∙ ap (λ o. c.pop-2.new.self.items ++ option_to_list o) c.expect-second.ensures in
    let front : c.pop-2.new.self.items ≡ c.pop-3.new.self.items ++ first ∷ [] = c.pop-3.ensures.items ∙ ap (λ o. c.pop-3.new.self.items ++ option_to_list o) c.expect-first.ensures in
    All-contains (λ (pass : BoardPass). IsAtWork lock pass × Rests lock pass) c.in_ok-service.workers.items first
    (workers_at_work lock c.in_ok-service.clients.items c.in_ok-service.workers.items c.in_ok-service.ensures.passes c.in_ok-service.ensures.workers)
    (subst (λ (all : List BoardPass). Contains all first) (sym items) (Contains-append_left c.pop-2.new.self.items (second ∷ []) first
    (subst (λ (all : List BoardPass). Contains all first) (sym front) (Contains-append_right c.pop-3.new.self.items (first ∷ []) first (Contains-here first [])))))
