use Rattle.std.proofs.Common.{◌≡◌, ◌∙◌, ◌-◌, ◌<◌, ◌≤◌, List, Some, ◌∷◌, [], ◌++◌, length, map, ap}
use Rattle.std.proofs.Common.{subst, arith}
use Rattle.sat_base.specs.Lit.{variable}
use Rattle.sat_base.specs.declared.origins.Ref.TheVariants.{Shared}
use Rattle.sat_base.proofs.Members.{All-from_members}
use Rattle.trace_core.specs.Known.{item_at}
use Rattle.trace_core.specs.Trace.{known_of}
use Rattle.trace_core.specs.declared.derivation.Step.{Step}
use Rattle.session.proofs.UpTo.{below_greatest}
use Rattle.session.proofs.Taken.{last_read}
use Rattle.session.proofs.sharing.hold_last.Goals as goal

-- the step that is read is the last one
last : (c : goal.After-add-arg-1) → item_at (map known_of c.args.packet.now)
    (length c.args.packet.now) ≡ Some (known_of c.index-steps-steps.result)
last c =
    let are = c.items-steps.ensures ∙ c.packet.view_is in
    let some = subst (λ (xs : List Step). 0 < length xs) c.packet.view_is c.packet.invariant in
    last_read c.args.packet.now c.items-steps.result.now
    (length c.items-steps.result.now - 1) c.index-steps-steps.result are some
    (omega (arith, some, ap length are)) c.index-steps-steps.is

pub add-requires : goal.add-requires
add-requires c =
    let step = c.index-steps-steps.result in
    All-from_members (λ lit. variable lit ≤ c.args.search.now.store.vars) step.clause
    (λ lit has. (let low = below_greatest step.clause lit has in let wide = c.requires.within
    (known_of step) (last c) in omega (arith, low, wide)))

pub returns-clause-held : goal.returns-clause-held
returns-clause-held c =
    let step = c.index-steps-steps.result in
    let are = c.items-steps.ensures ∙ c.packet.view_is in
    let some = subst (λ (xs : List Step). 0 < length xs) c.packet.view_is c.packet.invariant in
    record {
      one = known_of step;
      last = last_read c.args.packet.now c.items-steps.result.now
          (length c.items-steps.result.now - 1) step are some
          (omega (arith, some, ap length are)) c.index-steps-steps.is;
      set = c.lits.ensures.set;
      clauses = c.in_ok-add.ensures.ok ∙ ap (λ n. c.args.search.now.store.clauses
          ++ record { lits = step.clause; tag = step.tag; origin = Shared c.args.place n } ∷ [])
          (ap length are);
      fresh = c.in_ok-add.ensures.fresh;
      vars = c.in_ok-add.ensures.vars;
    }
