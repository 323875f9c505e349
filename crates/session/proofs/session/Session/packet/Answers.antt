use Rattle.std.proofs.Common.{List, Option, sym, subst}
use Rattle.std.specs.Prelude.{IfOk}
use Rattle.sat_base.specs.Lit.{IsTautology}
use Rattle.sat_base.specs.declared.origins.Ref.{Ref}
use Rattle.trace_core.specs.Known.{Known}
use Rattle.trace_trim.specs.Packed.{IsOkWhereOwnAreOk}
use Rattle.session.specs.Solver.{IsStep, inputs_of, shared_by}
use Rattle.session.specs.Searching.{packets_of, solver_of}
use Rattle.session.proofs.Sound.{sound}
use Rattle.session.specs.Session.{SessionView}
use Rattle.session.specs.Publishing.{IsSharable}
use Rattle.session.proofs.Names.{ok_look_back}
use Rattle.session.proofs.Packing.{sharable}
use Rattle.session.proofs.session.Session.packet.Goals as goal

pub pack-requires-clause-earlier : goal.pack-requires-clause-earlier
pack-requires-clause-earlier c =
    let s = c.self.inside.search in
    ok_look_back (inputs_of s.store.clauses) (shared_by (packets_of s)) s.steps
    (sound s c.self.invariant.kept).ok

pub returns-clause-sharable : goal.returns-clause-sharable
returns-clause-sharable c =
    let s = c.self.inside.search in
    subst (λ (view : SessionView). IfOk c.pack.result
    (λ packet. (one : Known) → IsStep view.solver.steps c.args.step one
    → IsSharable view.solver one packet)) c.self.view_is
    (sharable c.pack.result (solver_of s) c.self.inside.names.items c.args.step
    (sound s c.self.invariant.kept) c.self.invariant.names
    (subst (λ (view : SessionView). (one : Known) × IsStep view.solver.steps c.args.step one
    × (IsTautology one.clause → ⊥)) (sym c.self.view_is) c.requires.own)
    (subst (λ (names : List (Option Ref)). IfOk c.pack.result
    (IsOkWhereOwnAreOk s.steps names)) c.deref.ensures.value c.pack.ensures.ok)
    c.pack.ensures.ends c.pack.ensures.tags c.pack.ensures.of_own)
