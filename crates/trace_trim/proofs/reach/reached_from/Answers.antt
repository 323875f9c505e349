use Rattle.std.proofs.Common.{◌≡◌, [], rules, map, subst, sym}
use Rattle.std.specs.Prelude.{Contains, ◌↔◌, ◌⊎◌}
use Rattle.std.specs.Arc.{arc_value}
use Rattle.std.specs.declared.cmp.Ordering.TheVariants.{Less}
use Rattle.std.proofs.lemmas.List.Elements.{All-contains, Contains-push}
use Rattle.sat_base.specs.contracts.origins.RefOrd.TheImpl as ref_ord
use Rattle.sat_base.specs.declared.origins.Ref.{Ref}
use Rattle.sat_base.specs.declared.origins.Ref.TheVariants.{Own}
use Rattle.trace_core.specs.declared.derivation.Step.{Step}
use Rattle.trace_trim.specs.Names.{step_named, AreCiting, Cites, IsBefore}
use Rattle.trace_trim.proofs.NameWalk.{IsThere, IsNameWalk, look_back}
use Rattle.trace_trim.proofs.Order.{before-from_less, rank, rank-rises}
use Rattle.trace_trim.proofs.Walk.{begun, advanced, cited_now, falls, over, none_left}
use Rattle.trace_trim.proofs.reach.reached_from.Goals as goal

pub loop-name-init : goal.loop-name-init
loop-name-init c = begun (Cites (map arc_value c.args.packets.now) c.args.own.now) IsBefore (IsThere (map arc_value c.args.packets.now) c.args.own.now) (Own c.args.last) c.push.new.self.items c.add_cited.new.pending.keys
    (look_back (map arc_value c.args.packets.now) c.args.own.now c.requires.earlier) (search rules)
    (cited_now (λ (step : Step) other. AreCiting (Own c.args.last) step.hints other) (step_named (map arc_value c.args.packets.now) c.args.own.now (Own c.args.last)) c.step_of-first.result [] c.add_cited.new.pending.keys c.step_of-first.ensures
    (subst (λ old. (other : Ref) → Contains c.add_cited.new.pending.keys other ↔ (Contains old other ⊎ AreCiting (Own c.args.last) c.step_of-first.result.hints other)) c.new-pending.ensures.empty c.in_ok-add_cited.ensures))

pub step_of-step-requires : goal.step_of-step-requires
step_of-step-requires c = c.loop-name.invariant.there c.in-Some.name (subst (λ keys. Contains keys c.in-Some.name) (sym c.in-Some.ensures.removal) (Contains-push c.pop_last.new.self.keys c.in-Some.name))

pub loop-name-preserved : goal.loop-name-preserved
loop-name-preserved c = subst (λ names. IsNameWalk (map arc_value c.args.packets.now) c.args.own.now c.args.last names c.add_cited-in-Some.new.pending.keys) (sym c.in_ok-push-2.ensures.items)
    (advanced (Cites (map arc_value c.args.packets.now) c.args.own.now) IsBefore (IsThere (map arc_value c.args.packets.now) c.args.own.now) (Own c.args.last)
    c.loop-name.names.items c.loop-name.pending.keys c.pop_last.new.self.keys c.add_cited-in-Some.new.pending.keys c.in-Some.name
    (look_back (map arc_value c.args.packets.now) c.args.own.now c.requires.earlier) c.loop-name.invariant c.in-Some.ensures.removal
    (λ other has. before-from_less other c.in-Some.name (All-contains (λ key. (ref_ord.cmp-value).it key c.in-Some.name ≡ Less) c.pop_last.new.self.keys other c.in-Some.ensures.all_below has))
    (cited_now (λ (step : Step) other. AreCiting c.in-Some.name step.hints other) (step_named (map arc_value c.args.packets.now) c.args.own.now c.in-Some.name) c.step_of-step.result c.pop_last.new.self.keys c.add_cited-in-Some.new.pending.keys c.step_of-step.ensures c.in_ok-add_cited-2.ensures))

pub loop-name-smaller : goal.loop-name-smaller
loop-name-smaller c = falls (Cites (map arc_value c.args.packets.now) c.args.own.now) IsBefore (IsThere (map arc_value c.args.packets.now) c.args.own.now) (rank (map arc_value c.args.packets.now)) (Own c.args.last)
    c.loop-name.names.items c.loop-name.pending.keys c.pop_last.new.self.keys c.add_cited-in-Some.new.pending.keys c.in-Some.name
    (rank-rises (map arc_value c.args.packets.now) c.args.own.now) c.loop-name.invariant c.in-Some.ensures.removal
    (subst (λ names. IsNameWalk (map arc_value c.args.packets.now) c.args.own.now c.args.last names c.add_cited-in-Some.new.pending.keys) c.in_ok-push-2.ensures.items (loop-name-preserved c))

pub returns : goal.returns
returns c = over (Cites (map arc_value c.args.packets.now) c.args.own.now) IsBefore (IsThere (map arc_value c.args.packets.now) c.args.own.now) (Own c.args.last) c.loop-name.names.items c.loop-name.pending.keys c.reverse.new.self.items c.loop-name.invariant
    (none_left c.loop-name.pending.keys c.pop_last.result c.pop_last.ensures.variant c.in_default.is) c.reverse.ensures.items
