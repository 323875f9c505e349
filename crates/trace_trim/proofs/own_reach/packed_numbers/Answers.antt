use Rattle.std.proofs.Common.{◌≡◌, ℕ, ◌<◌, [], rules, subst, sym}
use Rattle.std.specs.Prelude.{Contains, ◌↔◌, ◌⊎◌}
use Rattle.std.specs.Ordering.{nat_cmp}
use Rattle.std.specs.declared.cmp.Ordering.TheVariants.{Less}
use Rattle.std.proofs.lemmas.List.Elements.{All-contains, Contains-push}
use Rattle.trace_core.specs.Known.{item_at}
use Rattle.trace_core.specs.declared.derivation.Step.{Step}
use Rattle.trace_trim.specs.Packed.{unnamed, RestsOn}
use Rattle.trace_trim.specs.Reached.{LeadTo}
use Rattle.trace_trim.proofs.Numbers.{less_than-from_less}
use Rattle.trace_trim.proofs.OwnWalk.{IsThere, IsOwnWalk, looks_back}
use Rattle.trace_trim.proofs.Walk.{begun, advanced, cited_now, falls, over, none_left}
use Rattle.trace_trim.proofs.own_reach.packed_numbers.Goals as goal

pub loop-number-init : goal.loop-number-init
loop-number-init c = begun (RestsOn c.args.own.now c.args.names.now) (λ m n. m < n) (IsThere c.args.own.now) c.args.last c.push.new.self.items c.add_unnamed.new.pending.keys
    (looks_back c.args.own.now c.args.names.now c.requires.earlier) (search rules)
    (cited_now (λ (step : Step) other. LeadTo (unnamed c.args.names.now) step.hints other) (item_at c.args.own.now c.args.last) c.own_step-first.result [] c.add_unnamed.new.pending.keys c.own_step-first.ensures
    (subst (λ old. (other : ℕ) → Contains c.add_unnamed.new.pending.keys other ↔ (Contains old other ⊎ LeadTo (unnamed c.args.names.now) c.own_step-first.result.hints other)) c.new-pending.ensures.empty c.in_ok-add_unnamed.ensures))

pub own_step-step-requires : goal.own_step-step-requires
own_step-step-requires c = c.loop-number.invariant.there c.in-Some.number (subst (λ keys. Contains keys c.in-Some.number) (sym c.in-Some.ensures.removal) (Contains-push c.pop_last.new.self.keys c.in-Some.number))

pub loop-number-preserved : goal.loop-number-preserved
loop-number-preserved c = subst (λ numbers. IsOwnWalk c.args.own.now c.args.names.now c.args.last numbers c.add_unnamed-in-Some.new.pending.keys) (sym c.in_ok-push-2.ensures.items)
    (advanced (RestsOn c.args.own.now c.args.names.now) (λ m n. m < n) (IsThere c.args.own.now) c.args.last
    c.loop-number.numbers.items c.loop-number.pending.keys c.pop_last.new.self.keys c.add_unnamed-in-Some.new.pending.keys c.in-Some.number
    (looks_back c.args.own.now c.args.names.now c.requires.earlier) c.loop-number.invariant c.in-Some.ensures.removal
    (λ other has. less_than-from_less other c.in-Some.number (All-contains (λ key. nat_cmp key c.in-Some.number ≡ Less) c.pop_last.new.self.keys other c.in-Some.ensures.all_below has))
    (cited_now (λ (step : Step) other. LeadTo (unnamed c.args.names.now) step.hints other) (item_at c.args.own.now c.in-Some.number) c.own_step-step.result c.pop_last.new.self.keys c.add_unnamed-in-Some.new.pending.keys c.own_step-step.ensures c.in_ok-add_unnamed-2.ensures))

pub loop-number-smaller : goal.loop-number-smaller
loop-number-smaller c = falls (RestsOn c.args.own.now c.args.names.now) (λ m n. m < n) (IsThere c.args.own.now) (λ number. number) c.args.last
    c.loop-number.numbers.items c.loop-number.pending.keys c.pop_last.new.self.keys c.add_unnamed-in-Some.new.pending.keys c.in-Some.number
    (λ a b lt there also. lt) c.loop-number.invariant c.in-Some.ensures.removal
    (subst (λ numbers. IsOwnWalk c.args.own.now c.args.names.now c.args.last numbers c.add_unnamed-in-Some.new.pending.keys) c.in_ok-push-2.ensures.items (loop-number-preserved c))

pub returns : goal.returns
returns c = over (RestsOn c.args.own.now c.args.names.now) (λ m n. m < n) (IsThere c.args.own.now) c.args.last c.loop-number.numbers.items c.loop-number.pending.keys c.reverse.new.self.items c.loop-number.invariant
    (none_left c.loop-number.pending.keys c.pop_last.result c.pop_last.ensures.variant c.in_default.is) c.reverse.ensures.items
