use Rattle.std.proofs.Common.{◌≡◌, ◌≢◌, ◌∙◌, ℕ, ◌<◌, ◌≤◌, get_or, max, ap, subst, sym, inl, inr, arith}
use Rattle.std.specs.Prelude.{Contains, ◌⊎◌}
use Rattle.std.proofs.lemmas.Bool.{cases_lt}
use Rattle.std.proofs.lemmas.List.Elements.{Contains-get_or}
use Rattle.analyze.specs.Graph.{level_at}
use Rattle.analyze.proofs.Collected.{bound_more, reached_more, in_take}
use Rattle.analyze.proofs.learning.highest_level.Goals as goal
use Rattle.analyze.proofs.learning.highest_level.Goals.{then-place-but, else-place-but}

one_of : (a b m : ℕ) → m ≡ max a b → (m ≡ a) ⊎ (m ≡ b)
one_of a b m is = by_order (cases_lt a b)
  where
    by_order : (a < b) ⊎ (b ≤ a) → (m ≡ a) ⊎ (m ≡ b)
    by_order (inl lt) = inr (omega arith)
    by_order (inr le) = inl (omega arith)

pub loop-place-preserved : goal.loop-place-preserved
loop-place-preserved c =
    elim c.if-place-but.branch [
      | then-place-but w ↦
          let grows : c.loop-place.highest ≤ c.if-place-but.highest = omega (arith, w.highest-is, w.max-highest.ensures) in
          let at_least : level_at c.args.trail.now.entries (get_or c.args.places.now c.loop-place.place-index 0) ≤ c.if-place-but.highest = omega (arith, w.highest-is, w.max-highest.ensures, w.level.ensures.value) in
          record {
            bound = bound_more (level_at c.args.trail.now.entries) c.args.places.now c.loop-place.place-index c.args.but c.loop-place.highest c.if-place-but.highest c.loop-place-test.true grows (λ _. at_least) c.loop-place.invariant.bound;
            reached = reached_more (level_at c.args.trail.now.entries) c.args.places.now (get_or c.args.places.now c.loop-place.place-index 0) c.args.but c.loop-place.highest c.if-place-but.highest
                (Contains-get_or c.args.places.now c.loop-place.place-index 0 c.loop-place-test.true) w.if-place-but.true
                (one_of c.loop-place.highest (level_at c.args.trail.now.entries (get_or c.args.places.now c.loop-place.place-index 0)) c.if-place-but.highest
                (w.highest-is ∙ w.max-highest.ensures ∙ ap (max c.loop-place.highest) w.level.ensures.value)) c.loop-place.invariant.reached;
          }
      | else-place-but w ↦ record {
        bound = bound_more (level_at c.args.trail.now.entries) c.args.places.now c.loop-place.place-index c.args.but c.loop-place.highest c.if-place-but.highest c.loop-place-test.true (omega (arith, w.highest-is))
            (λ differs. absurd (differs w.if-place-but.false)) c.loop-place.invariant.bound;
        reached = subst (λ h. (h ≡ 0) ⊎ ((k : ℕ) × Contains c.args.places.now k × (k ≢ c.args.but) × (level_at c.args.trail.now.entries k ≡ h))) (sym w.highest-is) c.loop-place.invariant.reached;
      }
    ]

pub returns-clause-bound : goal.returns-clause-bound
returns-clause-bound c = λ place has differs. c.loop-place.invariant.bound place (in_take c.args.places.now c.loop-place.place-index place c.loop-place-test.false has) differs
