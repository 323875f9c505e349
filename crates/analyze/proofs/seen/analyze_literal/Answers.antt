use Rattle.std.proofs.Common.{◌≡◌, ◌∙◌, ℕ, List, [], ◌∷◌, ◌++◌, set, true, ap, subst, sym, eq-eqb, ne_eqb, arith, cond}
use Rattle.std.specs.Prelude.{Contains}
use Rattle.std.proofs.lemmas.List.Elements.{Contains-push}
use Rattle.sat_base.specs.Lit.{variable}
use Rattle.trail_core.specs.Trail.{Entry, StandsAt}
use Rattle.analyze.specs.Graph.{level_at}
use Rattle.analyze.specs.Seen.{Agree}
use Rattle.analyze.proofs.SeenPlaces.{agree_push}
use Rattle.analyze.proofs.Grown.{grown_push}
use Rattle.analyze.proofs.seen.analyze_literal.Goals as goal

-- where no variable stands twice, the one place is the one that was listed
met_there : (entries : List Entry) (var place : ℕ) (analyzed analyzed' : List ℕ)
    → ((v i j : ℕ) → StandsAt entries v i → StandsAt entries v j → i ≡ j)
    → StandsAt entries var place → analyzed' ≡ analyzed ++ place ∷ []
    → (other : ℕ) → StandsAt entries var other → Contains analyzed' other
met_there entries var place analyzed analyzed' once at pushed other there =
    subst (λ (xs : List ℕ). Contains xs other) (sym pushed)
    (subst (Contains (analyzed ++ place ∷ [])) (once var place other at there)
    (Contains-push analyzed place))

pub returns-then-level-present-clause-grown : goal.returns-then-level-present-clause-grown
returns-then-level-present-clause-grown c =
    grown_push c.args.trail.now.entries c.args.trail.now.depth
    (StandsAt c.args.trail.now.entries (variable c.args.lit)) c.args.analyzed.now.items
    c.push.new.self.items c.in-Some.place 1
    c.in_ok-push.ensures.items (subst (λ v. StandsAt c.args.trail.now.entries v c.in-Some.place) c.var.ensures.value c.in-Some.ensures.found)
    (ap (λ b. cond b 1 0) (eq-eqb (level_at c.args.trail.now.entries c.in-Some.place) c.args.trail.now.depth (omega (arith, c.if-level-present.true, c.level.ensures.value, c.requires.present)))) (omega arith)

pub returns-clause-agree : goal.returns-clause-agree
returns-clause-agree c =
    subst (λ (xs : List ℕ). Agree (set c.args.seen.now c.in-Some.place true) xs)
    (sym c.in_ok-push.ensures.items)
    (agree_push c.args.seen.now c.args.analyzed.now.items c.in-Some.place c.requires.agree
    (omega (arith, c.in-Some.ensures.found.within, c.requires.room, c.requires.trail.few)))

pub returns-clause-all_seen : goal.returns-clause-all_seen
returns-clause-all_seen c =
    met_there c.args.trail.now.entries (variable c.args.lit) c.in-Some.place
    c.args.analyzed.now.items c.push.new.self.items c.requires.trail.once
    (subst (λ v. StandsAt c.args.trail.now.entries v c.in-Some.place) c.var.ensures.value c.in-Some.ensures.found) c.in_ok-push.ensures.items

pub returns-clause-grown : goal.returns-clause-grown
returns-clause-grown c =
    grown_push c.args.trail.now.entries c.args.trail.now.depth
    (StandsAt c.args.trail.now.entries (variable c.args.lit)) c.args.analyzed.now.items
    c.push.new.self.items c.in-Some.place 0
    c.in_ok-push.ensures.items (subst (λ v. StandsAt c.args.trail.now.entries v c.in-Some.place) c.var.ensures.value c.in-Some.ensures.found)
    (ap (λ b. cond b 1 0) (ne_eqb (level_at c.args.trail.now.entries c.in-Some.place) c.args.trail.now.depth (λ same. c.if-level-present.false (c.level.ensures.value ∙ same ∙ sym c.requires.present)))) (omega arith)
