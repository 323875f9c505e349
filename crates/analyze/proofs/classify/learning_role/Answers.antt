use Rattle.std.proofs.Common.{◌≡◌, ◌∙◌, ℕ, ◌<◌, ◌≤◌, List, Bool, false, subst, sym, refl, inl, inr, arith}
use Rattle.std.specs.Prelude.{Contains, ◌⊎◌, IsTrue}
use Rattle.std.proofs.lemmas.Bool.{cases_lt}
use Rattle.trail_core.specs.Trail.{no_entry}
use Rattle.analyze.specs.Graph.{HasUnseen, level_at}
use Rattle.analyze.specs.Seen.{Agree, is_seen}
use Rattle.analyze.proofs.Forced.{forced}
use Rattle.analyze.proofs.classify.learning_role.Goals as goal

pub lits-requires : goal.lits-requires
lits-requires c = (forced c.args.arena.now c.args.trail.now.entries c.args.trail.now.depth
    c.args.place c.in-Some.id c.requires.founded c.requires.within c.requires.above
    (sym c.reason.ensures ∙ c.in-Some.is)).known

pub returns-then-adds_little : goal.returns-then-adds_little
returns-then-adds_little c = λ analyzed agree has prepared. (
  c.if-place-point.false,
  sym c.reason.ensures ∙ c.in-Some.is,
  c.requires.above,
  λ lit stands place at. settled analyzed agree place
      (c.if-adds_little.ensures.little refl lit
      (subst (λ (ls : List ℕ). Contains ls lit) (sym c.lits.ensures.value) stands) place at),
)
  where
    settled : (analyzed : List ℕ) → Agree c.args.seen.now analyzed → (place : ℕ)
        → IsTrue (is_seen c.args.seen.now place) ⊎ (level_at c.args.trail.now.entries place ≡ 0)
        → Contains analyzed place ⊎ (level_at c.args.trail.now.entries place ≡ 0)
    settled analyzed agree place (inl marked) = inl ((agree place).0 marked)
    settled analyzed agree place (inr low) = inr low

pub returns : goal.returns
returns c = λ analyzed agree has prepared. (c.requires.above, inr low, inr (inr (unseen analyzed agree)))
  where
    by_side : level_at c.args.trail.now.entries c.args.place ≤ c.args.trail.now.depth
        → (level_at c.args.trail.now.entries c.args.place < c.args.trail.now.depth)
        ⊎ (c.args.trail.now.depth ≤ level_at c.args.trail.now.entries c.args.place)
        → level_at c.args.trail.now.entries c.args.place < c.args.trail.now.depth
    by_side le (inl lower) = lower
    by_side le (inr higher) =
        let same : level_at c.args.trail.now.entries c.args.place ≡ c.args.trail.now.depth =
        omega (arith, le, higher) in
        absurd (c.if-level-depth.false (c.level.ensures.value ∙ same ∙ sym c.depth.ensures.value))

    low : level_at c.args.trail.now.entries c.args.place < c.args.trail.now.depth
    low = by_side (c.level.ensures.trail.below c.args.place no_entry c.requires.within)
        (cases_lt (level_at c.args.trail.now.entries c.args.place) c.args.trail.now.depth)

    unmarked : (marked : Bool) → marked ≡ false → IsTrue marked → ⊥
    unmarked marked clear set = grind (arith, clear, set)

    unseen : (analyzed : List ℕ) → Agree c.args.seen.now analyzed
        → HasUnseen c.args.arena.now c.args.trail.now.entries analyzed c.args.place
    unseen analyzed agree =
        let more = c.if-adds_little.ensures.more refl in
        record {
          id = c.in-Some.id;
          reason = sym c.reason.ensures ∙ c.in-Some.is;
          other = more.2.place;
          of = record {
            lit = more.0;
            stands = subst (λ (ls : List ℕ). Contains ls more.0) c.lits.ensures.value more.1;
            at = more.2.at;
          };
          above = more.2.above;
          unseen = λ now. unmarked (is_seen c.args.seen.now more.2.place) more.2.unseen
              ((agree more.2.place).1 now);
        }
