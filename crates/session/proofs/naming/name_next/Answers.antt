use Rattle.std.proofs.Common.{◌≡◌, ◌∙◌, ◌<◌, ◌-◌, ◌/◌, set, ap, sym, subst, length}
use Rattle.trail_core.specs.Trail.{TrailView, entry_at}
use Rattle.session.proofs.Searches.{lit_read, has_reason, search_named}
use Rattle.session.proofs.naming.name_next.Goals as goal

pub unreachable-requires : goal.unreachable-requires
unreachable-requires c =
    let s = c.args.search.now in
    let lit_is = lit_read s.trail.entries c.lits.result.now s.named c.index-lits-search.result c.lits.ensures.value c.requires.some c.index-lits-search.is in
    has_reason s c.requires.kept c.requires.some c.requires.zero
    (sym (c.reason.ensures.found s.named (record {
      within = c.requires.some;
      is = ap (λ lit. lit / 2) (sym lit_is) ∙ sym c.var.ensures.value;
    })) ∙ c.in_default.is)

pub returns-clause-kept : goal.returns-clause-kept
returns-clause-kept c =
    let old = c.args.search.now in
    let s = c.unit_name.new.search in
    let trail_is : s.trail ≡ old.trail = ap (λ x. x.trail) c.in_ok-name.ensures.parts in
    let named_is : s.named ≡ old.named = ap (λ x. x.named) c.in_ok-name.ensures.parts in
    let some : s.named < length s.trail.entries = subst
    (λ (t : TrailView). s.named < length t.entries) (sym trail_is)
    (subst (λ n. n < length old.trail.entries) (sym named_is) c.requires.some) in
    let lit_is = lit_read old.trail.entries c.lits.result.now old.named c.index-lits-search.result c.lits.ensures.value c.requires.some c.index-lits-search.is in
    search_named s _ _ c.in_ok-name.name c.in_ok-name.tag c.index-lits-search.result c.in_ok-name.ensures.kept
    some (ap (λ (t : TrailView). t.depth) trail_is ∙ c.requires.zero)
    (lit_is ∙ ap (λ (t : TrailView). (entry_at t.entries old.named).lit) (sym trail_is)
    ∙ ap (λ n. (entry_at s.trail.entries n).lit) (sym named_is))
    c.in_ok-name.ensures.name
    (ap (λ var. set s.units.items (var - 1) c.in_ok-name.name) c.var-2.ensures.value)
    (ap (λ var. set s.tags.items (var - 1) c.in_ok-name.tag) c.var-2.ensures.value)
