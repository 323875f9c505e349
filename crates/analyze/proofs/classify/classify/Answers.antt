use Rattle.std.proofs.Common.{eqb}
use Rattle.std.proofs.lemmas.List.Filters.{dedup_is}
use Rattle.analyze.proofs.Classified.{cut_same}
use Rattle.analyze.proofs.Sorts.{ascending_set, same_members}
use Rattle.analyze.proofs.classify.classify.Goals as goal

pub returns-clause-cut : goal.returns-clause-cut
returns-clause-cut c =
    cut_same c.args.arena.now c.args.trail.now.entries c.args.trail.now.depth c.args.rule
    c.args.analyzed.now.items c.classify_all.new.analyzed.items c.classify_all.new.analyzed.items
    c.classify_all.new.kept.items c.classify_all.new.resolved.items c.dedup.new.self.items
    (same_members c.classify_all.new.resolved.items c.sort.new.self.items c.dedup.new.self.items
    c.in_ok-sort.ensures.permutation
    (dedup_is eqb c.sort.new.self.items c.dedup.new.self.items c.dedup.ensures.filtered))
    c.in_ok-classify_all.ensures.cut

pub returns-clause-ascending : goal.returns-clause-ascending
returns-clause-ascending c =
    ascending_set c.sort.new.self.items c.dedup.new.self.items c.in_ok-sort.ensures.sorted
    (dedup_is eqb c.sort.new.self.items c.dedup.new.self.items c.dedup.ensures.filtered)
