use Rattle.std.proofs.Common.{◌∙◌, ◌+◌, ◌-◌, set, refl, arith}
use Rattle.std.proofs.lemmas.List.{get_or_read}
use Rattle.clause_arena.proofs.Compacted.{skipped, moved}
use Rattle.clause_arena.proofs.compaction.keep_one.Goals as goal

pub returns-then-not-stays : goal.returns-then-not-stays
returns-then-not-stays c = λ all ends named keep laid lt stays u.
    skipped all ends named keep c.args.id c.args.at.kept c.args.at.start c.index.result.now c.args.lits.now.items c.args.bounds.now.items c.args.names.now c.requires u lt
    (stays ∙ c.if-not-stays.true)
    (get_or_read c.args.bounds.now.items (c.args.id + 1) c.index.result.now c.requires.known c.index.ensures 0)

pub returns : goal.returns
returns c = λ all ends named keep laid lt stays u.
    moved all ends named keep c.args.id c.args.at.kept c.args.at.start c.index.result.now c.index-2.result.now c.args.lits.now.items c.args.bounds.now.items c.args.names.now
    c.copy_within.new.self.items (set c.args.bounds.now.items (c.args.at.kept + 1) (c.index-2.result.now + (c.index.result.now - c.args.at.start))) c.copy.new.self
    laid c.requires u lt
    (stays ∙ c.if-not-stays.false)
    (get_or_read c.args.bounds.now.items (c.args.id + 1) c.index.result.now c.requires.known c.index.ensures 0)
    (get_or_read c.args.bounds.now.items c.args.at.kept c.index-2.result.now (omega (arith, c.requires.known, c.requires.below)) c.index-2.ensures 0)
    c.copy_within.ensures.items refl c.copy.ensures
