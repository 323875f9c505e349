use Rattle.std.proofs.Common.{rules, ◌≡◌, ◌∙◌, ap, ◌++◌, ◌∷◌, [], List, length}
use Rattle.trace_core.specs.Known.{Known}
use Rattle.trace_core.specs.Layout.{clauses_in}
use Rattle.trace_core.proofs.BlockLemmas.{clauses_kept, clauses_pushed}
use Rattle.trace_core.proofs.block.KnownClauses.push.Goals as goal

pub returns-in_err-push-clause-err : goal.returns-in_err-push-clause-err
returns-in_err-push-clause-err c =
    let kept : clauses_in c.extend_from_slice.new.self.items c.push.new.self.items ≡ c.args.self.now =
    clauses_kept c.self.inside.lits.items c.args.lits.now c.extend_from_slice.new.self.items c.self.inside.places.items c.push.new.self.items
    c.self.invariant (search rules) (search rules) ∙ c.self.view_is in
    search (rules, kept)

pub returns-clause-ok : goal.returns-clause-ok
returns-clause-ok c =
    clauses_pushed c.self.inside.lits.items c.args.lits.now c.extend_from_slice.new.self.items c.self.inside.places.items c.push.new.self.items
    (record { start = c.len.result; len = length c.args.lits.now; tag = c.args.tag }) c.args.tag
    c.self.invariant (search rules) (search rules) (search rules) (search rules) (search rules)
    ∙ ap (λ (ks : List Known). ks ++ record { clause = c.args.lits.now; tag = c.args.tag } ∷ []) c.self.view_is
