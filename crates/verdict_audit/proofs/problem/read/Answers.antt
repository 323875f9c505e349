use Rattle.std.proofs.Common.{◌≡◌, ◌∙◌, ◌++◌, [], List, ℕ, map, rules, ap, subst, sym}
use Rattle.std.specs.Prelude.{true, false}
use Rattle.icnf_text.specs.Judgement.{statements}
use Rattle.icnf_text.specs.declared.statements.Numbered.{Numbered}
use Rattle.verdict_audit.specs.Case.{case_after, last_line_of}
use Rattle.verdict_audit.specs.Problem.{query_in}
use Rattle.verdict_audit.specs.declared.taking.Job.{Job}
use Rattle.verdict_audit.proofs.CaseLemmas.{whole_case, with_last, counted}
use Rattle.verdict_audit.proofs.problem.read.Goals as goal

pub returns : goal.returns
returns c =
    with_last c.take_all-2.new.taken.clauses.items (map query_in c.take_all-2.new.taken.jobs.items) c.in_ok-last.last.items _ (c.in_ok-last.ensures ∙ ap (last_line_of c.in_ok-ended.ended.fault) (counted c.take_all-2.new.taken.jobs.items c.len.result (search rules)))
    ∙ whole_case c.args.text.now c.in_ok-ended.ended.fault c.into_items.result.items c.into_items-2.result.items c.take_all-2.new.taken.clauses.items c.take_all.new.taken.clauses.items (map query_in c.take_all-2.new.taken.jobs.items) (map query_in c.take_all.new.taken.jobs.items)
    (subst (λ (ns : List Numbered). statements [] false ++ ns ≡ statements c.args.text.now false) (sym c.into_items.ensures) (c.in_ok-fed.ensures.given [] c.new-reader.ensures))
    (subst (λ (ns : List Numbered). statements c.args.text.now false ++ ns ≡ statements c.args.text.now true) (sym c.into_items-2.ensures) (c.in_ok-ended.ensures.given c.args.text.now (c.in_ok-fed.ensures.read [] c.new-reader.ensures)))
    (c.in_ok-ended.ensures.fault c.args.text.now (c.in_ok-fed.ensures.read [] c.new-reader.ensures))
    (c.in_ok-take_all-2.ensures.case c.in_ok-ended.ended.fault [])
    (c.in_ok-take_all.ensures.case c.in_ok-ended.ended.fault (c.into_items-2.result.items ++ [])
    ∙ ap (λ (cs : List (List ℕ)). case_after c.in_ok-ended.ended.fault cs (map query_in c.new-3.result.items) (c.into_items.result.items ++ (c.into_items-2.result.items ++ []))) c.new.ensures.items
    ∙ ap (λ (js : List Job). case_after c.in_ok-ended.ended.fault [] (map query_in js) (c.into_items.result.items ++ (c.into_items-2.result.items ++ []))) c.new-3.ensures.items)
