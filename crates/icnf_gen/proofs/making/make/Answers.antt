use Rattle.std.proofs.Common.{◌≡◌, ◌∙◌, ◌++◌, List, ap, subst, true}
use Rattle.std.specs.Prelude.{None, map, IfOk}
use Rattle.std.proofs.lemmas.Result.{IfOk-weaker}
use Rattle.icnf_text.specs.declared.statements.Statement.{Statement}
use Rattle.icnf_text.specs.declared.statements.Numbered.{Numbered}
use Rattle.icnf_text.specs.Judgement.{statements, wrong}
use Rattle.icnf_text.specs.Printed.{printed, IsWithin}
use Rattle.icnf_gen.specs.Drawn.{chain, generated, stretches}
use Rattle.icnf_gen.proofs.Within.{is_within}
use Rattle.icnf_gen.proofs.making.make.Goals as goal

the_list : (c : goal.After-drop-list-2) → c.deref.result.now ≡ generated c.args.number
the_list c =
    c.deref.ensures.value
    ∙ c.in_ok-add_stretches.ensures
    ∙ ap (λ xs. xs ++ stretches c.new.result) (c.in_ok-add_chain.ensures ∙ ap (λ xs. xs ++ chain) c.new-list.ensures.items)
    ∙ ap (λ seed. chain ++ stretches seed) c.new.ensures

pub returns-clause-text : goal.returns-clause-text
returns-clause-text c = subst (λ list. IfOk c.print.result (λ text. text.items ≡ printed list)) (the_list c) c.print.ensures.text

read_back : (c : goal.After-drop-list-2) → IfOk c.print.result (λ text. (wrong text.items true ≡ None) × (map (λ (numbered : Numbered). numbered.statement) (statements text.items true) ≡ generated c.args.number))
read_back c =
    IfOk-weaker c.print.result
    (λ text. IsWithin (generated c.args.number) → (wrong text.items true ≡ None) × (map (λ (numbered : Numbered). numbered.statement) (statements text.items true) ≡ generated c.args.number))
    (λ text. (wrong text.items true ≡ None) × (map (λ (numbered : Numbered). numbered.statement) (statements text.items true) ≡ generated c.args.number))
    (λ text so. so (is_within c.args.number))
    (subst
    (λ (list : List Statement). IfOk c.print.result (λ text. IsWithin list → (wrong text.items true ≡ None) × (map (λ (numbered : Numbered). numbered.statement) (statements text.items true) ≡ list)))
    (the_list c) c.print.ensures.read_back)

pub returns-clause-accepted : goal.returns-clause-accepted
returns-clause-accepted c =
    IfOk-weaker c.print.result
    (λ text. (wrong text.items true ≡ None) × (map (λ (numbered : Numbered). numbered.statement) (statements text.items true) ≡ generated c.args.number))
    (λ text. wrong text.items true ≡ None) (λ text so. so.0) (read_back c)

pub returns-clause-read_back : goal.returns-clause-read_back
returns-clause-read_back c =
    IfOk-weaker c.print.result
    (λ text. (wrong text.items true ≡ None) × (map (λ (numbered : Numbered). numbered.statement) (statements text.items true) ≡ generated c.args.number))
    (λ text. map (λ (numbered : Numbered). numbered.statement) (statements text.items true) ≡ generated c.args.number) (λ text so. so.1) (read_back c)
