use Rattle.std.proofs.Common.{◌∙◌, ℕ, List, [], ◌∷◌, ◌++◌, ap, map}
use Rattle.step_table.specs.Hint.{ref_of}
use Rattle.step_table.proofs.Names.{among_pushed, names_kept, names_pushed, on_err}
use Rattle.step_table.proofs.hints.HintTable.push.Goals as goal

pub returns-in_err-code-clause-err : goal.returns-in_err-code-clause-err
returns-in_err-code-clause-err c =
    on_err c.from_residual-in_err-code.result _
    (ap (map (ref_of c.code_in.new.listed.items)) c.reserve.ensures.items
    ∙ names_kept c.self.inside.listed.items c.code_in.new.listed.items c.self.inside.codes.items (record { front = c.code_in.ensures.kept }) c.self.invariant ∙ c.self.view_is)

pub invariant_of-self-2 : goal.invariant_of-self-2
invariant_of-self-2 c =
    among_pushed c.self.inside.listed.items c.code_in.new.listed.items c.self.inside.codes.items c.push_reserved.new.self.items _
    (record { front = c.code_in.ensures.kept }) c.self.invariant
    (c.push_reserved.ensures.items ∙ ap (λ (xs : List ℕ). xs ++ c.in_ok-code.code ∷ []) c.reserve.ensures.items) c.in_ok-code.ensures.among

pub returns-clause-ok : goal.returns-clause-ok
returns-clause-ok c =
    names_pushed c.self.inside.listed.items c.code_in.new.listed.items c.self.inside.codes.items c.push_reserved.new.self.items _ _ c.args.name
    (record { front = c.code_in.ensures.kept }) c.self.invariant c.self.view_is
    (c.push_reserved.ensures.items ∙ ap (λ (xs : List ℕ). xs ++ c.in_ok-code.code ∷ []) c.reserve.ensures.items) c.in_ok-code.ensures.value
