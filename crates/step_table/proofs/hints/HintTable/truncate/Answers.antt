use Rattle.std.proofs.Common.{◌∙◌, ap, sym, map, take}
use Rattle.std.proofs.lemmas.List.{take-map}
use Rattle.step_table.specs.Hint.{ref_of}
use Rattle.step_table.proofs.hints.HintTable.truncate.Goals as goal

pub returns : goal.returns
returns c =
    ap (map (ref_of c.self.inside.listed.items)) c.truncate.ensures.items
    ∙ sym (take-map (ref_of c.self.inside.listed.items) c.args.n c.self.inside.codes.items)
    ∙ ap (take c.args.n) c.self.view_is
