-- The list is that of the parts, narrow or wide, and so that of the source's tree.
use Rattle.std.proofs.Common.{sym, ap, ◌∙◌}
use Rattle.subst_expand.specs.PartLists.{slice_parts}
use Rattle.subst_expand.proofs.ListedLemmas.{variables_told}
use Rattle.subst_expand.proofs.variables.variables.Goals as goal

pub returns-in-Narrow : goal.returns-in-Narrow
returns-in-Narrow c =
    let same = ap slice_parts (sym c.in-Narrow.is) ∙ c.as_slice.ensures in
    let (variables, range, text) = variables_told c.args.source.now _ c.requires same
    c.variables_of.result c.variables_of.ensures in
    record { variables = variables; range = range; text = text }

pub returns-in-Wide : goal.returns-in-Wide
returns-in-Wide c =
    let same = ap slice_parts (sym c.in-Wide.is) ∙ c.as_slice.ensures in
    let (variables, range, text) = variables_told c.args.source.now _ c.requires same
    c.variables_of-in-Wide.result c.variables_of-in-Wide.ensures in
    record { variables = variables; range = range; text = text }
