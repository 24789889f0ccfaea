-- The list is that of the parts, narrow or wide, and so that of the source's tree.
use Rattle.std.proofs.Common.{sym, ap, ◌∙◌}
use Rattle.subst_expand.specs.PartLists.{slice_parts}
use Rattle.subst_expand.proofs.ListedLemmas.{missing_told}
use Rattle.subst_expand.proofs.variables.missing.Goals as goal

pub returns-in-Narrow : goal.returns-in-Narrow
returns-in-Narrow g c =
    let same = ap slice_parts (sym c.in-Narrow.is) ∙ c.as_slice.ensures in
    let look_up = g.M.VariableMap.look_up c.args.variables.now in
    let (missing, range, text) = missing_told c.args.source.now _ c.requires same look_up
    c.missing_of.result c.missing_of.ensures in
    record { missing = missing; range = range; text = text }

pub returns-in-Wide : goal.returns-in-Wide
returns-in-Wide g c =
    let same = ap slice_parts (sym c.in-Wide.is) ∙ c.as_slice.ensures in
    let look_up = g.M.VariableMap.look_up c.args.variables.now in
    let (missing, range, text) = missing_told c.args.source.now _ c.requires same look_up
    c.missing_of-in-Wide.result c.missing_of-in-Wide.ensures in
    record { missing = missing; range = range; text = text }
