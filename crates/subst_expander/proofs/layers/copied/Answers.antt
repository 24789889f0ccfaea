-- If nothing is escaped, the entries are unchanged.
use Rattle.std.proofs.Common.{◌∙◌}
use Rattle.std.proofs.lemmas.List.{take_all}
use Rattle.subst_expander.specs.Layers.{entries_of}
use Rattle.subst_expander.proofs.LayerLemmas.{not_escaped}
use Rattle.subst_expander.proofs.layers.copied.Goals as goal

pub returns : goal.returns
returns c =
    let entries = c.args.entries.now in
    let all = take_all c.loop-entry.entry-index entries c.loop-entry-test.false in
    (rw all at c.loop-entry.invariant) ∙ not_escaped (entries_of entries)
