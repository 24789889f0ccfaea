-- If nothing is escaped, the entries are unchanged.
use Rattle.std.proofs.Common.{sym}
use Rattle.subst_expander.specs.Layers.{entries_of}
use Rattle.subst_expander.proofs.LayerLemmas.{not_escaped}
use Rattle.subst_expander.proofs.layers.with_escaped_values.Goals as goal

pub returns-in-Nothing : goal.returns-in-Nothing
returns-in-Nothing c = rw c.in-Nothing.is (sym (not_escaped (entries_of c.args.entries.items)))
