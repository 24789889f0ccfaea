-- All entries are put in order, kept and escaped.
use Rattle.std.proofs.Common.{◌∙◌, ap}
use Rattle.std.proofs.lemmas.List.{map-append}
use Rattle.subst_expander.specs.Layers.{entries_of, entry_of}
use Rattle.subst_cli.proofs.entries.all_entries.Goals as goal

pub returns : goal.returns
returns c =
    let defaults = ap entries_of c.in_ok-append.ensures.items
    ∙ map-append entry_of c.args.read.defaults.items c.in_ok-from_pairs.field-0.items in
    let lines = ap entries_of c.in_ok-append-2.ensures.items
    ∙ map-append entry_of c.args.read.lines.items c.args.read.named.items in
    let above = rw (
      c.in_ok-environment.ensures,
      c.deref.ensures.value,
      lines,
      c.in_ok-from_pairs-2.ensures,
      c.deref-3.ensures.value,
    ) at c.in_ok-above.ensures in
    let all = rw (above, defaults, c.in_ok-from_pairs.ensures, c.deref-2.ensures.value)
    at c.in_ok-all.ensures in
    rw (rw all at c.kept-kept.ensures) at c.with_escaped_values.ensures
