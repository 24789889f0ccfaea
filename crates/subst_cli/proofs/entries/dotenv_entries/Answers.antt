-- The variables above are those of the kept entries.
use Rattle.std.proofs.Common.{◌∙◌, ap}
use Rattle.std.proofs.lemmas.List.{map-append}
use Rattle.subst_expander.specs.Layers.{entries_of, entry_of}
use Rattle.subst_cli.proofs.entries.dotenv_entries.Goals as goal

pub returns : goal.returns
returns c =
    let lines = ap entries_of c.in_ok-append.ensures.items
    ∙ map-append entry_of c.in_ok-lines.lines.items c.in_ok-copied.field-0.items in
    let above = rw (
      c.in_ok-environment.ensures,
      c.deref.ensures.value,
      lines,
      c.in_ok-lines.ensures,
      c.deref-2.ensures.value,
      c.in_ok-copied.ensures,
      c.deref-3.ensures.value,
      c.in_ok-from_pairs.ensures,
      c.deref-4.ensures.value,
    ) at c.in_ok-above.ensures in
    let kept = rw above at c.kept-kept.ensures in
    let are = rw (c.deref-5.ensures.value, kept) at c.in_ok-variables.ensures.variables in
    record { gives = c.settings_of.ensures.gives _ are; refused = c.settings_of.ensures.refused _ are }
