-- The names of the next string are added.
use Rattle.std.proofs.Common.{map, string_bytes}
use Rattle.subst_document.specs.Edits.{text_at}
use Rattle.subst_c.proofs.DocumentNamesLemmas.{template_more}
use Rattle.subst_c.proofs.document.by_names.names_of.Goals as goal

pub loop-it-preserved : goal.loop-it-preserved
loop-it-preserved c = (
  c.in_ok-add_names-in-Ok.ensures.known,
  template_more text_at c.args.strings.now c.loop-it.it-index c.it-item.result
      (map string_bytes c.loop-it.names.items) _ c.as_str.result.now c.in-Ok.template c.loop-it-test.true
      c.it-item.is c.loop-it.invariant.1 c.as_str.ensures.value c.in-Ok.ensures.ok
      c.in_ok-add_names-in-Ok.ensures.names,
)
