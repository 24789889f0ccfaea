-- The entries that are kept pass the test.
use Rattle.std.proofs.Common.{◌∙◌, ap, not, rules}
use Rattle.std.proofs.lemmas.List.Elements.{filter_from_retain}
use Rattle.subst_expander.specs.Layers.{entries_of, entry_of, is_empty}
use Rattle.subst_expander.proofs.LayerLemmas.{filter_map}
use Rattle.subst_expander.proofs.layers.without_empty.Goals as goal

pub returns : goal.returns
returns c =
    let kept = filter_from_retain _ (λ entry. not (is_empty (entry_of entry)))
    (λ f entry stays g called. search rules) _ _ _ c.retain.ensures.filtered in
    ap entries_of kept ∙ filter_map entry_of (λ entry. not (is_empty entry)) c.args.entries.items
