-- The output of the template, or its missing variable, is that of the text.
use Rattle.subst_foreign.specs.Reading.{variable_of}
use Rattle.std.proofs.Common.{string_bytes}
use Rattle.subst_c.specs.Pairs.{pair_value}
use Rattle.subst_c.proofs.StyleLemmas.{ends_within, gives_text, says_missing, unset_at}
use Rattle.subst_c.proofs.style.expand_text.Goals as goal

pub returns-in-Ok-expand-clause-is_text : goal.returns-in-Ok-expand-clause-is_text
returns-in-Ok-expand-clause-is_text g c are =
    let is = rw c.deref.ensures.value at c.in-Ok-from_slice.ensures.ok in
    gives_text c.texts_give_texts.ensures.text c.args.style.forms c.args.text.now c.in-Ok.source.items
    c.args.given.now.pairs.now c.in-Ok-expand.output.items are c.in-Ok.ensures.is_text is.0
    (rw is.1 at c.in-Ok-expand.ensures)

pub returns-in-Ok-Some-clause-refused : goal.returns-in-Ok-Some-clause-refused
returns-in-Ok-Some-clause-refused g c =
    let is = rw c.deref.ensures.value at c.in-Ok-from_slice.ensures.ok in
    let missing = c.in-Err-NoSuchVariable.missing in
    let says = rw (is.1, c.in-Err-NoSuchVariable.field-0-is) at c.in-Err-NoSuchVariable.ensures in
    unset_at _ c.args.style.missing c.args.text.now c.in-Ok.source.items (pair_value c.args.given.now.pairs.now)
    c.one_listing.ensures.variables c.one_listing.ensures.named c.missing_lists_are_whole.ensures.names
    c.in-Ok.ensures.template missing.position (string_bytes missing.name) (variable_of c.in-Ok-Some.variable)
    (rw (is.1, c.in-Ok-Some.field-0-is, c.as_bytes-name.ensures.value) at c.in-Ok-Some.ensures.index)
    (λ t spells. says_missing _ _ _ (says t spells))

pub returns-in-Ok-Some-clause-within : goal.returns-in-Ok-Some-clause-within
returns-in-Ok-Some-clause-within g c =
    let missing = c.in-Err-NoSuchVariable.missing in
    ends_within _ c.args.text.now c.in-Ok-from_slice.template missing.position (string_bytes missing.name)
    (variable_of c.in-Ok-Some.variable) (c.one_listing.ensures.within c.args.text.now)
    (rw (c.in-Ok-Some.field-0-is, c.as_bytes-name.ensures.value) at c.in-Ok-Some.ensures.index)
