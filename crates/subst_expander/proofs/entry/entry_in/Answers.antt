-- The parts are those of the definition, and a name is UTF-8.
use Rattle.std.proofs.Common.{◌∙◌}
use Rattle.subst_language.proofs.Language.NameLemmas.{name_is_utf8}
use Rattle.subst_expander.proofs.EntryLemmas.{misspelled, no_pair, spelled}
use Rattle.subst_expander.proofs.entry.entry_in.Goals as goal

pub returns-in_default : goal.returns-in_default
returns-in_default c = no_pair c.args.bytes.now c.in_default.ensures

pub returns-then-not-is_name : goal.returns-then-not-is_name
returns-then-not-is_name c =
    let parts = c.in-Some.ensures in
    misspelled c.args.bytes.now c.in-Some.name.now c.is_name.result parts.0 parts.1 c.is_name.ensures.name
    c.if-not-is_name.true

pub returns-in_default-from_utf8 : goal.returns-in_default-from_utf8
returns-in_default-from_utf8 c =
    let named = c.is_name.ensures.name.0 c.if-not-is_name.false in
    absurd (c.in_default-from_utf8.ensures.cases.0 (name_is_utf8 c.in-Some.name.now named))

pub returns : goal.returns
returns c =
    let parts = c.in-Some.ensures in
    spelled c.args.bytes.now c.in-Some.name.now c.in-Some.value.now _ _ c.is_name.result parts.0 parts.1
    parts.2 c.is_name.ensures.name c.if-not-is_name.false (c.in_ok-name.ensures.ok ∙ c.in-Ok.ensures.cases.0)
    c.in_ok-value.ensures
