-- Bytes are a text exactly if they pass the test for UTF-8.
use Rattle.std.proofs.Common.{◌∙◌}
use Rattle.subst_expander.proofs.EntryLemmas.{is_text, no_text}
use Rattle.subst_expander.proofs.entry.text_in.Goals as goal

pub returns-in_default : goal.returns-in_default
returns-in_default c = no_text c.args.bytes.now c.in_default.ensures.cases.0

pub returns : goal.returns
returns c =
    let read = c.in-Ok.ensures.cases in
    is_text c.args.bytes.now _ read.1 (c.in_ok-from_str.ensures.ok ∙ read.0)
