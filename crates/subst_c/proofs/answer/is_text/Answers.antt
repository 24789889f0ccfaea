-- Bytes are a text exactly if they are UTF-8.
use Rattle.std.proofs.Common.{◌∙◌}
use Rattle.subst_c.proofs.TextLemmas.{tells_text}
use Rattle.subst_c.proofs.answer.is_text.Goals as goal

pub returns : goal.returns
returns c =
    c.is_ok.ensures.value ∙ tells_text c.args.bytes.now _ c.from_utf8.result c.from_utf8.ensures
