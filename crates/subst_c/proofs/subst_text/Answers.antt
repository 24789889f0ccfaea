-- The output is UTF-8, since the source and the values are.
use Rattle.std.proofs.Common.{◌≡◌, true, rules}
use Rattle.subst_c.specs.Text.{are_texts}
use Rattle.subst_c.proofs.BufferLemmas.{fills_as}
use Rattle.subst_c.proofs.TextLemmas.{gives_text}
use Rattle.subst_c.proofs.subst_text.Goals as goal

pub returns-clause-buffer : goal.returns-clause-buffer
returns-clause-buffer c =
    let are : are_texts c.args.source.now c.args.pairs.now ≡ true = search rules in
    fills_as (gives_text c.texts_give_texts.ensures.text c.args.source.now c.args.pairs.now are)
    c.subst_bytes.ensures.buffer
