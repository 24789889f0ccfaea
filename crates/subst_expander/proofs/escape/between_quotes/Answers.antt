-- The text between ASCII bytes is UTF-8.
use Rattle.std.proofs.Common.{◌++◌, ◌∷◌, [], arith, subst}
use Rattle.std.specs.Prelude.{IsUtf8}
use Rattle.subst_language.proofs.Language.Utf8Lemmas.{after_ascii, cut_at}
use Rattle.subst_expander.proofs.EscapeLemmas.{inside}
use Rattle.subst_expander.proofs.escape.between_quotes.Goals as goal

pub from_utf8_unchecked-requires : goal.from_utf8_unchecked-requires
from_utf8_unchecked-requires c =
    let (x, is) = c.requires in
    let after = after_ascii (x ++ 34 ∷ []) 34 (omega arith) (subst IsUtf8 is c.utf8.quoted) in
    rw (c.as_bytes.ensures.value, inside c.args.quoted.now x is) (cut_at x [] 34 (omega arith) after).0
