-- The source is UTF-8.
use Rattle.std.proofs.Common.{◌≡◌, rules, true}
use Rattle.std.proofs.lemmas.Str.{IsUtf8-from_is_utf8}
use Rattle.std.specs.Str.{is_utf8}
use Rattle.subst_c.proofs.document.by_names.expand.Goals as goal

pub from_utf8_unchecked-source-requires : goal.from_utf8_unchecked-source-requires
from_utf8_unchecked-source-requires g c =
    let is : is_utf8 c.args.source.now ≡ true = search rules in IsUtf8-from_is_utf8 c.args.source.now is
