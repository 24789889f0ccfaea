use Rattle.std.proofs.Common.{subst, sym}
use Rattle.std.specs.Str.{IsUtf8}
use Rattle.subst_language.proofs.Language.NameLemmas.{name_is_utf8}
use Rattle.subst_expand.proofs.expand.name_at.Goals as goal

pub from_utf8_unchecked-requires : goal.from_utf8_unchecked-requires
from_utf8_unchecked-requires c = subst IsUtf8 (sym c.bytes_at.ensures) (name_is_utf8 _ c.requires.name)
