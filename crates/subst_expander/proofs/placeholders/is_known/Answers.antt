-- Names are UTF-8.
use Rattle.subst_language.proofs.Language.NameLemmas.{name_is_utf8}
use Rattle.subst_expander.proofs.placeholders.is_known.Goals as goal

pub returns-in_default-from_utf8 : goal.returns-in_default-from_utf8
returns-in_default-from_utf8 c =
    absurd (c.in_default-from_utf8.ensures.cases.0 (name_is_utf8 c.args.name.now c.requires))
