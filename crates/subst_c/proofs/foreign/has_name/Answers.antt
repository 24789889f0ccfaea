-- Names are UTF-8.
use Rattle.subst_language.proofs.Language.NameLemmas.{name_is_utf8}
use Rattle.subst_c.proofs.foreign.has_name.Goals as goal

pub returns-in-Err : goal.returns-in-Err
returns-in-Err c = absurd (c.in-Err.ensures.cases.0 (name_is_utf8 c.args.name.now c.requires))
