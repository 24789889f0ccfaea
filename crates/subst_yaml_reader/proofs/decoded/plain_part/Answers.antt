use Rattle.std.proofs.Common.{sym, ◌∙◌}
use Rattle.subst_yaml_reader.proofs.PartLemmas.{plain_kept}
use Rattle.subst_yaml_reader.proofs.decoded.plain_part.Goals as goal

pub returns-else-contains : goal.returns-else-contains
returns-else-contains c = plain_kept c.args.token.now (sym c.contains.ensures.value ∙ c.if-contains.false)
