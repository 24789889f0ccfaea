-- Each name of a parsed source has a span.
use Rattle.subst_c.proofs.NamesLemmas.{name_told}
use Rattle.subst_c.proofs.template.subst_template_variable.Goals as goal

pub returns-clause-parsed : goal.returns-clause-parsed
returns-clause-parsed c = λ names is.
    name_told c.args.source.now names c.args.cells.now is c.args.number c.deliver.result c.args.first_use.now
    c.deliver.new.first_use c.deliver.ensures
