use Rattle.subst_foreign.proofs.OneListing.{as_many, names_in_template}
use Rattle.subst_foreign.proofs.laws.variables_are_in_one_order.Goals as goal

-- a template for a text looks up its variables, in order
pub returns-clause-of_template : goal.returns-clause-of_template
returns-clause-of_template g c = names_in_template _ _

-- a template for a text looks up as many variables
pub returns-clause-as_many : goal.returns-clause-as_many
returns-clause-as_many g c = as_many _ _
