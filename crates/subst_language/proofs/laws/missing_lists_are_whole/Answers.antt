-- Each is a lemma on trees, by their steps.
use Rattle.std.proofs.lemmas.List.Elements.{All-from_recursion}
use Rattle.subst_language.specs.Language.Variables.{all_missing}
use Rattle.subst_language.proofs.Language.MissingLemmas.{missing_lacked, missing_required, missing_supplied}
use Rattle.subst_language.proofs.Language.VariablesLemmas.{missing_first, none_missing, variable_names}
use Rattle.subst_language.proofs.laws.missing_lists_are_whole.Goals as goal

pub returns-clause-none : goal.returns-clause-none
returns-clause-none c = none_missing

pub returns-clause-first : goal.returns-clause-first
returns-clause-first c = missing_first

pub returns-clause-lacked : goal.returns-clause-lacked
returns-clause-lacked c p t look = All-from_recursion _ (all_missing p t look) (missing_lacked p t look)

pub returns-clause-required : goal.returns-clause-required
returns-clause-required c = missing_required

pub returns-clause-supplied : goal.returns-clause-supplied
returns-clause-supplied c = missing_supplied

pub returns-clause-names : goal.returns-clause-names
returns-clause-names c = variable_names
