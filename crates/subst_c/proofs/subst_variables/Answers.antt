-- The list of the library is that of the variables of the source's tree.
use Rattle.subst_language.specs.Calls.Variables.{variable_of}
use Rattle.subst_language.specs.Language.Variables.{variables_of}
use Rattle.subst_c.proofs.BufferLemmas.{fills_with}
use Rattle.subst_c.proofs.RecordsLemmas.{has_records}
use Rattle.subst_c.proofs.subst_variables.Goals as goal

pub returns-in-Ok-variables-clause-buffer : goal.returns-in-Ok-variables-clause-buffer
returns-in-Ok-variables-clause-buffer c =
    fills_with (has_records variable_of (variables_of 0) c.args.source.now _ c.deref.result.now _
    c.in-Ok.ensures.ok.1 c.deref.ensures.value c.in-Ok.ensures.ok.0 c.in-Ok-variables.ensures.variables
    c.in-Ok-variables.ensures.range) c.deliver.ensures.buffer
