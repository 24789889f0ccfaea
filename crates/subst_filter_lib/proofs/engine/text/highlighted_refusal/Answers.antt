-- The refusal of the error is its refusal with some text.
use Rattle.subst.specs.ErrorFault.{error_fault}
use Rattle.subst_filter_lib.proofs.FilterRunLemmas.{is_refusal_of}
use Rattle.subst_filter_lib.proofs.engine.text.highlighted_refusal.Goals as goal

pub returns-in-Ok-clause-refusal : goal.returns-in-Ok-clause-refusal
returns-in-Ok-clause-refusal c =
    is_refusal_of c.args.e _ (error_fault c.args.e) c.refusal.result c.refusal.ensures
