-- The borrowed template has the same source.
use Rattle.std.proofs.Common.{IfErr, subst}
use Rattle.subst_error.specs.ErrorFault.{expand_fault}
use Rattle.subst_error.specs.Range.{range_of, IsRangeIn}
use Rattle.subst_template.proofs.template.text_template_buf.TemplateBuf.expand.Goals as goal

pub returns-clause-range : goal.returns-clause-range
returns-clause-range g c =
    subst (λ s. IfErr c.expand-2.result (λ e. IsRangeIn s (range_of (expand_fault e))))
    c.as_template.ensures.template c.expand-2.ensures.range
