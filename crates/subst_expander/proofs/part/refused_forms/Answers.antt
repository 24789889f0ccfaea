-- The fault of the next form is appended.
use Rattle.std.proofs.lemmas.Slice.Zip.{all_zipped_more}
use Rattle.subst_expander.specs.Faults.{IsForm}
use Rattle.subst_expander.proofs.part.refused_forms.Goals as goal

pub loop-at-preserved : goal.loop-at-preserved
loop-at-preserved c =
    rw c.in_ok-push.ensures.items (all_zipped_more IsForm c.loop-at.yielded c.loop-at.faults.items c.in-Some.at
    c.refused_form.result c.loop-at.invariant c.refused_form.ensures)
