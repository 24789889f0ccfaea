-- The kept values are appended to the list as one change.
use Rattle.std.proofs.Common.{◌-◌, ◌++◌, [], ◌∷◌, ap, ◌∙◌, append-nil, rules}
use Rattle.subst_document.specs.Changes.{slots}
use Rattle.subst_document.specs.declared.changes.Change.{Kept}
use Rattle.subst_document.proofs.ChangeLemmas.{slots-append, run}
use Rattle.subst_document.proofs.changes.FoundChanges.end_run.Goals as goal

pub returns-in_ok-push-clause-same : goal.returns-in_ok-push-clause-same
returns-in_ok-push-clause-same c =
    let old = c.args.self.now in
    append-nil (slots c.push.new.self.items) ∙ ap slots c.in_ok-push.ensures.items
    ∙ slots-append old.changes.items (Kept (old.kept - 1) ∷ [])
    ∙ ap (λ cs. slots old.changes.items ++ cs) (run old.kept (search rules))
