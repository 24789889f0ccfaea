-- The kept values at the end need no change.
use Rattle.std.proofs.Common.{◌++◌, replicate, sym, ap, rules}
use Rattle.subst_document.specs.declared.changes.Change.{Kept}
use Rattle.subst_document.proofs.ChangeLemmas.{slots-empty, inside-Inside}
use Rattle.subst_document.proofs.changes.FoundChanges.into_change.Goals as goal

pub returns-then-is_empty-clause-kept : goal.returns-then-is_empty-clause-kept
returns-then-is_empty-clause-kept c = (
  c.args.self.kept,
  ap (λ cs. cs ++ replicate c.args.self.kept (Kept 0))
      (slots-empty c.args.self.changes.items (search rules)),
)

pub returns-clause-kept : goal.returns-clause-kept
returns-clause-kept c = (
  c.args.self.kept,
  ap (λ cs. cs ++ replicate c.args.self.kept (Kept 0)) (sym (inside-Inside c.args.self.changes)),
)
