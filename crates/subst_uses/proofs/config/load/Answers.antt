-- The error is the one that the call returned.
use Rattle.subst_uses.proofs.ConfigLemmas.{refused}
use Rattle.subst_uses.specs.Layers.{answers_of}
use Rattle.subst_uses.proofs.config.load.Goals as goal

pub returns-in_ok-report-in-Err : goal.returns-in_ok-report-in-Err
returns-in_ok-report-in-Err c =
    let failed = c.in-Err in
    refused (answers_of c.args.environment.now c.args.defaults.now) c.args.file.now c.args.source.now _ _ _ _
    failed.e (λ d none kind. (none, kind)) failed.ensures.json failed.ensures.kind
    failed.ensures.subst failed.ensures.memory c.in_ok-report-in-Err.ensures.report
