-- The error is the one that the call returned.
use Rattle.subst_uses.proofs.SettingsLemmas.{refused}
use Rattle.subst_uses.specs.Layers.{answers_of}
use Rattle.subst_uses.proofs.settings.load.Goals as goal

pub returns-in_ok-report-in-Err : goal.returns-in_ok-report-in-Err
returns-in_ok-report-in-Err c =
    let failed = c.in-Err in
    refused (answers_of c.args.environment.now c.args.defaults.now) c.args.file.now c.args.source.now _ _ _ _
    failed.e c.utf8.source (λ d none within. (none, within)) failed.ensures.utf8 failed.ensures.toml
    failed.ensures.span failed.ensures.subst failed.ensures.memory c.in_ok-report-in-Err.ensures.report
