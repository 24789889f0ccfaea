-- The error is the one that the call returned.
use Rattle.subst_uses.proofs.ConfigLemmas.{refused, unread}
use Rattle.subst_uses.specs.Layers.{answers_of}
use Rattle.subst_uses.proofs.config.load_as.Goals as goal

pub returns-in_ok-report-in-Err : goal.returns-in_ok-report-in-Err
returns-in_ok-report-in-Err g c =
    let ask = answers_of c.args.environment.now c.args.defaults.now in
    let failed = c.in-Err in
    refused ask c.args.file.now c.args.source.now _ _ _ _ failed.error
    (unread ask c.args.file.now c.args.source.now _ _) failed.ensures.json failed.ensures.json
    failed.ensures.subst failed.ensures.memory c.in_ok-report-in-Err.ensures.report
