-- Each turn reads files.
use Rattle.subst_cli.proofs.ReadLemmas.{reads_then}
use Rattle.subst_cli.proofs.run.values_sources.Goals as goal

pub returns-in_err-add_values : goal.returns-in_err-add_values
returns-in_err-add_values g c = reads_then _ _ _ c.loop-path.invariant c.in_err-add_values.ensures

pub loop-path-preserved : goal.loop-path-preserved
loop-path-preserved g c = reads_then _ _ _ c.loop-path.invariant c.in_ok-add_values.ensures
