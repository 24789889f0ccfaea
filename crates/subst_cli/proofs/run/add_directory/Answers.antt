-- Each turn reads at most one more file.
use Rattle.subst_cli.proofs.ReadLemmas.{reads_then}
use Rattle.subst_cli.proofs.run.add_directory.Goals as goal

pub returns-in_err-add_value : goal.returns-in_err-add_value
returns-in_err-add_value g c = reads_then _ _ _ c.loop-name.invariant c.in_err-add_value.ensures

pub loop-name-preserved-then-not-is_directory : goal.loop-name-preserved-then-not-is_directory
loop-name-preserved-then-not-is_directory g c = reads_then _ _ _ c.loop-name.invariant c.in_ok-add_value.ensures
