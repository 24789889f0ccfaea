-- Each group of files is read after those before it.
use Rattle.subst_cli.proofs.ReadLemmas.{reads_then}
use Rattle.subst_cli.proofs.run.variable_files.Goals as goal

pub returns-in_err-add_named : goal.returns-in_err-add_named
returns-in_err-add_named g c = reads_then _ _ _ c.loop-name.invariant c.in_err-add_named.ensures

pub loop-name-preserved : goal.loop-name-preserved
loop-name-preserved g c = reads_then _ _ _ c.loop-name.invariant c.in_ok-add_named.ensures

pub returns-in_err-defaults : goal.returns-in_err-defaults
returns-in_err-defaults g c = reads_then _ _ _ c.loop-name.invariant c.in_err-defaults.ensures

pub returns-in_err-dotenv : goal.returns-in_err-dotenv
returns-in_err-dotenv g c =
    reads_then _ _ _ (reads_then _ _ _ c.loop-name.invariant c.in_ok-defaults.ensures) c.in_err-dotenv.ensures

pub returns : goal.returns
returns g c =
    reads_then _ _ _ (reads_then _ _ _ c.loop-name.invariant c.in_ok-defaults.ensures) c.in_ok-dotenv.ensures
