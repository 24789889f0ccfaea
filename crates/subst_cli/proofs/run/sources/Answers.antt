-- Each turn reads one more file.
use Rattle.subst_cli.proofs.ReadLemmas.{reads_then}
use Rattle.subst_cli.proofs.run.sources.Goals as goal

pub returns-in_err-source : goal.returns-in_err-source
returns-in_err-source g c = reads_then _ _ _ c.loop-path.invariant c.in_err-source.ensures.reads

pub returns-in_err-push : goal.returns-in_err-push
returns-in_err-push g c = reads_then _ _ _ c.loop-path.invariant c.in_ok-source.ensures.reads

pub loop-path-preserved : goal.loop-path-preserved
loop-path-preserved g c = reads_then _ _ _ c.loop-path.invariant c.in_ok-source.ensures.reads
