-- Each turn reads one more file.
use Rattle.subst_cli.proofs.ReadLemmas.{reads_then}
use Rattle.subst_cli.proofs.run.listing.Goals as goal

pub returns-in_err-source : goal.returns-in_err-source
returns-in_err-source g c = reads_then _ _ _ c.loop-file.invariant c.in_err-source.ensures.reads

pub returns-in_err-list_source : goal.returns-in_err-list_source
returns-in_err-list_source g c = reads_then _ _ _ c.loop-file.invariant c.in_ok-source.ensures.reads

pub loop-file-preserved : goal.loop-file-preserved
loop-file-preserved g c = reads_then _ _ _ c.loop-file.invariant c.in_ok-source.ensures.reads
