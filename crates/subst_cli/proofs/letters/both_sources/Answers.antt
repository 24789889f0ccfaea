-- Both files were read, one after the other.
use Rattle.subst_cli.proofs.ReadLemmas.{reads_then}
use Rattle.subst_cli.proofs.LetterLemmas.{second_unread}
use Rattle.subst_cli.proofs.letters.both_sources.Goals as goal

pub returns-in_err-template-clause-reads : goal.returns-in_err-template-clause-reads
returns-in_err-template-clause-reads g c = reads_then _ _ _ c.source.ensures.reads c.source_to_expand.ensures.reads

pub returns-in_default-2-clause-unread : goal.returns-in_default-2-clause-unread
returns-in_default-2-clause-unread g c =
    let read = rw c.in-Some.is at c.in_ok-table.ensures.read in
    let unread = rw c.in_default-2.is at c.in_ok-template.ensures.unread in
    second_unread _ (g.F.Files.history c.source.new.files) _ _ _ _ _ c.source.new.report.worst _ read.0 unread.0
    read.2 unread.1

pub returns-in_default-2-clause-reads : goal.returns-in_default-2-clause-reads
returns-in_default-2-clause-reads g c = reads_then _ _ _ c.source.ensures.reads c.source_to_expand.ensures.reads

pub returns-clause-reads : goal.returns-clause-reads
returns-clause-reads g c = reads_then _ _ _ c.source.ensures.reads c.source_to_expand.ensures.reads
