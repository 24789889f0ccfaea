-- If there is no source, the file wasn't read, or memory ran out.
use Rattle.std.proofs.Common.{inl}
use Rattle.subst_cli.proofs.WrittenLemmas.{gave_up, none_weaker}
use Rattle.subst_cli.proofs.per_file.Run.read.Goals as goal

pub returns-in-Ok-clause-unread : goal.returns-in-Ok-clause-unread
returns-in-Ok-clause-unread g c = none_weaker c.in-Ok.found _ _ (λ unread. inl unread) c.in-Ok.ensures.unread

pub returns-in-Err-clause-unread : goal.returns-in-Err-clause-unread
returns-in-Err-clause-unread g c = gave_up c.args.file.now _ _ c.args.report.now.worst
    c.out_of_memory.new.self.worst c.in-Err.ensures.gave_up c.out_of_memory.ensures
