-- The file is written, or one of the two calls failed.
use Rattle.std.proofs.Common.{arith, inr}
use Rattle.subst_cli.specs.Files.{committed}
use Rattle.subst_cli.proofs.WrittenLemmas.{unwritten}
use Rattle.subst_cli.proofs.writing.write.Goals as goal
use Rattle.subst_filter_lib.specs.declared.status.TheConstants.{DONE}

pub returns-in-Ok : goal.returns-in-Ok
returns-in-Ok g c = (DONE, _, committed, c.in-Ok.ensures.written, inr (omega arith))

pub returns-in-Err : goal.returns-in-Err
returns-in-Err g c = unwritten c.args.path.now c.args.bytes.now _ _ _ c.in-Err.ensures.unwritten
    c.report_unwritten.ensures
