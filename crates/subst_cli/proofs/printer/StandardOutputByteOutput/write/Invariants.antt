-- Each call so far was interrupted, so nothing was written, and nothing has failed.
use Rattle.std.proofs.Common.{◌≡◌, false}
use Rattle.std.specs.Io.KnownBytes.{Keeps}
use Rattle.subst_cli.proofs.printer.StandardOutputByteOutput.write.Given as goal

abbrev pub invariant-loop : goal.invariant-loop
invariant-loop g l = record {
  kept : Keeps (g.W.Write.contents l.fn.self.writer) (g.W.Write.contents l.self.writer);
  unflushed : l.self.is_flushed ≡ false;
  unfailed : l.self.error ≡ l.fn.self.error;
}
