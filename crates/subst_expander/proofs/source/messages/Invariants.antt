-- The messages so far, with those of the faults left, are those of all.
use Rattle.std.proofs.Common.{◌≡◌, ℕ, List, ◌++◌, drop, string_bytes}
use Rattle.subst_expander.specs.Messages.{AreMessages}
use Rattle.subst_expander.proofs.source.messages.Given as goal

abbrev pub invariant-loop-fault : goal.invariant-loop-fault
invariant-loop-fault l = record {
  source : l.positions.source.now ≡ l.bytes;
  messages : (more : List ℕ) → AreMessages l.excerpts l.name l.bytes (drop l.fault-index l.faults) more
      → AreMessages l.excerpts l.name l.bytes l.faults (string_bytes l.text ++ more);
}
