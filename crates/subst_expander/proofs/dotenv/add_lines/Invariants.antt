-- The entries after the lines that are left, or their refusal, are those of all lines.
use Rattle.std.proofs.Common.{ℕ, List, length}
use Rattle.subst_expander.specs.Dotenv.{HasLast, Leaves, Stops}
use Rattle.subst_expander.specs.Layers.{AreVariablesOf, Entry, entries_of}
use Rattle.subst_expander.specs.Mark.{after_mark}
use Rattle.subst_expander.specs.declared.fault.Cause.{Cause}
use Rattle.subst_expander.proofs.dotenv.add_lines.Given as goal

abbrev pub invariant-loop-rest : goal.invariant-loop-rest
invariant-loop-rest l = record {
  last : HasLast l.set;
  leaves : (above after : List Entry) → AreVariablesOf l.above above
      → Leaves above (entries_of l.set.entries.items) l.rest after
      → Leaves above (entries_of l.fn.set.entries.items) (after_mark l.bytes) after;
  stops : (above : List Entry) (rest : List ℕ) (cause : Cause) → AreVariablesOf l.above above
      → Stops above (entries_of l.set.entries.items) l.rest rest cause
      → Stops above (entries_of l.fn.set.entries.items) (after_mark l.bytes) rest cause;
}

abbrev pub decreases-loop-rest : goal.decreases-loop-rest
decreases-loop-rest l = length l.rest
