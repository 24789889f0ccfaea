-- The files so far are read.
use Rattle.std.proofs.Common.{◌≡◌, ◌++◌, [], List, map}
use Rattle.std.specs.Vec.Iter.{into_iter_items}
use Rattle.subst_expander.specs.Dotenv.{FilesLeave, HasLast}
use Rattle.subst_expander.specs.Layers.{AreVariablesOf, Entry, entries_of}
use Rattle.subst_expander.specs.Refusals.{bytes_of}
use Rattle.subst_expander.proofs.dotenv.settings_of.Given as goal

abbrev pub invariant-loop-source : goal.invariant-loop-source
invariant-loop-source l = record {
  all : l.fn.files.items ≡ l.yielded ++ into_iter_items l.source-iterator;
  last : HasLast l.set;
  leave : (above : List Entry) → AreVariablesOf l.above above
      → FilesLeave above [] (map bytes_of l.yielded) (entries_of l.set.entries.items);
}
