-- The files so far have entries, unless some of them are refused.
use Rattle.std.proofs.Common.{◌≡◌, [], Some}
use Rattle.subst_expander.specs.Layers.{entries_of}
use Rattle.subst_expander.specs.ValuesFaults.{AreRefused}
use Rattle.subst_expander.specs.ValuesFile.{values_of_files}
use Rattle.subst_expander.proofs.values_file.lines_of.Given as goal

abbrev pub invariant-loop-file : goal.invariant-loop-file
invariant-loop-file l = record {
  read : l.refused.items ≡ [] → values_of_files l.yielded ≡ Some (entries_of l.all.items);
  refused : AreRefused l.yielded l.refused.items;
}
