-- The entries of the file, and its first wrong line, are those of the lines so far and of the lines left.
use Rattle.std.proofs.Common.{◌≡◌, ℕ, List, length}
use Rattle.std.specs.List.{slice_split}
use Rattle.subst_expander.specs.Layers.{entries_of}
use Rattle.subst_expander.specs.Mark.{after_mark}
use Rattle.subst_expander.specs.ValuesFaults.{StopsAt}
use Rattle.subst_expander.specs.ValuesFile.{before, is_line_feed, lines_in, values_of_lines}
use Rattle.subst_expander.proofs.values_file.entries.Given as goal

abbrev pub invariant-loop-rest : goal.invariant-loop-rest
invariant-loop-rest l = record {
  read : values_of_lines (lines_in l.text)
      ≡ before (entries_of l.entries.items) (values_of_lines (slice_split is_line_feed l.rest));
  stops : (rest : List ℕ) → StopsAt l.rest rest → StopsAt (after_mark l.text) rest;
}

abbrev pub decreases-loop-rest : goal.decreases-loop-rest
decreases-loop-rest l = length l.rest
