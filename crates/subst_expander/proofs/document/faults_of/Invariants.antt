-- The faults so far are those of the strings so far.
use Rattle.std.proofs.Common.{◌≡◌, List}
use Rattle.subst_expander.specs.Documents.{format_of, AreFaultsOfStrings, FindsIn}
use Rattle.subst_expander.specs.Layers.{Entry}
use Rattle.subst_expander.specs.Strings.{FillsFrom}
use Rattle.subst_expander.proofs.document.faults_of.Given as goal

abbrev pub invariant-loop-path : goal.invariant-loop-path
invariant-loop-path l = record {
  format : format_of l.finder ≡ l.fn.format;
  finder : FindsIn l.text l.finder;
  faults : (entries : List Entry) → FillsFrom l.filler entries
      → AreFaultsOfStrings l.fn.format l.filler.placeholders.now entries l.text l.yielded l.all.items;
}
