use Rattle.std.proofs.Common.{◌≤◌, ◌+◌, length}
use Rattle.json.specs.Lex.{tokens}
use Rattle.serde_json.specs.Read.{max_depth}
use Rattle.subst_language.specs.Language.Several.{GivesBy}
use Rattle.subst_json.specs.Compared.{AreRemaining}
use Rattle.subst_json.specs.Filled.{AreFilled}
use Rattle.subst_json.specs.Nesting.{expected, AreExpected, AreOfValue}
use Rattle.subst_json.proofs.compared.is_filled.Given as goal

-- If the rest is as expected, the source is a value; if the rest is filled in, all is. The remaining values
-- are those of the rest.
abbrev pub invariant-loop-token : goal.invariant-loop-token
invariant-loop-token g l = record {
  within : length (expected l.nesting) ≤ max_depth + 1;
  value : AreExpected (expected l.nesting) l.reader → AreOfValue (tokens l.source);
  filled : AreFilled (GivesBy (g.F.Fill.answers l.filler)) l.reader l.reader_of_output
      → AreFilled (GivesBy (g.F.Fill.answers l.filler)) (tokens l.source) (tokens l.output);
  left : AreRemaining (GivesBy (g.F.Fill.answers l.filler)) l.left l.reader;
}

abbrev pub decreases-loop-token : goal.decreases-loop-token
decreases-loop-token g l = length l.reader
