-- The joined outputs are those of the parts so far.
use Rattle.std.proofs.Common.{[], string_bytes}
use denote.Text.{Utf8}
use denote.Shadow.{shadow}
use Rattle.subst_language.specs.Language.Several.{GivesBy}
use Rattle.subst_document.specs.Splice.{AreParts}
use Rattle.subst_document.proofs.splice.values_of_each.Given as goal

abbrev pub invariant-loop-span : goal.invariant-loop-span
invariant-loop-span g l = shadow (Utf8 l.rest)
    × AreParts (GivesBy (g.F.Fill.answers l.filler)) l.change.text.now l.rest [] (string_bytes l.joined)
