use Rattle.std.proofs.Common.{◌≡◌, ℕ, IsTrue, List, [], ◌++◌, length, string_bytes}
use denote.Text.{Utf8}
use denote.Shadow.{shadow}
use Rattle.subst_language.specs.Language.Several.{GivesBy}
use Rattle.subst_document.specs.Edits.{IsFilledUpTo}
use Rattle.subst_document.specs.Stays.{AreValues, StatesChange}
use Rattle.subst_document.proofs.strings.filled_in.Given as goal

-- The text is filled in up to the strings that are left. The flag states whether some string changed, and the
-- values are those of the strings that did.
abbrev pub invariant-loop-it : goal.invariant-loop-it
invariant-loop-it g l = shadow (Utf8 l.rest) × (done : List (List ℕ))
    × (g.S.Strings.left l.initial.strings ≡ done ++ g.S.Strings.left l.strings)
    × IsFilledUpTo g.T.StringFormat.is_token g.T.StringFormat.is_part g.T.StringFormat.is_fit
    (GivesBy (g.F.Fill.answers l.filler)) done l.source l.rest [] (string_bytes l.output)
    × StatesChange (GivesBy (g.F.Fill.answers l.filler)) done l.source (string_bytes l.output ++ l.rest)
    l.is_changed
    × (l.count ≡ length done)
    × (IsTrue l.keeps_values → AreValues (GivesBy (g.F.Fill.answers l.filler)) 0 done l.values.list.items
    (string_bytes l.values.text))

abbrev pub decreases-loop-it : goal.decreases-loop-it
decreases-loop-it g l = length (g.S.Strings.left l.strings)
