-- The word is the bytes so far, and then the escaped rest.
use denote.Shadow.{shadow}
use denote.Text.{Utf8}
use Rattle.std.proofs.Common.{◌≡◌, ◌∷◌, ◌++◌, length, string_bytes}
use Rattle.std.specs.List.{flat_map}
use Rattle.subst_expander.specs.Layers.{word_byte}
use Rattle.subst_expander.proofs.escape.shell_word.Given as goal

abbrev pub invariant-loop-before : goal.invariant-loop-before
invariant-loop-before l = shadow (Utf8 l.rest)
    × (39 ∷ flat_map word_byte l.text ≡ string_bytes l.word ++ flat_map word_byte l.rest)

abbrev pub decreases-loop-before : goal.decreases-loop-before
decreases-loop-before l = length l.rest
