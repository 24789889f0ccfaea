-- The written bytes and the rest, escaped, are the text escaped. The capacity never shrinks.
use Rattle.std.proofs.Common.{◌≡◌, ◌≤◌, ◌+◌, ◌++◌, ℕ, List, length, string_bytes, string_len, string_capacity}
use Rattle.std.specs.Str.{IsUtf8}
use Rattle.subst_language.specs.Language.Escaped.{escaped}
use Rattle.subst_foreign.proofs.escape.append_escaped.Given as goal

abbrev pub invariant-loop-at : goal.invariant-loop-at
invariant-loop-at l =
    IsUtf8 l.rest
    × ((part : List ℕ) × (string_bytes l.output ≡ string_bytes l.fn.output ++ part)
    × (part ++ escaped l.rest ≡ escaped l.fn.text)
    × (string_len l.output ≡ string_len l.fn.output + length part))
    × (string_capacity l.fn.output ≤ string_capacity l.output)

abbrev pub decreases-loop-at : goal.decreases-loop-at
decreases-loop-at l = length l.rest
