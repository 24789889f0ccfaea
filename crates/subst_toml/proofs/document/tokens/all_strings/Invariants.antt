use Rattle.std.proofs.Common.{◌≡◌, ℕ, ◌<◌, length}
use denote.Text.{Utf8}
use denote.Shadow.{shadow}
use Rattle.subst_toml.specs.Filled.{scanner_of, strings_from, strings_in}
use Rattle.subst_toml.proofs.document.tokens.all_strings.Given as goal

-- the strings of the document are those found from this state on
abbrev pub invariant-tokens : goal.invariant-tokens
invariant-tokens l = shadow (Utf8 l.rest) × (n : ℕ) × (length l.rest < n)
    × (strings_in l.fn.source ≡ strings_from n (scanner_of l.scanner) l.rest)

abbrev pub decreases-tokens : goal.decreases-tokens
decreases-tokens l = length l.rest
