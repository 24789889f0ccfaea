-- Texts that are cut if they don't fit.
use Rattle.std.proofs.Common.{◌≡◌, ◌≤◌, ℕ, List, length, le-leb, refl}
use Rattle.std.specs.Fmt.Cut.{cut_to}

-- a text that fits is kept whole
pub cut_to_fits : (room : ℕ) (text : List ℕ) → length text ≤ room → cut_to room text ≡ text
unfolding cut_to
cut_to_fits room text fits = rw (le-leb (length text) room fits) refl
