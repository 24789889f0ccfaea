-- A text with other bytes in place of its strings.
use Rattle.std.specs.Prelude.{ℕ, ◌+◌, List, [], ◌∷◌, ◌++◌, drop, slice_range}
use Rattle.subst_document.specs.declared.edits.StringAt.{StringAt}

-- `source` from the position `from` on, with each of these strings replaced. `bytes` maps a string's index to
-- the string's new bytes. The first string has the index `index`.
abbrev pub with_plain : (ℕ → List ℕ) → (source : List ℕ) → ℕ → ℕ → List StringAt → List ℕ
with_plain bytes source from index [] = drop from source
with_plain bytes source from index (it ∷ rest) =
    slice_range source from it.span.start ++ bytes index ++ with_plain bytes source it.span.end (index + 1) rest
