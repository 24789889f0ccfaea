-- The text of a path: a JSON Pointer (RFC 6901).
use Rattle.std.specs.Prelude.{ℕ, ◌<◌, ◌^◌, ◌==◌, ⊤, List, [], ◌∷◌, ◌++◌, codes, if◌then◌else◌}
use Rattle.std.specs.Fmt.{decimal}
use Rattle.std.specs.List.{flat_map}
use Rattle.subst_document.specs.Paths.{PathStep, Key, Index}

-- the spelling of a byte of a key: `~` is `~0`, and `/` is `~1`
abbrev pub escaped_byte : ℕ → List ℕ
escaped_byte b = if b == 126 then codes "~0" else if b == 47 then codes "~1" else b ∷ []

-- the text of a step: a slash, and then the escaped key or the index
abbrev pub step_text : PathStep → List ℕ
step_text (Key key) = codes "/" ++ flat_map escaped_byte key
step_text (Index i) = codes "/" ++ decimal i

-- the text of a path: the texts of its steps, concatenated
abbrev pub pointer_text : List PathStep → List ℕ
pointer_text path = flat_map step_text path

-- each index is a `usize`
abbrev pub HasUsizeIndices : List PathStep → Type 0
HasUsizeIndices [] = ⊤
HasUsizeIndices (Key key ∷ path) = HasUsizeIndices path
HasUsizeIndices (Index i ∷ path) = (i < 2 ^ 64) × HasUsizeIndices path
