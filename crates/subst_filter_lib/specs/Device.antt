-- The bytes read from an input, and those written to an output, if they are known.
use Rattle.std.specs.Prelude.{◌≡◌, ℕ, List, [], take, Option, Some, IfSome}
use Rattle.std.specs.Io.KnownBytes.{Appends}

-- the input is read to its end. The bytes left are `old` before the read, and `new` after it. If `old` is
-- known, `new` is empty
abbrev pub ReadsAll : Option (List ℕ) → Option (List ℕ) → Type 0
ReadsAll old new = IfSome old (λ _. new ≡ Some [])

-- `bytes` are read, up to the end of the input. The bytes left are `old` before the read, and `new` after it.
-- If `old` is known, it equals `bytes`, and `new` is empty
abbrev pub ReadsExactly : Option (List ℕ) → Option (List ℕ) → List ℕ → Type 0
ReadsExactly old new bytes = IfSome old (λ source. (source ≡ bytes) × (new ≡ Some []))

-- a prefix of `bytes` was written, possibly none or all of them. All written bytes are `old` before the
-- write, and `new` after it. Nothing is required if `old` isn't known
abbrev pub AppendsPrefix : Option (List ℕ) → Option (List ℕ) → List ℕ → Type 0
AppendsPrefix old new bytes = (count : ℕ) × Appends old new (take count bytes)
