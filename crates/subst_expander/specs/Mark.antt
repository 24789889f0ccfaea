-- The byte order mark at the start of a source.
use Rattle.std.specs.Prelude.{ℕ, Bool, List, [], ◌∷◌, take, drop, if◌then◌else◌}
use Rattle.std.specs.Str.{bytes_eq}
use Rattle.subst_expander.specs.declared.document.format.Format.TheVariants.{Json, Yaml}
use Rattle.subst_expander.specs.declared.kinds.InputFormat.{InputFormat}
use Rattle.subst_expander.specs.declared.kinds.InputFormat.TheVariants.{Document}

-- a byte order mark, in UTF-8
abbrev pub byte_order_mark : List ℕ
byte_order_mark = 239 ∷ 187 ∷ 191 ∷ []

-- the bytes begin with a byte order mark
abbrev pub has_mark : List ℕ → Bool
has_mark bytes = bytes_eq (take 3 bytes) byte_order_mark

-- the byte order mark that the bytes begin with, or no bytes
abbrev pub mark_in : List ℕ → List ℕ
mark_in bytes = if has_mark bytes then byte_order_mark else []

-- the bytes without a byte order mark at their start
abbrev pub after_mark : List ℕ → List ℕ
after_mark bytes = if has_mark bytes then drop 3 bytes else bytes

-- the bytes at the start of the source `s` that are copied and not filled in: the byte order mark of JSON and
-- YAML, or else none
abbrev pub kept_of : InputFormat → List ℕ → List ℕ
kept_of (Document Json) s = mark_in s
kept_of (Document Yaml) s = mark_in s
kept_of _ s = []

-- the bytes of the source `s` that are filled in; the offsets of faults are relative to these bytes
abbrev pub filled_of : InputFormat → List ℕ → List ℕ
filled_of (Document Json) s = after_mark s
filled_of (Document Yaml) s = after_mark s
filled_of _ s = s
