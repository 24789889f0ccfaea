-- Values concatenated.
use Rattle.std.proofs.Common.{◌≡◌, [], refl, ap, append_assoc, append-nil}
use Rattle.subst_language.specs.Language.Value.{Value, Bytes, Missing, joined}

-- no bytes before a value change nothing
pub joined-left : (v : Value) → joined (Bytes []) v ≡ v
joined-left (Bytes x) = refl
joined-left (Missing position name) = refl

-- no bytes after a value change nothing
pub joined-right : (v : Value) → joined v (Bytes []) ≡ v
joined-right (Bytes x) = ap Bytes (append-nil x)
joined-right (Missing position name) = refl

-- three values concatenated, in either grouping
pub joined_assoc : (u v w : Value) → joined (joined u v) w ≡ joined u (joined v w)
joined_assoc (Bytes x) (Bytes y) (Bytes z) = ap Bytes (append_assoc x y z)
joined_assoc (Bytes x) (Bytes y) (Missing position name) = refl
joined_assoc (Bytes x) (Missing position name) w = refl
joined_assoc (Missing position name) v w = refl
