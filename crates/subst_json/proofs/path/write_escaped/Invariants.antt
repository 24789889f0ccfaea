-- The written bytes and the remaining ones, escaped, are the key, escaped.
use Rattle.std.proofs.Common.{◌≡◌, ℕ, List, ◌++◌, flat_map}
use Rattle.std.specs.Fmt.{HasWritten, IsPlainFormatter}
use Rattle.std.specs.Str.Iter.{chars_rest}
use Rattle.subst_json.specs.Pointer.{escaped_byte}
use Rattle.subst_json.proofs.path.write_escaped.Given as goal

abbrev pub invariant-loop-c : goal.invariant-loop-c
invariant-loop-c g l = IsPlainFormatter l.initial.f
    → (done : List ℕ) × HasWritten g.W.Write.write_str_gives l.initial.f done l.f
    × (done ++ flat_map escaped_byte (chars_rest l.c-iterator) ≡ flat_map escaped_byte l.fn.key)
