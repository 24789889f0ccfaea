-- The last byte is that of the rest, or else that of the bytes before it.
use Rattle.std.proofs.Common.{◌≡◌, drop}
use Rattle.subst_expander.specs.Mistakes.{last_of}
use Rattle.subst_expander.proofs.document.mistake.last_byte.Given as goal

abbrev pub invariant-loop-byte : goal.invariant-loop-byte
invariant-loop-byte l = last_of 0 l.bytes ≡ last_of l.last (drop l.byte-index l.bytes)
