-- The parts that packed parts unpack to.
use Rattle.std.specs.Prelude.{ℕ, List, map}
use Rattle.subst_language.specs.declared.part.Part.{Part}
use Rattle.subst_language.specs.declared.part.Part.TheVariants.{Literal, Escaped, Variable, Default}
use Rattle.subst_expand.specs.declared.packed_part.PackedPart.{PackedPart}
use Rattle.subst_expand.specs.declared.packed_part.PackedPart.TheVariants as packed

-- the part that a packed part unpacks to; `value` converts an offset or index into a number
abbrev pub unpacked : {O : Type 0} → (O → ℕ) → PackedPart O → Part
unpacked value (packed.Literal start end) = Literal (record { start = value start; end = value end })
unpacked value (packed.Escaped b) = Escaped b
unpacked value (packed.Variable start end) = Variable (record { start = value start; end = value end })
unpacked value (packed.Default start end next) =
    Default (record { start = value start; end = value end }) (value next)

-- the parts that a list of packed parts unpacks to; `value` converts an offset or index into a number
abbrev pub unpacked_parts : {O : Type 0} → (O → ℕ) → List (PackedPart O) → List Part
unpacked_parts value parts = map (unpacked value) parts

-- the conversion of an offset or index of type `u32` or `usize`, which contracts see as a number already
abbrev pub same_number : ℕ → ℕ
same_number n = n
