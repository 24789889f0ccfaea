-- Lists of packed parts.
use Rattle.std.proofs.Common.{◌≡◌, ◌<◌, ℕ, List, length, get_or, set, Some, true, sym, ap, ◌∙◌}
use Rattle.std.proofs.Math.Dec.{ltb}
use Rattle.std.proofs.lemmas.Bool.{ltb-true}
use Rattle.std.proofs.lemmas.List.{map-set}
use Rattle.std.proofs.lemmas.Option.{slice_get-get_or, slice_get-map}
use Rattle.std.specs.Option.{option_map}
use Rattle.subst_language.proofs.Language.ListLemmas.{IsElementAt, element_at}
use Rattle.subst_language.specs.declared.part.Part.{Part}
use Rattle.subst_expand.specs.Packed.{unpacked, unpacked_parts}
use Rattle.subst_expand.specs.declared.packed_part.PackedPart.{PackedPart}

-- a packed part replaces one in the list
pub set_unpacked : {O : Type 0} (value : O → ℕ) (parts : List (PackedPart O)) (i : ℕ) (packed : PackedPart O)
    → unpacked_parts value (set parts i packed) ≡ set (unpacked_parts value parts) i (unpacked value packed)
set_unpacked value parts i packed = map-set (unpacked value) parts i packed

-- a packed part that a loop over the list reads is at its index, unpacked
pub unpacked_at : {O : Type 0} (value : O → ℕ) (list : List (PackedPart O)) {i : ℕ} (packed : PackedPart O)
    {part : Part} → i < length list → packed ≡ get_or list i packed → part ≡ unpacked value packed
    → IsElementAt (unpacked_parts value list) i part
unpacked_at value list {i = i} packed inside reads is =
    let read = slice_get-get_or list i packed inside ∙ ap Some (sym reads) in
    element_at
    (slice_get-map (unpacked value) list i ∙ ap (option_map (unpacked value)) read ∙ ap Some (sym is))

-- a packed part that is read by its index is there, unpacked
pub unpacked_read : {O : Type 0} (value : O → ℕ) (list : List (PackedPart O)) {i : ℕ} (packed : PackedPart O)
    {found part : Part} → true ≡ ltb i (length list) → packed ≡ get_or list i packed
    → found ≡ unpacked value packed → found ≡ part → IsElementAt (unpacked_parts value list) i part
unpacked_read value list packed inside reads unpacks is =
    unpacked_at value list packed (ltb-true _ _ (sym inside)) reads (sym is ∙ unpacks)
