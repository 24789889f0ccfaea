-- The parts of a borrowed list, of an owned list, and of a list that is borrowed or owned.
use Rattle.std.specs.Prelude.{List}
use Rattle.subst_expand.specs.Packed.{unpacked_parts, same_number}
use Rattle.subst_language.specs.declared.part.Part.{Part}
use Rattle.subst_expand.specs.declared.part_vec.PartSlice.{PartSlice}
use Rattle.subst_expand.specs.declared.part_vec.PartSlice.TheVariants as slice
use Rattle.subst_expand.specs.declared.part_vec.EitherVec.{EitherVec}
use Rattle.subst_expand.specs.declared.part_vec.EitherVec.TheVariants as vec
use Rattle.subst_expand.specs.declared.part_vec.CowList.{CowList}
use Rattle.subst_expand.specs.declared.part_vec.CowList.TheVariants.{Borrowed, Owned}

-- the parts of a borrowed list
abbrev pub slice_parts : PartSlice → List Part
slice_parts (slice.Narrow parts) = unpacked_parts same_number parts.now
slice_parts (slice.Wide parts) = unpacked_parts same_number parts.now

-- the parts of an owned list
abbrev pub vec_parts : EitherVec → List Part
vec_parts (vec.Narrow parts) = parts
vec_parts (vec.Wide parts) = parts

-- the parts of a borrowed or owned list
abbrev pub cow_parts : CowList → List Part
cow_parts (Borrowed parts) = slice_parts parts
cow_parts (Owned parts) = parts
