-- Each visited part is read at its index, and its missing variable is listed.
use Rattle.std.proofs.Common.{◌≡◌, ◌++◌, append-nil, option_to_list, refl, sym, arith}
use Rattle.std.proofs.lemmas.List.{length-map}
use Rattle.subst_expand.specs.Packed.{unpacked}
use Rattle.subst_expand.specs.Filled.{marks_of}
use Rattle.subst_expand.proofs.ExpandLemmas.{fits_there, next_within}
use Rattle.subst_expand.proofs.PackedLemmas.{unpacked_read}
use Rattle.subst_expand.proofs.ListedLemmas.{marks_by_names}
use Rattle.subst_expand.proofs.VariablesLemmas.{lists_next}
use Rattle.subst_expand.proofs.variables.missing_of.Goals.{in-Some-2+in_ok-push, in_default-2}
use Rattle.subst_expand.proofs.variables.missing_of.Goals as goal

pub missing_at-requires : goal.missing_at-requires
missing_at-requires g c κs =
    let here = unpacked_read g.O.Offset.value c.args.packed.now c.in-Some.part.now
    c.in-Some.ensures.lookup.0 c.in-Some.ensures.lookup.1 c.unpack-part.ensures refl in
    ((refl, tt), (fits_there _ _ c.requires here).0)

pub next_index-at-requires : goal.next_index-at-requires
next_index-at-requires g c κs =
    let here = unpacked_read g.O.Offset.value c.args.packed.now c.in-Some.part.now
    c.in-Some.ensures.lookup.0 c.in-Some.ensures.lookup.1 c.unpack-part.ensures refl in
    ((refl, tt), (fits_there _ _ c.requires here).0)

pub loop-part-smaller : goal.loop-part-smaller
loop-part-smaller g c =
    let look_up = g.M.VariableMap.look_up c.args.variables.now in
    let look = marks_of look_up in
    let here = unpacked_read g.O.Offset.value c.args.packed.now c.in-Some.part.now
    c.in-Some.ensures.lookup.0 c.in-Some.ensures.lookup.1 c.unpack-part.ensures refl in
    let fits = fits_there _ _ c.requires here in
    let next = next_within c.args.source.now look c.unpack-part.result fits.1 here.below in
    let is = c.next_index-at.ensures look (marks_by_names look_up) in
    let long = length-map c.args.packed.now (unpacked g.O.Offset.value) in
    omega (arith, next.0, is, here.below, long)

pub loop-part-preserved : goal.loop-part-preserved
loop-part-preserved g c =
    let look_up = g.M.VariableMap.look_up c.args.variables.now in
    let part = c.unpack-part.result in
    let here = unpacked_read g.O.Offset.value c.args.packed.now c.in-Some.part.now
    c.in-Some.ensures.lookup.0 c.in-Some.ensures.lookup.1 c.unpack-part.ensures refl in
    let fits = fits_there _ _ c.requires here in
    let next = next_within c.args.source.now (marks_of look_up) part fits.1 here.below in
    let is = c.next_index-at.ensures (marks_of look_up) (marks_by_names look_up) in
    let these = option_to_list c.in_ok-missing.field-0 in
    let grown : c.match-branch-2.list.items ≡ c.loop-part.list.items ++ these =
    elim c.match-branch-2.branch [
      | in-Some-2+in_ok-push w ↦ rw (w.list-is, w.in-Some-2.is) w.in_ok-push.ensures.items
      | in_default-2 w ↦ rw (w.list-is, w.in_default-2.is) (sym (append-nil c.loop-part.list.items))
    ] in
    record {
      within = omega (arith, next.1, is);
      so_far = λ look names.
          lists_next _ part these (c.loop-part.invariant.so_far look names) here fits
          (c.in_ok-missing.ensures look names) grown (c.next_index-at.ensures look names);
    }
