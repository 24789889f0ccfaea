-- If no variable is missing, the template has an output.
use Rattle.std.proofs.Common.{◌≡◌, [], Option, Some, None, map, refl, sym, ap, ◌∙◌, string_bytes, arith}
use Rattle.std.proofs.lemmas.Bool.Decides.{nat_tests}
use Rattle.std.proofs.lemmas.List.{nil_from_length}
use Rattle.std.specs.Option.{is_some, option_map}
use Rattle.subst.proofs.Calling.{expanded_memory_alone}
use Rattle.subst.specs.Calls.Variables.{missing_variable}
use Rattle.subst_uses.specs.CommandLine.{texts_of}
use Rattle.subst_uses.proofs.all_missing.filled.Goals as goal

-- an option has a value if and only if the mapped option has one
is_some-mapped : {X Y : Type 0} (f : X → Y) (o : Option X) → is_some (option_map f o) ≡ is_some o
is_some-mapped f (Some x) = refl
is_some-mapped f None = refl

pub of_expanding-requires : goal.of_expanding-requires
of_expanding-requires c =
    let look = texts_of c.args.variables.now in
    let (t, spells) = c.in-Err-expand.ensures.sentence in
    let list = c.in_ok-missing.missing in
    let empty : list.items ≡ [] = nil_from_length list.items
    (grind (arith, nat_tests, list.ok.0, c.is_empty.ensures, c.if-not-is_empty.false)) in
    let none =
    sym (c.in_ok-missing.ensures.missing look (λ name. is_some-mapped (λ v. string_bytes v) _) t spells)
    ∙ ap (λ es. map missing_variable es) empty in
    let (x, gives) = (c.missing_lists_are_whole.ensures.none 0 t look).0 none in
    expanded_memory_alone x _ c.in-Err-expand.e gives
    (c.in-Err-expand.ensures.value (λ v. string_bytes v) (λ v. refl) t spells)

pub returns-in-Ok-expand : goal.returns-in-Ok-expand
returns-in-Ok-expand c =
    let (t, spells) = c.in-Ok-expand.ensures.sentence in
    let here = c.in-Ok.ensures.ok.1 in
    (t, rw here at spells, c.in-Ok-expand.ensures.value (λ v. string_bytes v) (λ v. refl) t spells)
