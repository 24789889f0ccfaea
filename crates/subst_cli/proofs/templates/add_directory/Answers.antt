-- A directory adds no template, and a file adds one if its path ends in the suffix.
use Rattle.std.proofs.Common.{[], ◌∷◌, ◌++◌, inr}
use Rattle.std.proofs.lemmas.List.Elements.{All-push, All-same}
use Rattle.subst_cli.specs.Templates.{IsTemplateOf}
use Rattle.subst_cli.proofs.templates.add_directory.Goals as goal
use Rattle.subst_cli.proofs.templates.add_directory.Goals.{then-is_directory+in_ok-push, else-is_directory, then-ends_with+in_ok-template+in_ok-push-2, else-ends_with}

pub loop-name-preserved : goal.loop-name-preserved
loop-name-preserved g c = λ before.
    let P = IsTemplateOf c.args.path.now c.args.suffix.now in
    let found = c.loop-name.found.items in
    let are = c.loop-name.invariant before in
    elim c.if-is_directory.branch [
      | then-is_directory+in_ok-push w ↦ rw w.found-is are
      | else-is_directory w ↦ rw w.found-is (elim w.if-ends_with.branch [
        | then-ends_with+in_ok-template+in_ok-push-2 f ↦
            let template = f.in_ok-template.template in
            let ends = rw (
              w.ends_with.ensures.value,
              w.as_bytes.ensures.value,
              w.as_bytes-else-is_directory.ensures.value,
            ) at f.if-ends_with.true in
            rw f.found-is (All-same P _ (found ++ template ∷ []) f.in_ok-push-2.ensures.items
            (All-push P found template are
            (rw (f.in_ok-template.ensures, f.deref-then-ends_with.ensures) (inr ends))))
        | else-ends_with f ↦ rw f.found-is are
      ])
    ]
