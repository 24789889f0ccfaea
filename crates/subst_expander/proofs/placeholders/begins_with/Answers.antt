-- The bytes after the prefix are the rest.
use Rattle.std.proofs.Common.{◌++◌, ◌∙◌, length, take, drop, ap, refl, sym, true≢false}
use Rattle.std.proofs.Math.Seq.{take-append_seam}
use Rattle.std.proofs.lemmas.List.{take-append-drop}
use Rattle.std.specs.Cmp.Lexicographic.{other_text, same_text}
use Rattle.subst_expander.proofs.placeholders.begins_with.Goals as goal

pub returns-in-Some : goal.returns-in-Some
returns-in-Some c =
    let name = c.args.name.now in
    let start = c.as_bytes.result.now in
    let (same, rest, lengths) = c.in-Some.ensures.cases in
    let front = same_text (take (length start) name) start (sym same) ∙ c.as_bytes.ensures.value in (
      λ yes. (
        c.in-Some.field-0.now,
        sym (take-append-drop (length start) name) ∙ ap (λ x. x ++ drop (length start) name) front
            ∙ ap (λ x. c.args.start.now ++ x) (sym rest),
      ),
      λ is. refl,
    )

pub returns-in-None : goal.returns-in-None
returns-in-None c =
    let name = c.args.name.now in
    let start = c.as_bytes.result.now in (
      λ no. absurd (true≢false (sym no)),
      λ (rest, is). absurd (other_text (take (length start) name) start (sym c.in-None.ensures.cases)
          (ap (take (length start)) (is ∙ ap (λ x. x ++ rest) (sym c.as_bytes.ensures.value))
          ∙ take-append_seam start rest)),
    )
